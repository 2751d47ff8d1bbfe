-- The side of a number, as `try_from` answers it. Assumes nothing.
use Rattle.std.proofs.Common.{◌≡◌, ℕ, zero, suc, Ok, Err, Result, refl, subst, arith}
use Rattle.std.proofs.lemmas.Bool.{lt-leb}
use Rattle.std.specs.Result.{result_ok}
use Rattle.ledger.specs.declared.faults.Fault.{Fault}
use Rattle.ledger.specs.Faults.{Numbered}
use Rattle.expiry.specs.declared.side.Side.{Side}
use Rattle.expiry.specs.declared.side.Side.TheVariants.{Long, Short}
use Rattle.expiry.specs.Sides.{side_number, side_of_number}

-- the number of a side names that side, and any other number none
pub side_numbered : (n : ℕ) (r : Result Side Fault) → Numbered side_number n r → result_ok r ≡ side_of_number n
side_numbered n (Ok Long) e = subst (λ k. result_ok {E = Fault} (Ok Long) ≡ side_of_number k) e refl
side_numbered n (Ok Short) e = subst (λ k. result_ok {E = Fault} (Ok Short) ≡ side_of_number k) e refl
side_numbered zero (Err f) h = absurd (h.1 Long refl)
side_numbered (suc zero) (Err f) h = absurd (h.1 Short refl)
side_numbered (suc (suc n)) (Err f) h = rw (lt-leb (suc (suc n)) 1 (omega arith))
