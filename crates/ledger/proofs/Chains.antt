-- What an answer that is no refusal says of each check on the way to it. Assumes nothing.
use Rattle.std.proofs.Common.{◌≡◌, ℕ, Bool, true, false, ◌&&◌, ltb, ℤ, Ok, Err, Result, sym, refl, ◌∙◌, arith}
use Rattle.std.proofs.lemmas.Bool.{and_parts, ltb-true}
use Rattle.std.proofs.lemmas.Int.{ints}
use Rattle.ledger.specs.declared.actions.Action.{Action}
use Rattle.ledger.specs.declared.faults.Reason.{Reason}
use Rattle.ledger.specs.declared.faults.Reason.TheVariants.{Unknown, Amount}
use Rattle.ledger.specs.declared.faults.Fault.{Fault}
use Rattle.ledger.specs.declared.cells.Quote.{Quote}
use Rattle.ledger.specs.declared.cells.Instruction.{Instruction}
use Rattle.ledger.specs.Faults.{found}
use Rattle.ledger.specs.Actions.{within, Within, proper}
use Rattle.ledger.specs.Checks.{unless, ◌then◌, checked, Checked}
use Rattle.ledger.specs.Meanings.{Meaning, Lawful}

module _ {T : Type 0} where
  pub never : (e : Fault) (x : T) → ◌≡◌ {A = Result T Fault} (Err e) (Ok x) → ⊥
  never e x p = let z : ◌≡◌ {A = ℕ} 0 1 = cc in omega arith

  pub unless_ok : (b : Bool) (r : Reason) (next : Result T Fault) (x : T) → unless b r next ≡ Ok x → (b ≡ true) × (next ≡ Ok x)
  unless_ok true r next x p = (refl, p)
  unless_ok false r next x p = absurd (never (found r) x p)

  pub then_ok : {S : Type 0} (m : Result S Fault) (f : S → Result T Fault) (x : T) → (m then f) ≡ Ok x → (y : S) × (m ≡ Ok y) × (f y ≡ Ok x)
  then_ok (Ok y) f x p = (y, refl, p)
  then_ok (Err e) f x p = absurd (never e x p)

  -- a refusal comes before all that follows it
  pub then_err : {S : Type 0} (m : Result S Fault) (f : S → Result T Fault) (e : Fault) → m ≡ Err e → (m then f) ≡ Err e
  then_err (Ok y) f e p = let z : ◌≡◌ {A = ℕ} 0 1 = cc in absurd (omega arith)
  then_err (Err d) f e p = cc

pub within_in : (z : ℤ) → within z ≡ true → Within z
within_in z p = grind (arith, ints)

pub proper_in : (a : Action) (n : ℤ) → proper a n ≡ true → Within n
proper_in a n p = grind (arith, ints)

pub checked_ok : (n : ℕ) (i : Instruction) (u : Unit {0}) → checked n i ≡ Ok u → Checked n i
checked_ok n i u p =
    let rest : Result (Unit {0}) Fault = unless (proper i.action i.amount) Amount (Ok tt) in
    let k = unless_ok (ltb i.account n && ltb i.series 64) Unknown rest u p in
    let m = and_parts _ _ k.0 in
    let e = (unless_ok (proper i.action i.amount) Amount (Ok tt) u k.1).0 in
    record { account = ltb-true _ _ m.0; series = ltb-true _ _ m.1; amount = e; within = proper_in i.action i.amount e }

-- an obeyed quote has a taken account, a series below 64 and an amount in its action's range
pub obeyed_checked : (m : Meaning) → Lawful m → (i : Instruction) (q : Quote) → m.quoted i ≡ Ok q → Checked m.taken i
obeyed_checked m lawful i q e = of (checked m.taken i) refl
  where
    of : (r : Result (Unit {0}) Fault) → checked m.taken i ≡ r → Checked m.taken i
    of (Ok u) p = checked_ok m.taken i u p
    of (Err f) p = absurd (never f q (sym (lawful.first i f p) ∙ e))
