-- What a number of a level or a side tells. Assumes nothing.
use Rattle.std.proofs.Common.{◌≡◌, ℕ, zero, suc, ◌≢◌, leb, true, false, sym, refl, ap, ◌∙◌, subst, arith}
use Rattle.std.proofs.lemmas.Bool.{le-leb, lt-leb}
use Rattle.expiry.specs.declared.side.Side.{Side}
use Rattle.expiry.specs.declared.side.Side.TheVariants.{Long, Short}
use Rattle.expiry.specs.Sides.{side_number, side_at}
use Rattle.parties.specs.declared.level.Level.{Level}
use Rattle.parties.specs.declared.level.Level.TheVariants.{Account, Holder, Group, Participant}
use Rattle.parties.specs.Levels.{level_number, level_at}
use Rattle.parties.proofs.Levels.{level_below, level_back}

-- a number that a level or a side has
pub level_known : (l : Level) (n : ℕ) → level_number l ≡ n → (leb n 3 ≡ true) × (l ≡ level_at n)
level_known l n e = let b = level_below l in (le-leb n 3 (omega arith), sym (level_back l) ∙ ap level_at e)

pub side_known : (d : Side) (n : ℕ) → side_number d ≡ n → (leb n 1 ≡ true) × (d ≡ side_at n)
side_known Long n e = subst (λ k. (leb k 1 ≡ true) × (Long ≡ side_at k)) e (refl, refl)
side_known Short n e = subst (λ k. (leb k 1 ≡ true) × (Short ≡ side_at k)) e (refl, refl)

-- and one that no level has
pub level_unknown : (n : ℕ) → ((l : Level) → level_number l ≢ n) → leb n 3 ≡ false
level_unknown zero h = absurd (h Account refl)
level_unknown (suc zero) h = absurd (h Holder refl)
level_unknown (suc (suc zero)) h = absurd (h Group refl)
level_unknown (suc (suc (suc zero))) h = absurd (h Participant refl)
level_unknown (suc (suc (suc (suc n)))) h = lt-leb (suc (suc (suc (suc n)))) 3 (omega arith)
