-- What the code's sums hold. Assumes nothing.
use Rattle.std.specs.Prelude.{◌≡◌, ℕ, ◌*◌, cond, length, ℤ, pos, nat_lt}
use Rattle.parties.specs.declared.level.Level.{Level}
use Rattle.limiter.specs.declared.range.Range.{Range}
use Rattle.limiter.specs.Positions.{Positions, summed}

-- a number in each series of a strike, 0 in another
abbrev pub in_strikes : Positions → (ℕ → ℤ) → ℕ → ℤ
in_strikes o x s = cond (nat_lt s (2 * length o.strikes)) (x s) (pos 0)

-- the range in a series is that of the party's accounts, summed
pub record Adds (o : Positions) (level : Level) (p s : ℕ) (range : Range) : Type 0 where
  pub low : range.low.value ≡ in_strikes o (summed o.entries level p o.low) s
  pub high : range.high.value ≡ in_strikes o (summed o.entries level p o.high) s
