-- The published numbers of the sides, and one thing for each. Assumes nothing.
use Rattle.std.specs.Prelude.{ℕ, cond, Some, None, Option, ◌==◌, nat_le}
use Rattle.std.specs.Borrow.{Lends, MutBor, Fml, RattleType}
use Rattle.expiry.specs.declared.side.Side.{Side}
use Rattle.expiry.specs.declared.side.Side.TheVariants.{Long, Short}
use Rattle.expiry.specs.declared.side.BySide.{BySide}
use Rattle.expiry.specs.contracts.side.BySide.{the_row}

abbrev pub side_number : Side → ℕ
side_number Long = 0
side_number Short = 1

-- the side of a number below 2
abbrev pub side_at : ℕ → Side
side_at n = cond (n == 0) Long Short

abbrev pub side_of_number : ℕ → Option Side
side_of_number n = cond (nat_le n 1) (Some (side_at n)) None

-- the one of a side
abbrev pub on_side : {T : Type 0} → BySide T → Side → T
on_side b Long = b.long
on_side b Short = b.short

-- b with the one of a side changed
abbrev pub with_side : {T : Type 0} → BySide T → Side → T → BySide T
with_side b Long x = record b { long = x }
with_side b Short x = record b { short = x }

-- once the borrow r ends, the one of a side has the last value written through r
abbrev pub LendsSide : (T : RattleType) → MutBor (BySide T.Denot) → Side → MutBor T.Denot → Fml
LendsSide T b side r = Lends (the_row T) T b r (with_side b.now side)
