-- Tables whose numbers are from 0 to a most. Assumes nothing.
use Rattle.std.specs.Prelude.{◌≡◌, ℕ, ℤ, pos, ◌≤ℤ◌}
use Rattle.tables.specs.declared.Table.{Table}
use Rattle.tables.specs.Tables.{at, rows_of}

abbrev pub UpTo : ℤ → ℤ → Type 0
UpTo most z = (pos 0 ≤ℤ z) × (z ≤ℤ most)

-- a row for each account, and every number from 0 to the most
pub record Bounded (most : ℤ) (t : Table) : Type 0 where
  pub rows : rows_of t ≡ 64
  pub each : (a s : ℕ) → UpTo most (at t a s)
