-- A table of signed numbers by account and series. Assumes nothing.
use Rattle.std.specs.Prelude.{◌≡◌, ℕ, ◌+◌, ◌*◌, ◌/◌, ◌<◌, ◌≤◌, min, cond, ◌&&◌, List, length, ℤ, pos, vec_items, vec_len, vec_capacity, ◌≢◌, nat_lt, slice_index_or}
use Rattle.tables.specs.declared.Table.{Table}

-- all that its memory holds
abbrev pub items : Table → List ℤ
items t = vec_items t.numbers

-- the number of a cell in rows of 64: 0 past series 63 and past the last row
unfoldable pub number : List ℤ → ℕ → ℕ → ℕ → ℤ
number xs rows a s = cond (nat_lt s 64 && nat_lt a rows) (slice_index_or xs (64 * a + s) (pos 0)) (pos 0)

-- as many whole rows as its memory has, at most 64
abbrev pub rows_of : Table → ℕ
rows_of t = min 64 (vec_len t.numbers / 64)

abbrev pub at : Table → ℕ → ℕ → ℤ
at t a s = number (items t) (rows_of t) a s

abbrev pub AllZero : Table → Type 0
AllZero t = (a s : ℕ) → at t a s ≡ pos 0

-- the cells are 0, and the memory past them is as in xs
pub record Cleared (xs : List ℤ) (t : Table) : Type 0 where
  pub long : length (items t) ≡ length xs
  pub rows : rows_of t ≡ min 64 (length xs / 64)
  pub zero : AllZero t
  pub past : (k : ℕ) → 64 * rows_of t ≤ k → slice_index_or (items t) k (pos 0) ≡ slice_index_or xs k (pos 0)

-- as many numbers and rows as before, in memory that has not grown, and past the rows as it was
pub record Untouched (t u : Table) : Type 0 where
  pub space : vec_capacity u.numbers ≡ vec_capacity t.numbers
  pub long : length (items u) ≡ length (items t)
  pub rows : rows_of u ≡ rows_of t
  pub past : (k : ℕ) → 64 * rows_of t ≤ k → slice_index_or (items u) k (pos 0) ≡ slice_index_or (items t) k (pos 0)

-- from t to u: the number of one cell, where there is such a cell, is n, and nothing else changed
pub record Wrote (t u : Table) (a s : ℕ) (n : ℤ) : Type 0 where
  pub here : s < 64 → a < rows_of t → at u a s ≡ n
  pub elsewhere : (b r : ℕ) → (b ≡ a → r ≢ s) → at u b r ≡ at t b r
  pub untouched : Untouched t u
