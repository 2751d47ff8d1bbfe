-- The greatest entry of a list, by an order R of its entries. Assumes nothing.
use Rattle.std.specs.Prelude.{◌≡◌, ℕ, ◌<◌, Bool, true, false, List, length, Some, None, Option, slice_index_or}
use Rattle.std.specs.declared.cmp.Ordering.{Ordering}
use Rattle.std.specs.Ordering.{is_lt}
use Rattle.greatest.specs.declared.Peak.{Peak}

-- x is above y
abbrev pub above : {K : Type 0} → (K → K → Ordering) → K → K → Bool
above R x y = is_lt (R y x)

-- where the greatest entry stands: no entry is above it, and it is above each one before its first place
pub record Stands {K : Type 0} (R : K → K → Ordering) (xs : List K) (p : Peak) : Type 0 where
  pub within : p.first < length xs
  pub most : (k : ℕ) (d : K) → k < length xs → above R (slice_index_or xs k d) (slice_index_or xs p.first d) ≡ false
  pub first : (k : ℕ) (d : K) → k < p.first → above R (slice_index_or xs p.first d) (slice_index_or xs k d) ≡ true

-- the place of the first greatest entry; an empty list has none
abbrev pub FirstGreatest : {K : Type 0} → (K → K → Ordering) → List K → Option Peak → Type 0
FirstGreatest R xs None = length xs ≡ 0
FirstGreatest R xs (Some p) = Stands R xs p
