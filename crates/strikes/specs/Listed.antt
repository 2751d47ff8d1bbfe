-- The listed prices of a class, doubled so that all are whole. Assumes nothing.
use Rattle.std.specs.Prelude.{◌≡◌, ℕ, ◌+◌, ◌*◌, ◌<◌, ◌≤◌, List, [], ◌∷◌, length, Some, None, Option, slice_index}

-- for each strike price K its 2K, between neighbours K and M the sum K + M, last 2K + 2 for the highest
abbrev pub from_first : List ℕ → List ℕ
from_first [] = []
from_first (K ∷ []) = (2 * K) ∷ ((2 * K + 2) ∷ [])
from_first (K ∷ (M ∷ ks)) = (2 * K) ∷ ((K + M) ∷ from_first (M ∷ ks))

-- 0, and those
abbrev pub listed : List ℕ → List ℕ
listed ks = 0 ∷ from_first ks

-- the number at a place of a list, or none where the list has no such place
abbrev pub At : List ℕ → ℕ → Option ℕ → Type 0
At xs place (Some x) = (place < length xs) × (x ≡ slice_index xs place)
At xs place None = length xs ≤ place
