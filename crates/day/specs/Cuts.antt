-- How a text is cut into lines. Assumes nothing.
use Rattle.std.specs.Prelude.{◌≡◌, ℕ, ◌-◌, ◌<◌, ◌⊎◌, List, [], ◌∷◌, ◌++◌, length, take, if◌then◌else◌, ◌≢◌, slice_index, ◌==◌}
use Rattle.std.specs.List.{flat_map, AllByRecursion}

-- a line without its byte 10, if it has one
abbrev pub without_end : List ℕ → List ℕ
without_end line = if slice_index line (length line - 1) == 10 then take (length line - 1) line else line

-- byte 10 ends a line
abbrev pub ended : List (List ℕ) → List ℕ
ended lines = flat_map (λ line. line ++ 10 ∷ []) lines

-- no byte of a line is 10
abbrev pub Free : List ℕ → Type 0
Free line = (k : ℕ) → k < length line → slice_index line k ≢ 10

-- the last line has no byte 10 after it, and has a byte
pub record Open (text : List ℕ) (lines : List (List ℕ)) : Type 0 where
  pub front : List (List ℕ)
  pub last : List ℕ
  pub is : lines ≡ front ++ last ∷ []
  pub some : 0 < length last
  pub joins : text ≡ ended front ++ last

-- the lines of a text
pub record Cut (text : List ℕ) (lines : List (List ℕ)) : Type 0 where
  pub free : AllByRecursion Free lines
  pub whole : (text ≡ ended lines) ⊎ Open text lines
