-- How far a reader got: what its steps say to one another. Assumes nothing.
use Rattle.std.specs.Prelude.{◌≡◌, ℕ, ◌+◌, ◌≤◌, List, ◌∷◌, ◌++◌, length, take, drop, ℤ, pos, Some, None, Option, ◌≢◌, slice_get}
use Rattle.std.specs.List.{AllByRecursion}
use Rattle.lines.specs.declared.fields.Kind.{Kind}
use Rattle.lines.specs.Fields.{Digit, Leads, Field, Parts, Short}
use Rattle.lines.specs.Lines.{Begins}

-- the first byte, if there is one
abbrev pub first : List ℕ → Option ℕ
first s = slice_get s 0

-- the texts of some numbers in fields of these kinds
abbrev pub Fielded : List Kind → List ℕ → Type 0
Fielded ks text = (zs : List ℤ) × Parts ks zs text

-- no longer text of P goes on from p as r does
abbrev pub Ends : (List ℕ → Type 0) → List ℕ → List ℕ → Type 0
Ends P p r = (b : ℕ) (u : List ℕ) → Some b ≡ first r → P (p ++ b ∷ u) → ⊥

-- s, which stands at the column `from`, begins with a text of P for z; `after` is the column behind it, and `rest` what is left
pub record Taken {Z : Type 0} (P : Z → List ℕ → Type 0) (z : Z) (s : List ℕ) (from after : ℕ) (rest : List ℕ) : Type 0 where
  pub text : List ℕ
  pub split : s ≡ text ++ rest
  pub reads : P z text
  pub ends : Ends (λ t. (y : Z) × P y t) text rest
  pub column : after ≡ from + length text

-- s, which stands at the column `from`, is no text of P: its start up to the column begins one, and none goes on from there
-- as s does, by its next byte or its end
pub record StuckAt (P : List ℕ → Type 0) (s : List ℕ) (from column : ℕ) : Type 0 where
  pub front : List ℕ
  pub back : List ℕ
  pub split : s ≡ front ++ back
  pub begins : Begins P front
  pub blocked : (u : List ℕ) → first u ≡ first back → P (front ++ u) → ⊥
  pub at : column ≡ from + length front

-- the texts of digits that are read
abbrev pub Numeral : List ℕ → Type 0
Numeral t = (n : ℕ) × Short n t

-- the first n bytes of s are its number, or there is none and n is 0
pub record Spans (s : List ℕ) (n : ℕ) : Type 0 where
  pub within : n ≤ length s
  pub few : n ≤ 18
  pub digits : AllByRecursion Digit (take n s)
  pub leads : n ≢ 0 → Leads (take n s)
  pub ends : Ends Numeral (take n s) (drop n s)

-- the digits at the start of s, if there are any
abbrev pub DigitsRead : List ℕ → ℕ → Option ℤ → ℕ → List ℕ → Type 0
DigitsRead s from (Some z) after rest = (n : ℕ) × (z ≡ pos n) × Taken Short n s from after rest
DigitsRead s from None after rest = (after ≡ from) × ((b : ℕ) → Some b ≡ first s → Digit b → ⊥)

-- the number at the start of s, which stands behind the space of a field
abbrev pub NumberRead : Kind → List ℕ → ℕ → Option ℤ → ℕ → List ℕ → Type 0
NumberRead k s from (Some z) after rest = Taken (Field k) z s from after rest
NumberRead k s from None after rest = (ks : List Kind) → StuckAt (λ t. Fielded (k ∷ ks) (32 ∷ t)) s from after

-- the field at the start of s: a space and a number
abbrev pub FieldRead : Kind → List ℕ → ℕ → Option ℤ → ℕ → List ℕ → Type 0
FieldRead k s from (Some z) after rest = (t : List ℕ) × (s ≡ 32 ∷ t) × Taken (Field k) z t (from + 1) after rest
FieldRead k s from None after rest = (ks : List Kind) → StuckAt (Fielded (k ∷ ks)) s from after
