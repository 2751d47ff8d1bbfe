-- A run over a list, by what one step does. Assumes nothing.
use Rattle.std.specs.Prelude.{◌≡◌, List, [], ◌∷◌}

-- from x to z through the states between, one for each pair of an item and its answer
abbrev pub Run : {X L A : Type 0} → (X → L → A → X → Type 0) → X → List L → List A → X → Type 0
Run R x [] [] z = x ≡ z
Run R x [] (a ∷ rest) z = ⊥
Run R x (l ∷ ls) [] z = ⊥
Run {X = X} R x (l ∷ ls) (a ∷ rest) z = (y : X) × R x l a y × Run R y ls rest z

-- two lists as long as each other, related item by item
abbrev pub Each : {A B : Type 0} → (A → B → Type 0) → List A → List B → Type 0
Each R [] [] = Unit {0}
Each R [] (b ∷ bs) = ⊥
Each R (a ∷ rest) [] = ⊥
Each R (a ∷ rest) (b ∷ bs) = R a b × Each R rest bs
