-- How numbers stand in lines. Assumes nothing.
use Rattle.std.specs.Prelude.{◌≡◌, ℕ, suc, ◌+◌, ◌-◌, ◌*◌, ◌≤◌, List, [], ◌∷◌, ◌++◌, length, ℤ, pos, negsuc, fold}
use Rattle.std.specs.List.{AllByRecursion}
use Rattle.lines.specs.declared.fields.Kind.{Kind}
use Rattle.lines.specs.declared.fields.Kind.TheVariants.{Plain, Signed}

-- a byte from 0 to 9
abbrev pub Digit : ℕ → Type 0
Digit b = (48 ≤ b) × (b ≤ 57)

-- the number that digits stand for
abbrev pub value : List ℕ → ℕ
value ds = fold (λ n d. n * 10 + (d - 48)) 0 ds

-- there is a first digit, and it is 0 only where it stands alone
abbrev pub Leads : List ℕ → Type 0
Leads [] = ⊥
Leads (d ∷ ds) = d ≡ 48 → ds ≡ []

-- ds are the digits of n
pub record Decimal (n : ℕ) (ds : List ℕ) : Type 0 where
  pub digits : AllByRecursion Digit ds
  pub leads : Leads ds
  pub stands : value ds ≡ n

-- z with its digits as P has them, behind a minus sign where z is below 0
abbrev pub WithSign : (ℕ → List ℕ → Type 0) → ℤ → List ℕ → Type 0
WithSign P (pos n) text = P n text
WithSign P (negsuc n) text = (ds : List ℕ) × (text ≡ 45 ∷ ds) × P (suc n) ds

-- at most 18 digits are read
pub record Short (n : ℕ) (ds : List ℕ) : Type 0 where
  pub decimal : Decimal n ds
  pub few : length ds ≤ 18

-- the text is a field of that kind for z
abbrev pub Field : Kind → ℤ → List ℕ → Type 0
Field Plain z text = (n : ℕ) × (z ≡ pos n) × Short n text
Field Signed z text = WithSign Short z text

-- the text is those fields one after another, each behind one space
abbrev pub Parts : List Kind → List ℤ → List ℕ → Type 0
Parts [] [] text = text ≡ []
Parts [] (z ∷ zs) text = ⊥
Parts (k ∷ ks) [] text = ⊥
Parts (k ∷ ks) (z ∷ zs) text = (field rest : List ℕ) × (text ≡ 32 ∷ field ++ rest) × Field k z field × Parts ks zs rest
