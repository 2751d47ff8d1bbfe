-- The records of limits, with one written. Assumes nothing.
use Rattle.std.proofs.Common.{◌≡◌, ℕ, zero, suc, ◌<◌, Bool, true, false, cond, ◌&&◌, eqb, ltb, List, [], ◌∷◌, length, refl, get_or, set, replicate, ℤ, Some, None, Option, ap, ◌∙◌, arith, length-set}
use Rattle.std.proofs.lemmas.Grind.{common_steps}
use Rattle.std.proofs.lemmas.Bool.Decides.{nat_tests}
use Rattle.expiry.specs.declared.side.Side.{Side}
use Rattle.expiry.specs.declared.side.Side.TheVariants.{Long, Short}
use Rattle.expiry.specs.Sides.{side_number, on_side, with_side}
use Rattle.parties.specs.declared.level.Level.{Level}
use Rattle.parties.specs.Levels.{level_number}
use Rattle.parties.specs.Tables.{LimitRecord, no_record, record_at, limiting, proper, IsWhole, AllProper}
use Rattle.parties.proofs.Levels.{level_below}
use Rattle.parties.specs.Limits.{none_set, limits_in, with_limit}

-- one element of a table written
pub at-set : {A : Type 0} (xs : List (List A)) (d : A) (n p : ℕ) (x : A) → n < length xs → p < length (get_or xs n []) → (m q : ℕ) → get_or (get_or (set xs n (set (get_or xs n []) p x)) m []) q d ≡ cond (eqb m n && eqb q p) x (get_or (get_or xs m []) q d)
at-set xs d n p x l k m q = grind (arith, common_steps, nat_tests)

-- a row replaced by another of its length
lengths-set : {A : Type 0} (xs : List (List A)) (n : ℕ) (ys : List A) → length ys ≡ length (get_or xs n []) → (m : ℕ) → length (get_or (set xs n ys) m []) ≡ length (get_or xs m [])
lengths-set [] n ys e m = refl
lengths-set (x ∷ xs) zero ys e zero = e
lengths-set (x ∷ xs) zero ys e (suc m) = refl
lengths-set (x ∷ xs) (suc n) ys e zero = refl
lengths-set (x ∷ xs) (suc n) ys e (suc m) = lengths-set xs n ys e m

-- a side changed, read on a side
side_set : (r : LimitRecord) (side d : Side) (x : Option ℤ) → on_side (with_side r side x) d ≡ cond (eqb (side_number d) (side_number side)) x (on_side r d)
side_set r Long Long x = refl
side_set r Long Short x = refl
side_set r Short Long x = refl
side_set r Short Short x = refl

-- one limit set: of the party p, where n is the number of its level and ys its level's new row
module _ (rs : List (List LimitRecord)) (whole : IsWhole rs) (level : Level) (n p : ℕ) (at : n ≡ level_number level) (few : p < 64) (side : Side) (m : ℤ) (ys : List LimitRecord)
    (row : ys ≡ set (get_or rs n []) p (with_side (record_at rs n p) side (Some m))) where
  low : n < 4
  low = omega (arith, level_below level)

  written_at : (k q : ℕ) → record_at (set rs n ys) k q ≡ cond (eqb k n && eqb q p) (with_side (record_at rs n p) side (Some m)) (record_at rs k q)
  written_at k q = ap (λ zs. record_at (set rs n zs) k q) row ∙ at-set rs no_record n p _ (omega (arith, whole.0, low)) (omega (arith, whole.1 n low)) k q

  pub whole_set : IsWhole (set rs n ys)
  whole_set = (length-set _ _ _ ∙ whole.0, λ k l. lengths-set rs n ys (ap length row ∙ length-set _ _ _) k ∙ whole.1 k l)

  pub proper_set : AllProper rs → limiting m ≡ true → AllProper (set rs n ys)
  proper_set all ranged k q d = grind (arith, nat_tests, written_at k q, all k q d, all n p d, side_set (record_at rs n p) side d (Some m))

  pub limits_set : limits_in (set rs n ys) ≡ with_limit (limits_in rs) (level_number level) p (side_number side) m
  limits_set = λ i l q d. limit_at l q d i
    where
      limit_at : (l : Level) (q : ℕ) (d : Side) → limits_in (set rs n ys) l q d ≡ with_limit (limits_in rs) (level_number level) p (side_number side) m l q d
      limit_at l q d = grind (arith, nat_tests, written_at (level_number l) q, side_set (record_at rs n p) side d (Some m))

-- rows of one element, read anywhere
copies : {A : Type 0} (x : A) (k n a b : ℕ) → get_or (get_or (replicate k (replicate n x)) a []) b x ≡ x
copies x zero n a b = refl
copies x (suc k) zero zero b = refl
copies x (suc k) (suc n) zero zero = refl
copies x (suc k) (suc n) zero (suc b) = copies x (suc k) n zero b
copies x (suc k) n (suc a) b = copies x k n a b

-- a table with no limit
abbrev no_limits : List (List LimitRecord)
no_limits = replicate 4 (replicate 64 no_record)

pub none_whole : IsWhole no_limits
none_whole = (refl, λ n l. grind (arith, common_steps))

pub none_proper : AllProper no_limits
none_proper n p d = ap (λ (r : LimitRecord). proper (on_side r d)) (copies no_record 4 64 n p) ∙ nothing d
  where
    nothing : (d : Side) → proper (on_side no_record d) ≡ true
    nothing Long = refl
    nothing Short = refl

pub none_limits : limits_in no_limits ≡ none_set
none_limits = λ i l q d. (ap (λ r. cond (ltb q 64) (on_side r d) None) (copies no_record 4 64 (level_number l) q) ∙ nothing d (ltb q 64)) i
  where
    nothing : (d : Side) (b : Bool) → cond b (on_side no_record d) None ≡ None
    nothing Long true = refl
    nothing Short true = refl
    nothing d false = refl
