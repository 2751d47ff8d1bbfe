-- The greatest of 0 and a list. Assumes nothing.
use Rattle.std.proofs.Common.{◌≡◌, ℕ, zero, suc, ◌<◌, List, [], ◌∷◌, length, get_or, ℤ, pos, ◌≤ℤ◌, Some, None, Option, ◌∙◌, subst, arith}
use lib.Signed.{≤ℤ_refl}
use Rattle.std.proofs.lemmas.Int.{ints, clamps}
use Rattle.expiry.specs.Quantities.{Greatest, most}
use Rattle.expiry.proofs.Sums.{≤ℤ_both}

-- `most` is at least 0 and each number, and no more than any such
pub most_bound : (xs : List ℤ) (k : ℕ) → k < length xs → get_or xs k (pos 0) ≤ℤ most xs
most_bound [] k l = absurd (omega arith)
most_bound (x ∷ xs) zero l = omega (arith, ints, clamps)
most_bound (x ∷ xs) (suc k) l = let h = most_bound xs k (omega arith) in omega (arith, ints, clamps)

-- it starts from 0
pub most_zero : (xs : List ℤ) → pos 0 ≤ℤ most xs
most_zero [] = ≤ℤ_refl (pos 0)
most_zero (x ∷ xs) = let h = most_zero xs in omega (arith, ints, clamps)

-- each step takes one of the two
pub most_under : (xs : List ℤ) (v : ℤ) → pos 0 ≤ℤ v → ((k : ℕ) → k < length xs → get_or xs k (pos 0) ≤ℤ v) → most xs ≤ℤ v
most_under [] v z h = z
most_under (x ∷ xs) v z h = let t = most_under xs v z (λ k l. h (suc k) (omega arith)) in let f = h 0 (omega arith) in omega (arith, ints, clamps)

-- so it is the greatest
pub greatest_most : (xs : List ℤ) (v : ℤ) (o : Option ℕ) → Greatest xs v o → v ≡ most xs
greatest_most xs v None g = g.0 ∙ ≤ℤ_both _ _ (most_zero xs) (most_under xs (pos 0) (≤ℤ_refl (pos 0)) g.1)
greatest_most xs v (Some j) g =
    ≤ℤ_both _ _ (subst (λ z. z ≤ℤ most xs) g.meets (most_bound xs j g.within)) (most_under xs v (let l = g.above in omega (arith, ints)) g.most)
