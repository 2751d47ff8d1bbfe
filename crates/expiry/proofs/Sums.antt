-- Sums and products of whole numbers. Assumes nothing.
use Rattle.std.proofs.Common.{◌≡◌, ℕ, zero, suc, ◌+◌, ◌*◌, ◌<◌, ◌≤◌, ℤ, pos, ◌+ℤ◌, ◌*ℤ◌, neg_ℤ, ◌≤ℤ◌, refl, ap, subst, ⊎_elim, mul-le-mul_right, add-mul, add-one, arith}
use lib.Signed.{≤ℤ_refl}
use borrow.Author.Differences.{up, down, sum_is_lem}
use Rattle.std.proofs.lemmas.Int.{ints}
use Rattle.std.proofs.lemmas.Bool.{cases_order}
use Rattle.expiry.specs.Near.{Near}
use Rattle.expiry.specs.Expiry.{sum_to}

-- orders of whole numbers
pub ≤ℤ_chain : (a b c : ℤ) → a ≤ℤ b → b ≤ℤ c → a ≤ℤ c
≤ℤ_chain a b c h k = omega (arith, ints)

pub ≤ℤ_both : (a b : ℤ) → a ≤ℤ b → b ≤ℤ a → a ≡ b
≤ℤ_both a b h k = omega (arith, ints)

pub ≤ℤ_opposite : (a b : ℤ) → a ≤ℤ b → neg_ℤ b ≤ℤ neg_ℤ a
≤ℤ_opposite a b h = omega (arith, ints)

-- a number is the difference of two naturals, and those multiply
pub times_le : (a b : ℤ) (n : ℕ) → a ≤ℤ b → (a *ℤ pos n) ≤ℤ (b *ℤ pos n)
times_le a b n h =
    let l : up a + down b ≤ up b + down a = omega (arith, ints) in
    omega (arith, ints, mul-le-mul_right n l, add-mul (up a) (down b) n, add-mul (up b) (down a) n)

pub times_add : (x y : ℤ) (n : ℕ) → ((x +ℤ y) *ℤ pos n) ≡ ((x *ℤ pos n) +ℤ (y *ℤ pos n))
times_add x y n =
    let h : (up (x +ℤ y) + down x + down y) * n ≡ (down (x +ℤ y) + up x + up y) * n = ap (λ k. k * n) (sum_is_lem x y) in
    omega (arith, ints, h, add-mul (up (x +ℤ y) + down x) (down y) n, add-mul (up (x +ℤ y)) (down x) n, add-mul (down (x +ℤ y) + up x) (up y) n, add-mul (down (x +ℤ y)) (up x) n)

-- one term more, as a loop counts
pub sum_more : (f : ℕ → ℤ) (i : ℕ) → sum_to f (i + 1) ≡ (sum_to f i +ℤ f i)
sum_more f i = rw (add-one i)

-- term by term
pub sum_same : (f g : ℕ → ℤ) (n : ℕ) → ((i : ℕ) → i < n → f i ≡ g i) → sum_to f n ≡ sum_to g n
sum_same f g zero h = refl
sum_same f g (suc n) h = omega (arith, ints, sum_same f g n (λ i l. h i (omega arith)), h n (omega arith))

pub sum_le : (f g : ℕ → ℤ) (n : ℕ) → ((i : ℕ) → i < n → f i ≤ℤ g i) → sum_to f n ≤ℤ sum_to g n
sum_le f g zero h = ≤ℤ_refl (pos 0)
sum_le f g (suc n) h = omega (arith, ints, sum_le f g n (λ i l. h i (omega arith)), h n (omega arith))

pub sum_add : (f g : ℕ → ℤ) (n : ℕ) → sum_to (λ i. f i +ℤ g i) n ≡ (sum_to f n +ℤ sum_to g n)
sum_add f g zero = refl
sum_add f g (suc n) = omega (arith, ints, sum_add f g n)

pub sum_zero : (n : ℕ) → sum_to (λ _. pos 0) n ≡ pos 0
sum_zero zero = refl
sum_zero (suc n) = omega (arith, ints, sum_zero n)

-- n terms within b of 0 each
pub sum_near : (b : ℕ) (f : ℕ → ℤ) (n : ℕ) → ((i : ℕ) → i < n → Near b (f i)) → Near (n * b) (sum_to f n)
sum_near b f zero h = (omega (arith, ints), omega (arith, ints))
sum_near b f (suc n) h =
    let i = sum_near b f n (λ i l. h i (omega arith)) in
    let t = h n (omega arith) in
    let e : suc n * b ≡ n * b + b = omega arith in
    (rw e (omega (arith, ints)), rw e (omega (arith, ints)))

-- sums that differ in one term differ by as much
pub sum_one : (f g : ℕ → ℤ) (n k : ℕ) (z : ℤ) → k < n → g k ≡ (f k +ℤ z) → ((j : ℕ) → (j ≡ k → ⊥) → g j ≡ f j) → sum_to g n ≡ (sum_to f n +ℤ z)
sum_one f g zero k z l e h = absurd (omega arith)
sum_one f g (suc n) k z l e h =
    ⊎_elim
    (λ (q : k ≡ n). let u : sum_to g n ≡ sum_to f n = sum_same g f n (λ j m. h j (λ w. omega arith)) in let v : g n ≡ (f n +ℤ z) = subst (λ x. g x ≡ (f x +ℤ z)) q e in omega (arith, ints))
    (⊎_elim (λ (q : k < n). let u = sum_one f g n k z q e h in let v : g n ≡ f n = h n (λ w. omega arith) in omega (arith, ints)) (λ (q : n < k). absurd (omega arith)))
    (cases_order k n)
