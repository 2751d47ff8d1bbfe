-- What `number` answers, at a read, after a write, and of zeros. Assumes nothing.
use Rattle.std.proofs.Common.{◌≡◌, ℕ, ◌+◌, ◌*◌, ◌/◌, ◌%◌, ◌<◌, ◌≤◌, ◌⊎◌, List, length, take, get_or, get_or-take, length-take-le, All, ◌↔◌, set, ℤ, pos, sym, ◌∙◌, arith, get_or-set_other, get_or-set_same}
use Rattle.std.proofs.lemmas.Bool.Decides.{nat_tests}
use Rattle.std.proofs.lemmas.List.Elements.{All-from_get_or}
use Rattle.tables.specs.Tables.{number}

pub number_in : (xs : List ℤ) (n a s : ℕ) → s < 64 → a < n → number xs n a s ≡ get_or xs (64 * a + s) (pos 0)
unfolding number
number_in xs n a s p q = grind (arith, nat_tests)

pub number_out : (xs : List ℤ) (n a s : ℕ) → (64 ≤ s) ⊎ (n ≤ a) → number xs n a s ≡ pos 0
unfolding number
number_out xs n a s h = grind (arith, nat_tests)

-- where each number up to the last row is 0
pub number_zero : (xs : List ℤ) (n a s : ℕ) → ((k : ℕ) → k < 64 * n → get_or xs k (pos 0) ≡ pos 0) → number xs n a s ≡ pos 0
unfolding number
number_zero xs n a s zero = grind (arith, nat_tests, zero (64 * a + s))

-- each number of a row is that of a cell
pub number_at : (xs : List ℤ) (n k : ℕ) → k < 64 * n → number xs n (k / 64) (k % 64) ≡ get_or xs k (pos 0)
number_at xs n k h = grind (arith, number_in xs n (k / 64) (k % 64))

-- the first n rows are 0 exactly where their cells are
pub zero_cells : (xs : List ℤ) (n m : ℕ) → m ≡ 64 * n → m ≤ length xs → All (λ z. z ≡ pos 0) (take m xs) ↔ ((a s : ℕ) → number xs n a s ≡ pos 0)
zero_cells xs n m e long =
    let len = length-take-le m xs long in (
      λ all a s. number_zero xs n a s (λ k h. sym (get_or-take m xs k (pos 0) (omega arith)) ∙ all k (pos 0) (omega arith)),
      λ zero. All-from_get_or (λ z. z ≡ pos 0) _ (pos 0) (λ k h. get_or-take m xs k (pos 0) (omega arith) ∙ sym (number_at xs n k (omega arith)) ∙ zero (k / 64) (k % 64)),
    )

pub number_set_same : (xs : List ℤ) (n a s : ℕ) (z : ℤ) → 64 * n ≤ length xs → s < 64 → a < n → number (set xs (64 * a + s) z) n a s ≡ z
number_set_same xs n a s z e p q = grind (arith, number_in, get_or-set_same)

pub number_set_other : (xs : List ℤ) (n a s b r : ℕ) (z : ℤ) → s < 64 → (b ≡ a → r ≡ s → ⊥) → number (set xs (64 * a + s) z) n b r ≡ number xs n b r
unfolding number
number_set_other xs n a s b r z p ne = grind (arith, nat_tests, get_or-set_other)
