-- Receipts: larger with more calls and fewer puts, the same at prices that exercise the same series, and summed over accounts. Assumes nothing.
use Rattle.std.proofs.Common.{◌≡◌, ℕ, zero, suc, ◌+◌, ◌*◌, ◌%◌, ◌<◌, Bool, true, false, cond, eqb, List, length, ℤ, pos, ◌+ℤ◌, ◌-ℤ◌, ◌≤ℤ◌, refl, ap, ◌∙◌, arith}
use lib.Signed.{≤ℤ_refl}
use Rattle.std.proofs.lemmas.Int.{ints}
use Rattle.std.proofs.lemmas.Bool.{eq-eqb, ne_eqb}
use Rattle.strikes.specs.declared.strike.Strike.{Strike}
use Rattle.strikes.specs.Strikes.{strike_at}
use Rattle.expiry.specs.Expiry.{sum_to, call_exercised, put_exercised, moved, through, receipt}
use Rattle.expiry.specs.Quantities.{calls_puts, Same}
use Rattle.expiry.proofs.Sums.{times_le, times_add, sum_same, sum_le, sum_add, sum_zero}

-- calls stand in even series, puts in odd ones
pub calls_at : (x y : ℕ → ℤ) (i : ℕ) → calls_puts x y (2 * i) ≡ x (2 * i)
calls_at x y i = rw (eq-eqb ((2 * i) % 2) 0 (omega arith))

pub puts_at : (x y : ℕ → ℤ) (i : ℕ) → calls_puts x y (2 * i + 1) ≡ y (2 * i + 1)
puts_at x y i = rw (ne_eqb ((2 * i + 1) % 2) 0 (omega arith))

-- one of the two
pub calls_puts_cases : (x y : ℕ → ℤ) (P : ℤ → Type 0) (s : ℕ) → P (x s) → P (y s) → P (calls_puts x y s)
calls_puts_cases x y P s h k = elim (eqb (s % 2) 0) as (λ t. P (cond t (x s) (y s))) [ true ↦ h | false ↦ k ]

-- a size is not below 0
moved_le : (t : Bool) (a b : ℤ) (n : ℕ) → a ≤ℤ b → moved t a n ≤ℤ moved t b n
moved_le true a b n h = times_le a b n h
moved_le false a b n h = ≤ℤ_refl (pos 0)

minus_le : (a b x y : ℤ) → a ≤ℤ b → x ≤ℤ y → (a -ℤ y) ≤ℤ (b -ℤ x)
minus_le a b x y h k = omega (arith, ints)

-- d has no fewer calls and no more puts than c
abbrev pub Favours : List Strike → (ℕ → ℤ) → (ℕ → ℤ) → Type 0
Favours ss c d = (i : ℕ) → i < length ss → (c (2 * i) ≤ℤ d (2 * i)) × (d (2 * i + 1) ≤ℤ c (2 * i + 1))

-- strike by strike
pub receipt_le : (ss : List Strike) (c d : ℕ → ℤ) (p q : ℕ) → Favours ss c d → receipt ss c p q ≤ℤ receipt ss d p q
receipt_le ss c d p q h =
    sum_le _ _ (length ss)
    (λ i l. minus_le _ _ _ _
    (moved_le (call_exercised (strike_at ss i).price p q) _ _ (strike_at ss i).size (h i l).0)
    (moved_le (put_exercised (strike_at ss i).price p q) _ _ (strike_at ss i).size (h i l).1))

-- two prices that exercise the same series
pub receipt_same : (ss : List Strike) (c : ℕ → ℤ) (p q d : ℕ) → ((i : ℕ) → i < length ss → Same p q d (strike_at ss i).price) → receipt ss c p q ≡ receipt ss c d 2
receipt_same ss c p q d same =
    sum_same _ _ (length ss)
    (λ i l.
    ap (λ t. moved t (c (2 * i)) (strike_at ss i).size -ℤ moved (put_exercised (strike_at ss i).price p q) (c (2 * i + 1)) (strike_at ss i).size) (same i l).0
    ∙ ap (λ t. moved (call_exercised (strike_at ss i).price d 2) (c (2 * i)) (strike_at ss i).size -ℤ moved t (c (2 * i + 1)) (strike_at ss i).size) (same i l).1)

-- only the counts in series of strikes matter
pub receipt_alike : (ss : List Strike) (c d : ℕ → ℤ) (p q : ℕ) → ((s : ℕ) → s < 2 * length ss → c s ≡ d s) → receipt ss c p q ≡ receipt ss d p q
receipt_alike ss c d p q h = sum_same _ _ (length ss) (λ i l. let e = h (2 * i) (omega arith) in let f = h (2 * i + 1) (omega arith) in cc)

-- by whether each is exercised
split : (t u : Bool) (a a' b b' : ℤ) → (cond t (a +ℤ a') (pos 0) -ℤ cond u (b +ℤ b') (pos 0)) ≡ ((cond t a (pos 0) -ℤ cond u b (pos 0)) +ℤ (cond t a' (pos 0) -ℤ cond u b' (pos 0)))
split true true a a' b b' = omega (arith, ints)
split true false a a' b b' = omega (arith, ints)
split false true a a' b b' = omega (arith, ints)
split false false a a' b b' = omega (arith, ints)

through_add : (s : Strike) (x x' y y' : ℤ) (p q : ℕ) → through s (x +ℤ x') (y +ℤ y') p q ≡ (through s x y p q +ℤ through s x' y' p q)
through_add s x x' y y' p q = rw (times_add x x' s.size, times_add y y' s.size) (split (call_exercised s.price p q) (put_exercised s.price p q) _ _ _ _)

nothing : (t u : Bool) (n : ℕ) → (moved t (pos 0) n -ℤ moved u (pos 0) n) ≡ pos 0
nothing true true n = omega (arith, ints)
nothing true false n = omega (arith, ints)
nothing false true n = omega (arith, ints)
nothing false false n = refl

module _ (ss : List Strike) (p q : ℕ) where
  -- strike by strike
  receipt_add : (c d : ℕ → ℤ) → receipt ss (λ s. c s +ℤ d s) p q ≡ (receipt ss c p q +ℤ receipt ss d p q)
  receipt_add c d = sum_same _ _ (length ss) (λ i l. through_add (strike_at ss i) (c (2 * i)) (d (2 * i)) (c (2 * i + 1)) (d (2 * i + 1)) p q) ∙ sum_add _ _ (length ss)

  -- 0 of everything moves nothing
  receipt_none : receipt ss (λ _. pos 0) p q ≡ pos 0
  receipt_none = sum_same _ (λ _. pos 0) (length ss) (λ i l. nothing (call_exercised (strike_at ss i).price p q) (put_exercised (strike_at ss i).price p q) (strike_at ss i).size) ∙ sum_zero (length ss)

  -- what the accounts receive in all is what their summed counts receive
  pub receipt_summed : (x : ℕ → ℕ → ℤ) (m : ℕ) → receipt ss (λ s. sum_to (λ a. x a s) m) p q ≡ sum_to (λ a. receipt ss (x a) p q) m
  receipt_summed x zero = receipt_none
  receipt_summed x (suc m) = receipt_add (λ s. sum_to (λ a. x a s) m) (x m) ∙ ap (λ z. z +ℤ receipt ss (x m) p q) (receipt_summed x m)
