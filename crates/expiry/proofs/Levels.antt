-- From one listed price to the next exactly one series changes. Assumes nothing.
use Rattle.std.proofs.Common.{◌≡◌, ℕ, zero, suc, ◌+◌, ◌-◌, ◌*◌, ◌<◌, ◌≤◌, ltb, leb, List, length, ℤ, pos, ◌+ℤ◌, ◌-ℤ◌, ◌*ℤ◌, sym, refl, ap, ◌∙◌, subst, ⊎_elim, arith}
use Rattle.std.proofs.lemmas.Int.{ints}
use Rattle.std.proofs.lemmas.Bool.Decides.{nat_tests}
use Rattle.std.proofs.lemmas.Bool.{lt-ltb, le-ltb, lt-leb, le-leb, cases_order, cases_lt}
use Rattle.strikes.specs.declared.strike.Strike.{Strike}
use Rattle.strikes.specs.Strikes.{strike_at, Lawful}
use Rattle.strikes.proofs.Places.{listed_strike, listed_between, listed_last}
use Rattle.expiry.specs.Expiry.{sum_to, call_exercised, put_exercised, moved, receipt}
use Rattle.expiry.specs.declared.flows.Counts.{Counts}
use Rattle.expiry.specs.Quantities.{at, price_at}
use Rattle.expiry.specs.Counts.{counts_of, receipt_at}
use Rattle.expiry.proofs.Sums.{sum_same, sum_one}
use Rattle.expiry.proofs.Receipts.{calls_at, puts_at}

-- at the doubled price d the calls below a and the puts from b on are exercised
record Splits (ss : List Strike) (a b d : ℕ) : Type 0 where
  pub calls : (k : ℕ) → k < length ss → call_exercised (strike_at ss k).price d 2 ≡ ltb k a
  pub puts : (k : ℕ) → k < length ss → put_exercised (strike_at ss k).price d 2 ≡ leb b k

-- the receipt of the calls below a and the puts from b on
abbrev level : List Strike → (ℕ → ℤ) → ℕ → ℕ → ℤ
level ss c a b = sum_to (λ k. moved (ltb k a) (c (2 * k)) (strike_at ss k).size -ℤ moved (leb b k) (c (2 * k + 1)) (strike_at ss k).size) (length ss)

-- the receipt counts exactly the exercised series
splits_level : (ss : List Strike) (c : ℕ → ℤ) (a b d : ℕ) → Splits ss a b d → receipt ss c d 2 ≡ level ss c a b
splits_level ss c a b d s =
    sum_same _ _ (length ss)
    (λ k l.
    ap (λ t. moved t (c (2 * k)) (strike_at ss k).size -ℤ moved (put_exercised (strike_at ss k).price d 2) (c (2 * k + 1)) (strike_at ss k).size) (s.calls k l)
    ∙ ap (λ t. moved (ltb k a) (c (2 * k)) (strike_at ss k).size -ℤ moved t (c (2 * k + 1)) (strike_at ss k).size) (s.puts k l))

-- the receipt of the puts of the first i strikes, all exercised
abbrev pub puts_to : List Strike → (ℕ → ℤ) → ℕ → ℤ
puts_to ss y i = sum_to (λ k. pos 0 -ℤ (y (2 * k + 1) *ℤ pos (strike_at ss k).size)) i

module _ (ss : List Strike) (lawful : Lawful ss) where
  -- every price is above 0
  splits_zero : Splits ss 0 0 0
  splits_zero = record {
    calls = λ k h. grind (arith, nat_tests);
    puts = λ k h. let p = (lawful.proper k h).0 in grind (arith, nat_tests);
  }

  -- the prices rise
  splits_at : (i : ℕ) → i < length ss → Splits ss i (i + 1) (2 * (strike_at ss i).price)
  splits_at i l = record {
    calls = λ k h. let before = lawful.rises k i in let after = lawful.rises i k in let order = cases_order k i in grind (arith, nat_tests);
    puts = λ k h. let before = lawful.rises k i in let after = lawful.rises i k in let order = cases_order k i in grind (arith, nat_tests);
  }

  -- any price above strike i and below the next
  splits_after : (i d : ℕ) → i < length ss → 2 * (strike_at ss i).price < d → ((k : ℕ) → k < length ss → i < k → d < 2 * (strike_at ss k).price) → Splits ss (i + 1) (i + 1) d
  splits_after i d l above below = record {
    calls = λ k h. let before = lawful.rises k i in let after = below k in let order = cases_order k i in grind (arith, nat_tests);
    puts = λ k h. let before = lawful.rises k i in let after = below k in let order = cases_order k i in grind (arith, nat_tests);
  }

  -- the listed price between two strikes, or above the last
  splits_even : (i : ℕ) → i < length ss → Splits ss (i + 1) (i + 1) (price_at ss (2 * i + 2))
  splits_even i l =
      ⊎_elim
      (λ (m : i + 1 < length ss).
      let up = lawful.rises i (i + 1) (omega arith) m in
      subst (Splits ss (i + 1) (i + 1)) (sym (listed_between ss (2 * i + 2) i l refl m))
      (splits_after i _ l (omega arith) (λ k h n. let after = lawful.rises (i + 1) k in let order = cases_order k (i + 1) in grind (arith, nat_tests))))
      (λ (m : length ss ≤ i + 1).
      subst (Splits ss (i + 1) (i + 1)) (sym (listed_last ss (2 * i + 2) i l refl (omega arith)))
      (splits_after i _ l (omega arith) (λ k h n. absurd (omega arith))))
      (cases_lt (i + 1) (length ss))

  module _ (c : ℕ → ℤ) where
    -- the odd places are the strikes, the even ones lie after them
    odd_level : (i : ℕ) → i < length ss → receipt ss c (price_at ss (2 * i + 1)) 2 ≡ level ss c i (i + 1)
    odd_level i l = splits_level ss c i (i + 1) _ (subst (Splits ss i (i + 1)) (sym (listed_strike ss (2 * i + 1) i l refl)) (splits_at i l))

    even_level : (i : ℕ) → i ≤ length ss → receipt ss c (price_at ss (2 * i)) 2 ≡ level ss c i i
    even_level zero l = splits_level ss c 0 0 0 splits_zero
    even_level (suc i) l =
        let e : 2 * i + 2 ≡ 2 * suc i = omega arith in
        let f : i + 1 ≡ suc i = omega arith in
        subst (λ n. receipt ss c (price_at ss n) 2 ≡ level ss c (suc i) (suc i)) e
        (splits_level ss c (suc i) (suc i) _ (subst (λ n. Splits ss n n (price_at ss (2 * i + 2))) f (splits_even i (omega arith))))

    -- the put of strike i drops out
    put_out : (a i : ℕ) → i < length ss → level ss c a (i + 1) ≡ (level ss c a i +ℤ (c (2 * i + 1) *ℤ pos (strike_at ss i).size))
    put_out a i l =
        sum_one _ _ (length ss) i _ l
        (rw (lt-leb (i + 1) i (omega arith), le-leb i i (omega arith)) (omega (arith, ints)))
        (λ j ne. let same : leb (i + 1) j ≡ leb i j = grind (arith, nat_tests) in rw same)

    -- the call of strike i comes in
    call_in : (i b : ℕ) → i < length ss → level ss c (i + 1) b ≡ (level ss c i b +ℤ (c (2 * i) *ℤ pos (strike_at ss i).size))
    call_in i b l =
        sum_one _ _ (length ss) i _ l
        (rw (lt-ltb i (i + 1) (omega arith), le-ltb i i (omega arith)) (omega (arith, ints)))
        (λ j ne. let same : ltb j (i + 1) ≡ ltb j i = grind (arith, nat_tests) in rw same)

    -- so from the place 2i to the next, and from that to the one after it
    put_step : (i : ℕ) → i < length ss → receipt ss c (price_at ss (2 * i + 1)) 2 ≡ (receipt ss c (price_at ss (2 * i)) 2 +ℤ (c (2 * i + 1) *ℤ pos (strike_at ss i).size))
    put_step i l = rw (odd_level i l, put_out i i l, even_level i (omega arith))

    call_step : (i : ℕ) → i < length ss → receipt ss c (price_at ss (2 * i + 2)) 2 ≡ (receipt ss c (price_at ss (2 * i + 1)) 2 +ℤ (c (2 * i) *ℤ pos (strike_at ss i).size))
    call_step i l = rw (splits_level ss c (i + 1) (i + 1) _ (splits_even i l), call_in i (i + 1) l, odd_level i l)

    -- at price 0 every put is exercised and no call
    all_puts : receipt ss c 0 2 ≡ sum_to (λ k. pos 0 -ℤ (c (2 * k + 1) *ℤ pos (strike_at ss k).size)) (length ss)
    all_puts = sum_same _ _ (length ss) (λ k l. let p = (lawful.proper k l).0 in rw (le-ltb ((strike_at ss k).price * 2) 0 (omega arith), lt-ltb 0 ((strike_at ss k).price * 2) (omega arith)))

-- the same of the counts in two arrays
module _ (p : Counts) where
  pub receipt_zero : receipt_at p 0 ≡ puts_to p.strikes.now (at p.puts.now) (length p.strikes.now)
  receipt_zero =
      all_puts p.strikes.now p.lawful (counts_of p)
      ∙ sum_same _ _ (length p.strikes.now) (λ k l. ap (λ z. pos 0 -ℤ (z *ℤ pos (strike_at p.strikes.now k).size)) (puts_at (at p.calls.now) (at p.puts.now) k))

  pub step_odd : (place i : ℕ) → place ≡ 2 * i + 1 → i < length p.strikes.now → receipt_at p place ≡ (receipt_at p (place - 1) +ℤ (at p.puts.now (2 * i + 1) *ℤ pos (strike_at p.strikes.now i).size))
  step_odd place i e l =
      let before : 2 * i + 1 - 1 ≡ 2 * i = omega arith in
      rw (e, before, put_step p.strikes.now p.lawful (counts_of p) i l, puts_at (at p.calls.now) (at p.puts.now) i)

  pub step_even : (place i : ℕ) → place ≡ 2 * i + 2 → i < length p.strikes.now → receipt_at p place ≡ (receipt_at p (place - 1) +ℤ (at p.calls.now (2 * i) *ℤ pos (strike_at p.strikes.now i).size))
  step_even place i e l =
      let before : 2 * i + 2 - 1 ≡ 2 * i + 1 = omega arith in
      rw (e, before, call_step p.strikes.now p.lawful (counts_of p) i l, calls_at (at p.calls.now) (at p.puts.now) i)
