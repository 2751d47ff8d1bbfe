-- The quantities are exact over every price and every count of every account, and monotone in the ranges. Assumes nothing.
use Rattle.std.proofs.Common.{◌≡◌, ℕ, ◌+◌, ◌*◌, ◌%◌, ◌<◌, Bool, true, false, cond, eqb, List, [], ◌∷◌, ◌++◌, length, get_or, take, ℤ, pos, ◌≤ℤ◌, Some, None, Option, sym, refl, ap, ◌∙◌, subst, arith}
use Rattle.std.proofs.lemmas.Int.{ints}
use Rattle.std.proofs.lemmas.Bool.Decides.{nat_tests}
use lib.ListN.{length-map}
use Rattle.std.proofs.lemmas.List.{get_or-map, take_more}
use Rattle.strikes.specs.declared.strike.Strike.{Strike}
use Rattle.strikes.specs.Strikes.{prices, Lawful}
use Rattle.strikes.specs.Listed.{listed}
use Rattle.strikes.proofs.Places.{length-listed}
use Rattle.expiry.specs.declared.side.Side.{Side}
use Rattle.expiry.specs.declared.side.Side.TheVariants.{Long, Short}
use Rattle.expiry.specs.declared.quantity.Quantity.{Quantity}
use Rattle.expiry.specs.declared.sum.Sum.{Sum}
use Rattle.expiry.specs.Near.{Near}
use Rattle.expiry.specs.Expiry.{sum_to, receipt}
use Rattle.expiry.specs.Quantities.{at, calls_puts, flow, extreme, flows, price_at, quantity, Greatest}
use Rattle.expiry.specs.Parties.{Party, summed, PartyOf, Possible, Covers, Met, Exact, Inside}
use Rattle.expiry.proofs.Sums.{≤ℤ_opposite, sum_le}
use Rattle.expiry.proofs.Agree.{every_price_listed}
use Rattle.expiry.proofs.Receipts.{calls_at, puts_at, calls_puts_cases, receipt_le, receipt_same, receipt_alike, receipt_summed}
use Rattle.expiry.proofs.Bounds.{receipt_near}
use Rattle.expiry.proofs.Choose.{most_bound, most_zero, most_under, greatest_most}

-- the flow at a place
pub flow_at : (side : Side) (ss : List Strike) (c : ℕ → ℤ) (k : ℕ) → k < length (listed (prices ss)) → get_or (flows side ss c) k (pos 0) ≡ flow side (receipt ss c (price_at ss k) 2)
flow_at side ss c k l = get_or-map (λ d. flow side (receipt ss c d 2)) (listed (prices ss)) k 0 (pos 0) l

-- one flow for each place
pub length-flows : (side : Side) (ss : List Strike) (c : ℕ → ℤ) → length (flows side ss c) ≡ 2 * length ss + 1
length-flows side ss c = length-map (listed (prices ss)) (λ d. flow side (receipt ss c d 2)) ∙ length-listed ss

-- the flow of one place more
pub flows_more : (side : Side) (ss : List Strike) (c : ℕ → ℤ) (k : ℕ) (xs : List ℤ) (z : ℤ) → k < 2 * length ss + 1 → xs ≡ take k (flows side ss c) → z ≡ flow side (receipt ss c (price_at ss k) 2) → xs ++ z ∷ [] ≡ take (k + 1) (flows side ss c)
flows_more side ss c k xs z l e f =
    let more = take_more (flows side ss c) k (pos 0) (omega (arith, length-flows side ss c)) in
    let at = flow_at side ss c k (omega (arith, length-listed ss)) in
    rw (e, f, more, at)

module _ (ss : List Strike) where
  -- ranges around others look at counts that flow no less: more calls and fewer puts, or the opposite
  pub flow_wider : (side : Side) (low high low' high' : ℕ → ℤ) (p q : ℕ) → Inside ss low high low' high' → flow side (receipt ss (extreme side low high) p q) ≤ℤ flow side (receipt ss (extreme side low' high') p q)
  flow_wider Long low high low' high' p q i =
      receipt_le ss (calls_puts high low) (calls_puts high' low') p q (λ k l. (
        rw (calls_at high low k, calls_at high' low' k) (i.highs (2 * k) (omega arith)),
        rw (puts_at high' low' k, puts_at high low k) (i.lows (2 * k + 1) (omega arith)),
      ))
  flow_wider Short low high low' high' p q i =
      ≤ℤ_opposite _ _ (receipt_le ss (calls_puts low' high') (calls_puts low high) p q (λ k l. (
        rw (calls_at low' high' k, calls_at low high k) (i.lows (2 * k) (omega arith)),
        rw (puts_at low high k, puts_at low' high' k) (i.highs (2 * k + 1) (omega arith)),
      )))

  -- monotone: listed price by listed price
  pub quantity_wider : (side : Side) (low high low' high' : ℕ → ℤ) → Inside ss low high low' high' → quantity side ss low high ≤ℤ quantity side ss low' high'
  quantity_wider side low high low' high' i =
      most_under (flows side ss (extreme side low high)) (quantity side ss low' high') (most_zero (flows side ss (extreme side low' high')))
      (λ k l.
      let here : k < length (listed (prices ss)) = simp length-map at l in
      let there : k < length (flows side ss (extreme side low' high')) = simp length-map here in
      let wider = flow_wider side low high low' high' (price_at ss k) 2 i in
      let most = most_bound (flows side ss (extreme side low' high')) k there in
      omega (arith, ints, flow_at side ss (extreme side low high) k here, flow_at side ss (extreme side low' high') k here))

  -- a single count is a range of itself
  extreme_single : (side : Side) (c : ℕ → ℤ) (s : ℕ) → c s ≡ extreme side c c s
  extreme_single Long c s = calls_puts_cases c c (λ z. c s ≡ z) s refl refl
  extreme_single Short c s = calls_puts_cases c c (λ z. c s ≡ z) s refl refl

  -- every price flows as some listed price does, and there the extreme counts flow most
  pub quantity_covers : (side : Side) (low high : ℕ → ℤ) → Lawful ss → (p q : ℕ) → 0 < q → (c : ℕ → ℤ) → Inside ss c c low high → flow side (receipt ss c p q) ≤ℤ quantity side ss low high
  quantity_covers side low high lawful p q pos-q c i =
      let like = every_price_listed ss lawful p q pos-q in
      let d = price_at ss like.place in
      let there : like.place < length (flows side ss (extreme side low high)) = simp length-map like.within in
      let e : flow side (receipt ss c p q) ≡ flow side (receipt ss (extreme side c c) d 2)
      = ap (flow side) (receipt_same ss c p q d like.same ∙ receipt_alike ss c (extreme side c c) d 2 (λ s l. extreme_single side c s)) in
      let wider = flow_wider side c c low high d 2 i in
      let most = most_bound (flows side ss (extreme side low high)) like.place there in
      omega (arith, ints, flow_at side ss (extreme side low high) like.place like.within)

  module _ (low high : ℕ → ℤ) (party : Party) (of : PartyOf ss low high party) where
    -- possible counts, summed, lie within the summed ranges
    possible_inside : (x : ℕ → ℕ → ℤ) → Possible ss party x → Inside ss (summed party.accounts x) (summed party.accounts x) low high
    possible_inside x possible = record {
      lows = λ s l. rw (← of.lows s l) (sum_le _ _ party.accounts (λ a k. (possible a s k l).0));
      highs = λ s l. rw (← of.highs s l) (sum_le _ _ party.accounts (λ a k. (possible a s k l).1));
    }

    -- the counts that the side looks at, account by account
    abbrev extremes : Side → ℕ → ℕ → ℤ
    extremes side a = extreme side (party.low a) (party.high a)

    -- low and high are themselves in the range
    extremes_possible : (side : Side) → Possible ss party (extremes side)
    extremes_possible Long a s l k = let range = of.ranged a s l k in (grind (arith, ints, nat_tests), grind (arith, ints, nat_tests))
    extremes_possible Short a s l k = let range = of.ranged a s l k in (grind (arith, ints, nat_tests), grind (arith, ints, nat_tests))

    -- calls and puts are summed apart
    mixed : (t : Bool) (x y : ℕ → ℕ → ℤ) (m s : ℕ) → sum_to (λ a. cond t (x a s) (y a s)) m ≡ cond t (summed m x s) (summed m y s)
    mixed true x y m s = refl
    mixed false x y m s = refl

    -- they sum to those of the summed ranges
    extremes_summed : (side : Side) (s : ℕ) → s < 2 * length ss → summed party.accounts (extremes side) s ≡ extreme side low high s
    extremes_summed Long s l = rw (mixed (eqb (s % 2) 0) party.high party.low party.accounts s, of.highs s l, of.lows s l)
    extremes_summed Short s l = rw (mixed (eqb (s % 2) 0) party.low party.high party.accounts s, of.lows s l, of.highs s l)

    -- the summed counts are a count of the summed ranges
    covers : (side : Side) → Lawful ss → Covers side ss party (quantity side ss low high)
    covers side lawful p q pos-q x possible =
        subst (λ z. flow side z ≤ℤ quantity side ss low high) (receipt_summed ss p q x party.accounts)
        (quantity_covers side low high lawful p q pos-q (summed party.accounts x) (possible_inside x possible))

    -- at the place of the greatest, by the counts that the side looks at
    met : (side : Side) (v : ℤ) (o : Option ℕ) → Greatest (flows side ss (extreme side low high)) v o → Met side ss party v o
    met side v None g = g.0
    met side v (Some place) g =
        let here : place < length (listed (prices ss)) = simp length-map at g.within in
        record {
          within = here;
          counts = extremes side;
          possible = extremes_possible side;
          meets =
              ap (flow side) (sym (receipt_summed ss (price_at ss place) 2 (extremes side) party.accounts) ∙ receipt_alike ss _ (extreme side low high) (price_at ss place) 2 (extremes_summed side))
              ∙ sym (flow_at side ss (extreme side low high) place here)
              ∙ g.meets;
        }

    -- both together
    pub exact : (side : Side) (q : Quantity) → Lawful ss → Greatest (flows side ss (extreme side low high)) q.value q.place → Exact side ss party q
    exact side q lawful g = record {
      covers = subst (Covers side ss party) (sym (greatest_most (flows side ss (extreme side low high)) q.value q.place g)) (covers side lawful);
      met = met side q.value q.place g;
    }

flow_near : (side : Side) (b : ℕ) (z : ℤ) → Near b z → Near b (flow side z)
flow_near Long b z h = h
flow_near Short b z h = (omega (arith, ints), omega (arith, ints))

-- a quantity is 0 or a flow at some listed price, so it lies as near to 0 as every receipt
pub quantity_near : (side : Side) (ss : List Strike) (low high : List Sum) (v : ℤ) (o : Option ℕ) → Lawful ss → Greatest (flows side ss (extreme side (at low) (at high))) v o → Near 20480000000000000 v
quantity_near side ss low high v None lawful g = (omega (arith, ints, g.0), omega (arith, ints, g.0))
quantity_near side ss low high v (Some j) lawful g =
    let here : j < length (listed (prices ss)) = simp length-map at g.within in
    subst (Near 20480000000000000) (sym (flow_at side ss (extreme side (at low) (at high)) j here) ∙ g.meets) (flow_near side _ _ (by_side side))
  where
    by_side : (d : Side) → Near 20480000000000000 (receipt ss (extreme d (at low) (at high)) (price_at ss j) 2)
    by_side Long = receipt_near ss high low (price_at ss j) 2 lawful
    by_side Short = receipt_near ss low high (price_at ss j) 2 lawful
