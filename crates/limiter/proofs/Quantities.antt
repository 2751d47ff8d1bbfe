-- A party's net receipt and its quantities. Assumes nothing.
use Rattle.std.proofs.Common.{◌≡◌, ℕ, suc, ◌*◌, ◌%◌, ◌<◌, Bool, true, false, cond, eqb, ◌⊎◌, List, [], ◌∷◌, map, length, get_or, ℤ, pos, ◌≤ℤ◌, sym, refl, ap, ◌∙◌, subst, inl, inr, arith}
use lib.ListN.{length-map}
use lib.Signed.{lt_z, ≤ℤ_refl}
use Rattle.std.specs.Int.{int_max}
use Rattle.std.proofs.lemmas.Bool.{cases_cond}
use Rattle.strikes.specs.declared.strike.Strike.{Strike}
use Rattle.strikes.specs.Strikes.{prices, Lawful}
use Rattle.strikes.specs.Listed.{listed}
use Rattle.expiry.specs.declared.side.Side.{Side}
use Rattle.expiry.specs.declared.side.Side.TheVariants.{Long, Short}
use Rattle.expiry.specs.Expiry.{sum_to, receipt}
use Rattle.expiry.specs.Quantities.{calls_puts, flow, flows, extreme, price_at, most, quantity}
use Rattle.expiry.proofs.Sums.{≤ℤ_chain, ≤ℤ_both, sum_same, sum_le, sum_zero}
use Rattle.expiry.proofs.Receipts.{calls_puts_cases, receipt_alike, receipt_summed}
use Rattle.expiry.proofs.Choose.{most_zero}
use Rattle.expiry.proofs.Exact.{flow_at, quantity_covers}
use Rattle.parties.specs.declared.entry.Entry.{Entry}
use Rattle.parties.specs.declared.level.Level.{Level}
use Rattle.parties.specs.Directories.{belongs}
use Rattle.limiter.specs.Positions.{Counts, Positions, summed, net_receipt, Possible, Covered, ZeroOrMet, quantity_of}

-- the greatest of 0 and a list is 0 or in the list
most_met : (xs : List ℤ) → (most xs ≡ pos 0) ⊎ ((j : ℕ) × (j < length xs) × (get_or xs j (pos 0) ≡ most xs))
most_met [] = inl refl
most_met (x ∷ xs) = elim (cases_cond (lt_z (most xs) x) x (most xs) (int_max x (most xs)) refl) [
  | inl e ↦ inr (0, omega arith, sym e)
  | inr e ↦ elim (most_met xs) [ inl z ↦ inl (e ∙ z) | inr z ↦ inr (suc z.0, omega (arith, z.1), z.2 ∙ sym e) ]
]

cond_le : (b : Bool) (x y : ℤ) → x ≤ℤ y → cond b x (pos 0) ≤ℤ cond b y (pos 0)
cond_le true x y h = h
cond_le false x y h = ≤ℤ_refl (pos 0)

receipt_cond : (ss : List Strike) (b : Bool) (x : ℕ → ℤ) (m n : ℕ) → receipt ss (λ s. cond b (x s) (pos 0)) m n ≡ cond b (receipt ss x m n) (pos 0)
receipt_cond ss true x m n = refl
receipt_cond ss false x m n = receipt_summed ss m n (λ _ _. pos 0) 0

cond_cond : (t b : Bool) (x y : ℤ) → cond b (cond t x y) (pos 0) ≡ cond t (cond b x (pos 0)) (cond b y (pos 0))
cond_cond true b x y = refl
cond_cond false b x y = refl

sum_cond : (t : Bool) (f g : ℕ → ℤ) (n : ℕ) → sum_to (λ a. cond t (f a) (g a)) n ≡ cond t (sum_to f n) (sum_to g n)
sum_cond true f g n = refl
sum_cond false f g n = refl

map_alike : {A B : Type 0} (f g : A → B) → ((d : A) → f d ≡ g d) → (ds : List A) → map f ds ≡ map g ds
map_alike f g h [] = refl
map_alike f g h (d ∷ ds) = λ i. h d i ∷ map_alike f g h ds i

-- only the counts in series of strikes flow
pub flows_alike : (side : Side) (ss : List Strike) (c d : ℕ → ℤ) → ((s : ℕ) → s < 2 * length ss → c s ≡ d s) → flows side ss c ≡ flows side ss d
flows_alike side ss c d h = map_alike _ _ (λ p. ap (flow side) (receipt_alike ss c d p 2 h)) (listed (prices ss))

module _ (ss : List Strike) (es : List Entry) (level : Level) (p : ℕ) where
  abbrev at : Counts → Counts → Positions
  at low high = record { strikes = ss; entries = es; low = low; high = high }

  -- the receipt of the summed counts is the sum of the receipts
  receipt_of_sums : (low high x : Counts) (m n : ℕ) → receipt ss (summed es level p x) m n ≡ net_receipt (at low high) level p x m n
  unfolding net_receipt
  receipt_of_sums low high x m n =
      receipt_summed ss m n (λ a s. cond (belongs es level p a) (x a s) (pos 0)) (length es)
      ∙ sum_same _ _ (length es) (λ a l. receipt_cond ss (belongs es level p a) (x a) m n)

  summed_le : (x y : Counts) → ((a s : ℕ) → x a s ≤ℤ y a s) → (s : ℕ) → summed es level p x s ≤ℤ summed es level p y s
  summed_le x y h s = sum_le _ _ (length es) (λ a l. cond_le (belongs es level p a) (x a s) (y a s) (h a s))

  summed_calls_puts : (x y : Counts) (s : ℕ) → summed es level p (λ a. calls_puts (x a) (y a)) s ≡ calls_puts (summed es level p x) (summed es level p y) s
  summed_calls_puts x y s =
      sum_same _ _ (length es) (λ a l. cond_cond (eqb (s % 2) 0) (belongs es level p a) (x a s) (y a s))
      ∙ sum_cond (eqb (s % 2) 0) (λ a. cond (belongs es level p a) (x a s) (pos 0)) (λ a. cond (belongs es level p a) (y a s) (pos 0)) (length es)

  -- the summed counts that a side looks at are the sums of those of each account
  summed_extreme : (side : Side) (low high : Counts) → summed es level p (λ a. extreme side (low a) (high a)) ≡ extreme side (summed es level p low) (summed es level p high)
  summed_extreme Long low high = λ i s. summed_calls_puts high low s i
  summed_extreme Short low high = λ i s. summed_calls_puts low high s i

  -- a possible count, summed, lies within the summed ranges
  pub covered : (low high : Counts) (side : Side) → Lawful ss → Covered (at low high) level p side (quantity_of (at low high) level p side)
  unfolding quantity_of
  covered low high side lawful m n pos-n x w =
      subst (λ z. flow side z ≤ℤ quantity side ss (summed es level p low) (summed es level p high)) (receipt_of_sums low high x m n)
      (quantity_covers ss side (summed es level p low) (summed es level p high) lawful m n pos-n (summed es level p x)
      (record { lows = λ s l. summed_le low x (λ a k. (w a k).0) s; highs = λ s l. summed_le x high (λ a k. (w a k).1) s }))

  -- the counts that a side looks at lie within the ranges
  extreme_possible : (side : Side) (low high : Counts) → ((a s : ℕ) → low a s ≤ℤ high a s) → Possible (at low high) (λ a. extreme side (low a) (high a))
  extreme_possible Long low high h a s = (calls_puts_cases (high a) (low a) (λ z. low a s ≤ℤ z) s (h a s) (≤ℤ_refl _), calls_puts_cases (high a) (low a) (λ z. z ≤ℤ high a s) s (≤ℤ_refl _) (h a s))
  extreme_possible Short low high h a s = (calls_puts_cases (low a) (high a) (λ z. low a s ≤ℤ z) s (≤ℤ_refl _) (h a s), calls_puts_cases (low a) (high a) (λ z. z ≤ℤ high a s) s (h a s) (≤ℤ_refl _))

  -- and meet the quantity at the listed price where it is greatest
  pub met : (low high : Counts) (side : Side) → ((a s : ℕ) → low a s ≤ℤ high a s) → ZeroOrMet (at low high) level p side (quantity_of (at low high) level p side)
  unfolding quantity_of
  met low high side h = elim (most_met (flows side ss (extreme side (summed es level p low) (summed es level p high)))) [
    | inl z ↦ inl z
    | inr z ↦
        let here : z.0 < length (listed (prices ss)) = simp length-map at z.1 in
        inr (record {
          place = z.0;
          counts = λ a. extreme side (low a) (high a);
          within = here;
          possible = extreme_possible side low high h;
          meets =
              ap (flow side) (sym (receipt_of_sums low high (λ a. extreme side (low a) (high a)) (price_at ss z.0) 2) ∙ ap (λ c. receipt ss c (price_at ss z.0) 2) (summed_extreme side low high))
              ∙ sym (flow_at side ss (extreme side (summed es level p low) (summed es level p high)) z.0 here) ∙ z.2;
        })
  ]

  pub quantity_zero : (low high : Counts) (side : Side) → pos 0 ≤ℤ quantity_of (at low high) level p side
  unfolding quantity_of
  quantity_zero low high side = most_zero (flows side ss (extreme side (summed es level p low) (summed es level p high)))

  -- narrower ranges, no greater quantity: what meets the one is covered by the other
  pub quantity_narrower : (low high low' high' : Counts) (side : Side) → Lawful ss → ((a s : ℕ) → low a s ≤ℤ low' a s) → ((a s : ℕ) → high' a s ≤ℤ high a s) → ((a s : ℕ) → low' a s ≤ℤ high' a s)
      → quantity_of (at low' high') level p side ≤ℤ quantity_of (at low high) level p side
  quantity_narrower low high low' high' side lawful hl hh ho = elim (met low' high' side ho) [
    | inl z ↦ subst (λ v. v ≤ℤ quantity_of (at low high) level p side) (sym z) (quantity_zero low high side)
    | inr z ↦ subst (λ v. v ≤ℤ quantity_of (at low high) level p side) (sym (same z.counts (price_at ss z.place) 2) ∙ z.meets)
        (covered low high side lawful (price_at ss z.place) 2 (omega arith) z.counts (λ a s. (≤ℤ_chain _ _ _ (hl a s) (z.possible a s).0, ≤ℤ_chain _ _ _ (z.possible a s).1 (hh a s))))
  ]
    where
      -- a receipt does not look at the ranges
      same : (x : Counts) (m n : ℕ) → flow side (net_receipt (at low' high') level p x m n) ≡ flow side (net_receipt (at low high) level p x m n)
      same x m n = ap (flow side) (sym (receipt_of_sums low' high' x m n) ∙ receipt_of_sums low high x m n)

  summed_same : (x y : Counts) → ((a s : ℕ) → a < length es → belongs es level p a ≡ true → x a s ≡ y a s) → summed es level p x ≡ summed es level p y
  summed_same x y h = λ i s. sum_same _ _ (length es) (λ a l. pick (belongs es level p a) (x a s) (y a s) (h a s l)) i
    where
      pick : (b : Bool) (u v : ℤ) → (b ≡ true → u ≡ v) → cond b u (pos 0) ≡ cond b v (pos 0)
      pick true u v e = e refl
      pick false u v e = refl

  -- only the party's own cells matter
  pub quantity_same : (low high low' high' : Counts) (side : Side) → ((a s : ℕ) → a < length es → belongs es level p a ≡ true → (low a s ≡ low' a s) × (high a s ≡ high' a s))
      → quantity_of (at low high) level p side ≡ quantity_of (at low' high') level p side
  unfolding quantity_of
  quantity_same low high low' high' side h =
      ap (λ c. quantity side ss c (summed es level p high)) (summed_same low low' (λ a s l e. (h a s l e).0)) ∙ ap (λ c. quantity side ss (summed es level p low') c) (summed_same high high' (λ a s l e. (h a s l e).1))

  zero_flow : (side : Side) → flow side (pos 0) ≡ pos 0
  zero_flow Long = refl
  zero_flow Short = refl

  none : (b : Bool) → cond b (pos 0) (pos 0) ≡ pos 0
  none true = refl
  none false = refl

  zero_receipt : (low high x : Counts) (m n : ℕ) → ((a s : ℕ) → x a s ≡ pos 0) → net_receipt (at low high) level p x m n ≡ pos 0
  zero_receipt low high x m n h =
      sym (receipt_of_sums low high x m n)
      ∙ receipt_alike ss (summed es level p x) (λ _. pos 0) m n (λ s _. sum_same _ (λ _. pos 0) (length es) (λ a _. ap (λ z. cond (belongs es level p a) z (pos 0)) (h a s) ∙ none (belongs es level p a)) ∙ sum_zero (length es))
      ∙ receipt_summed ss m n (λ _ _. pos 0) 0

  -- a party whose cells are all 0 has quantity 0
  pub quantity_none : (low high : Counts) (side : Side) → ((a s : ℕ) → a < length es → belongs es level p a ≡ true → (low a s ≡ pos 0) × (high a s ≡ pos 0)) → quantity_of (at low high) level p side ≡ pos 0
  quantity_none low high side h =
      quantity_same low high (λ _ _. pos 0) (λ _ _. pos 0) side h
      ∙ elim (met (λ _ _. pos 0) (λ _ _. pos 0) side (λ a s. ≤ℤ_refl (pos 0))) [
        | inl z ↦ z
        | inr z ↦ sym z.meets ∙ ap (flow side) (zero_receipt (λ _ _. pos 0) (λ _ _. pos 0) z.counts _ 2 (λ a s. sym (≤ℤ_both _ _ (z.possible a s).0 (z.possible a s).1))) ∙ zero_flow side
      ]
