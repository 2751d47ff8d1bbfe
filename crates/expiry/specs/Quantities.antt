-- The quantities of a party, from its low and its high in each series. Assumes nothing.
use Rattle.std.specs.Prelude.{◌≡◌, ℕ, ◌%◌, ◌<◌, cond, List, [], ◌∷◌, map, length, get_or, ℤ, pos, neg_ℤ, ◌≤ℤ◌, ◌<ℤ◌, Some, None, Option, ◌==◌, slice_index, slice_index_or}
use Rattle.std.specs.Int.{int_max}
use Rattle.strikes.specs.declared.strike.Strike.{Strike}
use Rattle.strikes.specs.Strikes.{strike_at, prices}
use Rattle.strikes.specs.Listed.{listed}
use Rattle.expiry.specs.declared.side.Side.{Side}
use Rattle.expiry.specs.declared.side.Side.TheVariants.{Long, Short}
use Rattle.expiry.specs.declared.sum.Sum.{Sum}
use Rattle.expiry.specs.Expiry.{call_exercised, put_exercised, receipt}

-- what is read past the end of an array
abbrev pub no_sum : Sum
no_sum = record { value = pos 0; near = (record { le = tt }, record { le = tt }) }

-- the sums of an array, by series
abbrev pub at : List Sum → ℕ → ℤ
at sums s = (get_or sums s no_sum).value

-- calls as in x, puts as in y
abbrev pub calls_puts : (ℕ → ℤ) → (ℕ → ℤ) → ℕ → ℤ
calls_puts x y s = cond (s % 2 == 0) (x s) (y s)

-- a receipt as the side counts it: a delivery is the opposite
abbrev pub flow : Side → ℤ → ℤ
flow Long z = z
flow Short z = neg_ℤ z

-- the counts that the side looks at: calls at high and puts at low, or calls at low and puts at high
abbrev pub extreme : Side → (ℕ → ℤ) → (ℕ → ℤ) → ℕ → ℤ
extreme Long low high = calls_puts high low
extreme Short low high = calls_puts low high

-- the listed price at a place, doubled
abbrev pub price_at : List Strike → ℕ → ℕ
price_at ss place = slice_index (listed (prices ss)) place

-- p/q and d/2 exercise the same series of the strike price K
abbrev pub Same : ℕ → ℕ → ℕ → ℕ → Type 0
Same p q d K = (call_exercised K p q ≡ call_exercised K d 2) × (put_exercised K p q ≡ put_exercised K d 2)

-- a listed price that compares with every strike as p/q does
pub record Like (ss : List Strike) (p q : ℕ) : Type 0 where
  pub place : ℕ
  pub within : place < length (listed (prices ss))
  pub same : (i : ℕ) → i < length ss → Same p q (price_at ss place) (strike_at ss i).price

-- every price compares with every strike as some listed price does
abbrev pub EveryPriceListed : List Strike → Type 0
EveryPriceListed ss = (p q : ℕ) → 0 < q → Like ss p q

-- the flows of the counts c at the listed prices
abbrev pub flows : Side → List Strike → (ℕ → ℤ) → List ℤ
flows side ss c = map (λ d. flow side (receipt ss c d 2)) (listed (prices ss))

-- the greatest of 0 and the numbers of a list
abbrev pub most : List ℤ → ℤ
most [] = pos 0
most (x ∷ xs) = int_max x (most xs)

-- the quantity of a side, from low and high by series
abbrev pub quantity : Side → List Strike → (ℕ → ℤ) → (ℕ → ℤ) → ℤ
quantity side ss low high = most (flows side ss (extreme side low high))

-- v is above 0, the greatest number of a list, and first met at the place j
pub record MetFirst (xs : List ℤ) (v : ℤ) (j : ℕ) : Type 0 where
  pub above : pos 0 <ℤ v
  pub within : j < length xs
  pub meets : get_or xs j (pos 0) ≡ v
  pub most : (k : ℕ) → k < length xs → slice_index_or xs k (pos 0) ≤ℤ v
  pub first : (k : ℕ) → k < j → slice_index_or xs k (pos 0) <ℤ v

-- v is the greatest of 0 and the numbers of a list, with the first place that meets it where it is above 0, otherwise none
abbrev pub Greatest : List ℤ → ℤ → Option ℕ → Type 0
Greatest xs v None = (v ≡ pos 0) × ((k : ℕ) → k < length xs → slice_index_or xs k (pos 0) ≤ℤ pos 0)
Greatest xs v (Some j) = MetFirst xs v j
