-- Strikes, and what holds of those of a class. Assumes nothing.
use Rattle.std.specs.Prelude.{ℕ, ◌<◌, ◌≤◌, List, map, length, slice_index_or}
use Rattle.strikes.specs.declared.strike.Strike.{Strike}

-- what is read past the last strike
abbrev pub no_strike : Strike
no_strike = record { price = 0; size = 0 }

abbrev pub strike_at : List Strike → ℕ → Strike
strike_at ss i = slice_index_or ss i no_strike

abbrev pub prices : List Strike → List ℕ
prices ss = map (λ s. s.price) ss

-- a price of 1 to 10,000,000 with a size of 1 to 10,000 units
abbrev pub Proper : Strike → Type 0
Proper s = (1 ≤ s.price) × (s.price ≤ 10000000) × (1 ≤ s.size) × (s.size ≤ 10000)

-- the strikes of a class: at most 32, each proper, in rising order of price
pub record Lawful (ss : List Strike) : Type 0 where
  pub few : length ss ≤ 32
  pub proper : (i : ℕ) → i < length ss → Proper (strike_at ss i)
  pub rises : (i j : ℕ) → i < j → j < length ss → (strike_at ss i).price < (strike_at ss j).price
