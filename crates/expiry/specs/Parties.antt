-- What the quantities mean for a party of many accounts. Assumes nothing.
use Rattle.std.specs.Prelude.{◌≡◌, ℕ, ◌*◌, ◌<◌, List, length, ℤ, pos, ◌≤ℤ◌, Some, None, Option}
use Rattle.strikes.specs.declared.strike.Strike.{Strike}
use Rattle.strikes.specs.Strikes.{prices}
use Rattle.strikes.specs.Listed.{listed}
use Rattle.expiry.specs.declared.side.Side.{Side}
use Rattle.expiry.specs.declared.side.Side.TheVariants.{Long, Short}
use Rattle.expiry.specs.declared.quantity.Quantity.{Quantity}
use Rattle.expiry.specs.declared.side.BySide.{BySide}
use Rattle.expiry.specs.Expiry.{sum_to, receipt}
use Rattle.expiry.specs.Quantities.{flow, price_at, quantity}

-- a list of accounts: how many, and the range of the count of each in each series
pub record Party : Type 0 where
  pub accounts : ℕ
  pub low : ℕ → ℕ → ℤ
  pub high : ℕ → ℕ → ℤ

-- a number for each account and series, summed over the accounts
abbrev pub summed : ℕ → (ℕ → ℕ → ℤ) → ℕ → ℤ
summed accounts x s = sum_to (λ a. x a s) accounts

-- the party's lows and highs sum, series by series, to low and high, and each low is at most its high
pub record PartyOf (ss : List Strike) (low high : ℕ → ℤ) (party : Party) : Type 0 where
  pub lows : (s : ℕ) → s < 2 * length ss → summed party.accounts party.low s ≡ low s
  pub highs : (s : ℕ) → s < 2 * length ss → summed party.accounts party.high s ≡ high s
  pub ranged : (a s : ℕ) → a < party.accounts → s < 2 * length ss → party.low a s ≤ℤ party.high a s

-- counts for each account and series, each within its own range
abbrev pub Possible : List Strike → Party → (ℕ → ℕ → ℤ) → Type 0
Possible ss party x = (a s : ℕ) → a < party.accounts → s < 2 * length ss → (party.low a s ≤ℤ x a s) × (x a s ≤ℤ party.high a s)

-- the net receipt of the party: that of all its accounts
abbrev pub party_receipt : List Strike → Party → (ℕ → ℕ → ℤ) → ℕ → ℕ → ℤ
party_receipt ss party x p q = sum_to (λ a. receipt ss (x a) p q) party.accounts

-- no possible counts pass v at any price
abbrev pub Covers : Side → List Strike → Party → ℤ → Type 0
Covers side ss party v = (p q : ℕ) → 0 < q → (x : ℕ → ℕ → ℤ) → Possible ss party x → flow side (party_receipt ss party x p q) ≤ℤ v

-- some possible counts meet v at the listed price of a place
pub record MetAt (side : Side) (ss : List Strike) (party : Party) (v : ℤ) (place : ℕ) : Type 0 where
  pub within : place < length (listed (prices ss))
  pub counts : ℕ → ℕ → ℤ
  pub possible : Possible ss party counts
  pub meets : flow side (party_receipt ss party counts (price_at ss place) 2) ≡ v

-- 0 where there is no place, and met at the place otherwise
abbrev pub Met : Side → List Strike → Party → ℤ → Option ℕ → Type 0
Met side ss party v None = v ≡ pos 0
Met side ss party v (Some place) = MetAt side ss party v place

-- a quantity is exact for a party: nothing possible passes it, and it is 0 or met
pub record Exact (side : Side) (ss : List Strike) (party : Party) (q : Quantity) : Type 0 where
  pub covers : Covers side ss party q.value
  pub met : Met side ss party q.value q.place

-- both quantities are exact for every party whose ranges sum to low and high
pub record ExactForAll (ss : List Strike) (low high : ℕ → ℤ) (r : BySide Quantity) : Type 0 where
  pub long : (party : Party) → PartyOf ss low high party → Exact Long ss party r.long
  pub short : (party : Party) → PartyOf ss low high party → Exact Short ss party r.short

-- in each series the range from low to high lies inside the other
pub record Inside (ss : List Strike) (low high other_low other_high : ℕ → ℤ) : Type 0 where
  pub lows : (s : ℕ) → s < 2 * length ss → other_low s ≤ℤ low s
  pub highs : (s : ℕ) → s < 2 * length ss → high s ≤ℤ other_high s

-- ranges that lie around others have quantities no smaller
pub record Monotone (ss : List Strike) (low high : ℕ → ℤ) (r : BySide Quantity) : Type 0 where
  pub long : (other_low other_high : ℕ → ℤ) → Inside ss low high other_low other_high → r.long.value ≤ℤ quantity Long ss other_low other_high
  pub short : (other_low other_high : ℕ → ℤ) → Inside ss low high other_low other_high → r.short.value ≤ℤ quantity Short ss other_low other_high
