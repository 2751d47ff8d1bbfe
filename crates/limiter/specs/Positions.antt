-- The ranges in which counts may end, and what they come to for a party. Assumes nothing.
use Rattle.std.specs.Prelude.{◌≡◌, ℕ, ◌<◌, cond, ◌⊎◌, List, length, ℤ, pos, ◌≤ℤ◌, Some, None, Option}
use Rattle.ledger.specs.declared.cells.Quote.{Quote}
use Rattle.ledger.specs.Cells.{standing}
use Rattle.ledger.specs.Meanings.{Meaning}
use Rattle.strikes.specs.declared.strike.Strike.{Strike}
use Rattle.strikes.specs.Strikes.{prices}
use Rattle.strikes.specs.Listed.{listed}
use Rattle.expiry.specs.declared.side.Side.{Side}
use Rattle.expiry.specs.declared.quantity.Quantity.{Quantity}
use Rattle.expiry.specs.Expiry.{sum_to, receipt}
use Rattle.expiry.specs.Quantities.{flow, flows, extreme, price_at, quantity, Greatest}
use Rattle.parties.specs.declared.entry.Entry.{Entry}
use Rattle.parties.specs.declared.level.Level.{Level}
use Rattle.parties.specs.Directories.{belongs}
use Rattle.limiter.specs.Changes.{Change, at_cell}
use Rattle.limiter.specs.States.{State}

-- a number for each account and series
abbrev pub Counts : Type 0
Counts = ℕ → ℕ → ℤ

-- strikes, accounts, and the range of each cell
pub record Positions : Type 0 where
  pub strikes : List Strike
  pub entries : List Entry
  pub low : Counts
  pub high : Counts

-- the quote of each cell, as it stands or after a change
abbrev pub quotes : Meaning → Option Change → ℕ → ℕ → Quote
quotes m None a s = standing (m.cell a s)
quotes m (Some k) a s = cond (at_cell k a s) k.quote (standing (m.cell a s))

-- its low and its high
abbrev pub lows : Meaning → Option Change → Counts
lows m k a s = (quotes m k a s).low

abbrev pub highs : Meaning → Option Change → Counts
highs m k a s = (quotes m k a s).high

-- the positions of a state, as they stand or after a change
abbrev pub positions : {X : Type 0} → (X → Meaning) → State X → Option Change → Positions
positions meaning s k = record { strikes = s.strikes; entries = s.entries; low = lows (meaning s.ledger) k; high = highs (meaning s.ledger) k }

-- what account a adds to the party's number in a series: its own where it is the party's, or 0
abbrev pub share : List Entry → Level → ℕ → Counts → ℕ → ℕ → ℤ
share es level p x s a = cond (belongs es level p a) (x a s) (pos 0)

-- a number for each account and series, summed over the party's accounts
abbrev pub summed : List Entry → Level → ℕ → Counts → ℕ → ℤ
summed es level p x s = sum_to (share es level p x s) (length es)

-- the party's net receipt of the counts x at the price m/n: that of its accounts together
unfoldable pub net_receipt : Positions → Level → ℕ → Counts → ℕ → ℕ → ℤ
net_receipt o level p x m n = sum_to (λ a. cond (belongs o.entries level p a) (receipt o.strikes (x a) m n) (pos 0)) (length o.entries)

-- a count of each cell within its range
abbrev pub Possible : Positions → Counts → Type 0
Possible o x = (a s : ℕ) → (o.low a s ≤ℤ x a s) × (x a s ≤ℤ o.high a s)

-- no possible count passes v on the side, at any price
abbrev pub Covered : Positions → Level → ℕ → Side → ℤ → Type 0
Covered o level p side v = (m n : ℕ) → 0 < n → (x : Counts) → Possible o x → flow side (net_receipt o level p x m n) ≤ℤ v

-- at a listed price some possible count meets v on the side
pub record MetBy (o : Positions) (level : Level) (p : ℕ) (side : Side) (v : ℤ) : Type 0 where
  pub place : ℕ
  pub counts : Counts
  pub within : place < length (listed (prices o.strikes))
  pub possible : Possible o counts
  pub meets : flow side (net_receipt o level p counts (price_at o.strikes place) 2) ≡ v

abbrev pub ZeroOrMet : Positions → Level → ℕ → Side → ℤ → Type 0
ZeroOrMet o level p side v = (v ≡ pos 0) ⊎ MetBy o level p side v

-- the party's flows at the listed prices, of the counts that the side looks at
abbrev pub party_flows : Positions → Level → ℕ → Side → List ℤ
party_flows o level p side = flows side o.strikes (extreme side (summed o.entries level p o.low) (summed o.entries level p o.high))

-- the party's quantity on a side
unfoldable pub quantity_of : Positions → Level → ℕ → Side → ℤ
quantity_of o level p side = quantity side o.strikes (summed o.entries level p o.low) (summed o.entries level p o.high)

-- the quantity that is answered: its value, and the first listed price that meets it where it is above 0
pub record Told (o : Positions) (level : Level) (p : ℕ) (side : Side) (q : Quantity) : Type 0 where
  pub value : q.value ≡ quantity_of o level p side
  pub greatest : Greatest (party_flows o level p side) q.value q.place
