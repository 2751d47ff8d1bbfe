-- A class by its strikes, and how it is extended. Assumes nothing.
use Rattle.std.specs.Prelude.{◌≡◌, ℕ, ◌-◌, Bool, ◌&&◌, List, [], ◌∷◌, ◌++◌, length, Ok, Err, Result, nat_le, nat_lt}
use Rattle.ledger.specs.Checks.{unless}
use Rattle.ledger.specs.declared.faults.Fault.{Fault}
use Rattle.ledger.specs.declared.faults.Reason.TheVariants.{ClassFull, Strike as StrikeReason}
use Rattle.strikes.specs.declared.strike.Strike.{Strike}
use Rattle.strikes.specs.declared.Class.{Class}
use Rattle.strikes.specs.Strikes.{strike_at}

-- what a class means: the list of its strikes
abbrev pub strikes_of : Class → List Strike
strikes_of c = c.strikes.items

-- the price of the last strike, 0 where there is none
abbrev pub highest : List Strike → ℕ
highest ss = (strike_at ss (length ss - 1)).price

-- price and size in range, and the price above the last
abbrev pub comes_next : List Strike → ℕ → ℕ → Bool
comes_next ss price size = nat_le 1 price && (nat_le price 10000000 && (nat_le 1 size && (nat_le size 10000 && nat_lt (highest ss) price)))

-- the answer to one strike more: class full for a 33rd, then strike for one that may not come next
abbrev pub extended : List Strike → ℕ → ℕ → Result (Unit {0}) Fault
extended ss price size = unless (nat_lt (length ss) 32) ClassFull (unless (comes_next ss price size) StrikeReason (Ok tt))

-- from c to d by one strike more: taken, it is the last; refused, the very class that was there
abbrev pub Extended : Class → Class → ℕ → ℕ → Result (Unit {0}) Fault → Type 0
Extended c d price size (Ok _) = strikes_of d ≡ strikes_of c ++ (record { price = price; size = size } ∷ [])
Extended c d price size (Err f) = d ≡ c
