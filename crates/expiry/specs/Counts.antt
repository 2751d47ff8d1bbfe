-- The counts of a party in the series of a class, and what is received with them. Assumes nothing.
use Rattle.std.specs.Prelude.{ℕ, ℤ}
use Rattle.expiry.specs.declared.flows.Counts.{Counts}
use Rattle.expiry.specs.Expiry.{receipt}
use Rattle.expiry.specs.Quantities.{at, calls_puts, price_at}

-- the counts, by series
abbrev pub counts_of : Counts → ℕ → ℤ
counts_of c = calls_puts (at c.calls.now) (at c.puts.now)

-- the receipt at the listed price of a place
abbrev pub receipt_at : Counts → ℕ → ℤ
receipt_at c place = receipt c.strikes.now (counts_of c) (price_at c.strikes.now place) 2
