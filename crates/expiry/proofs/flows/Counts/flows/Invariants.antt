use Rattle.std.proofs.Common.{◌≡◌, ◌-◌, take}
use Rattle.expiry.specs.Quantities.{flows}
use Rattle.expiry.specs.Counts.{counts_of, receipt_at}
use Rattle.expiry.proofs.flows.Counts.flows.Given as goal

abbrev pub invariant-loop-place : goal.invariant-loop-place
invariant-loop-place l =
    (l.receipt ≡ receipt_at l.self (l.place - 1)) × (l.flows.items ≡ take l.place (flows l.side l.self.strikes.now (counts_of l.self)))
