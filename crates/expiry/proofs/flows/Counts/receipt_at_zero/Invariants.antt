use Rattle.std.proofs.Common.{◌≡◌}
use Rattle.expiry.specs.Quantities.{at}
use Rattle.expiry.proofs.Levels.{puts_to}
use Rattle.expiry.proofs.flows.Counts.receipt_at_zero.Given as goal

abbrev pub invariant-loop-i : goal.invariant-loop-i
invariant-loop-i l = l.receipt ≡ puts_to l.strikes (at l.puts) l.i
