use Rattle.parties.proofs.Records.{none_whole, none_proper, none_limits}
use Rattle.parties.proofs.Limits.new.Goals as goal

pub invariant_of-result : goal.invariant_of-result
invariant_of-result c = record { whole = none_whole; proper = none_proper }

pub returns : goal.returns
returns c = none_limits
