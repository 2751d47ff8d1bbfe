use Rattle.std.proofs.Common.{rules}
use Rattle.orders.proofs.OrderLayer.rests_after.Goals as goal

pub invariant_of-rests : goal.invariant_of-rests
invariant_of-rests g c = record { near = ((search rules, search rules), (search rules, search rules)) }

pub returns-clause-buys : goal.returns-clause-buys
returns-clause-buys g c = search rules

pub returns-clause-sells : goal.returns-clause-sells
returns-clause-sells g c = search rules
