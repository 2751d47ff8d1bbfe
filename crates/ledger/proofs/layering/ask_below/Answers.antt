use Rattle.std.proofs.Common.{Some, arith}
use Rattle.std.proofs.lemmas.Grind.{common_steps}
use Rattle.ledger.proofs.Below.{answer_ranged}
use Rattle.ledger.proofs.layering.ask_below.Goals as goal

pub returns-in-Some-clause-ranged : goal.returns-in-Some-clause-ranged
returns-in-Some-clause-ranged g c =
    answer_ranged _ (g.met.L.Ledger.lawful c.args.below.now) c.args.account c.args.series (Some c.in-Some.j) _ (grind (arith, common_steps))
