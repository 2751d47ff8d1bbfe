use Rattle.std.proofs.Common.{sym, subst, arith, rules}
use Rattle.std.proofs.lemmas.Grind.{common_steps}
use Rattle.parties.specs.Tables.{InNumbers, AllNumbered, OneGroup}
use Rattle.parties.proofs.Enrolling.{numbered_push, grouped_push}
use Rattle.parties.proofs.Directory.add.Goals as goal

pub invariant_of-self-clause-numbered : goal.invariant_of-self-clause-numbered
invariant_of-self-clause-numbered c =
    let new : InNumbers c.args.entry = grind (arith, common_steps) in
    subst AllNumbered (sym c.push.ensures.items) (numbered_push c.args.self.now.entries.items c.args.entry c.args.self.now.numbered new)

pub invariant_of-self-clause-grouped : goal.invariant_of-self-clause-grouped
invariant_of-self-clause-grouped c =
    subst OneGroup (sym c.push.ensures.items) (grouped_push c.args.self.now.entries.items c.args.entry c.args.self.now.grouped (search rules))
