use Rattle.std.proofs.Common.{◌≡◌, sym, ap, ◌∙◌, rules, arith, w64, to_z, of_z}
use Rattle.std.proofs.lemmas.Int.{to_z-of_z}
use Rattle.parties.specs.Tables.{limiting}
use Rattle.parties.proofs.Records.{limits_set, whole_set, proper_set}
use Rattle.parties.proofs.Limits.set.Goals as goal

pub invariant_of-self : goal.invariant_of-self
invariant_of-self c =
    let l = c.args.self.now in
    let same : to_z w64 (of_z w64 c.args.limit) ≡ c.args.limit = to_z-of_z w64 c.args.limit c.ranges.limit in
    record {
      whole = whole_set l.records l.whole c.args.level c.from.result c.args.party c.from.ensures (omega arith) c.args.side c.args.limit _ (search (rules, same));
      proper = proper_set l.records l.whole c.args.level c.from.result c.args.party c.from.ensures (omega arith) c.args.side c.args.limit _ (search (rules, same)) l.proper (ap limiting (sym same) ∙ sym c.if-not-is_limit.ensures);
    }

pub returns-clause-left : goal.returns-clause-left
returns-clause-left c =
    let l = c.args.self.now in
    let same : to_z w64 (of_z w64 c.args.limit) ≡ c.args.limit = to_z-of_z w64 c.args.limit c.ranges.limit in
    limits_set l.records l.whole c.args.level c.from.result c.args.party c.from.ensures (omega arith) c.args.side c.args.limit _ (search (rules, same))
