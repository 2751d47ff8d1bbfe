use Rattle.std.proofs.Common.{rules, arith, refl, ◌∙◌}
use Rattle.entries.specs.Records.{Live}
use Rattle.entries.specs.Books.{items}
use Rattle.entries.specs.Orders.{held_gap}
use Rattle.entries.proofs.Writes.{replaced_set, replaced_ordered, replaced_here, replaced_elsewhere}
use Rattle.entries.proofs.book.EntryBook.write.Goals as goal

pub invariant_of-self : goal.invariant_of-self
invariant_of-self c =
    let x = c.args.self.now in
    let live : Live c.args.e = search rules in
    let (below, at) = c.in-Ok-default.ensures in
    let o = replaced_ordered x.ordered (replaced_set (items x) c.in-Ok-default.k c.args.e (omega arith)) below at live in
    record { ordered = o }

pub insert_at-requires-clause-room : goal.insert_at-requires-clause-room
insert_at-requires-clause-room c = c.requires.room (held_gap c.args.self.now.ordered _ _ _ c.in-Err-default.ensures)

pub returns-in-Ok-default-clause-wrote : goal.returns-in-Ok-default-clause-wrote
returns-in-Ok-default-clause-wrote c =
    let x = c.args.self.now in
    let live : Live c.args.e = search rules in
    let (below, at) = c.in-Ok-default.ensures in
    let r = replaced_set (items x) c.in-Ok-default.k c.args.e (omega arith) in
    record { here = replaced_here x.ordered r below at live; elsewhere = replaced_elsewhere x.ordered r below at live }

pub returns-in-Err-eq0-clause-wrote : goal.returns-in-Err-eq0-clause-wrote
returns-in-Err-eq0-clause-wrote c =
    record { here = held_gap c.args.self.now.ordered _ _ _ c.in-Err-eq0.ensures ∙ search rules; elsewhere = λ b r ne. refl }
