use Rattle.std.proofs.Common.{◌-◌, arith}
use Rattle.std.proofs.lemmas.List.{with_items_is}
use Rattle.entries.proofs.Writes.{removed_ordered, removed_here, removed_elsewhere}
use Rattle.entries.proofs.book.EntryBook.remove_at.Goals as goal

pub invariant_of-self : goal.invariant_of-self
invariant_of-self c =
    let x = c.args.self.now in
    let same = with_items_is x.records c.take_out.new.records (omega arith) in
    let o = removed_ordered {last = c.capacity-last.result - 1} x.ordered (rw same (rw c.deref_mut.ensures.value at c.take_out.ensures)) c.requires (omega (arith, c.capacity-last.ensures)) in
    record { ordered = o }

pub returns-clause-freed : goal.returns-clause-freed
returns-clause-freed c =
    let x = c.args.self.now in
    rw (with_items_is x.records c.take_out.new.records (omega arith), ← c.capacity-last.ensures) (rw c.deref_mut.ensures.value at c.take_out.ensures)

pub returns-clause-wrote : goal.returns-clause-wrote
returns-clause-wrote c =
    let x = c.args.self.now in
    let same = with_items_is x.records c.take_out.new.records (omega arith) in
    let i = rw c.deref_mut.ensures.value at c.take_out.ensures in
    record {
      here = rw same (removed_here x.ordered i c.requires (omega (arith, c.capacity-last.ensures)));
      elsewhere = rw same (removed_elsewhere x.ordered i c.requires (omega (arith, c.capacity-last.ensures)));
    }
