use Rattle.std.proofs.Common.{◌-◌, arith}
use Rattle.std.proofs.lemmas.List.{with_items_is}
use Rattle.entries.proofs.Writes.{inserted_ordered, inserted_here, inserted_elsewhere}
use Rattle.entries.proofs.book.EntryBook.insert_at.Goals as goal

pub invariant_of-self : goal.invariant_of-self
invariant_of-self c =
    let x = c.args.self.now in
    let same = with_items_is x.records c.put_in.new.records (omega arith) in
    let o = inserted_ordered {last = c.capacity-last.result - 1} x.ordered (rw same (rw c.deref_mut.ensures.value at c.put_in.ensures)) c.requires.gap c.requires.room (omega (arith, c.capacity-last.ensures)) c.requires.live in
    record { ordered = o }

pub returns-clause-placed : goal.returns-clause-placed
returns-clause-placed c =
    let x = c.args.self.now in
    rw (with_items_is x.records c.put_in.new.records (omega arith), ← c.capacity-last.ensures) (rw c.deref_mut.ensures.value at c.put_in.ensures)

pub returns-clause-wrote : goal.returns-clause-wrote
returns-clause-wrote c =
    let x = c.args.self.now in
    let same = with_items_is x.records c.put_in.new.records (omega arith) in
    let i = rw c.deref_mut.ensures.value at c.put_in.ensures in
    record {
      here = rw same (inserted_here x.ordered i c.requires.gap c.requires.room (omega (arith, c.capacity-last.ensures)) c.requires.live);
      elsewhere = rw same (inserted_elsewhere x.ordered i c.requires.gap c.requires.room (omega (arith, c.capacity-last.ensures)) c.requires.live);
    }
