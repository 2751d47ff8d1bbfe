use Rattle.std.proofs.Common.{◌≡◌, pos, rules}
use Rattle.entries.specs.Orders.{held_all}
use Rattle.entries.proofs.book.EntryBook.is_full.Goals as goal

pub returns-then-held-eq0 : goal.returns-then-held-eq0
returns-then-held-eq0 c =
    let x = c.args.self.now in
    let zero : pos 0 ≡ c.args.held = search rules in
    rw (c.capacity.ensures, ← zero, held_all x.ordered)
