use Rattle.std.proofs.Common.{◌≡◌, arith}
use Rattle.std.specs.List.{slice_get}
use Rattle.std.proofs.lemmas.Grind.{common_steps}
use Rattle.std.proofs.lemmas.Option.{gets}
use Rattle.entries.specs.Records.{Parts}
use Rattle.entries.specs.Books.{items}
use Rattle.entries.proofs.Searches.{parted_at, parted_gap}
use Rattle.entries.proofs.Whole.{first_held}
use Rattle.entries.proofs.book.carries.EntryBookBook.next_held.Goals as goal
use Rattle.entries.proofs.book.carries.EntryBookBook.next_held.Goals.{in-Ok, in-Ok-2}

pub returns : goal.returns
returns c =
    let x = c.args.self.now in
    let read : c.copied.result ≡ slice_get c.held.result.now c.match-find.k = grind (arith, common_steps, gets) in
    let parts : Parts (items x) x.live c.args.from c.match-find.k = elim c.match-find.branch [
      | in-Ok w ↦ rw w.k-is (parted_at x.ordered.rises w.in-Ok.ensures.0 (omega (arith, w.in-Ok.ensures.1)))
      | in-Ok-2 w ↦ rw w.k-is (parted_gap (omega arith) w.in-Ok.ensures)
    ] in
    rw (read, c.held.ensures) (first_held x c.args.from c.match-find.k parts)
