use Rattle.std.proofs.Common.{sym, refl, ap, ◌∙◌, w64, SFits, rules}
use Rattle.std.proofs.lemmas.Int.{to_z-of_z}
use Rattle.ledger.specs.Actions.{Within}
use Rattle.ledger.specs.Books.{book_cell}
use Rattle.ledger.proofs.BookFacts.{book_ok, filled_after}
use Rattle.entries.specs.Books.{held_at, capacity_of}
use Rattle.entries.proofs.Whole.{has_room}
use Rattle.entries.proofs.book.carries.EntryBookLedger.instruct.Goals as goal

pub write-requires-clause-within : goal.write-requires-clause-within
write-requires-clause-within c =
    let x = c.args.self.now in
    let q = c.in_ok-quote.quote in
    let f = book_ok 64 (capacity_of x) (held_at x) c.args.i q (sym c.in_ok-quote.ensures) in
    let near : Within q.held = rw f.is f.reach in
    search (rules, near)

pub write-requires-clause-room : goal.write-requires-clause-room
write-requires-clause-room c =
    let x = c.args.self.now in
    has_room x c.args.i (book_ok 64 (capacity_of x) (held_at x) c.args.i c.in_ok-quote.quote (sym c.in_ok-quote.ensures)).room

pub returns-clause-carried : goal.returns-clause-carried
returns-clause-carried c =
    let x = c.args.self.now in
    let q = c.in_ok-quote.quote in
    let e = c.in_ok-quote.ensures in
    let f = book_ok 64 (capacity_of x) (held_at x) c.args.i q (sym e) in
    let fits : SFits w64 q.held = search rules in
    let w = c.write.ensures.wrote in
    record {
      answer = e;
      left = record {
        here = ap book_cell (w.here ∙ to_z-of_z w64 _ fits) ∙ filled_after 64 (capacity_of x) (held_at x) c.args.i q f;
        elsewhere = λ a s ne. ap book_cell (w.elsewhere a s ne);
      };
      taken = refl;
    }
