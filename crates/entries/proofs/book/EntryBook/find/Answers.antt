use Rattle.std.proofs.Common.{rules, arith}
use Rattle.std.proofs.lemmas.List.Sorted.{answers_always}
use Rattle.entries.specs.Records.{wrapped_place}
use Rattle.entries.specs.Books.{items}
use Rattle.entries.proofs.Searches.{searched}
use Rattle.entries.proofs.book.EntryBook.find.Goals as goal

-- the key is the place of a record
pub returns : goal.returns
returns c =
    let x = c.args.self.now in
    let facts = c.binary_search_by_key.ensures in
    let by_key = facts.position wrapped_place (answers_always _ _ _ (λ f a r g called. search rules)) in
    searched (items x) x.live c.args.account c.args.series (omega arith) x.ordered.rises x.ordered.known c.requires.1 _ (rw (← c.held.ensures) facts.bound) (rw (← c.held.ensures) by_key)
