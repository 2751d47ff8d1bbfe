use Rattle.std.proofs.Common.{sym, ◌∙◌, inl, inr, ⊎_elim, get_or-take, w64, SFits, rules}
use Rattle.std.proofs.lemmas.Int.{to_z-of_z}
use Rattle.entries.specs.Records.{blank, nth}
use Rattle.entries.specs.Books.{items}
use Rattle.entries.specs.Orders.{held_live, held_gap, held_beyond}
use Rattle.entries.proofs.book.EntryBook.count.Goals as goal

pub returns-then-account-ge-WIDTH : goal.returns-then-account-ge-WIDTH
returns-then-account-ge-WIDTH c = sym (held_beyond c.args.self.now.ordered _ _ (⊎_elim (λ a. inl a) (λ s. inr s.1) c.then-account-ge-WIDTH.either))

pub returns-in-Ok : goal.returns-in-Ok
returns-in-Ok c =
    let x = c.args.self.now in
    let (below, at) = c.in-Ok.ensures in
    let fits : SFits w64 (nth (items x) c.in-Ok.k).held = search rules in
    rw (c.held.ensures, get_or-take x.live (items x) c.in-Ok.k blank below) (to_z-of_z w64 _ fits ∙ sym (held_live x.ordered _ _ _ c.if-series-ge-WIDTH.false below at))

pub returns-in-Err : goal.returns-in-Err
returns-in-Err c = sym (held_gap c.args.self.now.ordered _ _ _ c.in-Err.ensures)
