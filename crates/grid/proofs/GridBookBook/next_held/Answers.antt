use Rattle.std.proofs.Common.{◌≢◌, ◌-◌, ◌*◌, pos, refl, arith, rules}
use borrow.Author.Tests.{tests}
use Rattle.std.proofs.lemmas.Iterator.{YieldsList-from_range, YieldsList-from_map, first_from_find}
use Rattle.ledger.specs.declared.books.Holding.{Holding}
use Rattle.grid.specs.Grids.{holding_at}
use Rattle.grid.proofs.Listings.{IsNone, first_listed}
use Rattle.grid.proofs.GridBookBook.next_held.Goals as goal

pub returns : goal.returns
returns c =
    let t = c.args.self.now.held in
    let end = c.rows-end.result * 64 in
    let n = end - c.args.from in
    first_listed t c.args.from n c.find.result (omega arith)
    (first_from_find _ _ c.find.result (λ (h : Holding). h.held ≢ pos 0) IsNone c.find.ensures.ran
    (YieldsList-from_map _ (holding_at t) (YieldsList-from_range c.args.from end n c.map.ensures.source refl) c.map.ensures.closure (λ x r q k. search rules))
    (λ x q k. search (rules, tests))
    (λ x q k. search (rules, tests)))
