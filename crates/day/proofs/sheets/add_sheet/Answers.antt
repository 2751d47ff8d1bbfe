use Rattle.std.proofs.Common.{length, sym, ap, subst, arith}
use Rattle.ledger.specs.Listing.{Held}
use Rattle.day.specs.Sheets.{nth}
use Rattle.day.proofs.Listings.{adds_next}
use Rattle.day.proofs.sheets.add_sheet.Goals as goal

pub loop-h-preserved : goal.loop-h-preserved
loop-h-preserved g c =
    let held = c.deref-h-items.result.now in
    let k = c.loop-h.h-index in
    let same = c.deref-h-items.ensures.value in
    let there = c.loop-h-test.true in
    let h = subst (λ hs. Held (g.B.Ledger.meaning c.args.book.now).cell (nth hs k)) (sym same) (c.in_ok-holdings.ensures.held k (omega (arith, ap length same))) in
    adds_next held k _ _ _ _ c.sheet_line.result there c.loop-h.invariant (c.sheet_line.ensures.line (let s = h.series in omega arith)) c.in_ok-push.ensures.items
