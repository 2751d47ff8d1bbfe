use Rattle.std.proofs.Common.{sym, ap, ◌∙◌, w64, SFits, rules}
use Rattle.ledger.specs.Actions.{Within}
use Rattle.ledger.specs.Books.{book_cell}
use Rattle.ledger.proofs.BookFacts.{book_ok, filled_after}
use Rattle.tables.specs.Tables.{at, rows_of}
use Rattle.grid.specs.Grids.{grid_capacity}
use Rattle.tables.proofs.Writes.{wrote_all, wrote_fits}
use Rattle.grid.proofs.GridBookLedger.instruct.Goals as goal

pub invariant_of-self : goal.invariant_of-self
invariant_of-self c =
    let t = c.args.self.now.held in
    let q = c.in_ok-quote.quote in
    let f = book_ok (rows_of t) (grid_capacity t) (at t) c.args.i q (sym c.in_ok-quote.ensures) in
    let fits : SFits w64 q.held = search rules in
    let near : Within q.held = rw f.is f.reach in
    record { near = wrote_all Within _ _ _ _ _ (wrote_fits q.held fits c.put.ensures) f.checks.series f.checks.account near c.args.self.now.near }

pub returns-clause-carried : goal.returns-clause-carried
returns-clause-carried c =
    let t = c.args.self.now.held in
    let q = c.in_ok-quote.quote in
    let f = book_ok (rows_of t) (grid_capacity t) (at t) c.args.i q (sym c.in_ok-quote.ensures) in
    let fits : SFits w64 q.held = search rules in
    let w = wrote_fits q.held fits c.put.ensures in
    record {
      answer = c.in_ok-quote.ensures;
      left = record {
        here = ap book_cell (w.here f.checks.series f.checks.account) ∙ filled_after _ _ _ c.args.i q f;
        elsewhere = λ a s ne. ap book_cell (w.elsewhere a s ne);
      };
      taken = w.untouched.rows;
    }
