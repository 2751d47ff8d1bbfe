use Rattle.std.proofs.Common.{◌≡◌, false, ◌∙◌, rules}
use Rattle.ledger.specs.Books.{filled}
use Rattle.tables.specs.Tables.{at, rows_of}
use Rattle.grid.specs.GridsLemmas.{never_full}
use Rattle.grid.proofs.GridBookLedger.quote.Goals as goal

pub returns : goal.returns
returns c =
    let t = c.args.self.now.held in
    let i = c.args.i in
    let asked : c.fill_quote.result ≡ filled (rows_of t) (at t i.account i.series) false i = search rules in
    asked ∙ never_full t i
