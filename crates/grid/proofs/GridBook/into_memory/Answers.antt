use Rattle.std.proofs.Common.{get_or, pos, sym, ap, ◌∙◌}
use Rattle.ledger.specs.Listing.{place}
use Rattle.tables.specs.Tables.{items, rows_of}
use Rattle.tables.proofs.Rows.{number_in}
use Rattle.grid.proofs.GridBook.into_memory.Goals as goal

pub returns : goal.returns
returns c =
    let t = c.args.self.held in
    record {
      whole = c.into_memory.ensures;
      counts = λ a s p q. ap (λ xs. get_or xs (place a s) (pos 0)) c.into_memory.ensures ∙ sym (number_in (items t) (rows_of t) a s q p);
    }
