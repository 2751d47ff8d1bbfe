use Rattle.std.proofs.Common.{rules}
use Rattle.std.proofs.lemmas.List.{places}
use Rattle.tables.proofs.Rows.{number_zero}
use Rattle.tables.proofs.Table.over.Goals as goal

pub returns : goal.returns
returns c =
    let zeros = c.fill.ensures.after (λ y e. e) in
    record {
      long = search (rules, places);
      rows = search (rules, places);
      zero = λ a s. number_zero _ _ a s (λ k h. search (rules, places, zeros));
      past = λ k h. search (rules, places, zeros);
    }
