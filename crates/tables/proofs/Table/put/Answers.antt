use Rattle.std.proofs.Common.{rules}
use Rattle.std.proofs.lemmas.List.{places}
use Rattle.tables.proofs.Rows.{number_set_same, number_set_other}
use Rattle.tables.proofs.Table.put.Goals as goal

pub returns-in-Some : goal.returns-in-Some
returns-in-Some c =
    let at = c.in-Some.ensures.there in
    record {
      here = λ l m. rw at.2 (search (rules, number_set_same));
      elsewhere = λ b r ne. rw at.2 (number_set_other _ _ _ _ b r _ at.0 ne);
      untouched = search (rules, places);
    }
