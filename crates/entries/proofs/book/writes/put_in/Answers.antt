use Rattle.std.proofs.Common.{rules}
use Rattle.std.proofs.lemmas.List.{places}
use Rattle.entries.proofs.book.writes.put_in.Goals as goal

pub returns : goal.returns
returns c = let up = c.rotate_right.ensures.by_index in search (rules, places, up.0, up.1)
