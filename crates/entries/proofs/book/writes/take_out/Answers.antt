use Rattle.std.proofs.Common.{rules}
use Rattle.std.proofs.lemmas.List.{places}
use Rattle.entries.proofs.book.writes.take_out.Goals as goal

pub returns : goal.returns
returns c = let down = c.rotate_left.ensures.by_index in search (rules, places, down.0, down.1)
