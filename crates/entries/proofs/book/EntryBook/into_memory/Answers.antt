use Rattle.entries.proofs.Whole.{returned}
use Rattle.entries.proofs.book.EntryBook.into_memory.Goals as goal

pub returns-clause-counts : goal.returns-clause-counts
returns-clause-counts c = returned c.args.self
