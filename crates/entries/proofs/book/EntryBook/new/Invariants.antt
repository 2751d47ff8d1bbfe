use Rattle.std.proofs.Common.{◌≡◌, ℕ, ◌<◌, ◌≤◌}
use Rattle.entries.specs.Records.{nth}
use Rattle.entries.specs.Books.{freed}
use Rattle.entries.proofs.book.EntryBook.new.Given as goal

abbrev pub invariant-loop-e : goal.invariant-loop-e
invariant-loop-e l =
    ((j : ℕ) → j < l.e-index → nth l.e-items j ≡ freed (nth l.initial.e-items j))
    × ((j : ℕ) → l.e-index ≤ j → nth l.e-items j ≡ nth l.initial.e-items j)
