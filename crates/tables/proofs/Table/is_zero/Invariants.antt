use Rattle.std.proofs.Common.{◌≡◌, ℕ, ◌<◌, get_or, pos, vec_items}
use Rattle.tables.proofs.Table.is_zero.Given as goal

abbrev pub invariant-loop-n : goal.invariant-loop-n
invariant-loop-n l = (j : ℕ) → j < l.n-index → get_or (vec_items l.self.numbers) j (pos 0) ≡ pos 0
