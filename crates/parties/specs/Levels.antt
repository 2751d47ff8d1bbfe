-- The published numbers of the levels. Assumes nothing.
use Rattle.std.specs.Prelude.{ℕ, cond, List, [], ◌∷◌, ◌==◌}
use Rattle.parties.specs.declared.level.Level.{Level}
use Rattle.parties.specs.declared.level.Level.TheVariants.{Account, Holder, Group, Participant}

abbrev pub level_number : Level → ℕ
level_number Account = 0
level_number Holder = 1
level_number Group = 2
level_number Participant = 3

-- the level of a number below 4
abbrev pub level_at : ℕ → Level
level_at n = cond (n == 0) Account (cond (n == 1) Holder (cond (n == 2) Group Participant))

-- all levels, in the order of their numbers
abbrev pub levels : List Level
levels = Account ∷ Holder ∷ Group ∷ Participant ∷ []
