-- The numbers of the levels. Assumes nothing.
use Rattle.std.proofs.Common.{◌≡◌, ◌<◌, get_or, refl, arith}
use Rattle.parties.specs.declared.level.Level.{Level}
use Rattle.parties.specs.declared.level.Level.TheVariants.{Account, Holder, Group, Participant}
use Rattle.parties.specs.Levels.{level_number, level_at, levels}

-- there are four levels
pub level_below : (l : Level) → level_number l < 4
level_below Account = omega arith
level_below Holder = omega arith
level_below Group = omega arith
level_below Participant = omega arith

-- a level is the one of its number
pub level_back : (l : Level) → level_at (level_number l) ≡ l
level_back Account = refl
level_back Holder = refl
level_back Group = refl
level_back Participant = refl

-- and stands there in the list of all
pub level_there : (l : Level) → get_or levels (level_number l) Account ≡ l
level_there Account = refl
level_there Holder = refl
level_there Group = refl
level_there Participant = refl
