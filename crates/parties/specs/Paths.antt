-- The parties that an account belongs to. Assumes nothing.
use Rattle.std.specs.Prelude.{ℕ}
use Rattle.parties.specs.declared.path.Path.{Path}
use Rattle.parties.specs.declared.level.Level.{Level}
use Rattle.parties.specs.declared.level.Level.TheVariants.{Account, Holder, Group, Participant}

-- the party at a level of a path
abbrev pub party_on : Path → Level → ℕ
party_on p Account = p.account
party_on p Holder = p.entry.holder
party_on p Group = p.entry.group
party_on p Participant = p.entry.participant
