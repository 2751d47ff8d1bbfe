-- Accounts, and the parties that they belong to. Assumes nothing.
use Rattle.std.specs.Prelude.{◌≡◌, ℕ, ◌<◌, ◌≤◌, Bool, not, ◌&&◌, List, [], ◌∷◌, ◌++◌, length, Some, None, Ok, Err, Option, Result, ◌==◌, nat_lt}
use Rattle.std.specs.List.{list_any}
use Rattle.ledger.specs.Checks.{unless}
use Rattle.ledger.specs.declared.faults.Fault.{Fault}
use Rattle.ledger.specs.declared.faults.Reason.TheVariants.{DirectoryFull, Unknown, GroupClash}
use Rattle.parties.specs.declared.entry.Entry.{Entry}
use Rattle.parties.specs.declared.path.Path.{Path}
use Rattle.parties.specs.declared.level.Level.{Level}
use Rattle.parties.specs.declared.Directory.{Directory}
use Rattle.parties.specs.Paths.{party_on}
use Rattle.parties.specs.Tables.{entry_at}

-- what a directory means: the list of its accounts
abbrev pub entries_of : Directory → List Entry
entries_of d = d.entries.items

-- the path of account a
abbrev pub path_of : List Entry → ℕ → Path
path_of es a = record { account = a; entry = entry_at es a }

-- that of an added account; none for another
abbrev pub PathAt : List Entry → ℕ → Option Path → Type 0
PathAt es a (Some p) = (a < length es) × (p ≡ path_of es a)
PathAt es a None = length es ≤ a

-- the party of account a at a level
abbrev pub party : List Entry → Level → ℕ → ℕ
party es level a = party_on (path_of es a) level

-- account a is the party's
abbrev pub belongs : List Entry → Level → ℕ → ℕ → Bool
belongs es level p a = party es level a == p

-- the party of an added account, numbered 0 to 63; none for another
abbrev pub PartyAt : List Entry → Level → ℕ → Option ℕ → Type 0
PartyAt es level a (Some p) = (a < length es) × (p ≡ party es level a) × (p < 64)
PartyAt es level a None = length es ≤ a

-- holder, group and participant are numbered 0 to 63
abbrev pub numbered : Entry → Bool
numbered e = nat_lt e.holder 64 && (nat_lt e.group 64 && nat_lt e.participant 64)

-- one holder in two groups
abbrev pub clash : Entry → Entry → Bool
clash x e = x.holder == e.holder && not (x.group == e.group)

-- some account of the list has the same holder in another group
pub record Clashes (es : List Entry) (e : Entry) : Type 0 where
  pub account : ℕ
  pub within : account < length es
  pub holder : (entry_at es account).holder ≡ e.holder
  pub group : (entry_at es account).group ≡ e.group → ⊥

-- the same, as a test
abbrev pub clashes : List Entry → Entry → Bool
clashes es e = list_any (λ x. clash x e) es

-- the answer to one account more: directory full where no more are taken, then unknown, then group clash
abbrev pub enrolled : ℕ → List Entry → Entry → Result (Unit {0}) Fault
enrolled taken es e = unless (nat_lt (length es) taken && nat_lt (length es) 64) DirectoryFull (unless (numbered e) Unknown (unless (not (clashes es e)) GroupClash (Ok tt)))

-- from c to d by one account more: taken, it is the last; refused, the very directory that was there
abbrev pub Enrolled : Directory → Directory → Entry → Result (Unit {0}) Fault → Type 0
Enrolled c d e (Ok _) = entries_of d ≡ entries_of c ++ (e ∷ [])
Enrolled c d e (Err f) = d ≡ c

-- taken, no account has the holder in another group; refused for the group, some account has
abbrev pub Grouped : List Entry → Entry → Result (Unit {0}) Fault → Type 0
Grouped es e (Ok _) = Clashes es e → ⊥
Grouped es e (Err f) = f.reason ≡ GroupClash → Clashes es e
