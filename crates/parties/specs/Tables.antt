-- What holds of the tables of accounts and limits. Assumes nothing.
use Rattle.std.specs.Prelude.{◌≡◌, ℕ, ◌<◌, Bool, true, ◌&&◌, List, [], ℤ, pos, length, Some, None, Option, int_le, slice_index_or}
use Rattle.parties.specs.declared.entry.Entry.{Entry}
use Rattle.expiry.specs.declared.side.Side.{Side}
use Rattle.expiry.specs.declared.side.BySide.{BySide}
use Rattle.expiry.specs.Sides.{on_side}

-- what is read past the last account
abbrev pub no_entry : Entry
no_entry = record { holder = 0; group = 0; participant = 0 }

abbrev pub entry_at : List Entry → ℕ → Entry
entry_at es a = slice_index_or es a no_entry

-- holder, group and participant are numbered 0 to 63
abbrev pub InNumbers : Entry → Type 0
InNumbers e = (e.holder < 64) × (e.group < 64) × (e.participant < 64)

abbrev pub AllNumbered : List Entry → Type 0
AllNumbered es = (a : ℕ) → InNumbers (entry_at es a)

-- a holder stays in one group
abbrev pub OneGroup : List Entry → Type 0
OneGroup es = (a b : ℕ) → a < length es → b < length es → (entry_at es a).holder ≡ (entry_at es b).holder → (entry_at es a).group ≡ (entry_at es b).group

-- a limit is 0 to 10^17
abbrev pub limiting : ℤ → Bool
limiting m = int_le (pos 0) m && int_le m (pos 100000000000000000)

-- missing, or in its range
abbrev pub proper : Option ℤ → Bool
proper None = true
proper (Some m) = limiting m

-- the limits of one party, each missing until it is set
abbrev pub LimitRecord : Type 0
LimitRecord = BySide (Option ℤ)

-- what is read past the last record
abbrev pub no_record : LimitRecord
no_record = record { long = None; short = None }

-- the record of the party p at the level with that number
abbrev pub record_at : List (List LimitRecord) → ℕ → ℕ → LimitRecord
record_at rs n p = slice_index_or (slice_index_or rs n []) p no_record

-- four levels of 64 parties
abbrev pub IsWhole : List (List LimitRecord) → Type 0
IsWhole rs = (length rs ≡ 4) × ((n : ℕ) → n < 4 → length (slice_index_or rs n []) ≡ 64)

abbrev pub AllProper : List (List LimitRecord) → Type 0
AllProper rs = (n p : ℕ) (side : Side) → proper (on_side (record_at rs n p) side) ≡ true
