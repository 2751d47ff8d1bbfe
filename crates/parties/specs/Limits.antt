-- The limits of parties. Assumes nothing.
use Rattle.std.specs.Prelude.{◌≡◌, ℕ, cond, ◌&&◌, List, ℤ, Some, None, Ok, Err, Option, Result, ◌==◌, nat_lt}
use Rattle.ledger.specs.Checks.{unless}
use Rattle.ledger.specs.declared.faults.Fault.{Fault}
use Rattle.ledger.specs.declared.faults.Reason.TheVariants.{Unknown, Amount}
use Rattle.expiry.specs.declared.side.Side.{Side}
use Rattle.expiry.specs.Sides.{side_number, on_side}
use Rattle.parties.specs.declared.level.Level.{Level}
use Rattle.parties.specs.declared.Limits.{Limits}
use Rattle.parties.specs.Levels.{level_number}
use Rattle.parties.specs.Tables.{LimitRecord, record_at, limiting}

-- the limit of each party on each side, if it was set
abbrev pub Limiting : Type 0
Limiting = Level → ℕ → Side → Option ℤ

-- every limit is missing
abbrev pub none_set : Limiting
none_set level p side = None

-- what the records of a table mean; a party above 63 has no limit
abbrev pub limits_in : List (List LimitRecord) → Limiting
limits_in rs level p side = cond (nat_lt p 64) (on_side (record_at rs (level_number level) p) side) None

abbrev pub limits_of : Limits → Limiting
limits_of l = limits_in l.records

-- one limit set: of the party p of the level with that number, on the side with that number
abbrev pub with_limit : Limiting → ℕ → ℕ → ℕ → ℤ → Limiting
with_limit limits level p side m l q d = cond (level_number l == level && (q == p && side_number d == side)) (Some m) (limits l q d)

-- the answer to a limit: unknown for a party above 63, then amount for a limit out of its range
abbrev pub settable : ℕ → ℤ → Result (Unit {0}) Fault
settable p m = unless (nat_lt p 64) Unknown (unless (limiting m) Amount (Ok tt))

-- from x to y by one limit set: taken, that one alone is new; refused, the very table that was there
abbrev pub Set : Limits → Limits → Level → ℕ → Side → ℤ → Result (Unit {0}) Fault → Type 0
Set x y level p side m (Ok _) = limits_of y ≡ with_limit (limits_of x) (level_number level) p (side_number side) m
Set x y level p side m (Err f) = y ≡ x
