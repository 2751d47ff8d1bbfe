-- Why a call is declined: the checks of each call, in their order. Assumes nothing.
use Rattle.std.specs.Prelude.{ℕ, ◌+◌, ◌*◌, Bool, cond, ◌&&◌, List, [], ◌∷◌, length, ℤ, Some, None, Ok, Err, Option, Result, int_le, nat_le, nat_lt}
use Rattle.ledger.specs.declared.cells.Instruction.{Instruction}
use Rattle.ledger.specs.declared.cells.Quote.{Quote}
use Rattle.ledger.specs.declared.faults.Fault.{Fault}
use Rattle.ledger.specs.declared.faults.Reason.{Reason}
use Rattle.ledger.specs.declared.faults.Reason.TheVariants as reason
use Rattle.ledger.specs.Actions.{proper}
use Rattle.ledger.specs.Checks.{◌then◌}
use Rattle.ledger.specs.Faults.{found, deeper}
use Rattle.ledger.specs.Meanings.{Meaning}
use Rattle.strikes.specs.Classes.{extended}
use Rattle.expiry.specs.declared.side.Side.{Side}
use Rattle.expiry.specs.declared.side.Side.TheVariants.{Long, Short}
use Rattle.expiry.specs.Sides.{side_number, side_at}
use Rattle.parties.specs.declared.level.Level.{Level}
use Rattle.parties.specs.Levels.{level_number, level_at, levels}
use Rattle.parties.specs.declared.path.Path.{Path}
use Rattle.parties.specs.Paths.{party_on}
use Rattle.parties.specs.Directories.{path_of, enrolled}
use Rattle.parties.specs.Tables.{limiting}
use Rattle.calls.specs.declared.PartyNumber.{PartyNumber}
use Rattle.calls.specs.declared.NewLimit.{NewLimit}
use Rattle.calls.specs.declared.Call.{Call}
use Rattle.calls.specs.declared.Call.TheVariants as call
use Rattle.limiter.specs.declared.phase.Phase.{Phase}
use Rattle.limiter.specs.declared.phase.Phase.TheVariants.{Setup, Started}
use Rattle.limiter.specs.States.{State}
use Rattle.limiter.specs.Changes.{Change, change}
use Rattle.limiter.specs.Positions.{positions, quantity_of}

-- passed, or the first refusal
abbrev pub Verdict : Type 0
Verdict = Result (Unit {0}) Fault

-- a test, with the refusal where it fails
abbrev pub require : Bool → Fault → Verdict
require b f = cond b (Ok tt) (Err f)

-- the order of the sides
abbrev pub sides : List Side
sides = Long ∷ Short ∷ []

-- one check before another
infixr 20 ◌before◌
abbrev pub ◌before◌ : Verdict → Verdict → Verdict
a before b = a then (λ _. b)

-- a check of each thing in turn
abbrev pub each : {A : Type 0} → (A → Verdict) → List A → Verdict
each f [] = Ok tt
each f (x ∷ xs) = f x before each f xs

-- where on a path a check is: 2 × level + side
abbrev pub spot : Level → Side → ℕ
spot level side = 2 * level_number level + side_number side

abbrev pub found_at : Reason → Level → Side → Fault
found_at r level side = record { reason = r; depth = 0; spot = spot level side }

-- one check on a path: no limit where it is missing, limit where the quantity exceeds it
abbrev pub allowed : Option ℤ → ℤ → Level → Side → Verdict
allowed None q level side = Err (found_at reason.NoLimit level side)
allowed (Some m) q level side = require (int_le q m) (found_at reason.Limit level side)

-- a level, a party and a side that exist
abbrev pub known_party : ℕ → ℕ → Bool
known_party level p = nat_le level 3 && nat_lt p 64

abbrev pub known_side : NewLimit → Bool
known_side n = known_party n.level n.party && nat_le n.side 1

-- an added account and a series of an added strike
abbrev pub known_cell : {X : Type 0} → State X → Instruction → Bool
known_cell s i = nat_lt i.account (length s.entries) && nat_lt i.series (2 * length s.strikes)

-- what is checked before the ledger is asked: unknown, then amount
abbrev pub own_verdict : {X : Type 0} → State X → Instruction → Verdict
own_verdict s i = require (known_cell s i) (found reason.Unknown) before require (proper i.action i.amount) (found reason.Amount)

abbrev pub quantities_verdict : PartyNumber → Verdict
quantities_verdict n = require (known_party n.level n.party) (found reason.Unknown)

abbrev pub tightest_verdict : {X : Type 0} → State X → ℕ → Verdict
tightest_verdict s a = require (nat_lt a (length s.entries)) (found reason.Unknown)

module _ {X : Type 0} (meaning : X → Meaning) where
  abbrev pub side_verdict : State X → Option Change → Level → ℕ → Side → Verdict
  side_verdict s k level p side = allowed (s.limits level p side) (quantity_of (positions meaning s k) level p side) level side

  -- long before short
  abbrev pub party_verdict : State X → Option Change → Level → ℕ → Verdict
  party_verdict s k level p = each (side_verdict s k level p) sides

  -- along a path, from the account up
  abbrev pub path_verdict : State X → Option Change → Path → Verdict
  path_verdict s k p = each (λ level. party_verdict s k level (party_on p level)) levels

  -- the ledger's refusal, one deeper, or the checks along the path
  abbrev pub quote_verdict : State X → Instruction → Result Quote Fault → Verdict
  quote_verdict s i (Ok q) = path_verdict s (Some (change i q)) (path_of s.entries i.account)
  quote_verdict s i (Err f) = Err (deeper f)

  abbrev pub instruct_verdict : State X → Instruction → Verdict
  instruct_verdict s i = own_verdict s i before quote_verdict s i ((meaning s.ledger).quoted i)

  -- a limit may not be below the quantity as it stands
  abbrev pub limit_verdict : State X → NewLimit → Verdict
  limit_verdict s n =
      require (known_side n) (found reason.Unknown)
      before require (limiting n.limit) (found reason.Amount)
      before require (int_le (quantity_of (positions meaning s None) (level_at n.level) n.party (side_at n.side)) n.limit) (found_at reason.InUse (level_at n.level) (side_at n.side))

  -- by phase and call, where unused is what the ledger says of itself
  abbrev pub verdict : State X → Bool → Phase → Call → Verdict
  verdict s unused Setup (call.Strike k) = extended s.strikes k.price k.size
  verdict s unused Started (call.Strike k) = Err (found reason.Phase)
  verdict s unused Setup (call.Account e) = enrolled (meaning s.ledger).taken s.entries e
  verdict s unused Started (call.Account e) = Err (found reason.Phase)
  verdict s unused Setup call.Start = require unused (found reason.Used)
  verdict s unused Started call.Start = Err (found reason.Phase)
  verdict s unused phase (call.Limit n) = limit_verdict s n
  verdict s unused Setup (call.Instruct i) = Err (found reason.Phase)
  verdict s unused Started (call.Instruct i) = instruct_verdict s i
  verdict s unused phase (call.Quantities n) = quantities_verdict n
  verdict s unused phase (call.Tightest a) = tightest_verdict s a
