-- The published number of each reason, and a refusal as it is counted through the layers. Assumes nothing.
use Rattle.std.specs.Prelude.{◌≡◌, ℕ, ◌+◌, min, Ok, Err, Result, ◌≢◌}
use Rattle.ledger.specs.declared.faults.Reason.{Reason}
use Rattle.ledger.specs.declared.faults.Reason.TheVariants.{Phase, ClassFull, Strike, DirectoryFull, GroupClash, Used, Unknown, Amount, NoTaker, Rest, NotACall, Reach, Full, NoLimit, Limit, InUse, Line}
use Rattle.ledger.specs.declared.faults.Fault.{Fault}

abbrev pub number : Reason → ℕ
number Phase = 1
number ClassFull = 2
number Strike = 3
number DirectoryFull = 4
number GroupClash = 5
number Used = 6
number Unknown = 7
number Amount = 8
number NoTaker = 9
number Rest = 10
number NotACall = 11
number Reach = 12
number Full = 13
number NoLimit = 14
number Limit = 15
number InUse = 16
number Line = 17

-- a refusal by its finder
abbrev pub found : Reason → Fault
found r = record { reason = r; depth = 0; spot = 0 }

-- what a number is the number of: that thing; the number of no such thing is unknown
abbrev pub Numbered : {A : Type 0} → (A → ℕ) → ℕ → Result A Fault → Type 0
Numbered number n (Ok x) = number x ≡ n
Numbered {A = A} number n (Err f) = (f ≡ found Unknown) × ((x : A) → number x ≢ n)

-- a line refused at a column
abbrev pub misfit : ℕ → Fault
misfit column = record { reason = Line; depth = 0; spot = column }

-- the same refusal, seen one layer above: at 255 the depth stays 255
abbrev pub deeper : Fault → Fault
deeper f = record { reason = f.reason; depth = min 255 (f.depth + 1); spot = f.spot }
