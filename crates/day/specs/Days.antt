-- What a day's lines do to a ledger, and what comes out. Assumes nothing.
use Rattle.std.specs.Prelude.{◌≡◌, ℕ, List, Ok, Err, Result}
use Rattle.ledger.specs.declared.cells.Instruction.{Instruction}
use Rattle.ledger.specs.declared.faults.Fault.{Fault}
use Rattle.ledger.specs.Checks.{Answer}
use Rattle.ledger.specs.Meanings.{Meaning, Instructed}
use Rattle.lines.specs.Lines.{Answered}
use Rattle.lines.specs.Output.{AnswerLine}
use Rattle.lines.specs.declared.writing.OutputLine.{OutputLine}

-- the 64 bytes of an output line
abbrev pub buffer : OutputLine → List ℕ
buffer line = line.bytes

-- from x to y by what a line was read as: an instruction is carried through the ledger, and a misfit reaches no ledger
abbrev pub Reaches : {X : Type 0} → (X → Meaning) → X → X → Result Instruction Fault → Answer → Type 0
Reaches meaning x y (Ok i) r = Instructed meaning x y i r
Reaches meaning x y (Err f) r = (r ≡ Err f) × (y ≡ x)

-- from x to y by one line, with the answer r
pub record Carries {X : Type 0} (meaning : X → Meaning) (keeps : X → X → Type 0) (x : X) (line : List ℕ) (r : Answer) (y : X) : Type 0 where
  pub read : Result Instruction Fault
  pub reads : Answered line read
  pub reaches : Reaches meaning x y read r
  pub kept : keeps x y

-- from x to y by one line, with the output line of its answer
pub record Serves {X : Type 0} (meaning : X → Meaning) (keeps : X → X → Type 0) (x : X) (line out : List ℕ) (y : X) : Type 0 where
  pub answer : Answer
  pub carries : Carries meaning keeps x line answer y
  pub shows : AnswerLine answer out
