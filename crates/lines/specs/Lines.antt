-- The lines of instructions. Assumes nothing.
use Rattle.std.specs.Prelude.{◌≡◌, ℕ, ◌+◌, ◌<◌, ◌≤◌, cond, List, [], ◌∷◌, ◌++◌, length, take, ℤ, pos, Ok, Err, Result}
use Rattle.ledger.specs.declared.actions.Action.{Action}
use Rattle.ledger.specs.declared.cells.Instruction.{Instruction}
use Rattle.ledger.specs.declared.faults.Fault.{Fault}
use Rattle.ledger.specs.Actions.{letter, is_fill}
use Rattle.ledger.specs.Faults.{misfit}
use Rattle.lines.specs.declared.fields.Kind.{Kind}
use Rattle.lines.specs.declared.fields.Kind.TheVariants.{Plain, Signed}
use Rattle.lines.specs.Fields.{Parts}

-- only the amount of a fill may have a sign
abbrev pub amount_kind : Action → Kind
amount_kind a = cond (is_fill a) Signed Plain

-- the fields of an instruction: account, series and amount
abbrev pub kinds : Action → List Kind
kinds a = Plain ∷ Plain ∷ amount_kind a ∷ []

abbrev pub numbers : Instruction → List ℤ
numbers i = pos i.account ∷ pos i.series ∷ i.amount ∷ []

-- the line of an instruction: its letter, then its fields
abbrev pub LineOf : List ℕ → Instruction → Type 0
LineOf line i = (rest : List ℕ) × (line ≡ letter i.action ∷ rest) × Parts (kinds i.action) (numbers i) rest

-- a line of some instruction
abbrev pub Good : List ℕ → Type 0
Good line = (i : Instruction) × LineOf line i

-- some text of P begins with p
abbrev pub Begins : (List ℕ → Type 0) → List ℕ → Type 0
Begins P p = (t : List ℕ) × P (p ++ t)

-- a line that is no instruction's: its longest start that begins some good line ends at the column
pub record Misfits (line : List ℕ) (column : ℕ) : Type 0 where
  pub within : column ≤ length line
  pub begins : Begins Good (take column line)
  pub longest : column < length line → Begins Good (take (column + 1) line) → ⊥
  pub bad : Good line → ⊥

-- what a line reads as: its instruction, or the column where it stops being one
abbrev pub ReadsAs : List ℕ → Result Instruction Fault → Type 0
ReadsAs line (Ok i) = LineOf line i
ReadsAs line (Err f) = (column : ℕ) × (f ≡ misfit column) × Misfits line column

-- how a line is answered: as it reads, and by the one instruction that it can be the line of
pub record Answered (line : List ℕ) (r : Result Instruction Fault) : Type 0 where
  pub reads : ReadsAs line r
  pub whole : (i : Instruction) → LineOf line i → r ≡ Ok i
