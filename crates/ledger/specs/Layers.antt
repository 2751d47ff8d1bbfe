-- What a layer asks of the ledger below. Assumes nothing.
use Rattle.std.specs.Prelude.{◌≡◌, ℕ, ℤ, Some, None, Ok, Err, Option}
use Rattle.ledger.specs.declared.actions.Action.TheVariants.{Fill}
use Rattle.ledger.specs.declared.cells.Instruction.{Instruction}
use Rattle.ledger.specs.Faults.{deeper}
use Rattle.ledger.specs.Checks.{Answer}
use Rattle.ledger.specs.Cells.{standing}
use Rattle.ledger.specs.Meanings.{Meaning, Instructed}

-- a fill of n in the same cell
abbrev pub as_fill : Instruction → ℤ → Instruction
as_fill i n = record { action = Fill; account = i.account; series = i.series; amount = n }

-- an answer from below, seen one layer above
abbrev pub raised : Answer → Answer
raised (Ok q) = Ok q
raised (Err f) = Err (deeper f)

-- the quote of what is sent down, or the cell as it stands where nothing is
abbrev pub asked : Meaning → ℕ → ℕ → Option Instruction → Answer
asked m account series None = Ok (standing (m.cell account series))
asked m account series (Some j) = raised (m.quoted j)

-- what the ledger below comes to, from x to y
abbrev pub Passed : {X : Type 0} → (X → Meaning) → X → X → Option Instruction → Type 0
Passed meaning x y None = y ≡ x
Passed meaning x y (Some j) = Instructed meaning x y j ((meaning x).quoted j)
