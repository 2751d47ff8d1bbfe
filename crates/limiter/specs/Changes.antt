-- A change to one cell. Assumes nothing.
use Rattle.std.specs.Prelude.{ℕ, Bool, ◌&&◌, ◌==◌}
use Rattle.ledger.specs.declared.cells.Instruction.{Instruction}
use Rattle.ledger.specs.declared.cells.Quote.{Quote}

-- a cell, and what is quoted for it
pub record Change : Type 0 where
  pub account : ℕ
  pub series : ℕ
  pub quote : Quote

-- the change that an instruction with that quote makes
abbrev pub change : Instruction → Quote → Change
change i q = record { account = i.account; series = i.series; quote = q }

-- whether the change is to this cell
abbrev pub at_cell : Change → ℕ → ℕ → Bool
at_cell k a s = a == k.account && s == k.series
