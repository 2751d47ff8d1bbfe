-- What a ledger means, its laws, and what an instruction leaves. Assumes nothing.
use Rattle.std.specs.Prelude.{◌≡◌, ℕ, ◌≤◌, ◌⊎◌, Ok, Err}
use Rattle.ledger.specs.declared.faults.Fault.{Fault}
use Rattle.ledger.specs.declared.cells.Cell.{Cell}
use Rattle.ledger.specs.declared.cells.Quote.{Quote}
use Rattle.ledger.specs.declared.cells.Instruction.{Instruction}
use Rattle.ledger.specs.Checks.{Answer, checked}
use Rattle.ledger.specs.Cells.{empty, standing, Ranged, Quotes, Obeyed}

-- the six numbers of each cell, by account and series; how many accounts are taken; the answer to each instruction;
-- when it says that it is unused
pub record Meaning : Type 1 where
  pub cell : ℕ → ℕ → Cell
  pub taken : ℕ
  pub quoted : Instruction → Answer
  pub unused : Type 0

-- the laws of every ledger
pub record Lawful (m : Meaning) : Type 0 where
  -- at most 64 accounts
  pub few : m.taken ≤ 64
  -- in every cell low is at most high, and held, low and high are in reach
  pub ranged : (a s : ℕ) → Ranged (standing (m.cell a s))
  -- six zeros at an account or a series above 63
  pub beyond : (a s : ℕ) → (64 ≤ a) ⊎ (64 ≤ s) → m.cell a s ≡ empty
  -- unknown and amount are checked before anything else
  pub first : (i : Instruction) (f : Fault) → checked m.taken i ≡ Err f → m.quoted i ≡ Err f
  -- what a quote may say of its cell
  pub quotes : (i : Instruction) (q : Quote) → m.quoted i ≡ Ok q → Quotes i.action i.amount (m.cell i.account i.series) q
  -- unused only where every cell has six zeros
  pub idle : m.unused → (a s : ℕ) → m.cell a s ≡ empty

-- what an instruction with that answer leaves: obeyed, its cell alone is new; refused, the very value that was there
abbrev pub Left : {X : Type 0} → (X → Meaning) → X → X → Instruction → Answer → Type 0
Left meaning x y i (Ok q) = Obeyed (meaning x).cell (meaning y).cell i q
Left meaning x y i (Err f) = y ≡ x

-- from x to y by an instruction that answers r: exactly the quote, and as many accounts as before
pub record Instructed {X : Type 0} (meaning : X → Meaning) (x y : X) (i : Instruction) (r : Answer) : Type 0 where
  pub answer : r ≡ (meaning x).quoted i
  pub left : Left meaning x y i r
  pub taken : (meaning y).taken ≡ (meaning x).taken
