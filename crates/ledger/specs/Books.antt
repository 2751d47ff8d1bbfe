-- Books. Assumes nothing.
use Rattle.std.specs.Prelude.{◌≡◌, ℕ, zero, suc, ◌+◌, ◌/◌, ◌%◌, ◌≤◌, Bool, cond, not, ◌&&◌, ℤ, pos, ◌+ℤ◌, Ok, ◌==◌}
use Rattle.ledger.specs.declared.faults.Reason.TheVariants.{NoTaker, Reach, Full}
use Rattle.ledger.specs.declared.cells.Cell.{Cell}
use Rattle.ledger.specs.declared.cells.Quote.{Quote}
use Rattle.ledger.specs.declared.cells.Instruction.{Instruction}
use Rattle.ledger.specs.Actions.{is_fill, within, nonzero}
use Rattle.ledger.specs.Checks.{Answer, checked, unless, ◌then◌}
use Rattle.ledger.specs.Cells.{empty}
use Rattle.ledger.specs.Meanings.{Meaning}

-- a cell of a book: no more than the count that it holds
abbrev pub book_cell : ℤ → Cell
book_cell h = record { held = h; low = h; high = h; buys = pos 0; sells = pos 0; cover = pos 0 }

abbrev pub flat : ℤ → Quote
flat h = record { held = h; low = h; high = h }

-- the count at a place, 64 × account + series
abbrev pub at_place : (ℕ → ℕ → ℤ) → ℕ → ℤ
at_place held p = held (p / 64) (p % 64)

-- how many of the first n places are held
unfoldable pub held_below : (ℕ → ℕ → ℤ) → ℕ → ℕ
held_below held zero = 0
held_below held (suc n) = held_below held n + cond (nonzero (at_place held n)) 1 0

-- how many cells are held
abbrev pub held_cells : (ℕ → ℕ → ℤ) → ℕ
held_cells held = held_below held 4096

-- a cell would become held, and as many are held as the capacity
abbrev pub is_full : ℕ → (ℕ → ℕ → ℤ) → Instruction → Bool
is_full capacity held i = not (nonzero (held i.account i.series)) && held_cells held == capacity

-- the answer of a book whose cell holds so much: it only fills, within reach, and while it is not full
abbrev pub filled : ℕ → ℤ → Bool → Instruction → Answer
filled taken before full i =
    checked taken i then (λ _. unless (is_fill i.action) NoTaker (unless (within (before +ℤ i.amount)) Reach (unless (not full) Full (Ok (flat (before +ℤ i.amount))))))

-- the answer of every book, by its counts
abbrev pub book_answer : ℕ → ℕ → (ℕ → ℕ → ℤ) → Instruction → Answer
book_answer taken capacity held i = filled taken (held i.account i.series) (is_full capacity held i) i

-- a book by its counts
abbrev pub book_meaning : ℕ → ℕ → (ℕ → ℕ → ℤ) → Meaning
book_meaning taken capacity held = record {
  cell = λ a s. book_cell (held a s);
  taken = taken;
  quoted = book_answer taken capacity held;
  unused = (a s : ℕ) → held a s ≡ pos 0;
}

-- the counts that a ledger holds
abbrev pub counts : Meaning → ℕ → ℕ → ℤ
counts m a s = (m.cell a s).held

-- the laws of every book beyond those of a ledger
pub record BookLaws (m : Meaning) (capacity : ℕ) : Type 0 where
  -- low and high equal held, and nothing rests or is covered
  pub plain : (a s : ℕ) → m.cell a s ≡ book_cell (counts m a s)
  -- an account that it does not take holds nothing
  pub untaken : (a s : ℕ) → m.taken ≤ a → m.cell a s ≡ empty
  -- every instruction is answered as every book answers it
  pub quotes : (i : Instruction) → m.quoted i ≡ book_answer m.taken capacity (counts m) i
  -- it says unused where all held are 0
  pub unused : ((a s : ℕ) → counts m a s ≡ pos 0) → m.unused
  -- no more cells are held than it can hold
  pub room : held_cells (counts m) ≤ capacity
