-- The lines of answers and sheets. Assumes nothing.
use Rattle.std.specs.Prelude.{◌≡◌, ℕ, ◌+◌, ◌-◌, ◌≤◌, Bool, not, List, ◌∷◌, ◌++◌, length, take, replicate, Ok, Err, codes, Result, ◌==◌}
use Rattle.std.specs.List.{prefix_len, AllByRecursion}
use Rattle.ledger.specs.declared.books.Holding.{Holding}
use Rattle.ledger.specs.declared.cells.Quote.{Quote}
use Rattle.ledger.specs.declared.faults.Fault.{Fault}
use Rattle.ledger.specs.Faults.{number}
use Rattle.lines.specs.Fields.{Decimal, WithSign}

-- byte 10 ends a line
abbrev pub Inside : ℕ → Type 0
Inside b = b ≡ 10 → ⊥

-- a buffer of 64 bytes with a text: behind it byte 10, which is not in it, and then zeros
pub record Filled (text buffer : List ℕ) : Type 0 where
  pub fits : length text ≤ 63
  pub holds : buffer ≡ text ++ 10 ∷ replicate (63 - length text) 0
  pub inside : AllByRecursion Inside text

abbrev pub goes_on : ℕ → Bool
goes_on b = not (b == 10)

-- a buffer up to and with its first byte 10, or all of it where there is none
abbrev pub printed : List ℕ → List ℕ
printed buffer = take (prefix_len goes_on buffer + 1) buffer

-- one space between two texts
infixl 20 ◌beside◌
abbrev pub ◌beside◌ : List ℕ → List ℕ → List ℕ
a beside b = a ++ 32 ∷ b

-- the text of an answer: ok, or no with the reason's number, the depth and the spot
abbrev pub AnswerText : Result Quote Fault → List ℕ → Type 0
AnswerText (Ok q) text = text ≡ codes "ok"
AnswerText (Err f) text = (a b c : List ℕ) × (text ≡ codes "no" beside a beside b beside c) × Decimal (number f.reason) a × Decimal f.depth b × Decimal f.spot c

-- the text of a held cell: p with its account, its series and the count held
abbrev pub SheetText : Holding → List ℕ → Type 0
SheetText h text = (a b c : List ℕ) × (text ≡ codes "p" beside a beside b beside c) × Decimal h.account a × Decimal h.series b × WithSign Decimal h.held c

-- the buffer holds the text of the answer
abbrev pub AnswerLine : Result Quote Fault → List ℕ → Type 0
AnswerLine r buffer = (text : List ℕ) × AnswerText r text × Filled text buffer

-- the buffer holds the text of the held cell
abbrev pub SheetLine : Holding → List ℕ → Type 0
SheetLine h buffer = (text : List ℕ) × SheetText h text × Filled text buffer
