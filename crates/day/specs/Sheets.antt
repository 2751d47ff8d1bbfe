-- The sheet of a book. Assumes nothing.
use Rattle.std.specs.Prelude.{◌≡◌, ℕ, ◌+◌, ◌<◌, List, ◌++◌, map, length, pos, Option, IfSome, ◌≢◌, slice_index_or}
use Rattle.ledger.specs.declared.cells.Cell.{Cell}
use Rattle.ledger.specs.declared.books.Holding.{Holding}
use Rattle.ledger.specs.Listing.{place, Held, FirstHeld}
use Rattle.ledger.specs.Meanings.{Meaning}
use Rattle.lines.specs.Output.{SheetLine}
use Rattle.lines.specs.declared.writing.OutputLine.{OutputLine}
use Rattle.day.specs.Days.{buffer}
use Rattle.day.specs.Runs.{Each}
use Rattle.day.specs.declared.sheets.HeldCells.{HeldCells}

abbrev pub nothing : Holding
nothing = record { account = 0; series = 0; held = pos 0 }

abbrev pub nth : List Holding → ℕ → Holding
nth hs k = slice_index_or hs k nothing

abbrev pub place_of : Holding → ℕ
place_of h = place h.account h.series

-- a call of the iterator over held cells, from s to t: it gives the first from its place on, and stands behind it then
abbrev pub GivesNext : {B : Type 0} → (B → Meaning) → HeldCells B → Option Holding → HeldCells B → Type 0
GivesNext meaning s r t = FirstHeld (meaning s.book.now).cell s.from r × (t.book ≡ s.book) × IfSome r (λ h. t.from ≡ place_of h + 1)

-- the cell of an account and a series is in the list
pub record Listed (hs : List Holding) (a s : ℕ) : Type 0 where
  pub index : ℕ
  pub within : index < length hs
  pub account : (nth hs index).account ≡ a
  pub series : (nth hs index).series ≡ s

-- exactly the held cells, each once, in the order of their places
pub record Listing (cell : ℕ → ℕ → Cell) (hs : List Holding) : Type 0 where
  pub rising : (j k : ℕ) → j < k → k < length hs → place_of (nth hs j) < place_of (nth hs k)
  pub held : (k : ℕ) → k < length hs → Held cell (nth hs k)
  pub all : (a s : ℕ) → s < 64 → ((cell a s).held ≢ pos 0) → Listed hs a s

-- a line for each cell of the list, behind the lines that are there
pub record Adds (held : List Holding) (lines all : List OutputLine) : Type 0 where
  pub sheet : List OutputLine
  pub behind : all ≡ lines ++ sheet
  pub shows : Each SheetLine held (map buffer sheet)

-- a line for each held cell, once, in the order of places, behind the lines that are there
pub record AddsSheet (cell : ℕ → ℕ → Cell) (lines all : List OutputLine) : Type 0 where
  pub held : List Holding
  pub listing : Listing cell held
  pub adds : Adds held lines all
