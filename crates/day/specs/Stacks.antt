-- A day over cover above orders above a grid book. Assumes nothing.
use Rattle.std.specs.Prelude.{◌≡◌, ℕ, List, ◌++◌}
use Rattle.cover.specs.declared.CoverLayer.{CoverLayer}
use Rattle.cover.specs.Covering.{cover_meaning}
use Rattle.grid.specs.declared.GridBook.{GridBook}
use Rattle.grid.specs.Grids.{grid_meaning}
use Rattle.grid.specs.contracts.GridBook.{the_row}
use Rattle.grid.specs.contracts.GridBookLedger.TheImpl as grid
use Rattle.ledger.specs.declared.books.Holding.{Holding}
use Rattle.ledger.specs.Meanings.{Meaning}
use Rattle.lines.specs.Output.{SheetLine}
use Rattle.orders.specs.declared.OrderLayer.{OrderLayer}
use Rattle.orders.specs.Resting.{order_meaning, Plain}
use Rattle.orders.specs.contracts.carrying.OrderLayerLedger.TheImpl as orders
use Rattle.tables.specs.Tables.{Untouched}
use Rattle.day.specs.Cuts.{Cut}
use Rattle.day.specs.Days.{Serves}
use Rattle.day.specs.Runs.{Run, Each}
use Rattle.day.specs.Sheets.{Listing}

-- the orders above a grid book, by what the book means
abbrev pub Orders : Type 0
Orders = OrderLayer GridBook grid.ghosts

-- and the cover above them, by what they mean
abbrev pub Stack : Type 0
Stack = CoverLayer Orders (orders.ghosts the_row grid.ghosts orders.no_dict)

-- the book, the orders above it, and the cover above them
abbrev pub book_of : Stack → Meaning
book_of x = grid_meaning x.below.below.held

abbrev pub orders_of : Stack → Meaning
orders_of x = order_meaning (book_of x) x.below.buys x.below.sells

abbrev pub meaning_of : Stack → Meaning
meaning_of x = cover_meaning (orders_of x) x.cover

-- what every line keeps: the book's memory past its rows, and that the orders' ranges are the plain formulas
abbrev pub Kept : Stack → Stack → Type 0
Kept x y = Untouched x.below.below.held y.below.below.held × (Plain (book_of x) (orders_of x) → Plain (book_of y) (orders_of y))

-- nothing is held, rests or is covered, and 64 accounts are taken
pub record Fresh (x : Stack) : Type 0 where
  pub unused : (meaning_of x).unused
  pub taken : (meaning_of x).taken ≡ 64
  pub plain : Plain (book_of x) (orders_of x)

-- the output of a day's text: from a fresh stack, one answer a line in order, and then the sheet of the book as it is at
-- the end, each held cell once, in the order of places
pub record Day (text : List ℕ) (out : List (List ℕ)) : Type 0 where
  pub first : Stack
  pub last : Stack
  pub lines : List (List ℕ)
  pub answers : List (List ℕ)
  pub held : List Holding
  pub sheet : List (List ℕ)
  pub fresh : Fresh first
  pub cut : Cut text lines
  pub run : Run (Serves meaning_of Kept) first lines answers last
  pub listing : Listing (book_of last).cell held
  pub shows : Each SheetLine held sheet
  pub whole : out ≡ answers ++ sheet
