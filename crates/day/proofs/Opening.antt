-- A day from the stack as it is made to its sheet. Assumes nothing.
use Rattle.std.proofs.Common.{◌≡◌, ℕ, List, map, sym, ap, ◌∙◌, subst}
use Rattle.std.proofs.lemmas.List.{map-append}
use Rattle.grid.specs.declared.GridBook.{GridBook}
use Rattle.grid.specs.Grids.{grid_meaning}
use Rattle.orders.specs.Resting.{order_meaning, Plain}
use Rattle.tables.specs.Tables.{rows_of, AllZero}
use Rattle.lines.specs.declared.writing.OutputLine.{OutputLine}
use Rattle.day.specs.Cuts.{Cut}
use Rattle.day.specs.Days.{buffer, Serves}
use Rattle.day.specs.Runs.{Run}
use Rattle.day.specs.Sheets.{AddsSheet}
use Rattle.day.specs.Stacks.{Orders, Stack, book_of, meaning_of, Kept, Fresh, Day}

-- an order layer with nothing resting, over a book of 64 accounts with nothing held
pub record Idle (o : Orders) : Type 0 where
  pub held : AllZero o.below.held
  pub rows : rows_of o.below.held ≡ 64
  pub buys : AllZero o.buys
  pub sells : AllZero o.sells
  pub plain : Plain (grid_meaning o.below.held) (order_meaning (grid_meaning o.below.held) o.buys o.sells)

pub idle : (o : Orders) (b : GridBook) → o.below ≡ b → AllZero b.held → rows_of b.held ≡ 64 → AllZero o.buys → AllZero o.sells
    → Plain (grid_meaning o.below.held) (order_meaning (grid_meaning o.below.held) o.buys o.sells) → Idle o
idle o b e zero rows buys sells plain = record {
  held = subst (λ (x : GridBook). AllZero x.held) (sym e) zero;
  rows = ap (λ (x : GridBook). rows_of x.held) e ∙ rows;
  buys = buys;
  sells = sells;
  plain = plain;
}

-- with nothing covered above it
pub fresh : (x : Stack) (o : Orders) → x.below ≡ o → AllZero x.cover → Idle o → Fresh x
fresh x o e cover i =
    let below : Idle x.below = subst Idle (sym e) i in
    record {
      unused = ((below.held, below.buys, below.sells), cover);
      taken = below.rows;
      plain = below.plain;
    }

-- the run over the lines, and then the sheet
pub day_of : (text : List ℕ) (first last : Stack) (lines : List (List ℕ)) (answers all : List OutputLine) → Fresh first → Cut text lines
    → Run (Serves meaning_of Kept) first lines (map buffer answers) last → AddsSheet (book_of last).cell answers all → Day text (map buffer all)
day_of text first last lines answers all fresh cut run sheet = record {
  first = first;
  last = last;
  lines = lines;
  answers = map buffer answers;
  held = sheet.held;
  sheet = map buffer sheet.adds.sheet;
  fresh = fresh;
  cut = cut;
  run = run;
  listing = sheet.listing;
  shows = sheet.adds.shows;
  whole = ap (map buffer) sheet.adds.behind ∙ map-append buffer answers sheet.adds.sheet;
}
