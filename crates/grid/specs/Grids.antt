-- The grid book. Assumes nothing.
use Rattle.std.specs.Prelude.{ℕ, ◌*◌, ◌/◌, ◌%◌}
use Rattle.ledger.specs.Meanings.{Meaning}
use Rattle.ledger.specs.Books.{book_meaning}
use Rattle.ledger.specs.declared.books.Holding.{Holding}
use Rattle.tables.specs.Tables.{at, rows_of}
use Rattle.tables.specs.declared.Table.{Table}

-- every cell of its accounts
abbrev pub grid_capacity : Table → ℕ
grid_capacity t = 64 * rows_of t

-- a book whose counts are the table's, with an account for each row
abbrev pub grid_meaning : Table → Meaning
grid_meaning t = book_meaning (rows_of t) (grid_capacity t) (at t)

-- what is held at a place, 64 × account + series
abbrev pub holding_at : Table → ℕ → Holding
holding_at t p = record { account = p / 64; series = p % 64; held = at t (p / 64) (p % 64) }
