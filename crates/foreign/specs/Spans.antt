-- A layer whose range always has 0 in it. Assumes nothing.
use Rattle.std.specs.Prelude.{pos, Some, Ok}
use Rattle.std.specs.Int.{int_max, int_min}
use Rattle.ledger.specs.declared.cells.Cell.{Cell}
use Rattle.ledger.specs.declared.cells.Quote.{Quote}
use Rattle.ledger.specs.Checks.{checked, ◌then◌}
use Rattle.ledger.specs.Cells.{standing}
use Rattle.ledger.specs.Meanings.{Meaning}
use Rattle.ledger.specs.Layers.{asked}

-- low is the lesser of 0 and the low below, high the greater of 0 and the high below
abbrev pub spanned : Quote → Quote
spanned q = record { held = q.held; low = int_min q.low (pos 0); high = int_max q.high (pos 0) }

abbrev pub span_cell : Cell → Cell
span_cell c = let q = spanned (standing c) in record { held = q.held; low = q.low; high = q.high; buys = c.buys; sells = c.sells; cover = c.cover }

-- the layer above a ledger that means m: it passes every action down
abbrev pub span_meaning : Meaning → Meaning
span_meaning m = record {
  cell = λ a s. span_cell (m.cell a s);
  taken = m.taken;
  quoted = λ i. checked m.taken i then (λ _. asked m i.account i.series (Some i) then (λ q. Ok (spanned q)));
  unused = m.unused;
}
