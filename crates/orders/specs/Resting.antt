-- The order layer: buys and sells that rest above a ledger. Assumes nothing.
use Rattle.std.specs.Prelude.{◌≡◌, ℕ, Bool, ◌&&◌, ℤ, pos, negsuc, ◌+ℤ◌, ◌-ℤ◌, neg_ℤ, ◌≤ℤ◌, Some, None, Ok, Option, int_le}
use Rattle.std.specs.Int.{int_max, int_min}
use Rattle.ledger.specs.declared.actions.Action.{Action}
use Rattle.ledger.specs.declared.actions.Action.TheVariants.{PlaceBuy, PlaceSell, CancelBuy, CancelSell, ExecuteBuy, ExecuteSell}
use Rattle.ledger.specs.declared.faults.Reason.TheVariants.{Rest, Reach}
use Rattle.ledger.specs.declared.cells.Cell.{Cell}
use Rattle.ledger.specs.declared.cells.Quote.{Quote}
use Rattle.ledger.specs.declared.cells.Instruction.{Instruction}
use Rattle.ledger.specs.Actions.{reach, reach_below, within, step}
use Rattle.ledger.specs.Checks.{Answer, checked, unless, ◌then◌}
use Rattle.ledger.specs.Meanings.{Meaning}
use Rattle.ledger.specs.Layers.{asked, as_fill}
use Rattle.tables.specs.declared.Table.{Table}
use Rattle.tables.specs.Bounded.{UpTo, Bounded}
use Rattle.tables.specs.Tables.{at, AllZero}

abbrev pub most_rest : ℤ
most_rest = pos 2000000000

-- what may rest in one cell
abbrev pub RestIn : ℤ → Type 0
RestIn = UpTo most_rest

-- what may come of it in one step
abbrev pub Near : ℤ → Type 0
Near z = (negsuc 2999999999 ≤ℤ z) × (z ≤ℤ pos 3000000000)

-- a table of what rests, with a row for each account
abbrev pub Resting : Table → Type 0
Resting = Bounded most_rest

-- the low below less the resting sells, and the high below plus the resting buys; neither is let out of reach
abbrev pub low_of : ℤ → ℤ → ℤ
low_of low sells = int_max (low -ℤ sells) reach_below

abbrev pub high_of : ℤ → ℤ → ℤ
high_of high buys = int_min (high +ℤ buys) reach

-- the cell c below, with those buys and sells resting above it: they alone are the layer's rests
abbrev pub order_cell : Cell → ℤ → ℤ → Cell
order_cell c buys sells = record { held = c.held; low = low_of c.low sells; high = high_of c.high buys; buys = buys; sells = sells; cover = c.cover }

-- in every cell of a layer, low is the low below less the resting sells, and high the high below plus the resting buys
pub record Plain (below layer : Meaning) : Type 0 where
  pub low : (a s : ℕ) → (layer.cell a s).low ≡ (below.cell a s).low -ℤ (layer.cell a s).sells
  pub high : (a s : ℕ) → (layer.cell a s).high ≡ (below.cell a s).high +ℤ (layer.cell a s).buys

-- what is sent down: an execution is a fill below, orders placed and cancelled stay here, all else is passed on
abbrev pub order_sent : Action → Instruction → Option Instruction
order_sent PlaceBuy i = None
order_sent PlaceSell i = None
order_sent CancelBuy i = None
order_sent CancelSell i = None
order_sent ExecuteBuy i = Some (as_fill i i.amount)
order_sent ExecuteSell i = Some (as_fill i (neg_ℤ i.amount))
order_sent _ i = Some i

-- no less than 0 would rest: the instruction asks for no more than rests
abbrev pub enough : ℤ → ℤ → Bool
enough buys sells = int_le (pos 0) buys && int_le (pos 0) sells

-- the quote below, with those buys and sells resting above it
abbrev pub widened : Quote → ℤ → ℤ → Quote
widened q buys sells = record { held = q.held; low = q.low -ℤ sells; high = q.high +ℤ buys }

-- refused where the new low or the new high is out of reach
abbrev pub in_reach : Quote → Answer
in_reach q = unless (within q.low && within q.high) Reach (Ok q)

-- the answer to i, where those buys and sells would rest after it: first the checks of every layer, then what rests,
-- then the answer from below, then the reach
abbrev pub order_answer : Meaning → Instruction → ℤ → ℤ → Answer
order_answer m i buys sells =
    checked m.taken i then (λ _. unless (enough buys sells) Rest (asked m i.account i.series (order_sent i.action i) then (λ q. in_reach (widened q buys sells))))

-- what rests in i's cell after it
abbrev pub buys_after : Table → Instruction → ℤ
buys_after t i = at t i.account i.series +ℤ (step i.action i.amount).buys

abbrev pub sells_after : Table → Instruction → ℤ
sells_after t i = at t i.account i.series +ℤ (step i.action i.amount).sells

-- the layer above a ledger that means m, by its tables of resting buys and sells
abbrev pub order_meaning : Meaning → Table → Table → Meaning
order_meaning m buys sells = record {
  cell = λ a s. order_cell (m.cell a s) (at buys a s) (at sells a s);
  taken = m.taken;
  quoted = λ i. order_answer m i (buys_after buys i) (sells_after sells i);
  unused = m.unused × AllZero buys × AllZero sells;
}
