-- The cover layer: assets set aside for the delivery of calls, above a ledger. Assumes nothing.
use Rattle.std.specs.Prelude.{ℕ, Bool, true, false, cond, ℤ, pos, ◌+ℤ◌, Some, None, Ok, Option, int_le, int_lt}
use Rattle.std.specs.Int.{int_min}
use Rattle.ledger.specs.declared.actions.Action.{Action}
use Rattle.ledger.specs.declared.actions.Action.TheVariants.{AddCover, TakeCover}
use Rattle.ledger.specs.declared.faults.Reason.TheVariants.{Rest, Reach, NotACall}
use Rattle.ledger.specs.declared.cells.Cell.{Cell}
use Rattle.ledger.specs.declared.cells.Quote.{Quote}
use Rattle.ledger.specs.declared.cells.Instruction.{Instruction}
use Rattle.ledger.specs.Actions.{reach, step}
use Rattle.ledger.specs.Cells.{is_call}
use Rattle.ledger.specs.Checks.{Answer, checked, unless, ◌then◌}
use Rattle.ledger.specs.Meanings.{Meaning}
use Rattle.ledger.specs.Layers.{asked}
use Rattle.tables.specs.declared.Table.{Table}
use Rattle.tables.specs.Bounded.{UpTo, Bounded}
use Rattle.tables.specs.Tables.{at, AllZero}

-- the cover that a cell may have
abbrev pub CoverIn : ℤ → Type 0
CoverIn = UpTo reach

-- a table of cover, with a row for each account
abbrev pub Covered : Table → Type 0
Covered = Bounded reach

-- a count with the cover k: below 0 it becomes the lesser of 0 and itself plus the cover
unfoldable pub with_cover : ℤ → ℤ → ℤ
with_cover k n = cond (int_lt n (pos 0)) (int_min (n +ℤ k) (pos 0)) n

-- the cell c below with the cover k: low and high each with it
abbrev pub cover_cell : Cell → ℤ → Cell
cover_cell c k = record { held = c.held; low = with_cover k c.low; high = with_cover k c.high; buys = c.buys; sells = c.sells; cover = k }

-- the quote below with the cover k
abbrev pub cover_quote : Quote → ℤ → Quote
cover_quote q k = record { held = q.held; low = with_cover k q.low; high = with_cover k q.high }

-- the layer's own actions
abbrev pub is_cover : Action → Bool
is_cover AddCover = true
is_cover TakeCover = true
is_cover _ = false

-- what is sent down: nothing by an action of its own, all else is passed on
abbrev pub cover_sent : Action → Instruction → Option Instruction
cover_sent a i = cond (is_cover a) None (Some i)

-- only calls are covered
abbrev pub fitting : Action → ℕ → Bool
fitting a s = cond (is_cover a) (is_call s) true

-- the answer to i, where the cover k would be left: first the checks of every layer, then that the series is a call's,
-- then that no more is taken than is covered, then the answer from below, then the reach
abbrev pub cover_answer : Meaning → Instruction → ℤ → Answer
cover_answer m i k =
    checked m.taken i then (λ _. unless (fitting i.action i.series) NotACall (unless (int_le (pos 0) k) Rest (asked m i.account i.series (cover_sent i.action i) then (λ q. unless (int_le k reach) Reach (Ok (cover_quote q k))))))

-- the cover of i's cell after it
abbrev pub cover_after : Table → Instruction → ℤ
cover_after t i = at t i.account i.series +ℤ (step i.action i.amount).cover

-- the layer above a ledger that means m, by its table of cover
abbrev pub cover_meaning : Meaning → Table → Meaning
cover_meaning m cover = record {
  cell = λ a s. cover_cell (m.cell a s) (at cover a s);
  taken = m.taken;
  quoted = λ i. cover_answer m i (cover_after cover i);
  unused = m.unused × AllZero cover;
}
