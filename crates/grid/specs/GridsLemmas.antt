-- A grid book is never full, and its laws. Assumes nothing.
use Rattle.std.specs.Prelude.{◌≡◌, ℕ, ◌+◌, ◌*◌, ◌/◌, ◌%◌, ◌<◌, ◌≤◌, true, false, not, ◌⊎◌, pos, Ok, Err, Result, refl}
use Rattle.std.proofs.Common.{sym, ap, inr, arith}
use Rattle.std.proofs.lemmas.Int.{ints}
use Rattle.std.proofs.lemmas.Bool.Decides.{nat_tests}
use Rattle.std.proofs.lemmas.Bool.{not-true}
use Rattle.ledger.specs.declared.cells.Instruction.{Instruction}
use Rattle.ledger.specs.Actions.{Within}
use Rattle.ledger.specs.Meanings.{Lawful}
use Rattle.ledger.specs.Books.{held_below, held_cells, is_full, filled, book_answer, BookLaws}
use Rattle.ledger.specs.Checks.{checked}
use Rattle.ledger.specs.declared.faults.Fault.{Fault}
use Rattle.ledger.proofs.Chains.{checked_ok}
use Rattle.ledger.proofs.Counts.{held_most, held_fewer, held_same}
use Rattle.ledger.proofs.BookFacts.{book_lawful, book_laws}
use Rattle.tables.specs.Tables.{at, rows_of, items}
use Rattle.tables.specs.declared.Table.{Table}
use Rattle.tables.proofs.Rows.{number_out}
use Rattle.grid.specs.Grids.{grid_meaning, grid_capacity}

module _ (t : Table) where
  -- a row that is not there holds nothing
  pub untaken : (a s : ℕ) → rows_of t ≤ a → at t a s ≡ pos 0
  untaken a s h = number_out (items t) (rows_of t) a s (inr h)

  pub outside : (a s : ℕ) → (64 ≤ a) ⊎ (64 ≤ s) → at t a s ≡ pos 0
  outside a s h = number_out (items t) (rows_of t) a s (grind arith)

  -- so the cells held are among the rows
  among : held_cells (at t) ≡ held_below (at t) (64 * rows_of t)
  among = held_same (at t) (64 * rows_of t) 4096 (omega arith) (λ p h. untaken (p / 64) (p % 64) (omega arith))

  -- where one of them is not held, fewer are held than the rows have cells
  pub room : (i : Instruction) → i.account < rows_of t → i.series < 64 → not (is_full (grid_capacity t) (at t) i) ≡ true
  room i p q =
      let k = 64 * i.account + i.series in
      let row : k / 64 ≡ i.account = omega arith in
      let column : k % 64 ≡ i.series = omega arith in
      let fewer = λ (z : at t i.account i.series ≡ pos 0). held_fewer (at t) (64 * rows_of t) k (omega arith) (rw (row, column) z) in
      grind (arith, nat_tests, ints, among, fewer)

  -- so its answer is that of a book with room
  pub never_full : (i : Instruction) → filled (rows_of t) (at t i.account i.series) false i ≡ book_answer (rows_of t) (grid_capacity t) (at t) i
  never_full i = by (checked (rows_of t) i) refl
    where
      by : (r : Result (Unit {0}) Fault) → checked (rows_of t) i ≡ r → filled (rows_of t) (at t i.account i.series) false i ≡ book_answer (rows_of t) (grid_capacity t) (at t) i
      by (Ok u) e =
          let k = checked_ok (rows_of t) i u e in
          ap (λ b. filled (rows_of t) (at t i.account i.series) b i) (sym (not-true _ (room i k.account k.series)))
      by (Err f) e = rw e

  pub grid_lawful : ((a s : ℕ) → Within (at t a s)) → Lawful (grid_meaning t)
  grid_lawful near = book_lawful (rows_of t) (grid_capacity t) (at t) (omega arith) near outside

  pub grid_laws : BookLaws (grid_meaning t) (grid_capacity t)
  grid_laws = book_laws (rows_of t) (grid_capacity t) (at t) untaken (let e = among in let m = held_most (at t) (64 * rows_of t) in omega arith)
