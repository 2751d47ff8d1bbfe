-- What every book and layer checks first, and how one check follows another. Assumes nothing.
use Rattle.std.specs.Prelude.{◌≡◌, ℕ, ◌<◌, Bool, true, cond, ◌&&◌, Ok, Err, Result, nat_lt}
use Rattle.ledger.specs.declared.faults.Reason.{Reason}
use Rattle.ledger.specs.declared.faults.Reason.TheVariants.{Unknown, Amount}
use Rattle.ledger.specs.declared.faults.Fault.{Fault}
use Rattle.ledger.specs.declared.cells.Quote.{Quote}
use Rattle.ledger.specs.declared.cells.Instruction.{Instruction}
use Rattle.ledger.specs.Faults.{found}
use Rattle.ledger.specs.Actions.{proper, Within}

-- a quote, or why there is none
abbrev pub Answer : Type 0
Answer = Result Quote Fault

-- what comes next, or the refusal where the test fails
abbrev pub unless : {T : Type 0} → Bool → Reason → Result T Fault → Result T Fault
unless b r next = cond b next (Err (found r))

infixl 20 ◌then◌
abbrev pub ◌then◌ : {T U : Type 0} → Result T Fault → (T → Result U Fault) → Result U Fault
Ok x then f = f x
Err e then f = Err e

-- the account is taken and the series below 64, or unknown; then the amount is in its action's range
abbrev pub checked : ℕ → Instruction → Result (Unit {0}) Fault
checked accounts i = unless (nat_lt i.account accounts && nat_lt i.series 64) Unknown (unless (proper i.action i.amount) Amount (Ok tt))

-- what those checks leave
pub record Checked (accounts : ℕ) (i : Instruction) : Type 0 where
  pub account : i.account < accounts
  pub series : i.series < 64
  pub amount : proper i.action i.amount ≡ true
  pub within : Within i.amount
