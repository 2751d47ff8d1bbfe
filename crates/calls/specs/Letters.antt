-- The letters of the calls. Assumes nothing.
use Rattle.std.specs.Prelude.{ℕ, Some, None, Option}
use Rattle.ledger.specs.Actions.{letter}
use Rattle.calls.specs.declared.Call.{Call}
use Rattle.calls.specs.declared.Call.TheVariants.{Strike, Account, Start, Limit, Instruct, Quantities, Tightest}

-- the letter of a call, by its code: T A O L Q, or that of the instruction's action; tightest has none
abbrev pub call_letter : Call → Option ℕ
call_letter (Strike k) = Some 84
call_letter (Account e) = Some 65
call_letter Start = Some 79
call_letter (Limit n) = Some 76
call_letter (Instruct i) = Some (letter i.action)
call_letter (Quantities n) = Some 81
call_letter (Tightest a) = None
