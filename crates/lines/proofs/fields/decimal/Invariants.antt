use Rattle.std.proofs.Common.{◌≡◌, ◌^◌, ◌<◌, take}
use Rattle.lines.specs.Fields.{value}
use Rattle.lines.proofs.fields.decimal.Given as goal

abbrev pub invariant-loop-b : goal.invariant-loop-b
invariant-loop-b l = (l.n ≡ value (take l.b-index l.digits)) × (l.n < 10 ^ l.b-index)
