use Rattle.std.proofs.Common.{◌+ℤ◌, ◌-ℤ◌, arith, rules, w64, SFits}
use Rattle.std.proofs.lemmas.Int.{ints}
use Rattle.ledger.proofs.Below.{small_fits}
use Rattle.orders.proofs.carrying.Rests.widen.Goals as goal

pub returns : goal.returns
returns c =
    let q = c.args.q in
    let r = c.args.self in
    let low : SFits w64 (q.low -ℤ r.sells) = small_fits _ (omega (arith, ints)) (omega (arith, ints)) in
    let high : SFits w64 (q.high +ℤ r.buys) = small_fits _ (omega (arith, ints)) (omega (arith, ints)) in
    search rules
