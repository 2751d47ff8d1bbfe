use Rattle.std.proofs.Common.{◌≡◌, ◌+◌, ◌*◌, ◌<◌, length, pos, ◌-ℤ◌, ◌*ℤ◌, sym, ap, ◌∙◌, arith, rules}
use Rattle.std.proofs.lemmas.Int.{ints}
use Rattle.std.proofs.lemmas.List.{get_or_default}
use Rattle.strikes.specs.Strikes.{strike_at}
use Rattle.expiry.specs.declared.sum.Sum.{Sum}
use Rattle.expiry.specs.Near.{Near}
use Rattle.expiry.specs.Quantities.{at, no_sum}
use Rattle.expiry.proofs.Sums.{sum_more}
use Rattle.expiry.proofs.Levels.{puts_to, receipt_zero}
use Rattle.expiry.proofs.Bounds.{puts_near}
use Rattle.expiry.proofs.flows.Counts.receipt_at_zero.Goals as goal
use Rattle.expiry.proofs.flows.Counts.receipt_at_zero.Goals.{After-units-receipt}

-- one put more
put : (c : After-units-receipt) → let p = c.args.self.now in let to = puts_to p.strikes.now (at p.puts.now) in (to (c.loop-i.i + 1) ≡ (to c.loop-i.i -ℤ c.units-receipt.result)) × Near 20480000000000000 (to (c.loop-i.i + 1))
put c =
    let p = c.args.self.now in
    let i = c.loop-i.i in
    let within : 2 * i + 1 < length p.puts.now = search rules in
    let units = ap (λ (x : Sum). x.value *ℤ pos (strike_at p.strikes.now i).size) (get_or_default p.puts.now (2 * i + 1) c.index-puts-i.result no_sum within) in
    let more = sum_more (λ k. pos 0 -ℤ (at p.puts.now (2 * k + 1) *ℤ pos (strike_at p.strikes.now k).size)) i in
    (omega (arith, ints), puts_near p (i + 1) (omega arith))

pub overflow_sub-receipt : goal.overflow_sub-receipt
overflow_sub-receipt c = let sum = put c in omega (arith, ints)

pub loop-i-preserved : goal.loop-i-preserved
loop-i-preserved c = let sum = put (goal.at.loop-i-preserved c).After-units-receipt in omega (arith, ints)

pub returns : goal.returns
returns c =
    let p = c.args.self.now in
    let all : c.loop-i.i ≡ length p.strikes.now = search rules in
    c.loop-i.invariant ∙ ap (puts_to p.strikes.now (at p.puts.now)) all ∙ sym (receipt_zero p)
