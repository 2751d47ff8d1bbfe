use Rattle.std.proofs.Common.{◌≡◌, ◌+◌, ◌-◌, ◌*◌, ◌/◌, ◌<◌, length, pos, ◌+ℤ◌, ◌*ℤ◌, ap, arith, rules}
use Rattle.std.proofs.lemmas.Int.{ints}
use Rattle.std.proofs.lemmas.List.{get_or_default}
use Rattle.strikes.specs.Strikes.{strike_at}
use Rattle.expiry.specs.declared.sum.Sum.{Sum}
use Rattle.expiry.specs.Near.{Near}
use Rattle.expiry.specs.Quantities.{no_sum}
use Rattle.expiry.specs.Counts.{receipt_at}
use Rattle.expiry.proofs.Levels.{step_odd, step_even}
use Rattle.expiry.proofs.Bounds.{counts_near}
use Rattle.expiry.proofs.flows.Counts.next_receipt.Goals as goal
use Rattle.expiry.proofs.flows.Counts.next_receipt.Goals.{After-units, After-units-else-place-eq1}

pub returns-then-place-eq0-clause-bound : goal.returns-then-place-eq0-clause-bound
returns-then-place-eq0-clause-bound c = let near = counts_near c.args.self.now (c.args.place - 1) in (omega (arith, ints), omega (arith, ints))

-- at an odd place the units of a put are added
odd : (c : After-units) → let p = c.args.self.now in (receipt_at p c.args.place ≡ (c.args.before +ℤ c.units.result)) × Near 20480000000000000 (receipt_at p c.args.place)
odd c =
    let p = c.args.self.now in
    let i = (c.args.place - 1) / 2 in
    let within : 2 * i + 1 < length p.puts.now = search rules in
    let step = step_odd p c.args.place i (omega arith) (omega arith) in
    let units = ap (λ (x : Sum). x.value *ℤ pos (strike_at p.strikes.now i).size) (get_or_default p.puts.now (2 * i + 1) c.index-puts-i.result no_sum within) in
    (omega (arith, ints), counts_near p c.args.place)

-- at the next those of a call
even : (c : After-units-else-place-eq1) → let p = c.args.self.now in (receipt_at p c.args.place ≡ (c.args.before +ℤ c.units-else-place-eq1.result)) × Near 20480000000000000 (receipt_at p c.args.place)
even c =
    let p = c.args.self.now in
    let i = (c.args.place - 1) / 2 in
    let within : 2 * i < length p.calls.now = search rules in
    let step = step_even p c.args.place i (omega arith) (omega arith) in
    let units = ap (λ (x : Sum). x.value *ℤ pos (strike_at p.strikes.now i).size) (get_or_default p.calls.now (2 * i) c.index-calls-i.result no_sum within) in
    (omega (arith, ints), counts_near p c.args.place)

pub overflow_add-result : goal.overflow_add-result
overflow_add-result c = let sum = odd c in omega (arith, ints)

pub returns-then-place-eq1 : goal.returns-then-place-eq1
returns-then-place-eq1 c = let sum = odd (goal.at.returns-then-place-eq1 c).After-units in record { value = omega (arith, ints); bound = (omega (arith, ints), omega (arith, ints)) }

pub overflow_add-result-else-place-eq1 : goal.overflow_add-result-else-place-eq1
overflow_add-result-else-place-eq1 c = let sum = even c in omega (arith, ints)

pub returns-else-place-eq1 : goal.returns-else-place-eq1
returns-else-place-eq1 c = let sum = even (goal.at.returns-else-place-eq1 c).After-units-else-place-eq1 in record { value = omega (arith, ints); bound = (omega (arith, ints), omega (arith, ints)) }
