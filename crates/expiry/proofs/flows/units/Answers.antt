use Rattle.std.proofs.Common.{◌≡◌, pos, ◌*ℤ◌, arith, w64, to_z, of_z}
use Rattle.std.proofs.lemmas.Int.{ints}
use Rattle.expiry.proofs.Bounds.{near_times}
use Rattle.expiry.proofs.flows.units.Goals as goal

pub returns : goal.returns
returns c =
    let near = near_times 64000000000 10000 c.args.size c.args.count.value c.args.count.near c.requires in
    let count : to_z w64 (of_z w64 c.value.result) ≡ c.args.count.value = omega (arith, ints) in
    let size : to_z w64 c.args.size ≡ pos c.args.size = omega (arith, ints) in
    let product : (to_z w64 (of_z w64 c.value.result) *ℤ to_z w64 c.args.size) ≡ (c.args.count.value *ℤ pos c.args.size) = cc in
    record { value = omega (arith, ints); bound = (omega (arith, ints), omega (arith, ints)) }
