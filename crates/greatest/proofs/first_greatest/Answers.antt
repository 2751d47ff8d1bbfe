use Rattle.std.proofs.Common.{◌+◌, ◌<◌, length, arith}
use Rattle.greatest.proofs.Turns.{behind_first, turn_takes, turn_keeps}
use Rattle.greatest.proofs.first_greatest.Goals as goal
use Rattle.greatest.proofs.first_greatest.Goals.{then-exceeds, else-exceeds}

pub loop-i-preserved : goal.loop-i-preserved
loop-i-preserved g c =
    let cut = c.in_ok-greatest.ensures.cases in
    let there = behind_first _ _ _ _ c.loop-i.i cut.0 c.index-rest-i.is in
    let within : c.loop-i.i + 1 < length c.args.list.now = omega (arith, cut.1, c.loop-i-test.true) in
    let o = g.met.T.Ord.total in
    let so_far = c.loop-i.invariant in
    elim c.if-exceeds.branch [
      | then-exceeds w ↦ rw (w.first-is, w.greatest-is) (turn_takes o c.args.list.now (c.loop-i.i + 1) c.loop-i.first _ _ so_far.0 within there so_far.1 (rw c.exceeds.ensures at w.if-exceeds.true), there)
      | else-exceeds w ↦ rw (w.first-is, w.greatest-is) (turn_keeps o c.args.list.now (c.loop-i.i + 1) c.loop-i.first _ _ so_far.0 within there so_far.1 (rw c.exceeds.ensures at w.if-exceeds.false), so_far.1)
    ]
