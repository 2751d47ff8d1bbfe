use Rattle.std.proofs.Common.{arith}
use Rattle.day.proofs.Opening.{idle, fresh}
use Rattle.day.proofs.stacks.new_stack.Goals as goal

pub returns : goal.returns
returns c =
    let grid = c.new.ensures in
    let orders = c.in_ok-orders.ensures in
    let cover = c.in_ok-new.ensures in
    let memory = c.in_ok-memory.ensures.len in
    let long = c.in_ok-memory.memory.ok.0 in
    let under = idle c.in_ok-orders.orders c.new.result orders.empty.0 grid.zero (omega (arith, grid.rows, memory, long)) orders.empty.1 orders.empty.2 orders.plain in
    fresh c.in_ok-new.field-0 c.in_ok-orders.orders cover.empty.0 cover.empty.1 under
