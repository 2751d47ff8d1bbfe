use Rattle.std.proofs.Common.{arith}
use Rattle.limiter.proofs.Runs.{promised_next}
use Rattle.limiter.proofs.running.run.Goals as goal

pub loop-call-preserved : goal.loop-call-preserved
loop-call-preserved g c = record {
  answered = omega arith;
  room = omega arith;
  promised = promised_next g.L.Ledger.meaning g.L.Ledger.keeps _ _ _ _ _ _ _ _ _ c.loop-call-test.true c.push_reserved.ensures.items c.call.ensures.extends c.loop-call.invariant.promised;
}
