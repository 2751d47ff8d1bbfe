use Rattle.std.proofs.Common.{sym}
use Rattle.limiter.specs.States.{state_of}
use Rattle.limiter.proofs.Steps.{admit_is}
use Rattle.limiter.proofs.Limiter.admit.Goals as goal

pub returns : goal.returns
returns g c =
    admit_is g.L.Ledger.meaning (state_of c.args.self.now) c.args.i c.in_ok-quote.quote c.new.result c.in_ok-path.path _ c.in_ok-path.ensures.0 c.in_ok-path.ensures.1 (sym c.in_ok-quote.ensures.answer) c.new.ensures c.check_path.ensures
