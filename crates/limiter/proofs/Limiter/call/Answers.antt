use Rattle.limiter.proofs.Runs.{Below, extends}
use Rattle.limiter.proofs.Limiter.call.Given as given
use Rattle.limiter.proofs.Limiter.call.Goals as goal

-- the ledger below, with its laws
abbrev below : (g : given.Over) → Below g.row.L.Denot
below g = record { meaning = g.L.Ledger.meaning; keeps = g.L.Ledger.keeps; lawful = g.met.L.Ledger.lawful; still = g.met.L.Ledger.still; onward = g.met.L.Ledger.onward }

pub returns-clause-extends : goal.returns-clause-extends
returns-clause-extends g c = extends (below g) c.args.self.now c.answer.new.self c.args.call c.answer.result c.answer.ensures
