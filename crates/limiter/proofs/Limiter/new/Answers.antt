use Rattle.limiter.specs.declared.phase.Phase.TheVariants.{Setup}
use Rattle.limiter.proofs.Runs.{Below, begins}
use Rattle.limiter.proofs.Limiter.new.Given as given
use Rattle.limiter.proofs.Limiter.new.Goals as goal

abbrev below : (g : given.Over) → Below g.row.L.Denot
below g = record { meaning = g.L.Ledger.meaning; keeps = g.L.Ledger.keeps; lawful = g.met.L.Ledger.lawful; still = g.met.L.Ledger.still; onward = g.met.L.Ledger.onward }

pub returns-clause-begins : goal.returns-clause-begins
returns-clause-begins g c =
    begins (below g) c.args.ledger _ (λ i. record { phase = Setup; strikes = c.new.ensures i; entries = c.new-2.ensures i; limits = c.new-3.ensures i; ledger = c.args.ledger })
