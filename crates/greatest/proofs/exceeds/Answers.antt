use Rattle.std.proofs.Common.{rules}
use Rattle.greatest.proofs.Turns.{greater}
use Rattle.greatest.proofs.exceeds.Goals as goal

pub returns : goal.returns
returns g c = let said = greater g.met.T.Ord.total g.met.T.Ord.matches_partial_cmp c.args.x.now c.args.y.now in search rules
