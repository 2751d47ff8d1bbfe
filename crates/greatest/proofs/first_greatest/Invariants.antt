use Rattle.std.proofs.Common.{◌≡◌, ◌+◌, get_or}
use Rattle.std.specs.List.{IsFirstBest}
use Rattle.greatest.specs.Greatest.{above}
use Rattle.greatest.proofs.first_greatest.Given as goal

abbrev pub invariant-loop-i : goal.invariant-loop-i
invariant-loop-i g l = IsFirstBest (above g.T.Ord.cmp) l.list (l.i + 1) l.first × (l.greatest ≡ get_or l.list l.first l.greatest)
