use Rattle.std.proofs.Common.{sym, subst}
use Rattle.ledger.specs.declared.cells.Cell.{Cell}
use Rattle.ledger.specs.Cells.{Ranged, standing}
use Rattle.ledger.proofs.layering.read_below.Goals as goal

pub returns : goal.returns
returns g c = record {
  value = c.cell.ensures;
  ranged = subst (λ (d : Cell). Ranged (standing d)) (sym c.cell.ensures) ((g.met.L.Ledger.lawful _).ranged _ _);
}
