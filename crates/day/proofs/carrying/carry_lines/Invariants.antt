use Rattle.std.proofs.Common.{◌≡◌, ◌≤◌, map, length, take, vec_items, vec_len, vec_capacity}
use Rattle.day.specs.Days.{buffer, Serves}
use Rattle.day.specs.Runs.{Run}
use Rattle.day.proofs.carrying.carry_lines.Given as goal

abbrev pub invariant-loop-line : goal.invariant-loop-line
invariant-loop-line g l =
    (vec_len l.answers ≡ l.line-index)
    × (length l.lines ≤ vec_capacity l.answers)
    × Run (Serves g.L.Ledger.meaning g.L.Ledger.keeps) l.initial.ledger (map (λ x. x.now) (take l.line-index l.lines)) (map buffer (vec_items l.answers)) l.ledger
