use Rattle.std.proofs.Common.{[], map, vec_items, sym, refl, subst, arith}
use Rattle.std.proofs.lemmas.List.{take_all}
use Rattle.day.specs.Days.{buffer, Serves}
use Rattle.day.specs.Runs.{Run}
use Rattle.day.proofs.Steps.{run_next}
use Rattle.day.proofs.carrying.carry_lines.Goals as goal

pub loop-line-init : goal.loop-line-init
loop-line-init g c =
    let R = Serves g.L.Ledger.meaning g.L.Ledger.keeps in
    let x = c.args.ledger.now in
    let made = c.in_ok-answers.ensures in
    (made.len, made.capacity, subst (λ rs. Run R x [] (map buffer rs) x) (sym made.items) refl)

pub loop-line-preserved : goal.loop-line-preserved
loop-line-preserved g c =
    let R = Serves g.L.Ledger.meaning g.L.Ledger.keeps in
    let x = c.args.ledger.now in
    let z = c.serve_line.new.ledger in
    let lines = c.args.lines.now in
    let k = c.loop-line.line-index in
    let inv = c.loop-line.invariant in
    let pushed = c.push_reserved.ensures in (
      omega arith,
      omega arith,
      run_next R (λ x. x.now) buffer x c.loop-line.ledger z lines k _ (vec_items c.loop-line.answers) _ c.serve_line.result c.loop-line-test.true inv.2 c.serve_line.ensures pushed.items,
    )

pub returns : goal.returns
returns g c =
    let R = Serves g.L.Ledger.meaning g.L.Ledger.keeps in
    let lines = c.args.lines.now in
    record {
      made = subst (λ ls. Run R c.args.ledger.now (map (λ x. x.now) ls) (map buffer (vec_items c.loop-line.answers)) c.loop-line.ledger) (take_all c.loop-line.line-index lines c.loop-line-test.false) c.loop-line.invariant.2;
      refused = tt;
    }
