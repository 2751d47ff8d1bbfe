use Rattle.std.proofs.Common.{sym, ap, ◌∙◌, subst}
use Rattle.ledger.specs.Cells.{after}
use Rattle.ledger.specs.Meanings.{Left}
use Rattle.foreign.specs.Spans.{span_cell}
use Rattle.foreign.specs.SpansLemmas.{span_ok}
use Rattle.foreign.proofs.SpanLayerLedger.instruct.Goals as goal

pub returns-clause-carried : goal.returns-clause-carried
returns-clause-carried g c =
    let i = c.args.i in
    let meaning = g.L.Ledger.meaning in
    let x = c.args.self.now.below in
    let below = c.instruct.ensures.carried in
    let k = span_ok (meaning x) i c.in_ok-quote.quote (sym c.in_ok-quote.ensures) in
    let o = subst (Left meaning x c.instruct.new.self i) (below.answer ∙ k.answers) below.left in
    record {
      answer = c.in_ok-quote.ensures;
      left = record {
        here = ap span_cell o.here ∙ ap (after (span_cell ((meaning x).cell i.account i.series)) i) (sym k.is);
        elsewhere = λ a s ne. ap span_cell (o.elsewhere a s ne);
      };
      taken = below.taken;
    }
