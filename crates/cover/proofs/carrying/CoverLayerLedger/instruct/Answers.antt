use Rattle.std.proofs.Common.{sym}
use Rattle.cover.specs.CoverFacts.{cover_ok, done}
use Rattle.cover.proofs.carrying.CoverLayerLedger.instruct.Goals as goal

pub cover_after-cover-requires : goal.cover_after-cover-requires
cover_after-cover-requires g c =
    let x = c.args.self.now in
    (cover_ok (g.L.Ledger.meaning x.below) x.cover c.args.i c.in_ok-quote.quote (sym c.in_ok-quote.ensures)).checks.within

pub invariant_of-self : goal.invariant_of-self
invariant_of-self g c =
    let x = c.args.self.now in
    let k = cover_ok (g.L.Ledger.meaning x.below) x.cover c.args.i c.in_ok-quote.quote (sym c.in_ok-quote.ensures) in
    let d = done g.L.Ledger.meaning x.below _ (g.met.L.Ledger.lawful x.below) c.args.i x.cover_kept k c.sent.ensures c.send_below.ensures.passed c.cover_after-cover.ensures c.put.ensures in
    record { cover_kept = d.cover }

pub returns : goal.returns
returns g c =
    let x = c.args.self.now in
    let k = cover_ok (g.L.Ledger.meaning x.below) x.cover c.args.i c.in_ok-quote.quote (sym c.in_ok-quote.ensures) in
    let d = done g.L.Ledger.meaning x.below _ (g.met.L.Ledger.lawful x.below) c.args.i x.cover_kept k c.sent.ensures c.send_below.ensures.passed c.cover_after-cover.ensures c.put.ensures in
    record {
      carried = record { answer = c.in_ok-quote.ensures; left = d.left; taken = d.taken };
      kept = c.send_below.ensures.kept;
      sent = d.passed;
    }
