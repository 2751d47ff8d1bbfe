use Rattle.std.proofs.Common.{sym}
use Rattle.orders.specs.Resting.{buys_after, sells_after}
use Rattle.orders.specs.OrderFacts.{order_ok, done}
use Rattle.orders.proofs.carrying.OrderLayerLedger.instruct.Goals as goal

pub rests_after-rests-requires : goal.rests_after-rests-requires
rests_after-rests-requires g c =
    let x = c.args.self.now in
    (order_ok (g.L.Ledger.meaning x.below) c.args.i (buys_after x.buys c.args.i) (sells_after x.sells c.args.i) c.in_ok-quote.quote (sym c.in_ok-quote.ensures)).checks.within

pub sent-requires : goal.sent-requires
sent-requires g c =
    let x = c.args.self.now in
    (order_ok (g.L.Ledger.meaning x.below) c.args.i (buys_after x.buys c.args.i) (sells_after x.sells c.args.i) c.in_ok-quote.quote (sym c.in_ok-quote.ensures)).checks.within

pub invariant_of-self : goal.invariant_of-self
invariant_of-self g c =
    let x = c.args.self.now in
    let e = c.rests_after-rests.ensures in
    let k = order_ok (g.L.Ledger.meaning x.below) c.args.i (buys_after x.buys c.args.i) (sells_after x.sells c.args.i) c.in_ok-quote.quote (sym c.in_ok-quote.ensures) in
    let d = done g.L.Ledger.meaning x.below _ (g.met.L.Ledger.lawful x.below) c.args.i x.buys_rest x.sells_rest k c.sent.ensures c.send_below.ensures.passed e.buys e.sells c.put.ensures c.put-2.ensures in
    record { buys_rest = d.buys; sells_rest = d.sells }

pub returns : goal.returns
returns g c =
    let x = c.args.self.now in
    let e = c.rests_after-rests.ensures in
    let k = order_ok (g.L.Ledger.meaning x.below) c.args.i (buys_after x.buys c.args.i) (sells_after x.sells c.args.i) c.in_ok-quote.quote (sym c.in_ok-quote.ensures) in
    let d = done g.L.Ledger.meaning x.below _ (g.met.L.Ledger.lawful x.below) c.args.i x.buys_rest x.sells_rest k c.sent.ensures c.send_below.ensures.passed e.buys e.sells c.put.ensures c.put-2.ensures in
    record {
      carried = record { answer = c.in_ok-quote.ensures; left = d.left; taken = d.taken };
      kept = (c.send_below.ensures.kept, d.plain);
      sent = d.passed;
    }
