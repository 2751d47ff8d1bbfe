use Rattle.std.proofs.Common.{◌≡◌, ◌+◌, ◌-◌, ap, ◌∙◌, arith, w64, to_z, of_z}
use Rattle.std.proofs.lemmas.Int.{ints}
use Rattle.std.proofs.lemmas.List.{take_all}
use Rattle.expiry.specs.Quantities.{flow}
use Rattle.expiry.specs.Counts.{counts_of, receipt_at}
use Rattle.expiry.proofs.Exact.{flows_more, length-flows}
use Rattle.expiry.proofs.flows.Counts.flows.Goals as goal

pub loop-place-preserved : goal.loop-place-preserved
loop-place-preserved c =
    let p = c.args.self.now in
    let place = c.loop-place.place in
    let on : place ≡ place + 1 - 1 = omega arith in
    let receipt : to_z w64 (of_z w64 c.next_receipt-receipt.result) ≡ receipt_at p place = omega (arith, ints) in
    let counted : c.flow.result ≡ flow c.args.side (receipt_at p place) = c.flow.ensures ∙ ap (flow c.args.side) receipt in
    let pushed : to_z w64 (of_z w64 c.flow.result) ≡ flow c.args.side (receipt_at p place) = omega (arith, ints) in (
      receipt ∙ ap (receipt_at p) on,
      c.push.ensures.items ∙ flows_more c.args.side p.strikes.now (counts_of p) place _ _ (omega arith) c.loop-place.invariant.1 pushed,
    )

pub returns : goal.returns
returns c = c.loop-place.invariant.1 ∙ take_all _ _ (omega (arith, length-flows c.args.side c.args.self.now.strikes.now (counts_of c.args.self.now)))
