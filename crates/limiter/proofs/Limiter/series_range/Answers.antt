use Rattle.std.proofs.Common.{ap, arith}
use Rattle.std.specs.Option.{option_copied}
use Rattle.std.proofs.lemmas.Int.{ints}
use Rattle.std.proofs.lemmas.Bool.Decides.{nat_tests}
use Rattle.ledger.specs.declared.cells.Quote.{Quote}
use Rattle.expiry.proofs.Sums.{sum_more}
use Rattle.parties.specs.Directories.{entries_of}
use Rattle.limiter.specs.Positions.{lows, highs}
use Rattle.limiter.proofs.Sums.{added}
use Rattle.limiter.proofs.Limiter.series_range.Goals as goal
use Rattle.limiter.proofs.Limiter.series_range.Goals.{then-belongs, else-belongs}

pub loop-account-preserved : goal.loop-account-preserved
loop-account-preserved g c =
    let inv = c.loop-account.invariant in
    let m = g.L.Ledger.meaning c.args.self.now.ledger in
    let k = option_copied c.args.change in
    elim c.if-belongs.branch [
      | then-belongs w ↦ record {
        low = added (entries_of c.args.self.now.directory) c.args.level c.args.party (lows m k) c.args.series c.loop-account.account _ w.quote-quote.result.low _ w.if-belongs.ensures inv.low (ap (λ (q : Quote). q.low) w.quote-quote.ensures.value) (omega (arith, ints));
        high = added (entries_of c.args.self.now.directory) c.args.level c.args.party (highs m k) c.args.series c.loop-account.account _ w.quote-quote.result.high _ w.if-belongs.ensures inv.high (ap (λ (q : Quote). q.high) w.quote-quote.ensures.value) (omega (arith, ints));
        low_near = (omega (arith, ints), omega (arith, ints));
        high_near = (omega (arith, ints), omega (arith, ints));
        within = omega (arith, c.loop-account-test.true);
      }
      | else-belongs w ↦ record {
        low = grind (arith, ints, nat_tests, sum_more);
        high = grind (arith, ints, nat_tests, sum_more);
        low_near = (omega (arith, ints), omega (arith, ints));
        high_near = (omega (arith, ints), omega (arith, ints));
        within = omega (arith, c.loop-account-test.true);
      }
    ]
