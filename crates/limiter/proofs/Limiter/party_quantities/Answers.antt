use Rattle.std.proofs.Common.{◌≡◌, ℕ, ◌<◌, get_or, rules, arith, ap, ◌∙◌}
use Rattle.std.specs.Option.{option_copied}
use Rattle.expiry.specs.declared.sum.Sum.{Sum}
use Rattle.expiry.specs.Quantities.{no_sum}
use Rattle.limiter.specs.declared.range.Range.{Range}
use Rattle.limiter.specs.Positions.{positions}
use Rattle.limiter.specs.States.{state_of}
use Rattle.limiter.specs.Sums.{Adds}
use Rattle.limiter.proofs.Arrays.{made}
use Rattle.limiter.proofs.Sums.{told}
use Rattle.limiter.proofs.Limiter.party_quantities.Goals as goal

abbrev none : Range
none = record { low = no_sum; high = no_sum }

pub returns-clause-told : goal.returns-clause-told
returns-clause-told g c =
    let o = positions g.L.Ledger.meaning (state_of c.args.self.now) (option_copied c.args.change) in
    let q = c.quantities.ensures in
    let each = made _ _ (Adds o c.args.level c.args.party) (λ i y f k. (search rules, search rules)) _ 64 c.from_fn-ranges.ensures.items in
    let low : (s : ℕ) → s < 64 → get_or c.map.result s no_sum ≡ (get_or c.from_fn-ranges.result s none).low = λ s l. let k = c.map.ensures.items.at s none no_sum l in search rules in
    let high : (s : ℕ) → s < 64 → get_or c.map-2.result s no_sum ≡ (get_or c.from_fn-ranges.result s none).high = λ s l. let k = c.map-2.ensures.items.at s none no_sum l in search rules in
    told o c.args.level c.args.party (let few = c.args.self.now.class.lawful.few in omega arith) c.map.result c.map-2.result
    (λ s l. (ap (λ (z : Sum). z.value) (low s l) ∙ (each s none l).low, ap (λ (z : Sum). z.value) (high s l) ∙ (each s none l).high)) c.quantities.result q.long q.short q.value
