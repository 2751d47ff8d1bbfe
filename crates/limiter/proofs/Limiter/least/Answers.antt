use Rattle.std.proofs.Common.{subst, rules}
use Rattle.greatest.specs.Greatest.{FirstGreatest}
use Rattle.greatest.specs.Headrooms.{rank, opposite}
use Rattle.expiry.specs.declared.side.Side.TheVariants.{Long}
use Rattle.parties.specs.declared.level.Level.TheVariants.{Account}
use Rattle.limiter.specs.States.{state_of}
use Rattle.limiter.proofs.Arrays.{mapped}
use Rattle.limiter.proofs.Least.{no_headroom, AtLevel, AtCheck, least_is}
use Rattle.limiter.proofs.Limiter.least.Goals as goal

pub returns : goal.returns
returns g c =
    let m = g.L.Ledger.meaning in
    let s = state_of c.args.self.now in
    least_is m s c.args.path c.map-headrooms.result
    (λ k l. mapped _ _ (AtLevel m s c.args.path) (λ level h f called. (search rules, search rules)) _ _ 4 c.map-headrooms.ensures.items k Account no_headroom l)
    c.map-list.result c.map-list.ensures.items.long
    (mapped _ _ (AtCheck m s c.args.path c.map-headrooms.result) (λ at e f called. (search rules, search rules)) _ _ 8 c.map-list.ensures.items) c.unwrap-first.result (Account, Long) _ (subst (FirstGreatest (opposite rank) c.map-list.result) c.unwrap-first.ensures c.least_headroom.ensures)
