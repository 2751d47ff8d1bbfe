use Rattle.std.proofs.Common.{◌≡◌, sym, refl, ap, ◌∙◌, subst, w64, to_z, of_z, SFits, rules}
use Rattle.std.proofs.lemmas.Int.{to_z-of_z}
use Rattle.calls.specs.declared.Call.TheVariants as call
use Rattle.parties.specs.Limits.{settable, Set}
use Rattle.parties.specs.Tables.{limiting}
use Rattle.limiter.specs.States.{state_of}
use Rattle.limiter.proofs.Steps.{declined, limit_is, limit_done}
use Rattle.limiter.proofs.Limiter.set_limit.Goals as goal

pub returns-in_err-check_most : goal.returns-in_err-check_most
returns-in_err-check_most g c =
    let m = g.L.Ledger.meaning in
    let s = state_of c.args.self.now in
    let fits : SFits w64 c.args.n.limit = search rules in
    let same : to_z w64 (of_z w64 c.args.n.limit) ≡ c.args.n.limit = to_z-of_z w64 c.args.n.limit fits in
    let is = limit_is m s c.args.n c.in_ok-level.level c.in_ok-side.side _ c.in_ok-level.ensures c.in_ok-side.ensures c.if-n-ge-WIDTH.false (ap limiting (sym same) ∙ sym c.if-not-is_limit.ensures) c.party_quantities.ensures.told in
    declined m s (call.Limit c.args.n) _ c.in_err-check_most.field-0.0 _ (is ∙ search rules) (search rules)

pub returns : goal.returns
returns g c =
    let m = g.L.Ledger.meaning in
    let s = state_of c.args.self.now in
    let fits : SFits w64 c.args.n.limit = search rules in
    let same : to_z w64 (of_z w64 c.args.n.limit) ≡ c.args.n.limit = to_z-of_z w64 c.args.n.limit fits in
    let is = limit_is m s c.args.n c.in_ok-level.level c.in_ok-side.side _ c.in_ok-level.ensures c.in_ok-side.ensures c.if-n-ge-WIDTH.false (ap limiting (sym same) ∙ sym c.if-not-is_limit.ensures) c.party_quantities.ensures.told in
    limit_done m s c.args.n c.in_ok-level.level c.in_ok-side.side c.args.self.now.limits c.set.new.self c.set.result (is ∙ search rules) c.in_ok-level.ensures c.in_ok-side.ensures refl
    (c.set.ensures.answer ∙ ap (settable c.args.n.party) same) (subst (λ z. Set c.args.self.now.limits c.set.new.self c.in_ok-level.level c.args.n.party c.in_ok-side.side z c.set.result) same c.set.ensures.left)
