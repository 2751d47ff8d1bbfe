use Rattle.std.proofs.Common.{rules}
use Rattle.calls.specs.declared.Call.TheVariants as call
use Rattle.limiter.specs.States.{state_of}
use Rattle.limiter.proofs.Steps.{declined, no_level, quantities_are}
use Rattle.limiter.proofs.Limiter.quantities.Goals as goal

pub returns-in_err-level : goal.returns-in_err-level
returns-in_err-level g c =
    let f = c.in_err-level.field-0.0 in
    declined g.L.Ledger.meaning (state_of c.args.self.now) (call.Quantities c.args.n) _ f _ (no_level g.L.Ledger.meaning (state_of c.args.self.now) c.args.n f c.in_err-level.ensures) (search rules)

pub returns : goal.returns
returns g c = quantities_are g.L.Ledger.meaning (state_of c.args.self.now) c.args.n c.in_ok-level.level _ c.in_ok-level.ensures c.if-n-ge-WIDTH.false c.party_quantities.ensures.told c.party_quantities.ensures.near
