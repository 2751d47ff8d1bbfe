use Rattle.std.proofs.Common.{◌∙◌, subst}
use Rattle.expiry.specs.Quantities.{Greatest}
use Rattle.expiry.proofs.flows.Counts.greatest_flow.Goals as goal

pub returns : goal.returns
returns c = subst (λ xs. Greatest xs c.greatest_of.result.value c.greatest_of.result.place) (c.deref.ensures.0 ∙ c.flows.ensures) c.greatest_of.ensures
