use Rattle.std.proofs.Common.{sym, refl, ◌∙◌, ⊎_elim, arith}
use Rattle.std.proofs.lemmas.Bool.{cases_lt, eqb-true, eq-eqb}
use Rattle.ledger.proofs.Counts.{not_zero}
use Rattle.entries.specs.Orders.{held_live}
use Rattle.entries.proofs.Whole.{none_held}
use Rattle.entries.proofs.book.carries.EntryBookLedger.unused.Goals as goal

pub returns : goal.returns
returns c =
    let x = c.args.self.now in
    let o = x.ordered in (
      λ e. none_held x (eqb-true _ _ e),
      λ none. ⊎_elim
          (λ l. let k = x.ordered.known 0 l in absurd (not_zero _ k.2 (sym (held_live o 0 _ _ k.1 l refl) ∙ none _ _)))
          (λ g. eq-eqb _ _ (omega arith))
          (cases_lt 0 x.live),
    )
