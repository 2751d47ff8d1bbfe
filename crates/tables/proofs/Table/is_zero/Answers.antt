use Rattle.std.proofs.Common.{◌≡◌, ◌/◌, ◌%◌, ◌*◌, get_or, get_or-take, length-take-le, pos, vec_items, sym, refl, ap, ◌∙◌, arith, w64, of_z}
use Rattle.std.proofs.lemmas.Bool.{false≢true}
use Rattle.tables.specs.Tables.{rows_of}
use Rattle.tables.proofs.Rows.{number_zero, number_at}
use Rattle.tables.proofs.Table.is_zero.Goals as goal

pub returns-then-n-ne0 : goal.returns-then-n-ne0
returns-then-n-ne0 c = (
  λ e. absurd (false≢true e),
  λ z.
      let t = c.args.self.now in
      let k = c.loop-n.n-index in
      let xs = vec_items t.numbers in
      let len = length-take-le (c.rows-end.result * 64) c.deref.result.now (omega arith) in
      let zero : get_or xs k (pos 0) ≡ pos 0 = sym (number_at xs (rows_of t) k (omega arith)) ∙ z (k / 64) (k % 64) in
      let read = get_or-take (c.rows-end.result * 64) c.deref.result.now k (pos 0) (omega arith) in
      absurd (c.if-n-ne0.true (ap (of_z w64) (read ∙ ap (λ ys. get_or ys k (pos 0)) c.deref.ensures.value ∙ zero))),
)

pub returns : goal.returns
returns c =
    let len = length-take-le (c.rows-end.result * 64) c.deref.result.now (omega arith) in
    (λ _ a s. number_zero _ _ a s (λ k h. c.loop-n.invariant k (omega arith)), λ _. refl)
