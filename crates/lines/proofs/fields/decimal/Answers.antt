use Rattle.std.proofs.Common.{◌+◌, ◌-◌, ◌*◌, ◌^◌, ◌<◌, get_or, pos, sym, ap, ◌∙◌, subst, arith, take_all, w64}
use Rattle.std.proofs.lemmas.Int.{to_z_pos}
use Rattle.std.proofs.lemmas.List.Sums.{fold_more}
use Rattle.lines.specs.Fields.{value}
use Rattle.lines.proofs.Digits.{digit_at, ten_more, ten_bound}
use Rattle.lines.proofs.fields.decimal.Goals as goal

pub overflow_mul-n : goal.overflow_mul-n
overflow_mul-n c = omega (arith, ten_bound _ _ c.loop-b.invariant.1 (omega arith))

pub overflow_sub-b : goal.overflow_sub-b
overflow_sub-b c = (digit_at _ _ c.loop-b-test.true c.requires.all).0

pub overflow_add-n : goal.overflow_add-n
overflow_add-n c = omega (arith, ten_bound _ _ c.loop-b.invariant.1 (omega arith), digit_at _ _ c.loop-b-test.true c.requires.all, c.from.ensures)

pub loop-b-preserved : goal.loop-b-preserved
loop-b-preserved c =
    let s = c.args.digits.now in
    let i = c.loop-b.b-index in
    let d = get_or s i 0 - 48 in
    let lt : d < 10 = omega (arith, digit_at _ _ c.loop-b-test.true c.requires.all) in (
      ap (λ x. c.loop-b.n * 10 + x) c.from.ensures ∙ ap (λ x. x * 10 + d) c.loop-b.invariant.0 ∙ sym (fold_more (λ a b. a * 10 + (b - 48)) 0 s i 0 c.loop-b-test.true),
      subst (λ x. c.loop-b.n * 10 + x < 10 ^ (i + 1)) (sym c.from.ensures) (ten_more c.loop-b.n i d c.loop-b.invariant.1 lt),
    )

pub overflow_cast-result : goal.overflow_cast-result
overflow_cast-result c = record { sfits = omega (arith, ten_bound _ _ c.loop-b.invariant.1 (omega arith)) }

pub returns : goal.returns
returns c =
    to_z_pos w64 c.loop-b.n (omega (arith, ten_bound _ _ c.loop-b.invariant.1 (omega arith))) ∙ ap pos (c.loop-b.invariant.0 ∙ ap value (take_all _ _ c.loop-b-test.false))
