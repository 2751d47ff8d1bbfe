use Rattle.std.proofs.Common.{◌∙◌, refl, arith, w64, SFits, rules}
use Rattle.std.proofs.lemmas.Int.{to_z-of_z}
use Rattle.lines.proofs.Digits.{none_read, some_read}
use Rattle.lines.proofs.fields.Reader.digits.Goals as goal

pub returns-then-n-eq0 : goal.returns-then-n-eq0
returns-then-n-eq0 c = none_read _ _ _ _ c.split_at.result.1.now c.number_length-n.ensures c.if-n-eq0.true (omega arith)

pub returns : goal.returns
returns c =
    let f : SFits w64 c.decimal.result = search rules in
    some_read _ _ _ _ _ _ _ c.number_length-n.ensures c.if-n-eq0.false c.split_at.ensures.front c.split_at.ensures.back refl (to_z-of_z w64 c.decimal.result f ∙ c.decimal.ensures)
