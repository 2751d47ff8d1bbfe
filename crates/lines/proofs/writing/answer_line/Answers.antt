use Rattle.std.proofs.Common.{◌≡◌, ◌^◌, ◌<◌, Err, codes, decimal, sym, subst, arith, rules}
use Rattle.lines.specs.Output.{◌beside◌, AnswerText}
use Rattle.lines.proofs.Buffers.{answer_shown, refusal_text}
use Rattle.lines.proofs.writing.answer_line.Goals as goal
use Rattle.lines.proofs.writing.answer_line.Goals.{in-Ok, in-Err}

pub returns : goal.returns
returns c = answer_shown c.args.answer _ _ (elim c.match-answer.branch [
  | in-Ok w ↦
      let e : c.match-answer.text.bytes ≡ codes "ok" = rw (w.text-is, w.push_str.ensures.bytes, c.new-text.ensures) in
      subst (λ r. AnswerText r c.match-answer.text.bytes) (sym w.in-Ok.is) e
  | in-Err w ↦
      let f = w.in-Err.fault in
      let l : w.from.result < 2 ^ 8 = search rules in
      let m : f.depth < 2 ^ 8 = search rules in
      let k : f.spot < 2 ^ 64 = search rules in
      let e : c.match-answer.text.bytes ≡ codes "no" beside decimal w.from.result beside decimal f.depth beside decimal f.spot =
      rw (w.text-is, w.push_field-in-Err-2.ensures.bytes, w.push_field-in-Err.ensures.bytes, w.push_field.ensures.bytes, w.push_str-in-Err.ensures.bytes, c.new-text.ensures) in
      subst (λ r. AnswerText r c.match-answer.text.bytes) (sym w.in-Err.is) (subst (AnswerText (Err f)) (sym e) (refusal_text f w.from.result w.from.ensures (omega arith) (omega arith) k))
]) c.of.ensures
