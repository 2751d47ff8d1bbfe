use Rattle.std.proofs.Common.{◌≡◌, ◌^◌, ◌<◌, length, codes, decimal, ap, arith, rules, w64, SFits}
use Rattle.std.specs.Fmt.{signed_decimal}
use Rattle.std.proofs.lemmas.Fmt.{length-decimal-le}
use Rattle.std.proofs.lemmas.Int.{to_z-of_z}
use Rattle.lines.specs.Output.{◌beside◌}
use Rattle.lines.proofs.Buffers.{sheet_shown}
use Rattle.lines.proofs.writing.sheet_line.Goals as goal
use Rattle.lines.proofs.writing.sheet_line.Goals.{then-h-lt-SERIES_END, else-h-lt-SERIES_END}

pub push_field-requires-then-h-lt-SERIES_END-2 : goal.push_field-requires-then-h-lt-SERIES_END-2
push_field-requires-then-h-lt-SERIES_END-2 c = omega (arith, ap length c.new-text.ensures, length-decimal-le 19 c.args.h.series (omega arith) c.if-h-lt-SERIES_END.true (omega arith))

pub returns-clause-line : goal.returns-clause-line
returns-clause-line c = λ l. elim c.if-h-lt-SERIES_END.branch [
  | then-h-lt-SERIES_END w ↦
      let h = c.args.h in
      let a : h.account < 2 ^ 64 = search rules in
      let k : SFits w64 h.held = search rules in
      let e : c.if-h-lt-SERIES_END.text.bytes ≡ codes "p" beside decimal h.account beside decimal h.series beside signed_decimal h.held =
      rw (w.text-is, w.push_field-then-h-lt-SERIES_END-2.ensures.bytes, w.push_field-then-h-lt-SERIES_END.ensures.bytes, w.push_field.ensures.bytes, w.push_str.ensures.bytes, c.new-text.ensures, to_z-of_z w64 h.held k) in
      sheet_shown h _ _ a (omega arith) k.sfits e c.of.ensures
  | else-h-lt-SERIES_END w ↦ absurd (omega arith)
]
