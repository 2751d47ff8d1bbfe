use Rattle.std.proofs.Common.{◌≡◌, ◌≤◌, length, get_or, rules}
use Rattle.lines.proofs.Digits.{zero_spans, counted_spans}
use Rattle.lines.proofs.Splits.{cut_first, not_first}
use Rattle.lines.proofs.fields.Reader.number_length.Goals as goal

pub returns-in-48 : goal.returns-in-48
returns-in-48 c =
    let s = c.args.self.now.rest.now in
    let e : get_or s 0 0 ≡ 48 = search rules in
    zero_spans s _ (cut_first 48 s c.in-48.len_at_least e)

pub returns-in_default : goal.returns-in_default
returns-in_default c =
    let s = c.args.self.now.rest.now in
    let h : 1 ≤ length s → get_or s 0 0 ≡ 48 → ⊥ = search rules in
    counted_spans s _ (not_first 48 s h) c.count_digits.ensures
