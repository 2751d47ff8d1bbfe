use Rattle.std.proofs.Common.{◌≡◌, get_or, arith, rules}
use Rattle.lines.proofs.Splits.{cut_first, not_first}
use Rattle.lines.proofs.Stops.{no_space}
use Rattle.lines.proofs.Numbers.{space_read}
use Rattle.lines.proofs.fields.Reader.field.Goals as goal

pub returns-in_default : goal.returns-in_default
returns-in_default c = no_space _ _ _ (not_first 32 c.args.self.now.rest.now (λ l. absurd (omega arith)))

pub returns-in_default-2 : goal.returns-in_default-2
returns-in_default-2 c = no_space _ _ _ (not_first 32 c.args.self.now.rest.now (search rules))

pub returns : goal.returns
returns c =
    let s = c.args.self.now.rest.now in
    let e : get_or s 0 0 ≡ 32 = search rules in
    space_read _ _ _ _ c.number.result _ _ (cut_first 32 s c.in-32.len_at_least e) c.number.ensures
