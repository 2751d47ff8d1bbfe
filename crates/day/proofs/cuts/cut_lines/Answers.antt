use Rattle.std.proofs.Common.{ap, ◌∙◌, rules, tests}
use Rattle.std.specs.Slice.Iter.{split_inclusive_rest}
use Rattle.std.proofs.lemmas.List.Sorted.{answers_always}
use Rattle.day.proofs.Cutting.{cut_collected}
use Rattle.day.proofs.cuts.cut_lines.Goals as goal

pub returns : goal.returns
returns c =
    cut_collected _ _ _ (λ x r q k. search rules) c.map.result c.args.text.now c.collect.result (ap split_inclusive_rest c.map.ensures.source ∙ c.split_inclusive.ensures.rest) (answers_always _ _ _ (λ p a r q k. search (rules, tests))) c.map.ensures.closure c.collect.ensures.ran
