use Rattle.std.proofs.Common.{pos, arith}
use Rattle.std.proofs.lemmas.List.{get_or-replicate}
use Rattle.tables.proofs.Rows.{number_zero}
use Rattle.tables.proofs.Table.new.Goals as goal

pub returns : goal.returns
returns c =
    let made = c.in_ok-numbers.ensures in
    let zeros = made.items_if_clones_equal (λ _ e. e) in
    (omega arith, λ a s. number_zero _ _ a s (λ k h. rw zeros (get_or-replicate 4096 k (pos 0) (pos 0) (omega arith))))
