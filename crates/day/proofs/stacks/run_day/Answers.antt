use Rattle.std.proofs.Common.{map, vec_items, ap, ◌∙◌, subst}
use Rattle.grid.specs.declared.GridBook.{GridBook}
use Rattle.grid.specs.Grids.{grid_meaning}
use Rattle.day.specs.Days.{buffer, Serves}
use Rattle.day.specs.Runs.{Run}
use Rattle.day.specs.Sheets.{AddsSheet}
use Rattle.day.specs.Stacks.{Orders, meaning_of, Kept}
use Rattle.std.proofs.lemmas.Result.{IfOk-weaker}
use Rattle.day.proofs.Opening.{day_of}
use Rattle.day.proofs.stacks.run_day.Goals as goal

pub returns : goal.returns
returns c =
    let text = c.args.input.now in
    let first = c.in_ok-stack.stack in
    let last = c.carry_lines.new.ledger in
    let lines = map (λ x. x.now) (vec_items c.in_ok-lines.lines) in
    let answers = vec_items c.in_ok-answers.answers in
    let book = c.below-2.ensures ∙ ap (λ (o : Orders). o.below) c.below.ensures in
    let run = subst (λ ls. Run (Serves meaning_of Kept) first (map (λ x. x.now) ls) (map buffer answers) last) c.as_slice.ensures.value c.in_ok-answers.ensures.made in
    IfOk-weaker c.add_sheet.result _ _
    (λ v sheet. day_of text first last lines answers (vec_items v) c.in_ok-stack.ensures c.in_ok-lines.ensures run
    (subst (λ (b : GridBook). AddsSheet (grid_meaning b.held).cell answers (vec_items v)) book sheet))
    c.add_sheet.ensures
