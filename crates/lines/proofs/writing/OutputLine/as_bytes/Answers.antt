use Rattle.std.proofs.Common.{eqb, ◌∙◌, rules, tests}
use Rattle.std.proofs.lemmas.Iterator.{YieldsList-from_slice}
use Rattle.std.proofs.lemmas.Iterator.Search.{position_from_yields_List}
use Rattle.lines.proofs.Buffers.{printed_at, printed_filled}
use Rattle.lines.proofs.writing.OutputLine.as_bytes.Goals as goal

pub returns-in-Some : goal.returns-in-Some
returns-in-Some c =
    let s = c.args.self.now.bytes in
    let p = position_from_yields_List (λ b. eqb b 10) _ _ c.position.result c.position.ensures.ran (YieldsList-from_slice s cc) (λ x b q k. search (rules, tests)) in
    let e = rw c.in-Some.is at (printed_at s c.position.result p) in
    record { part = e; line = λ text f. e ∙ printed_filled text s f }

pub returns-in-None : goal.returns-in-None
returns-in-None c =
    let s = c.args.self.now.bytes in
    let p = position_from_yields_List (λ b. eqb b 10) _ _ c.position.result c.position.ensures.ran (YieldsList-from_slice s cc) (λ x b q k. search (rules, tests)) in
    let e = rw c.in-None.is at (printed_at s c.position.result p) in
    record { part = e; line = λ text f. e ∙ printed_filled text s f }
