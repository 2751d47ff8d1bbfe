use Rattle.std.proofs.Common.{◌≡◌, ◌≤◌, length, sym, ap, ◌∙◌, arith}
use Rattle.lines.proofs.Buffers.{buffered}
use Rattle.lines.proofs.writing.OutputLine.of.Goals as goal

pub returns : goal.returns
returns c = λ inside.
    let text = c.args.text.now.bytes in
    let n : length text ≡ length c.as_bytes-text.result.now = ap length (sym (c.as_bytes-text.ensures.value ∙ c.as_str.ensures.value)) in
    let few : length text ≤ 63 = omega (arith, c.as_str.ensures.fits, ap length c.as_str.ensures.value) in
    record {
      fits = few;
      holds = buffered text c.copy_from_slice.new.self _ (c.copy_from_slice.ensures.after ∙ c.as_bytes-text.ensures.value ∙ c.as_str.ensures.value) n (omega arith);
      inside = inside;
    }
