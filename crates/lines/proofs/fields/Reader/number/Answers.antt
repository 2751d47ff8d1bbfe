use Rattle.std.proofs.Common.{◌≡◌, ◌≢◌, ◌-◌, ℕ, length, get_or, take, drop, ℤ, pos, ◌-ℤ◌, Some, sym, refl, ◌∙◌, arith, rules, w64, SFits, to_z, of_z}
use Rattle.std.proofs.lemmas.Int.{ints}
use Rattle.std.proofs.lemmas.Option.{get_or_from_slice_get}
use Rattle.lines.specs.Reading.{first}
use Rattle.lines.proofs.Splits.{cut_first, not_first}
use Rattle.lines.proofs.Numbers.{unsigned_read, minus_none, minus_read}
use Rattle.lines.proofs.fields.Reader.number.Goals as goal
use Rattle.lines.proofs.fields.Reader.number.Goals.{in_default-via-in-Signed+then-self-lt1, in_default-via-in-Signed+else-self-lt1+in_default-1, in_default-via-in_default, then-rest-lt1, else-rest-lt1+in_default-1}

pub returns-in_default : goal.returns-in_default
returns-in_default c =
    unsigned_read c.args.kind _ _ c.digits.result _ _
    (λ e. not_first 45 c.args.self.now.rest.now (λ l f. elim c.in_default.branch [
      | in_default-via-in-Signed+then-self-lt1 w ↦ search rules
      | in_default-via-in-Signed+else-self-lt1+in_default-1 w ↦ search rules
      | in_default-via-in_default w ↦ let p = w.in_default.is-0 in cc
    ]))
    c.digits.ensures

pub returns-in-48 : goal.returns-in-48
returns-in-48 c =
    let s = c.args.self.now.rest.now in
    let t = take (length s - 1) (drop 1 s) in
    let e : get_or s 0 0 ≡ 45 = search rules in
    let f : get_or t 0 0 ≡ 48 = search rules in
    minus_none c.args.kind s t _ _ (drop 0 t) c.in-Signed-eq45.is-0 (cut_first 45 s c.in-Signed-eq45.len_at_least e) refl (λ b x d. sym (get_or_from_slice_get t 0 b 0 (sym x)) ∙ f)

pub returns-in_err-n : goal.returns-in_err-n
returns-in_err-n c =
    let s = c.args.self.now.rest.now in
    let e : get_or s 0 0 ≡ 45 = search rules in
    rw c.from_residual.ensures (minus_none c.args.kind _ _ _ _ c.digits-2.new.self.rest.now c.in-Signed-eq45.is-0 (cut_first 45 s c.in-Signed-eq45.len_at_least e) c.in_err-n.ensures.0 (λ b x d. absurd (c.in_err-n.ensures.1 b x d)))

negated : (z : ℤ) (m : ℕ) → SFits w64 z → z ≡ pos m → to_z w64 (of_z w64 (pos 0 -ℤ to_z w64 (of_z w64 z))) ≡ pos 0 -ℤ z
negated z m f e = omega (arith, ints)

pub returns : goal.returns
returns c =
    let s = c.args.self.now.rest.now in
    let t = take (length s - 1) (drop 1 s) in
    let e : get_or s 0 0 ≡ 45 = search rules in
    let f : SFits w64 c.in_ok-n.n = search rules in
    let d = c.in_ok-n.ensures in
    let h : Some 48 ≢ first t = not_first 48 t (λ l g. elim c.if-rest-lt1.branch [
      | then-rest-lt1 w ↦ search rules
      | else-rest-lt1+in_default-1 w ↦ search rules
    ]) in
    minus_read c.args.kind s t _ c.in_ok-n.n _ _ _ c.in-Signed-eq45.is-0 (cut_first 45 s c.in-Signed-eq45.len_at_least e) h (negated c.in_ok-n.n d.0 f d.1) d
