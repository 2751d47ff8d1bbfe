use Rattle.std.proofs.Common.{◌≡◌, ℕ, [], ◌∷◌, length, ℤ, pos, nat_abs, sym, refl, ap, ◌∙◌, arith, rules, w64, SFits, to_z, of_z}
use Rattle.std.proofs.lemmas.Int.{to_z-of_z}
use Rattle.std.proofs.lemmas.List.{nil_from_length}
use Rattle.ledger.specs.Actions.{letter}
use Rattle.lines.specs.declared.fields.Kind.TheVariants.{Plain}
use Rattle.lines.specs.Lines.{amount_kind}
use Rattle.lines.proofs.Splits.{not_first}
use Rattle.lines.proofs.Numbers.{stuck_behind, parts_behind}
use Rattle.lines.proofs.Whole.{no_letter, refused, refused_behind, instructed, left_over}
use Rattle.lines.proofs.reading.read_line.Goals as goal

pub returns-in_default : goal.returns-in_default
returns-in_default c = refused _ _ 0 c.misfit.ensures (no_letter _ (λ a. not_first (letter a) c.args.line.now (λ l. absurd (omega arith))))

pub returns-in_default-try_from : goal.returns-in_default-try_from
returns-in_default-try_from c = refused _ _ 0 c.misfit-in_default-try_from.ensures (no_letter _ (λ a. not_first (letter a) c.args.line.now (λ l e. c.in_default-try_from.ensures.1 a (sym e))))

pub returns-in_default-field : goal.returns-in_default-field
returns-in_default-field c =
    let a = c.in-Ok.action in
    refused_behind a _ c.in-len1-up.len_at_least c.in-Ok.ensures _ _ c.misfit-in_default-field.ensures
    (c.in_default-field.ensures (Plain ∷ amount_kind a ∷ []))

pub returns-in_default-field-2 : goal.returns-in_default-field-2
returns-in_default-field-2 c =
    let a = c.in-Ok.action in
    refused_behind a _ c.in-len1-up.len_at_least c.in-Ok.ensures _ _ c.misfit-in_default-field-2.ensures
    (stuck_behind Plain (Plain ∷ amount_kind a ∷ []) c.in-Some.ensures
    (c.in_default-field-2.ensures (amount_kind a ∷ [])))

pub returns-in_default-field-3 : goal.returns-in_default-field-3
returns-in_default-field-3 c =
    let a = c.in-Ok.action in
    let third = rw c.amount_kind.ensures at (c.in_default-field-3.ensures []) in
    refused_behind a _ c.in-len1-up.len_at_least c.in-Ok.ensures _ _ c.misfit-in_default-field-3.ensures
    (stuck_behind Plain (Plain ∷ amount_kind a ∷ []) c.in-Some.ensures
    (stuck_behind Plain (amount_kind a ∷ []) c.in-Some-field.ensures third))

pub returns-in_default-rest : goal.returns-in_default-rest
returns-in_default-rest c =
    let a = c.in-Ok.action in
    let third = rw c.amount_kind.ensures at c.in-Some-field-2.ensures in
    refused_behind a _ c.in-len1-up.len_at_least c.in-Ok.ensures _ _ c.misfit-in_default-rest.ensures
    (stuck_behind Plain (Plain ∷ amount_kind a ∷ []) c.in-Some.ensures
    (stuck_behind Plain (amount_kind a ∷ []) c.in-Some-field.ensures
    (stuck_behind (amount_kind a) [] third
    (left_over _ _ c.in_default-rest.len_at_least))))

-- a natural number stays what it is in a cast
cast_same : (z : ℤ) (n : ℕ) → SFits w64 z → z ≡ pos n → pos (nat_abs (to_z w64 (of_z w64 z))) ≡ z
cast_same z n f e = ap (λ x. pos (nat_abs x)) (to_z-of_z w64 z f ∙ e) ∙ sym e

pub returns : goal.returns
returns c =
    let a = c.in-Ok.action in
    let third = rw c.amount_kind.ensures at c.in-Some-field-2.ensures in
    let p = c.in-Some.ensures.2.reads in
    let q = c.in-Some-field.ensures.2.reads in
    let f : SFits w64 c.in-Some.account = search rules in
    let g : SFits w64 c.in-Some-field.series = search rules in
    let h : SFits w64 c.in-Some-field-2.amount = search rules in
    let x = cast_same c.in-Some.account p.0 f p.1 in
    let y = cast_same c.in-Some-field.series q.0 g q.1 in
    let w = to_z-of_z w64 c.in-Some-field-2.amount h in
    let l : length c.field-3.new.self.rest.now ≡ 0 = omega arith in
    instructed a _ c.in-len1-up.len_at_least c.in-Ok.ensures _ (c.in-Some.account ∷ c.in-Some-field.series ∷ c.in-Some-field-2.amount ∷ []) refl (cc)
    (parts_behind Plain 1 (Plain ∷ amount_kind a ∷ []) (c.in-Some-field.series ∷ c.in-Some-field-2.amount ∷ []) c.in-Some.ensures
    (parts_behind Plain _ (amount_kind a ∷ []) (c.in-Some-field-2.amount ∷ []) c.in-Some-field.ensures
    (parts_behind (amount_kind a) _ [] [] third (nil_from_length _ l))))
