-- The texts of lines, and the buffers that they fill. Assumes nothing.
use Rattle.std.proofs.Common.{◌≡◌, ℕ, suc, ◌+◌, ◌-◌, ◌^◌, ◌<◌, ◌≤◌, true, false, Bool, cond, not, ltb, eqb, List, [], ◌∷◌, ◌++◌, length, get_or, take, drop, set, replicate, ℤ, pos, negsuc, Some, None, Ok, Err, MatchOption, Option, Result, position, codes, decimal, sym, refl, ap, ◌∙◌, subst, inl, inr, append_assoc, one-add, arith, ltb-false, take_all}
use lib.Signed.{mag}
use Rattle.std.specs.List.{prefix_len, AllByRecursion}
use Rattle.std.specs.Fmt.{signed_decimal}
use Rattle.std.proofs.lemmas.Fmt.{decimal_digit, decimal_nonempty, first_decimal, digits_decimal, digits_value-decimal}
use Rattle.std.proofs.ByRecursion.{All-weaker, All-append}
use Rattle.std.proofs.lemmas.List.{set_at, take_at, length_push, drop-replicate}
use Rattle.std.proofs.lemmas.Bool.{ne_eqb, cases_lt}
use Rattle.ledger.specs.declared.cells.Quote.{Quote}
use Rattle.ledger.specs.declared.faults.Fault.{Fault}
use Rattle.ledger.specs.declared.books.Holding.{Holding}
use Rattle.ledger.specs.Faults.{number}
use Rattle.lines.specs.Fields.{Digit, Leads, Decimal, WithSign}
use Rattle.lines.specs.Output.{Inside, Filled, ◌beside◌, AnswerText, SheetText, AnswerLine, SheetLine, goes_on, printed}
use Rattle.lines.proofs.Digits.{numerals}

-- a text at the start of 64 zeros, with byte 10 behind it
pub buffered : (text copied : List ℕ) (n : ℕ) → copied ≡ text → length text ≡ n → n ≤ 63 → set (copied ++ drop n (replicate 64 0)) n 10 ≡ text ++ 10 ∷ replicate (63 - length text) 0
buffered text copied n e l m =
    let k : 64 - n ≡ suc (63 - length text) = omega arith in
    ap (λ s. set s n 10) (ap (λ x. x ++ drop n (replicate 64 0)) e ∙ ap (λ x. text ++ x) (drop-replicate n 64 0 ∙ ap (λ j. replicate j 0) k)) ∙ set_at text 0 (replicate (63 - length text) 0) 10 n l

-- ---- the digits of a number

-- the first digit is not 0
leads_with : (ds : List ℕ) → 0 < length ds → 48 < get_or ds 0 0 → Leads ds
leads_with [] l h = absurd (omega arith)
leads_with (d ∷ ds) l h = λ e. absurd (omega arith)

-- or the digits are those of 0
leading : (n : ℕ) → n < 2 ^ 64 → Leads (decimal n)
leading n l = elim (cases_lt 0 n) [
  | inl p ↦ leads_with (decimal n) (decimal_nonempty n l) (first_decimal n p l)
  | inr z ↦ let e : n ≡ 0 = omega arith in subst Leads (sym (ap decimal e ∙ decimal_digit 0 (omega arith))) (λ _. refl)
]

-- what is printed are the digits
pub decimal_is : (n : ℕ) → n < 2 ^ 64 → Decimal n (decimal n)
decimal_is n l = record { digits = digits_decimal numerals n l; leads = leading n l; stands = digits_value-decimal numerals n l }

-- with the sign before them
pub signed_is : (z : ℤ) → mag z < 2 ^ 63 → WithSign Decimal z (signed_decimal z)
signed_is (pos n) l = decimal_is n (omega arith)
signed_is (negsuc n) l = (decimal (suc n), refl, decimal_is (suc n) (omega arith))

-- ---- no byte of a text is 10

decimal_inside : (n : ℕ) (ds : List ℕ) → Decimal n ds → AllByRecursion Inside ds
decimal_inside n ds h = All-weaker Digit Inside (λ b d e. omega (arith, d.0)) ds h.digits

signed_inside : (z : ℤ) (ds : List ℕ) → WithSign Decimal z ds → AllByRecursion Inside ds
signed_inside (pos n) ds h = decimal_inside n ds h
signed_inside (negsuc n) ds h = subst (AllByRecursion Inside) (sym h.1) ((λ e. omega arith), decimal_inside (suc n) h.0 h.2)

beside_inside : (a b : List ℕ) → AllByRecursion Inside a → AllByRecursion Inside b → AllByRecursion Inside (a beside b)
beside_inside a b g h = All-append Inside a (32 ∷ b) g ((λ e. omega arith), h)

pub answer_inside : (r : Result Quote Fault) (text : List ℕ) → AnswerText r text → AllByRecursion Inside text
answer_inside (Ok q) text e = subst (AllByRecursion Inside) (sym e) ((λ x. omega arith), ((λ x. omega arith), tt))
answer_inside (Err f) text (a, b, c, e, x, y, z) = subst (AllByRecursion Inside) (sym e)
    (beside_inside (codes "no" beside a beside b) c (beside_inside (codes "no" beside a) b (beside_inside (codes "no") a ((λ x. omega arith), ((λ x. omega arith), tt)) (decimal_inside _ a x)) (decimal_inside _ b y)) (decimal_inside _ c z))

pub sheet_inside : (h : Holding) (text : List ℕ) → SheetText h text → AllByRecursion Inside text
sheet_inside h text (a, b, c, e, x, y, z) = subst (AllByRecursion Inside) (sym e)
    (beside_inside (codes "p" beside a beside b) c (beside_inside (codes "p" beside a) b (beside_inside (codes "p") a ((λ x. omega arith), tt) (decimal_inside _ a x)) (decimal_inside _ b y)) (signed_inside _ c z))

-- ---- the lines of those texts

pub answer_shown : (r : Result Quote Fault) (text buffer : List ℕ) → AnswerText r text → (AllByRecursion Inside text → Filled text buffer) → AnswerLine r buffer
answer_shown r text buffer t f = (text, t, f (answer_inside r text t))

-- a refusal with its three numbers
pub refusal_text : (f : Fault) (n : ℕ) → n ≡ number f.reason → n < 2 ^ 64 → f.depth < 2 ^ 64 → f.spot < 2 ^ 64 → AnswerText (Err f) (codes "no" beside decimal n beside decimal f.depth beside decimal f.spot)
refusal_text f n e l m k = (decimal n, decimal f.depth, decimal f.spot, refl, subst (λ x. Decimal x (decimal n)) e (decimal_is n l), decimal_is f.depth m, decimal_is f.spot k)

pub sheet_shown : (h : Holding) (text buffer : List ℕ) → h.account < 2 ^ 64 → h.series < 2 ^ 64 → mag h.held < 2 ^ 63 → text ≡ codes "p" beside decimal h.account beside decimal h.series beside signed_decimal h.held → (AllByRecursion Inside text → Filled text buffer) → SheetLine h buffer
sheet_shown h text buffer l m k e f =
    let t : SheetText h text = (decimal h.account, decimal h.series, signed_decimal h.held, e, decimal_is h.account l, decimal_is h.series m, signed_is h.held k) in
    (text, t, f (sheet_inside h text t))

-- ---- what is printed

-- the first byte 10 of a filled buffer stands behind the text
leading_inside : (text rest : List ℕ) → AllByRecursion Inside text → prefix_len goes_on (text ++ 10 ∷ rest) ≡ length text
leading_inside [] rest h = refl
leading_inside (b ∷ text) rest h = ap (λ t. cond (not t) (1 + prefix_len goes_on (text ++ 10 ∷ rest)) 0) (ne_eqb b 10 h.0) ∙ one-add _ ∙ ap suc (leading_inside text rest h.1)

-- so the text and its byte 10 are printed
pub printed_filled : (text buffer : List ℕ) → Filled text buffer → printed buffer ≡ text ++ 10 ∷ []
printed_filled text buffer h =
    let zs = replicate (63 - length text) 0 in
    ap printed h.holds ∙ ap (λ n. take (n + 1) (text ++ 10 ∷ zs)) (leading_inside text zs h.inside) ∙ ap (take (length text + 1)) (sym (append_assoc text (10 ∷ []) zs)) ∙ take_at (text ++ 10 ∷ []) zs (length text + 1) (length_push text 10)

-- the part up to the first byte 10, or all of it where there is none
pub printed_at : (s : List ℕ) (r : Option ℕ) → r ≡ position (λ b. eqb b 10) s → MatchOption r (s ≡ printed s) (λ end. take (end + 1) s ≡ printed s)
printed_at s r e = subst (λ o. MatchOption o (s ≡ printed s) (λ end. take (end + 1) s ≡ printed s)) (sym e) (by_test (ltb (prefix_len goes_on s) (length s)) refl)
  where
    by_test : (t : Bool) → ltb (prefix_len goes_on s) (length s) ≡ t → MatchOption (cond t (Some (prefix_len goes_on s)) None) (s ≡ printed s) (λ end. take (end + 1) s ≡ printed s)
    by_test true p = refl
    by_test false p = sym (take_all (prefix_len goes_on s + 1) s (omega (arith, ltb-false)))
