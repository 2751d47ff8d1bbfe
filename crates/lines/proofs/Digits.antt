-- The digits at the start of a text. Assumes nothing.
use Rattle.std.proofs.Common.{◌≡◌, ℕ, suc, zero, ◌+◌, ◌-◌, ◌*◌, ◌^◌, ◌<◌, ◌≤◌, min, true, false, List, [], ◌∷◌, ◌++◌, length, get_or, take, drop, ℤ, pos, Some, None, take_while, ◌≢◌, fold, sym, refl, ap, ◌∙◌, subst, inl, inr, add-zero, add-one, pow-suc, arith, rules, tests}
use native.Mathlib.Nat.{pow-le-pow_right}
use Rattle.std.specs.List.{prefix_len, AllByRecursion}
use Rattle.std.specs.Char.{is_ascii_digit}
use Rattle.std.proofs.lemmas.List.Folds.{length-prefix_len}
use Rattle.std.proofs.lemmas.List.{length-take, take-append-drop, length-take-le, length-append, length-drop, get_or-take, get_or-drop}
use Rattle.std.proofs.lemmas.List.Sums.{prefix_len-le-length, prefix_len_passes, prefix_len_stops}
use Rattle.std.proofs.lemmas.Option.{slice_get_within, get_or_from_slice_get}
use Rattle.std.proofs.lemmas.Str.Parse.{IsNumeralModel, numerals_by_fold}
use Rattle.std.proofs.lemmas.Bool.{cases_lt, both_ways}
use Rattle.std.proofs.ByRecursion.{all_from_every, All-get_or}
use Rattle.lines.specs.Fields.{Digit, value, Leads}
use Rattle.lines.specs.Reading.{first, Numeral, Spans, Ends, DigitsRead}
use Rattle.lines.proofs.Splits.{all_middle}

-- what the test says
pub digit_tested : (b : ℕ) → is_ascii_digit b ≡ true → Digit b
digit_tested b h = search (rules, tests)

pub digit_passes : (b : ℕ) → Digit b → is_ascii_digit b ≡ true
digit_passes b h = search (rules, tests)

-- the digits counted at the start are digits
counted : (s : List ℕ) (n : ℕ) → n ≤ prefix_len is_ascii_digit s → AllByRecursion Digit (take n s)
counted s n h =
    let l = prefix_len-le-length is_ascii_digit s in
    all_from_every Digit (take n s) (λ k d z lt. let m : k < n = omega (arith, length-take-le n s (omega arith)) in rw get_or-take (digit_tested (get_or s k d) (prefix_len_passes is_ascii_digit s k d (omega arith))))

-- and the byte behind them is none
stops : (s : List ℕ) (b : ℕ) → Some b ≡ first (drop (prefix_len is_ascii_digit s) s) → Digit b → ⊥
stops s b e d =
    let n = prefix_len is_ascii_digit s in
    let l = slice_get_within (drop n s) 0 b (sym e) in
    let m : n < length s = omega (arith, length-drop n s) in
    let f = get_or_from_slice_get (drop n s) 0 b 0 (sym e) in
    both_ways (is_ascii_digit b) (subst (λ x. is_ascii_digit x ≡ false) (ap (λ i. get_or s i 0) (sym (add-zero n)) ∙ sym (get_or-drop n s 0 0) ∙ f) (prefix_len_stops is_ascii_digit s 0 m)) (digit_passes b d)

-- a 0 stands alone
pub zero_spans : (s t : List ℕ) → s ≡ 48 ∷ t → Spans s 1
zero_spans s t e = subst (λ x. Spans x 1) (sym e) record {
  within = omega arith;
  few = omega arith;
  digits = ((omega arith, omega arith), tt);
  leads = λ _ _. refl;
  ends = λ b u x g. let h = g.1.decimal.leads refl in cc;
}

-- other digits do not begin with 0
leading : (s : List ℕ) (n : ℕ) → Some 48 ≢ first s → n ≤ length s → n ≢ 0 → Leads (take n s)
leading s zero h l z = absurd (z refl)
leading [] (suc n) h l z = absurd (omega arith)
leading (b ∷ s) (suc n) h l z = λ e. absurd (h (ap Some (sym e)))

-- they are counted, up to 18
pub counted_spans : (s : List ℕ) (n : ℕ) → Some 48 ≢ first s → n ≡ length (take 18 (take_while is_ascii_digit s)) → Spans s n
counted_spans s n h e =
    let l = prefix_len-le-length is_ascii_digit s in
    let c : n ≡ min 18 (prefix_len is_ascii_digit s) = e ∙ length-take 18 (take_while is_ascii_digit s) ∙ ap (min 18) (length-prefix_len is_ascii_digit s) in
    record {
      within = omega arith;
      few = omega arith;
      digits = counted s n (omega arith);
      leads = leading s n h (omega arith);
      ends = λ b u x g. elim (cases_lt n 18) [
        | inl k ↦ let m : n ≡ prefix_len is_ascii_digit s = omega arith in stops s b (subst (λ i. Some b ≡ first (drop i s)) m x) (all_middle Digit (take n s) b u g.1.decimal.digits)
        | inr k ↦ let f = g.1.few in omega (arith, length-append (take n s) (b ∷ u), length-take-le n s (omega arith))
      ];
    }

-- digits are words of the library's numerals
pub numerals : IsNumeralModel (AllByRecursion Digit) value
numerals = numerals_by_fold (AllByRecursion Digit) (search rules) (λ n ds. fold (λ m d. m * 10 + (d - 48)) n ds) (search rules)

-- no digits are a number only where there are none
none_parsed : (s : List ℕ) (n : ℕ) → Spans s n → n ≡ 0 → (b : ℕ) → Some b ≡ first s → Digit b → ⊥
none_parsed s n h z b e d = subst (λ m. Ends Numeral (take m s) (drop m s)) z h.ends b [] e (b - 48, record { decimal = record { digits = (d, tt); leads = λ _. refl; stands = omega arith }; few = omega arith })

-- no digits
pub none_read : (s : List ℕ) (from n after : ℕ) (rest : List ℕ) → Spans s n → n ≡ 0 → after ≡ from → DigitsRead s from None after rest
none_read s from n after rest h z e = (e, none_parsed s n h z)

-- the digits that are taken
pub some_read : (s : List ℕ) (from n after : ℕ) (text rest : List ℕ) (z : ℤ) → Spans s n → n ≢ 0 → text ≡ take n s → rest ≡ drop n s → after ≡ from + n → z ≡ pos (value text) → DigitsRead s from (Some z) after rest
some_read s from n after text rest z h ne e d a v =
    let all = subst (AllByRecursion Digit) (sym e) h.digits in
    let l : length text ≡ n = ap length e ∙ length-take-le n s h.within in (
      value text,
      v,
      record {
        text = text;
        split = sym (take-append-drop n s) ∙ ap (λ x. x ++ drop n s) (sym e) ∙ ap (λ x. text ++ x) (sym d);
        reads = record {
          decimal = record { digits = all; leads = subst Leads (sym e) (h.leads ne); stands = refl };
          few = let f = h.few in omega arith;
        };
        ends = λ b u x g. h.ends b u (x ∙ ap first d) (subst (λ t. Numeral (t ++ b ∷ u)) e g);
        column = omega arith;
      },
    )

-- what holds of all holds of one
pub digit_at : (s : List ℕ) (i : ℕ) → i < length s → AllByRecursion Digit s → Digit (get_or s i 0)
digit_at s i l a = All-get_or Digit s i 0 l a

-- one digit more of a number below 10 ^ n
pub ten_more : (v n d : ℕ) → v < 10 ^ n → d < 10 → v * 10 + d < 10 ^ (n + 1)
ten_more v n d h l = rw (add-one n, pow-suc 10 n) (omega arith)

-- 18 digits at most
pub ten_bound : (v n : ℕ) → v < 10 ^ n → n ≤ 18 → v < 10 ^ 18
ten_bound v n h l = omega (arith, pow-le-pow_right {n = 10} (omega arith) l)
