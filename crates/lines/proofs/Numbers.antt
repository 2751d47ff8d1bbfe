-- From the digits of a number to a field. Assumes nothing.
use Rattle.std.proofs.Common.{◌≡◌, ℕ, zero, suc, ◌+◌, ◌-◌, ◌*◌, ◌≤◌, ◌≢◌, List, [], ◌∷◌, ◌++◌, ℤ, pos, negsuc, ◌-ℤ◌, Some, None, fold, Option, sym, refl, ap, ◌∙◌, subst, inl, inr, arith}
use Rattle.std.proofs.lemmas.Int.{ints}
use Rattle.lines.specs.declared.fields.Kind.{Kind}
use Rattle.lines.specs.declared.fields.Kind.TheVariants.{Plain, Signed}
use Rattle.lines.specs.Fields.{Digit, Short, Field, Parts}
use Rattle.lines.specs.Reading.{first, Fielded, StuckAt, Numeral, Taken, Ends, DigitsRead, NumberRead, FieldRead}
use Rattle.lines.proofs.Splits.{Texts, minus_digit}
use Rattle.lines.proofs.Stops.{behind, past_field, no_number, no_digit, short_first}

-- no digits behind a first digit make a text with a minus sign
signed_ends : (n : ℕ) (f r : List ℕ) → Short n f → Ends Numeral f r → Ends (Texts Signed) f r
signed_ends n f r h ends b u q (pos m, t) = ends b u q (m, t)
signed_ends n f r h ends b u q (negsuc m, t) =
    let d = short_first n f h in
    let p = d.2 in
    let e = t.1 in
    let x : d.0 ≡ 45 = cc in
    omega (arith, d.3.0)

-- a number without a sign is its digits
pub unsigned_read : (k : Kind) (s : List ℕ) (from : ℕ) (v : Option ℤ) (after : ℕ) (rest : List ℕ) → (k ≡ Signed → Some 45 ≢ first s) → DigitsRead s from v after rest → NumberRead k s from v after rest
unsigned_read Plain s from (Some z) after rest h d = record {
  text = d.2.text;
  split = d.2.split;
  reads = (d.0, d.1, d.2.reads);
  ends = λ b u x y. d.2.ends b u x (y.1.0, y.1.2);
  column = d.2.column;
}
unsigned_read Signed s from (Some z) after rest h d = record {
  text = d.2.text;
  split = d.2.split;
  reads = subst (λ y. Field Signed y d.2.text) (sym d.1) d.2.reads;
  ends = signed_ends d.0 d.2.text rest d.2.reads d.2.ends;
  column = d.2.column;
}
unsigned_read Plain s from None after rest h d = λ ks. subst (StuckAt (λ t. Fielded (Plain ∷ ks) (32 ∷ t)) s from) (sym d.0) (no_number Plain s from d.1 ks)
unsigned_read Signed s from None after rest h d = λ ks.
    subst (StuckAt (λ t. Fielded (Signed ∷ ks) (32 ∷ t)) s from) (sym d.0)
    (no_number Signed s from (λ b x e. elim e [ inl y ↦ d.1 b x y | inr y ↦ h refl (ap Some (sym y) ∙ x) ]) ks)

-- where 1 to 9 does not follow a minus sign, the line stops behind it
pub minus_none : (k : Kind) (s t : List ℕ) (from after : ℕ) (rest : List ℕ) → k ≡ Signed → s ≡ 45 ∷ t → after ≡ from + 1 → ((b : ℕ) → Some b ≡ first t → Digit b → b ≡ 48) → NumberRead k s from None after rest
minus_none k s t from after rest e c at h = λ ks.
    subst (λ j. StuckAt (λ x. Fielded (j ∷ ks) (32 ∷ x)) s from after) (sym e)
    (subst (λ x. StuckAt (λ y. Fielded (Signed ∷ ks) (32 ∷ y)) x from after) (sym c)
    (subst (StuckAt (λ y. Fielded (Signed ∷ ks) (32 ∷ y)) (45 ∷ t) from) (sym at)
    (behind (λ y. Fielded (Signed ∷ ks) (32 ∷ y)) 45 t from (from + 1) (no_digit t (from + 1) (λ b x d ne. ne (h b x d)) ks))))

-- the number grows with each digit
grows : (n : ℕ) (ds : List ℕ) → n ≤ fold (λ m d. m * 10 + (d - 48)) n ds
grows n [] = omega arith
grows n (d ∷ ds) = omega (arith, grows (n * 10 + (d - 48)) ds)

-- the digits of 0 begin with 0
zero_first : (f r : List ℕ) → Short 0 f → Some 48 ≡ first (f ++ r)
zero_first [] r h = absurd h.decimal.leads
zero_first (d ∷ ds) r h = let q : 48 ≡ d = omega (arith, h.decimal.stands, h.decimal.digits.0, grows (0 * 10 + (d - 48)) ds) in ap Some q

-- a minus sign and the digits of a number above 0
minus_ends : (ds r : List ℕ) → Ends Numeral ds r → Ends (Texts Signed) (45 ∷ ds) r
minus_ends ds r ends b u q (pos m, t) = minus_digit m (45 ∷ ds ++ b ∷ u) (ds ++ b ∷ u) t refl
minus_ends ds r ends b u q (negsuc m, t) =
    let e = t.1 in
    let d : t.0 ≡ ds ++ b ∷ u = cc in
    ends b u q (suc m, subst (Short (suc m)) d t.2)

-- digits that do not begin with 0 are a number above 0, so a minus sign may stand before them
minus_taken : (n : ℕ) (y : ℤ) (t : List ℕ) (from after : ℕ) (rest : List ℕ) → y ≡ pos 0 -ℤ pos n → Some 48 ≢ first t → Taken Short n t (from + 1) after rest → Taken (Field Signed) y (45 ∷ t) from after rest
minus_taken zero y t from after rest e h k = absurd (h (zero_first k.text rest k.reads ∙ sym (ap first k.split)))
minus_taken (suc n) y t from after rest e h k =
    let w : y ≡ negsuc n = omega (arith, ints) in
    record {
      text = 45 ∷ k.text;
      split = ap (λ r. 45 ∷ r) k.split;
      reads = subst (λ x. Field Signed x (45 ∷ k.text)) (sym w) (k.text, refl, k.reads);
      ends = minus_ends k.text rest k.ends;
      column = omega (arith, k.column);
    }

-- a number behind a minus sign
pub minus_read : (k : Kind) (s t : List ℕ) (from : ℕ) (z y : ℤ) (after : ℕ) (rest : List ℕ) → k ≡ Signed → s ≡ 45 ∷ t → Some 48 ≢ first t → y ≡ pos 0 -ℤ z → DigitsRead t (from + 1) (Some z) after rest → NumberRead k s from (Some y) after rest
minus_read k s t from z y after rest e c h n d =
    subst (λ j. Taken (Field j) y s from after rest) (sym e)
    (subst (λ x. Taken (Field Signed) y x from after rest) (sym c) (minus_taken d.0 y t from after rest (n ∙ ap (λ x. pos 0 -ℤ x) d.1) h d.2))

-- a number behind a space is a field
pub space_read : (k : Kind) (s t : List ℕ) (from : ℕ) (v : Option ℤ) (after : ℕ) (rest : List ℕ) → s ≡ 32 ∷ t → NumberRead k t (from + 1) v after rest → FieldRead k s from v after rest
space_read k s t from (Some z) after rest e h = (t, e, h)
space_read k s t from None after rest e h = λ ks. subst (λ x. StuckAt (Fielded (k ∷ ks)) x from after) (sym e) (behind (Fielded (k ∷ ks)) 32 t from after (h ks))

-- where the fields behind a field are stuck, so are all of them
pub stuck_behind : (k : Kind) {z : ℤ} {s : List ℕ} {from after : ℕ} {rest : List ℕ} (ks : List Kind) {column : ℕ} → FieldRead k s from (Some z) after rest → StuckAt (Fielded ks) rest after column → StuckAt (Fielded (k ∷ ks)) s from column
stuck_behind k {z} {s} {from} {after} {rest} ks {column} f g =
    subst (λ x. StuckAt (Fielded (k ∷ ks)) x from column) (sym f.1) (behind (Fielded (k ∷ ks)) 32 f.0 from column (past_field k z f.0 (from + 1) after rest f.2 ks column g))

-- a field and the fields behind it
pub parts_behind : (k : Kind) {z : ℤ} {s : List ℕ} (from : ℕ) {after : ℕ} {rest : List ℕ} (ks : List Kind) (zs : List ℤ) → FieldRead k s from (Some z) after rest → Parts ks zs rest → Parts (k ∷ ks) (z ∷ zs) s
parts_behind k {z} {s} from {after} {rest} ks zs f g = (f.2.text, rest, f.1 ∙ ap (λ x. 32 ∷ x) f.2.split, f.2.reads, g)
