-- Where the longest start of a text ends, field by field. Assumes nothing.
use Rattle.std.proofs.Common.{◌≡◌, ℕ, suc, ◌+◌, ◌-◌, ◌*◌, ◌⊎◌, List, [], ◌∷◌, ◌++◌, ℤ, pos, negsuc, Some, sym, refl, ap, ◌∙◌, subst, inl, inr, append_assoc, arith, length-append}
use Rattle.lines.specs.declared.fields.Kind.{Kind}
use Rattle.lines.specs.declared.fields.Kind.TheVariants.{Plain, Signed}
use Rattle.lines.specs.Fields.{Digit, value, Short, Field, Parts}
use Rattle.lines.specs.Lines.{Begins}
use Rattle.lines.specs.Reading.{first, Fielded, StuckAt, Taken}
use Rattle.lines.proofs.Splits.{Starts, same_field}

-- stuck at once, since no text of P begins as s does
pub here : (P : List ℕ → Type 0) (s : List ℕ) (from : ℕ) → Begins P [] → ((u : List ℕ) → first u ≡ first s → P u → ⊥) → StuckAt P s from from
here P s from some none = record { front = []; back = s; split = refl; begins = some; blocked = none; at = omega arith }

-- behind a byte that every reader took
pub behind : (P : List ℕ → Type 0) (b : ℕ) (s : List ℕ) (from column : ℕ) → StuckAt (λ t. P (b ∷ t)) s (from + 1) column → StuckAt P (b ∷ s) from column
behind P b s from column h = record {
  front = b ∷ h.front;
  back = h.back;
  split = ap (λ t. b ∷ t) h.split;
  begins = h.begins;
  blocked = h.blocked;
  at = omega (arith, h.at);
}

-- the first byte behind p tells apart as much as the first byte of the rest
first_behind : (p u r : List ℕ) → first u ≡ first r → first (p ++ u) ≡ first (p ++ r)
first_behind [] u r e = e
first_behind (b ∷ p) u r e = refl

-- where the fields behind a field are stuck, so are all of them
pub past_field : (k : Kind) (z : ℤ) (s : List ℕ) (from after : ℕ) (rest : List ℕ) → Taken (Field k) z s from after rest → (ks : List Kind) (column : ℕ) → StuckAt (Fielded ks) rest after column → StuckAt (λ t. Fielded (k ∷ ks) (32 ∷ t)) s from column
past_field k z s from after rest t ks column h =
    let f = t.text in
    let p = h.front in
    record {
      front = f ++ p;
      back = h.back;
      split = t.split ∙ ap (λ r. f ++ r) h.split ∙ sym (append_assoc f p h.back);
      begins = (h.begins.0, (z ∷ h.begins.1.0, (f, p ++ h.begins.0, ap (λ r. 32 ∷ r) (append_assoc f p h.begins.0), t.reads, h.begins.1.1)));
      blocked = λ u e g.
          let st : Starts k ks g.0 f (p ++ u) = same_field k z f rest t.reads t.ends ks g.0 (p ++ u) (first_behind p u h.back e ∙ sym (ap first h.split)) (subst (Parts (k ∷ ks) g.0) (ap (λ r. 32 ∷ r) (append_assoc f p u)) g.1) in
          h.blocked u e (st.others, st.rest);
      at = omega (arith, t.column, h.at, length-append f p);
    }

-- some text stands in fields of any kinds, as 1 in each
one_short : Short 1 (49 ∷ [])
one_short = record { decimal = record { digits = ((omega arith, omega arith), tt); leads = λ e. refl; stands = refl }; few = omega arith }

-- 1 is a field of both kinds
one_field : (k : Kind) → Field k (pos 1) (49 ∷ [])
one_field Plain = (1, refl, one_short)
one_field Signed = one_short

-- so a text begun can be ended
pub some_fielded : (ks : List Kind) → (t : List ℕ) × Fielded ks t
some_fielded [] = ([], ([], refl))
some_fielded (k ∷ ks) =
    let m = some_fielded ks in
    (32 ∷ 49 ∷ m.0, (pos 1 ∷ m.1.0, (49 ∷ [], m.0, refl, one_field k, m.1.1)))

-- two texts with the same first byte
first_of : (b : ℕ) (u s : List ℕ) → first u ≡ first s → (t : List ℕ) → u ≡ b ∷ t → Some b ≡ first s
first_of b u s e t d = sym (ap first d) ∙ e

-- a line with one more field goes on with a space
pub no_space : (k : Kind) (s : List ℕ) (from : ℕ) → (Some 32 ≡ first s → ⊥) → (ks : List Kind) → StuckAt (Fielded (k ∷ ks)) s from from
no_space k s from h ks = here (Fielded (k ∷ ks)) s from (some_fielded (k ∷ ks)) (λ u e g. none u e g.0 g.1)
  where
    none : (u : List ℕ) → first u ≡ first s → (zs : List ℤ) → Parts (k ∷ ks) zs u → ⊥
    none u e [] g = g
    none u e (z ∷ zs) g = h (first_of 32 u s e (g.0 ++ g.1) g.2)

-- a line without fields is over
pub not_over : (b : ℕ) (s : List ℕ) (from : ℕ) → StuckAt (Fielded []) (b ∷ s) from from
not_over b s from = here (Fielded []) (b ∷ s) from ([], ([], refl)) (λ u e g. none u e g.0 g.1)
  where
    none : (u : List ℕ) → first u ≡ Some b → (zs : List ℤ) → Parts [] zs u → ⊥
    none u e [] g = let z : ◌≡◌ {A = ℕ} 0 1 = cc (ap first g) in omega arith
    none u e (z ∷ zs) g = g

-- the digits of a number begin with one, which is not 0 where the number is not
pub short_first : (n : ℕ) (ds : List ℕ) → Short n ds → (b : ℕ) × (t : List ℕ) × (ds ≡ b ∷ t) × Digit b × (b ≡ 48 → n ≡ 0)
short_first n [] h = absurd h.decimal.leads
short_first n (b ∷ t) h = (b, t, refl, h.decimal.digits.0, λ e. sym h.decimal.stands ∙ ap value (ap (λ r. b ∷ r) (h.decimal.leads e)) ∙ ap (λ d. 0 * 10 + (d - 48)) e)

-- what a field begins with
abbrev pub Starter : Kind → ℕ → Type 0
Starter Plain b = Digit b
Starter Signed b = Digit b ⊎ (b ≡ 45)

-- by its digits or its sign
starts_with : (k : Kind) (z : ℤ) (f : List ℕ) → Field k z f → (b : ℕ) × (t : List ℕ) × (f ≡ b ∷ t) × Starter k b
starts_with Plain z f h = let d = short_first h.0 f h.2 in (d.0, d.1, d.2, d.3)
starts_with Signed (pos n) f h = let d = short_first n f h in (d.0, d.1, d.2, inl d.3)
starts_with Signed (negsuc n) f h = (45, h.0, h.1, inr refl)

-- behind its space a field begins with a digit or, if it may, a minus sign
pub no_number : (k : Kind) (s : List ℕ) (from : ℕ) → ((b : ℕ) → Some b ≡ first s → Starter k b → ⊥) → (ks : List Kind) → StuckAt (λ t. Fielded (k ∷ ks) (32 ∷ t)) s from from
no_number k s from h ks =
    let m = some_fielded ks in
    here (λ t. Fielded (k ∷ ks) (32 ∷ t)) s from (49 ∷ m.0, (pos 1 ∷ m.1.0, (49 ∷ [], m.0, refl, one_field k, m.1.1))) (λ u e g. none u e g.0 g.1)
  where
    none : (u : List ℕ) → first u ≡ first s → (zs : List ℤ) → Parts (k ∷ ks) zs (32 ∷ u) → ⊥
    none u e [] g = g
    none u e (z ∷ zs) g =
        let d = starts_with k z g.0 g.3 in
        let p = g.2 in
        let q = d.2 in
        let l : u ≡ d.0 ∷ d.1 ++ g.1 = cc in
        h d.0 (first_of d.0 u s e (d.1 ++ g.1) l) d.3

-- behind a minus sign a field goes on with 1 to 9
pub no_digit : (s : List ℕ) (from : ℕ) → ((b : ℕ) → Some b ≡ first s → Digit b → (b ≡ 48 → ⊥) → ⊥) → (ks : List Kind) → StuckAt (λ t. Fielded (Signed ∷ ks) (32 ∷ 45 ∷ t)) s from from
no_digit s from h ks =
    let m = some_fielded ks in
    here (λ t. Fielded (Signed ∷ ks) (32 ∷ 45 ∷ t)) s from (49 ∷ m.0, (negsuc 0 ∷ m.1.0, (45 ∷ 49 ∷ [], m.0, refl, (49 ∷ [], refl, one_short), m.1.1))) (λ u e g. none u e g.0 g.1)
  where
    none : (u : List ℕ) → first u ≡ first s → (zs : List ℤ) → Parts (Signed ∷ ks) zs (32 ∷ 45 ∷ u) → ⊥
    none u e [] g = g
    none u e (pos n ∷ zs) g =
        let d = short_first n g.0 g.3 in
        let p = g.2 in
        let q = d.2 in
        let l : 45 ≡ d.0 = cc in
        omega (arith, d.3.0)
    none u e (negsuc n ∷ zs) g =
        let d = short_first (suc n) g.3.0 g.3.2 in
        let o = g.3.1 in
        let p = g.2 in
        let q = d.2 in
        let l : u ≡ d.0 ∷ d.1 ++ g.1 = cc in
        h d.0 (first_of d.0 u s e (d.1 ++ g.1) l) d.3 (λ z. omega (arith, d.4 z))
