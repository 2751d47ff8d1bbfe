-- A text splits into its fields in one way. Assumes nothing.
use Rattle.std.proofs.Common.{◌≡◌, ℕ, suc, ◌-◌, ◌≤◌, ◌≢◌, ◌⊎◌, List, [], ◌∷◌, ◌++◌, length, get_or, take, drop, ℤ, pos, negsuc, Some, sym, refl, ap, ◌∙◌, subst, inl, inr, append-nil, arith}
use Rattle.std.specs.List.{AllByRecursion}
use Rattle.std.proofs.ByRecursion.{All-weaker}
use Rattle.std.proofs.lemmas.Slice.{first_rest}
use Rattle.std.proofs.lemmas.Option.{slice_get_within, get_or_from_slice_get}
use Rattle.lines.specs.declared.fields.Kind.{Kind}
use Rattle.lines.specs.declared.fields.Kind.TheVariants.{Plain, Signed}
use Rattle.lines.specs.Fields.{Digit, Short, Field, Parts}
use Rattle.lines.specs.Reading.{first, Ends}

-- a text by its first byte
pub cut_first : (b : ℕ) (s : List ℕ) → 1 ≤ length s → get_or s 0 0 ≡ b → s ≡ b ∷ take (length s - 1) (drop 1 s)
cut_first b s l e = first_rest s 0 (omega arith) ∙ ap (λ x. x ∷ take (length s - 1) (drop 1 s)) e

-- a text that does not begin with a byte
pub not_first : (b : ℕ) (s : List ℕ) → (1 ≤ length s → get_or s 0 0 ≡ b → ⊥) → Some b ≢ first s
not_first b s h e = h (slice_get_within s 0 b (sym e)) (get_or_from_slice_get s 0 b 0 (sym e))

-- where two cuts of one text lie, the one front begins the other
pub cut : (x y f w : List ℕ) → x ++ y ≡ f ++ w → ((u : List ℕ) × (f ≡ x ++ u) × (y ≡ u ++ w)) ⊎ ((b : ℕ) × (u : List ℕ) × (x ≡ f ++ b ∷ u) × (w ≡ b ∷ u ++ y))
cut [] y f w e = inl (f, refl, e)
cut (a ∷ x) y [] w e = inr (a, x, refl, sym e)
cut (a ∷ x) y (b ∷ f) w e =
    let t : x ++ y ≡ f ++ w = cc in
    elim (cut x y f w t) [ inl c ↦ inl (c.0, (cc), c.2) | inr c ↦ inr (c.0, c.1, (cc), c.3) ]

-- what holds of each byte holds of one in the middle
pub all_middle : (P : ℕ → Type 0) (xs : List ℕ) (b : ℕ) (ys : List ℕ) → AllByRecursion P (xs ++ b ∷ ys) → P b
all_middle P [] b ys h = h.0
all_middle P (x ∷ xs) b ys h = all_middle P xs b ys h.1

-- a byte of a field is no space
abbrev pub NoSpace : ℕ → Type 0
NoSpace b = b ≡ 32 → ⊥

-- digits are no spaces
short_spaces : (n : ℕ) (ds : List ℕ) → Short n ds → AllByRecursion NoSpace ds
short_spaces n ds h = All-weaker Digit NoSpace (λ b d e. omega (arith, d.0)) ds h.decimal.digits

-- nor is a minus sign
pub no_spaces : (k : Kind) (z : ℤ) (f : List ℕ) → Field k z f → AllByRecursion NoSpace f
no_spaces Plain z f h = short_spaces h.0 f h.2
no_spaces Signed (pos n) f h = short_spaces n f h
no_spaces Signed (negsuc n) f h = subst (AllByRecursion NoSpace) (sym h.1) ((λ e. omega arith), short_spaces (suc n) h.0 h.2)

-- behind a field there is the end or a space
pub fielded_first : (ks : List Kind) (zs : List ℤ) (b : ℕ) (u : List ℕ) → Parts ks zs (b ∷ u) → b ≡ 32
fielded_first [] [] b u h = absurd (let e : ◌≡◌ {A = ℕ} 0 1 = cc in omega arith)
fielded_first [] (z ∷ zs) b u h = absurd h
fielded_first (k ∷ ks) [] b u h = absurd h
fielded_first (k ∷ ks) (z ∷ zs) b u h = let e = h.2 in cc

-- the texts of a field
abbrev pub Texts : Kind → List ℕ → Type 0
Texts k t = (y : ℤ) × Field k y t

-- what a text says at its first field
pub record Starts (k : Kind) (ks : List Kind) (zs : List ℤ) (f u : List ℕ) : Type 0 where
  pub one : ℤ
  pub others : List ℤ
  pub all : zs ≡ one ∷ others
  pub field : Field k one f
  pub rest : Parts ks others u

-- a field that ends before y is the first field of each text that goes on as y does
pub same_field : (k : Kind) (z : ℤ) (f y : List ℕ) → Field k z f → Ends (Texts k) f y → (ks : List Kind) (zs : List ℤ) (u : List ℕ) → first u ≡ first y → Parts (k ∷ ks) zs (32 ∷ f ++ u) → Starts k ks zs f u
same_field k z f y reads ends ks [] u same h = absurd h
same_field k z f y reads ends ks (x ∷ xs) u same h =
    let g = h.0 in
    let w = h.1 in
    let e : 32 ∷ f ++ u ≡ 32 ∷ g ++ w = h.2 in
    let t : f ++ u ≡ g ++ w = cc in
    elim (cut f u g w t) [
      | inl c ↦ at_or_after c.0 g w h.3 h.4 c.1 c.2
      | inr c ↦ absurd (all_middle NoSpace g c.0 c.1 (subst (AllByRecursion NoSpace) c.2 (no_spaces k z f reads)) (fielded_first ks xs c.0 (c.1 ++ u) (subst (Parts ks xs) c.3 h.4)))
    ]
  where
    at_or_after : (v g w : List ℕ) → Field k x g → Parts ks xs w → g ≡ f ++ v → u ≡ v ++ w → Starts k ks (x ∷ xs) f u
    at_or_after [] g w field rest d e = record { one = x; others = xs; all = refl; field = subst (Field k x) (d ∙ append-nil f) field; rest = subst (Parts ks xs) (sym e) rest }
    at_or_after (b ∷ v) g w field rest d e = absurd (ends b v (sym (ap first e) ∙ same) (x, subst (Field k x) d field))

-- a minus sign is no digit
pub minus_digit : (n : ℕ) (f ds : List ℕ) → Short n f → f ≡ 45 ∷ ds → ⊥
minus_digit n f ds h e = let d = subst (AllByRecursion Digit) e h.decimal.digits in omega (arith, d.0.0)

-- a field stands for one number, the value of its digits
pub one_value : (k : Kind) (y z : ℤ) (f : List ℕ) → Field k y f → Field k z f → y ≡ z
one_value Plain y z f g h = let p = g.2.decimal.stands in let q = h.2.decimal.stands in let a = g.1 in let b = h.1 in cc
one_value Signed (pos m) (pos n) f g h = let p = g.decimal.stands in let q = h.decimal.stands in cc
one_value Signed (pos m) (negsuc n) f g h = absurd (minus_digit m f h.0 g h.1)
one_value Signed (negsuc m) (pos n) f g h = absurd (minus_digit n f g.0 h g.1)
one_value Signed (negsuc m) (negsuc n) f g h =
    let p = g.2.decimal.stands in
    let q = h.2.decimal.stands in
    let a = g.1 in
    let b = h.1 in
    let e : suc m ≡ suc n = cc in
    let d : m ≡ n = omega arith in
    ap negsuc d

-- before the end or a space a field ends
pub space_ends : (k : Kind) (f : List ℕ) (ks : List Kind) (zs : List ℤ) (w : List ℕ) → Parts ks zs w → Ends (Texts k) f w
space_ends k f ks zs [] h b u e t = absurd (let z : ◌≡◌ {A = ℕ} 0 1 = cc in omega arith)
space_ends k f ks zs (c ∷ w) h b u e t =
    let s = fielded_first ks zs c w h in
    let q : b ≡ 32 = cc in
    all_middle NoSpace f b u (no_spaces k t.0 (f ++ b ∷ u) t.1) q

-- a text stands for one list of numbers, field by field
pub one_list : (ks : List Kind) (ys zs : List ℤ) (text : List ℕ) → Parts ks ys text → Parts ks zs text → ys ≡ zs
one_list [] [] [] text g h = refl
one_list [] [] (z ∷ zs) text g h = absurd h
one_list [] (y ∷ ys) zs text g h = absurd g
one_list (k ∷ ks) [] zs text g h = absurd g
one_list (k ∷ ks) (y ∷ ys) zs text g h =
    let s : Starts k ks zs g.0 g.1 = same_field k y g.0 g.1 g.3 (space_ends k g.0 ks ys g.1 g.4) ks zs g.1 refl (subst (Parts (k ∷ ks) zs) g.2 h) in
    let a : y ≡ s.one = one_value k y s.one g.0 g.3 s.field in
    let b : ys ≡ s.others = one_list ks ys s.others g.1 g.4 s.rest in
    let c = s.all in
    cc
