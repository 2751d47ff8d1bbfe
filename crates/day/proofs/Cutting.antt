-- A text cut into lines, from the last to the first. Assumes nothing.
use Rattle.std.proofs.Common.{◌≡◌, ℕ, ◌+◌, ◌-◌, ◌<◌, min, Bool, cond, eqb, List, [], ◌∷◌, ◌++◌, map, length, get_or, take, MatchOption, None, Ok, Err, IfOk, Option, Result, Vec, vec_items, Bor, sym, refl, ap, ◌∙◌, subst, inl, inr, append_assoc, arith, eqb-true}
use Rattle.std.specs.List.{IsFirstMatchOrLen}
use Rattle.std.specs.Iterator.{Yields}
use Rattle.std.specs.Iterator.Adapters.{map_steps, map_source, map_callee}
use Rattle.std.specs.declared.iter.Map.{Map}
use Rattle.std.specs.declared.slice.SplitInclusive.{SplitInclusive}
use Rattle.std.specs.Slice.Iter.{split_inclusive_rest, split_inclusive_callee}
use Rattle.std.specs.Fn.{Called, ComputesKey}
use denote.Param.Members.{Mut}
use Rattle.std.proofs.lemmas.Bool.{cases_lt, ne_eqb, eq-eqb, both_ways}
use Rattle.std.proofs.lemmas.Iterator.{IsCollectResult}
use Rattle.std.proofs.lemmas.List.{length-append, length-take-le, length_push, get_or_push, get_or-take, take_more, take_all, take_at, nil_from_length}
use Rattle.day.specs.Cuts.{ended, without_end, Free, Cut}

-- the first line of a text with its byte 10, or all of a text without one
data First (text first rest : List ℕ) : Type 0 where
  whole : (line : List ℕ) → first ≡ line ++ 10 ∷ [] → text ≡ first ++ rest → Free line → First text first rest
  last : first ≡ text → rest ≡ [] → Free text → 0 < length text → First text first rest

-- a text ends with its last line
no_lines : (ls : List (List ℕ)) → Cut [] ls → ls ≡ []
no_lines [] c = refl
no_lines (l ∷ ls) c = elim c.whole [
  | inl e ↦ absurd (let n = ap length e in omega (arith, length-append (l ++ 10 ∷ []) (ended ls), length_push l 10))
  | inr o ↦ absurd (let n = ap length o.joins in let s = o.some in omega (arith, length-append (ended o.front) o.last))
]

-- byte 10 is left out
without_whole : (line : List ℕ) → without_end (line ++ 10 ∷ []) ≡ line
without_whole line =
    let s = line ++ 10 ∷ [] in
    let n : length s - 1 ≡ length line = omega (arith, length_push line 10) in
    let e : get_or s (length s - 1) 0 ≡ 10 = get_or_push line 10 0 (length s - 1) (sym n) in
    ap (λ b. cond (eqb b 10) (take (length s - 1) s) s) e ∙ take_at line (10 ∷ []) (length s - 1) (sym n)

-- and no other byte
without_last : (line : List ℕ) → Free line → 0 < length line → without_end line ≡ line
without_last line h l = ap (λ t. cond t (take (length line - 1) line) line) (ne_eqb (get_or line (length line - 1) 0) 10 (h (length line - 1) (omega arith)))

-- a line before the others
cut_more : (text first rest : List ℕ) (ls : List (List ℕ)) → First text first rest → Cut rest ls → Cut text (without_end first ∷ ls)
cut_more text first rest ls (whole line e t h) c =
    subst (λ f. Cut text (f ∷ ls)) (sym (ap without_end e ∙ without_whole line))
    (subst (λ s. Cut s (line ∷ ls)) (sym (t ∙ ap (λ f. f ++ rest) e)) record {
      free = (h, c.free);
      whole = elim c.whole [
        | inl d ↦ inl (ap (λ s. (line ++ 10 ∷ []) ++ s) d)
        | inr o ↦ inr record {
          front = line ∷ o.front;
          last = o.last;
          is = ap (λ ys. line ∷ ys) o.is;
          some = o.some;
          joins = ap (λ s. (line ++ 10 ∷ []) ++ s) o.joins ∙ sym (append_assoc (line ++ 10 ∷ []) (ended o.front) o.last);
        }
      ];
    })
cut_more text first rest ls (last e r h l) c =
    subst (λ f. Cut text (f ∷ ls)) (sym (ap without_end e ∙ without_last text h l))
    (subst (λ ys. Cut text (text ∷ ys)) (sym (no_lines ls (subst (λ s. Cut s ls) r c))) record {
      free = (h, tt);
      whole = inr record { front = []; last = text; is = refl; some = l; joins = refl };
    })

-- a piece that ends at the first byte 10, or else with the text
first_piece : (text piece rest : List ℕ) (i : ℕ) → text ≡ piece ++ rest → length piece ≡ min (i + 1) (length text) → IsFirstMatchOrLen (λ b. eqb b 10) text i → 0 < length text → First text piece rest
first_piece text piece rest i e n m l =
    let p : piece ≡ take (length piece) text = sym (ap (take (length piece)) e ∙ take_at piece rest (length piece) refl) in
    elim (cases_lt i (length text)) [
      | inl lt ↦
          let k : length piece ≡ i + 1 = omega arith in
          whole (take i text) (p ∙ ap (λ j. take j text) k ∙ take_more text i 0 lt ∙ ap (λ b. take i text ++ b ∷ []) (eqb-true (get_or text i 0) 10 (m.1 lt 0))) e
          (λ j w q. let f : j < i = omega (arith, length-take-le i text (omega arith)) in both_ways (eqb (get_or text j 0) 10) (m.0 j 0 (omega arith) f) (eq-eqb (get_or text j 0) 10 (sym (get_or-take i text j 0 f) ∙ q)))
      | inr ge ↦
          let k : length piece ≡ length text = omega arith in
          let r : length rest ≡ 0 = omega (arith, ap length e, length-append piece rest) in
          last (p ∙ ap (λ j. take j text) k ∙ take_all (length text) text (omega arith)) (nil_from_length rest r) (λ j w q. both_ways (eqb (get_or text j 0) 10) (m.0 j 0 (omega arith) (omega arith)) (eq-eqb (get_or text j 0) 10 q)) l
    ]

-- a call of `next` on the pieces of a text, by the contract of `split_inclusive`
abbrev pub pieces : {P : Type 0} → Mut P (Bor ℕ × Unit {0}) Bool → SplitInclusive ℕ P → Option (Bor (List ℕ)) → SplitInclusive ℕ P → Type 0
pieces g s r t = MatchOption r ((length (split_inclusive_rest s) ≡ 0) × (t ≡ s)) (λ x.
    (split_inclusive_rest s ≡ x.now ++ split_inclusive_rest t)
    × ((i : ℕ) × (length x.now ≡ min (i + 1) (length (split_inclusive_rest s)))
    × ((p : ℕ → Bool) → ComputesKey g p (split_inclusive_callee s) → ComputesKey g p (split_inclusive_callee t) × IsFirstMatchOrLen p (split_inclusive_rest s) i))
    × (0 < length (split_inclusive_rest s)))

-- the pieces that end with byte 10, each without it
module _ {P F : Type 0} (g : Mut P (Bor ℕ × Unit {0}) Bool) (h : Mut F (Bor (List ℕ) × Unit {0}) (Bor (List ℕ))) (f : F)
    (calls : (x r : Bor (List ℕ)) (q : F) → Called h f (x, tt) r q → (q ≡ f) × (r.now ≡ without_end x.now)) where
  cut_yields : (s t u : Map (SplitInclusive ℕ P) F) (xs : List (Bor (List ℕ))) → ComputesKey g (λ b. eqb b 10) (split_inclusive_callee (map_source s)) → map_callee s ≡ f
      → Yields (map_steps (pieces g) h) s xs t → map_steps (pieces g) h t None u → Cut (split_inclusive_rest (map_source s)) (map (λ x. x.now) xs)
  cut_yields s t u [] k e y n =
      let z = ap (λ (m : Map (SplitInclusive ℕ P) F). length (split_inclusive_rest (map_source m))) y ∙ n.0.0 in
      subst (λ r. Cut r []) (sym (nil_from_length (split_inclusive_rest (map_source s)) z)) (record { free = tt; whole = inl refl })
  cut_yields s t u (x ∷ xs) k e (j, (piece, step, called), y) n =
      let o = step.1.2 (λ b. eqb b 10) k in
      let c = calls piece x (map_callee j) (subst (λ q. Called h q (piece, tt) x (map_callee j)) e called) in
      let text = split_inclusive_rest (map_source s) in
      let rest = split_inclusive_rest (map_source j) in
      subst (λ l. Cut text (l ∷ map (λ z. z.now) xs)) (sym c.1) (cut_more text piece.now rest (map (λ z. z.now) xs) (first_piece text piece.now rest step.1.0 step.0 step.1.1 o.1 step.2) (cut_yields j t u xs o.0 c.0 y n))

  pub cut_collected : {Z E : Type 0} (s : Map (SplitInclusive ℕ P) F) (text : List ℕ) (r : Result (Vec (Bor (List ℕ)) Z) E) → split_inclusive_rest (map_source s) ≡ text → ComputesKey g (λ b. eqb b 10) (split_inclusive_callee (map_source s)) → map_callee s ≡ f
      → IsCollectResult (map_steps (pieces g) h) s r → IfOk r (λ v. Cut text (map (λ x. x.now) (vec_items v)))
  cut_collected s text (Ok v) d k e (xs, (t, y, end), i) =
      let n = end tt in
      subst (λ r. Cut r (map (λ x. x.now) (vec_items v))) d (subst (λ ys. Cut (split_inclusive_rest (map_source s)) (map (λ x. x.now) ys)) (sym i.0) (cut_yields s t n.0 xs k e y n.1))
  cut_collected s text (Err x) d k e c = tt
