-- A run with one more step at its end. Assumes nothing.
use Rattle.std.proofs.Common.{◌≡◌, ℕ, ◌+◌, ◌<◌, List, [], ◌∷◌, ◌++◌, map, length, get_or, take, sym, refl, ap, ◌∙◌, subst}
use Rattle.std.proofs.lemmas.List.{map_more, map_push}
use Rattle.day.specs.Runs.{Run, Each}

pub run_more : {X L A : Type 0} (R : X → L → A → X → Type 0) (x y z : X) (ls : List L) (rs : List A) (l : L) (r : A)
    → Run R x ls rs y → R y l r z → Run R x (ls ++ l ∷ []) (rs ++ r ∷ []) z
run_more R x y z [] [] l r e s = (z, subst (λ w. R w l r z) (sym e) s, refl)
run_more R x y z [] (a ∷ rest) l r e s = absurd e
run_more R x y z (b ∷ ls) [] l r e s = absurd e
run_more R x y z (b ∷ ls) (a ∷ rest) l r e s = (e.0, e.1, run_more R e.0 y z ls rest l r e.2 s)

pub each_more : {A B : Type 0} (R : A → B → Type 0) (xs : List A) (ys : List B) (x : A) (y : B) → Each R xs ys → R x y → Each R (xs ++ x ∷ []) (ys ++ y ∷ [])
each_more R [] [] x y e r = (r, tt)
each_more R [] (b ∷ bs) x y e r = absurd e
each_more R (a ∷ rest) [] x y e r = absurd e
each_more R (a ∷ rest) (b ∷ bs) x y e r = (e.0, each_more R rest bs x y e.1 r)

-- a loop over a list goes on by its next item
pub run_next : {X L A B C : Type 0} (R : X → L → A → X → Type 0) (f : B → L) (h : C → A) (x y z : X) (ls : List B) (k : ℕ) (d : B) (rs more : List C) (r : C)
    → k < length ls → Run R x (map f (take k ls)) (map h rs) y → R y (f (get_or ls k d)) (h r) z → more ≡ rs ++ r ∷ []
    → Run R x (map f (take (k + 1) ls)) (map h more) z
run_next R f h x y z ls k d rs more r l run step e =
    let longer = run_more R x y z (map f (take k ls)) (map h rs) (f (get_or ls k d)) (h r) run step in
    subst (λ items. Run R x items (map h more) z) (sym (map_more f ls k d l))
    (subst (λ answers. Run R x (map f (take k ls) ++ f (get_or ls k d) ∷ []) answers z) (sym (ap (map h) e ∙ map_push h rs r)) longer)
