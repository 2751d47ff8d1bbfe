-- What an array made by calls holds, where a call leaves its closure as it was. Assumes nothing.
use Rattle.std.proofs.Common.{◌≡◌, ℕ, zero, suc, ◌+◌, ◌<◌, List, get_or, sym, subst, arith}
use Rattle.std.specs.Array.{IsFromFnResultFrom, IsFromFnResult, MapsFrom, IsMapOf}
use Rattle.std.specs.Fn.{Called}
use denote.Param.Members.{Mut}

module _ {F B : Type 0} (g : Mut F (ℕ × Unit {0}) B) (f : F) (P : ℕ → B → Type 0) (call : (i : ℕ) (y : B) (q : F) → Called g f (i, tt) y q → (q ≡ f) × P i y) (ys : List B) where
  made_from : (i n : ℕ) → IsFromFnResultFrom g f ys i n → (k : ℕ) (d : B) → k < n → P (i + k) (get_or ys (i + k) d)
  made_from i zero r k d l = absurd (omega arith)
  made_from i (suc n) r zero d l = subst (λ j. P j (get_or ys j d)) (omega arith) (subst (P i) (sym (r.2.1 d)) (call i r.1 r.0 r.3).1)
  made_from i (suc n) r (suc k) d l = subst (λ j. P j (get_or ys j d)) (omega arith) (made_from (i + 1) n (subst (λ q. IsFromFnResultFrom g q ys (i + 1) n) (call i r.1 r.0 r.3).0 r.4) k d (omega arith))

  -- a fact of each call holds of each element
  pub made : (n : ℕ) → IsFromFnResult g f ys n → (k : ℕ) (d : B) → k < n → P k (get_or ys k d)
  made n r k d l = subst (λ j. P j (get_or ys j d)) (omega arith) (made_from 0 n r.each k d l)

module _ {F A B : Type 0} (g : Mut F (A × Unit {0}) B) (f : F) (P : A → B → Type 0) (call : (x : A) (y : B) (q : F) → Called g f (x, tt) y q → (q ≡ f) × P x y) (xs : List A) (ys : List B) where
  mapped_from : (i n : ℕ) → MapsFrom g f xs ys i n → (k : ℕ) (d : A) (e : B) → k < n → P (get_or xs (i + k) d) (get_or ys (i + k) e)
  mapped_from i zero r k d e l = absurd (omega arith)
  mapped_from i (suc n) r zero d e l = subst (λ j. P (get_or xs j d) (get_or ys j e)) (omega arith) (subst (λ x. P x (get_or ys i e)) (sym (r.3.1 d)) (subst (P r.1) (sym (r.4.1 e)) (call r.1 r.2 r.0 r.5).1))
  mapped_from i (suc n) r (suc k) d e l = subst (λ j. P (get_or xs j d) (get_or ys j e)) (omega arith) (mapped_from (i + 1) n (subst (λ q. MapsFrom g q xs ys (i + 1) n) (call r.1 r.2 r.0 r.5).0 r.6) k d e (omega arith))

  pub mapped : (n : ℕ) → IsMapOf g f xs ys n → (k : ℕ) (d : A) (e : B) → k < n → P (get_or xs k d) (get_or ys k e)
  mapped n r k d e l = subst (λ j. P (get_or xs j d) (get_or ys j e)) (omega arith) (mapped_from 0 n r.each k d e l)
