-- How many places are held. Assumes nothing.
use Rattle.std.proofs.Common.{◌≡◌, ℕ, zero, suc, ◌+◌, ◌<◌, ◌≤◌, true, false, ℤ, pos, ap, ◌∙◌, ⊎_elim, arith}
use Rattle.std.proofs.lemmas.Bool.{cases_Bool, cases_lt, cond-true, cond-false}
use Rattle.std.proofs.lemmas.Int.{ints}
use Rattle.ledger.specs.Actions.{nonzero}
use Rattle.ledger.specs.Books.{at_place, held_below}

pub zero_from : (z : ℤ) → nonzero z ≡ false → z ≡ pos 0
zero_from z e = grind (arith, ints)

pub nonzero_not : (z : ℤ) → (z ≡ pos 0 → ⊥) → nonzero z ≡ true
nonzero_not z ne = ⊎_elim (λ e. e) (λ e. absurd (ne (zero_from z e))) (cases_Bool (nonzero z))

pub not_zero : (z : ℤ) → nonzero z ≡ true → z ≡ pos 0 → ⊥
not_zero z e f = grind (arith, ints)

module _ (held : ℕ → ℕ → ℤ) where
  pub one_more : (n : ℕ) → nonzero (at_place held n) ≡ true → held_below held (suc n) ≡ held_below held n + 1
  unfolding held_below
  one_more n e = ap (λ k. held_below held n + k) (cond-true _ _ _ e)

  pub no_more : (n : ℕ) → nonzero (at_place held n) ≡ false → held_below held (suc n) ≡ held_below held n
  unfolding held_below
  no_more n e = ap (λ k. held_below held n + k) (cond-false _ _ _ e) ∙ omega arith

  -- at most as many as there are
  pub held_most : (n : ℕ) → held_below held n ≤ n
  unfolding held_below
  held_most zero = omega arith
  held_most (suc n) =
      let h = held_most n in
      ⊎_elim (λ e. let k = one_more n e in omega arith) (λ e. let k = no_more n e in omega arith) (cases_Bool (nonzero (at_place held n)))

  -- fewer where one of them is not held
  pub held_fewer : (n p : ℕ) → p < n → at_place held p ≡ pos 0 → held_below held n < n
  unfolding held_below
  held_fewer zero p l e = omega arith
  held_fewer (suc n) p l e =
      let most = held_most n in
      ⊎_elim
      (λ f.
      let k = one_more n f in
      ⊎_elim
      (λ lt. let h = held_fewer n p lt e in omega arith)
      (λ ge. absurd (not_zero (at_place held n) f (ap (at_place held) (let q : n ≡ p = omega arith in q) ∙ e)))
      (cases_lt p n))
      (λ f. let k = no_more n f in omega arith)
      (cases_Bool (nonzero (at_place held n)))

  -- no more from a place on where nothing is held
  pub held_same : (m n : ℕ) → m ≤ n → ((p : ℕ) → m ≤ p → at_place held p ≡ pos 0) → held_below held n ≡ held_below held m
  unfolding held_below
  held_same m zero l none = ap (held_below held) (let e : 0 ≡ m = omega arith in e)
  held_same m (suc n) l none =
      ⊎_elim
      (λ f. ⊎_elim
      (λ lt. let h = held_same m n (omega arith) none in absurd (not_zero (at_place held n) f (none n (omega arith))))
      (λ ge. ap (held_below held) (let e : suc n ≡ m = omega arith in e))
      (cases_lt m (suc n)))
      (λ f. ⊎_elim
      (λ lt. no_more n f ∙ held_same m n (omega arith) none)
      (λ ge. ap (held_below held) (let e : suc n ≡ m = omega arith in e))
      (cases_lt m (suc n)))
      (cases_Bool (nonzero (at_place held n)))
