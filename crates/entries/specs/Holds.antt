-- What records hold of a cell, by the place of its record. Assumes nothing.
use Rattle.std.specs.Prelude.{◌≡◌, ℕ, zero, suc, ◌<◌, true, ◌⊎◌, List, pos, refl}
use Rattle.std.proofs.Common.{subst, ◌∙◌, inl, inr, ⊎_elim, arith}
use Rattle.std.proofs.lemmas.Bool.{cases_Bool, cases_lt, cond-true, cond-false, both_ways}
use Rattle.std.proofs.lemmas.Bool.Decides.{nat_tests}
use Rattle.ledger.specs.Actions.{nonzero}
use Rattle.ledger.specs.declared.books.Holding.{Holding}
use Rattle.entries.specs.Records.{nth, is_of, held_in}

-- e is the record of a cell
pub record Holds (e : Holding) (a s : ℕ) : Type 0 where
  pub held : nonzero e.held ≡ true
  pub account : e.account ≡ a
  pub series : e.series ≡ s

of_true : (e : Holding) (a s : ℕ) → is_of e a s ≡ true → Holds e a s
of_true e a s t = grind (arith, nat_tests)

true_of : (e : Holding) (a s : ℕ) → Holds e a s → is_of e a s ≡ true
true_of e a s h = grind (arith, nat_tests)

-- the count is that of a record of the cell
pub record Found (xs : List Holding) (n a s : ℕ) : Type 0 where
  pub at : ℕ
  pub below : at < n
  pub holds : Holds (nth xs at) a s
  pub count : held_in xs n a s ≡ (nth xs at).held

-- no record is the cell's, and the count is 0
pub record Missing (xs : List Holding) (n a s : ℕ) : Type 0 where
  pub none : (k : ℕ) → k < n → Holds (nth xs k) a s → ⊥
  pub count : held_in xs n a s ≡ pos 0

pub held_cases : (xs : List Holding) (n a s : ℕ) → Found xs n a s ⊎ Missing xs n a s
unfolding held_in
held_cases xs zero a s = inr (record { none = λ k l. absurd (omega arith); count = refl })
held_cases xs (suc n) a s =
    ⊎_elim
    (λ t. inl (record { at = n; below = omega arith; holds = of_true (nth xs n) a s t; count = cond-true _ _ _ t }))
    (λ t.
    let skip : held_in xs (suc n) a s ≡ held_in xs n a s = cond-false _ _ _ t in
    ⊎_elim
    (λ f. inl (record { at = f.at; below = omega arith; holds = f.holds; count = skip ∙ f.count }))
    (λ m. inr (record {
      none = λ k l h. ⊎_elim
          (λ b. m.none k b h)
          (λ g. both_ways _ t (true_of (nth xs n) a s (subst (λ j. Holds (nth xs j) a s) (let e : k ≡ n = omega arith in e) h)))
          (cases_lt k n);
      count = skip ∙ m.count;
    }))
    (held_cases xs n a s))
    (cases_Bool (is_of (nth xs n) a s))

-- a count of 0 where no record is the cell's
pub held_none : (xs : List Holding) (n a s : ℕ) → ((k : ℕ) → k < n → Holds (nth xs k) a s → ⊥) → held_in xs n a s ≡ pos 0
held_none xs n a s no_one = ⊎_elim (λ f. absurd (no_one f.at f.below f.holds)) (λ m. m.count) (held_cases xs n a s)
