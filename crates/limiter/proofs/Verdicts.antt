-- Checks in their order, and what it says that they pass. Assumes nothing.
use Rattle.std.proofs.Common.{◌≡◌, ℕ, zero, suc, ◌+◌, ◌<◌, Bool, true, false, ◌⊎◌, List, [], ◌∷◌, length, get_or, drop, ℤ, pos, ◌≤ℤ◌, ◌<ℤ◌, All, is_some, Some, None, Ok, Err, Option, Result, sym, refl, ap, ◌∙◌, subst, inl, inr, arith}
use lib.Signed.{le_z}
use Rattle.std.proofs.lemmas.List.{at_drop_more}
use Rattle.std.proofs.lemmas.Int.{ints}
use Rattle.ledger.specs.declared.faults.Fault.{Fault}
use Rattle.expiry.specs.declared.side.Side.{Side}
use Rattle.expiry.specs.declared.side.Side.TheVariants.{Long, Short}
use Rattle.parties.specs.declared.level.Level.{Level}
use Rattle.parties.specs.declared.level.Level.TheVariants.{Account}
use Rattle.parties.specs.Levels.{level_number, levels}
use Rattle.parties.proofs.Levels.{level_below, level_there}
use Rattle.limiter.specs.Verdicts.{Verdict, require, ◌before◌, each, sides, allowed}
use Rattle.limiter.specs.Promise.{Within}

-- a passed check has no refusal
pub ok_err : {A : Type 0} (x : A) (f : Fault) → ◌≡◌ {A = Result A Fault} (Ok x) (Err f) → ⊥
ok_err x f e = cc

-- one check before another
pub both_pass : (a b : Verdict) → (a before b) ≡ Ok tt → (a ≡ Ok tt) × (b ≡ Ok tt)
both_pass (Ok _) b e = (refl, e)
both_pass (Err f) b e = absurd (ok_err tt f (sym e))

either_refuses : (a b : Verdict) (r : Fault) → (a before b) ≡ Err r → (a ≡ Err r) ⊎ (b ≡ Err r)
either_refuses (Ok _) b r e = inr e
either_refuses (Err g) b r e = inl e

pub require_true : (b : Bool) (f : Fault) → require b f ≡ Ok tt → b ≡ true
require_true true f e = refl
require_true false f e = absurd (ok_err tt f (sym e))

module _ {A : Type 0} (f : A → Verdict) where
  -- a loop's step through the checks
  pub each_more : (xs : List A) (i : ℕ) (d : A) → i < length xs → f (get_or xs i d) ≡ Ok tt → each f (drop i xs) ≡ each f (drop (i + 1) xs)
  each_more xs i d l e = at_drop_more (each f) xs i d l ∙ ap (λ (v : Verdict). v before each f (drop (i + 1) xs)) e

  pub each_stops : (xs : List A) (i : ℕ) (d : A) (r : Fault) → i < length xs → f (get_or xs i d) ≡ Err r → each f (drop i xs) ≡ Err r
  each_stops xs i d r l e = at_drop_more (each f) xs i d l ∙ ap (λ (v : Verdict). v before each f (drop (i + 1) xs)) e

  -- where all of them pass, and where one refuses
  each_passes : (xs : List A) → each f xs ≡ Ok tt → All (λ x. f x ≡ Ok tt) xs
  each_passes [] e k d l = absurd (omega arith)
  each_passes (x ∷ xs) e zero d l = (both_pass (f x) (each f xs) e).0
  each_passes (x ∷ xs) e (suc k) d l = each_passes xs (both_pass (f x) (each f xs) e).1 k d (omega arith)

  pub each_refuses : (xs : List A) (r : Fault) → each f xs ≡ Err r → (x : A) × (f x ≡ Err r)
  each_refuses [] r e = absurd (ok_err tt r e)
  each_refuses (x ∷ xs) r e = elim (either_refuses (f x) (each f xs) r e) [ inl d ↦ (x, d) | inr d ↦ each_refuses xs r d ]

  pub pass_each : (xs : List A) → ((x : A) → f x ≡ Ok tt) → each f xs ≡ Ok tt
  pass_each [] h = refl
  pass_each (x ∷ xs) h = ap (λ (v : Verdict). v before each f xs) (h x) ∙ pass_each xs h

-- at each level, and on each side
pub levels_pass : (f : Level → Verdict) → each f levels ≡ Ok tt → (l : Level) → f l ≡ Ok tt
levels_pass f e l = subst (λ z. f z ≡ Ok tt) (level_there l) (each_passes f levels e (level_number l) Account (level_below l))

pub sides_pass : (f : Side → Verdict) → each f sides ≡ Ok tt → (d : Side) → f d ≡ Ok tt
sides_pass f e Long = each_passes f sides e 0 Long (omega arith)
sides_pass f e Short = each_passes f sides e 1 Long (omega arith)

-- a check that passes has a limit, and the quantity is within it
pub allowed_passes : (o : Option ℤ) (q : ℤ) (l : Level) (d : Side) → allowed o q l d ≡ Ok tt → (is_some o ≡ true) × Within q o
allowed_passes None q l d e = absurd (ok_err tt _ (sym e))
allowed_passes (Some m) q l d e = let h = require_true (le_z q m) _ e in (refl, grind (arith, ints))

pub allowed_refuses : (m q : ℤ) (l : Level) (d : Side) (f : Fault) → allowed (Some m) q l d ≡ Err f → m <ℤ q
allowed_refuses m q l d f e = grind (arith, ints)

-- a lesser quantity passes where a greater one was within the limit
pub allowed_lesser : (o : Option ℤ) (u w : ℤ) (l : Level) (d : Side) → is_some o ≡ true → Within u o → w ≤ℤ u → allowed o w l d ≡ Ok tt
allowed_lesser None u w l d e h k = cc
allowed_lesser (Some m) u w l d e h k = grind (arith, ints)

-- 0 is within every limit
pub within_zero : (l : Option ℤ) (q : ℤ) → ((m : ℤ) → l ≡ Some m → pos 0 ≤ℤ m) → q ≡ pos 0 → Within q l
within_zero None q h e = e
within_zero (Some m) q h e = subst (λ z. z ≤ℤ m) (sym e) (h m refl)
