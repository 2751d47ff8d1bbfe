-- One turn of the search for the first greatest entry. Assumes nothing.
use Rattle.std.proofs.Common.{◌≡◌, ℕ, ◌+◌, ◌<◌, true, false, List, ◌∷◌, length, get_or, Option, Some, Ordering, Less, Equal, Greater, refl, ap, ◌∙◌, add-one}
use Rattle.std.specs.Cmp.{IsTotalOrder, IsStrictWeakOrder}
use Rattle.std.specs.Ordering.{is_lt, is_gt, is_some_and, partial_gt, ordering_reverse}
use Rattle.std.specs.List.{IsFirstBest}
use Rattle.std.proofs.lemmas.List.MinMax.{ranks_by, IsStrictWeakOrder-flip, IsFirstBest-takes, IsFirstBest-keeps}
use Rattle.greatest.specs.Greatest.{above}

is_gt-reverse : (r : Ordering) → is_gt (ordering_reverse r) ≡ is_lt r
is_gt-reverse Less = refl
is_gt-reverse Equal = refl
is_gt-reverse Greater = refl

-- `x > y`, where `partial_cmp` answers as a total order does
pub greater : {K : Type 0} {R : K → K → Ordering} (o : IsTotalOrder R) {C : K → K → Option Ordering} → ((x y : K) → C x y ≡ Some (R x y)) → (x y : K) → partial_gt C x y ≡ above R x y
greater {R = R} o agrees x y = ap (is_some_and is_gt) (agrees x y) ∙ ap is_gt (o.antisymm x y) ∙ is_gt-reverse (R y x)

-- an entry of the rest stands one place on in the whole list
pub behind_first : {K : Type 0} (xs rest : List K) (y x : K) (i : ℕ) → xs ≡ y ∷ rest → x ≡ get_or rest i x → x ≡ get_or xs (i + 1) x
behind_first xs rest y x i cut is = rw (cut, add-one i) is

module _ {K : Type 0} {R : K → K → Ordering} (o : IsTotalOrder R) where
  -- a total order turned round is one still
  above_ranks : IsStrictWeakOrder (above R)
  above_ranks = IsStrictWeakOrder-flip (λ x y. is_lt (R x y)) (ranks_by o (λ x. x))

  -- x at i was compared with y at b, the first greatest so far
  module _ (xs : List K) (i b : ℕ) (x y : K) (inv : IsFirstBest (above R) xs i b) (within : i < length xs) (x_is : x ≡ get_or xs i x) (y_is : y ≡ get_or xs b y) where
    -- an entry above the greatest so far is above all before it
    pub turn_takes : above R x y ≡ true → IsFirstBest (above R) xs (i + 1) i
    turn_takes h = IsFirstBest-takes above_ranks xs i b x y inv within x_is y_is h

    -- an entry not above it leaves it the greatest, and the first
    pub turn_keeps : above R x y ≡ false → IsFirstBest (above R) xs (i + 1) b
    turn_keeps h = IsFirstBest-keeps above_ranks xs i b x y inv within x_is y_is h
