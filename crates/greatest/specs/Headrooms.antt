-- The order of headrooms, and that it is total. Assumes nothing.
use Rattle.std.specs.Prelude.{◌≡◌, Bool, true, false, ℤ, None, Some, Option}
use Rattle.std.specs.declared.cmp.Reverse.{Reverse}
use Rattle.std.specs.declared.cmp.Ordering.{Ordering}
use Rattle.std.specs.Cmp.{IsTotalOrder, int_cmp_total}
use Rattle.std.specs.Cmp.Lexicographic.{options_total}
use Rattle.std.specs.Option.{option_cmp}
use Rattle.std.specs.Ordering.{is_eq, int_cmp, int_eq}

-- numbers as they are; a missing limit before every number
abbrev pub rank : Option ℤ → Option ℤ → Ordering
rank = option_cmp int_cmp

-- that order is total
pub headrooms : IsTotalOrder rank
headrooms = options_total int_cmp_total

-- a test that tells headrooms apart by missing and by number is true of those that the order leaves level
pub ties : (E : Option ℤ → Option ℤ → Bool) → E None None ≡ true → ((y : ℤ) → E None (Some y) ≡ false) → ((x : ℤ) → E (Some x) None ≡ false) → ((x y : ℤ) → E (Some x) (Some y) ≡ int_eq x y) → (x y : Option ℤ) → E x y ≡ is_eq (rank x y)
ties E a b c d None None = a
ties E a b c d None (Some y) = b y
ties E a b c d (Some x) None = c x
ties E a b c d (Some x) (Some y) = d x y

-- an order turned round, as the entries of `Reverse` have it
abbrev pub opposite : {K : Type 0} → (K → K → Ordering) → Reverse K → Reverse K → Ordering
opposite R x y = R y.0 x.0
