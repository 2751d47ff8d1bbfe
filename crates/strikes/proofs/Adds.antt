-- The strikes of a class, and one more. Assumes nothing.
use Rattle.std.proofs.Common.{◌≡◌, ℕ, ◌-◌, ◌<◌, ◌≤◌, true, List, [], ◌∷◌, ◌++◌, length, arith}
use Rattle.std.proofs.lemmas.Bool.Decides.{nat_tests}
use Rattle.std.proofs.lemmas.Grind.{common_steps}
use Rattle.strikes.specs.declared.strike.Strike.{Strike}
use Rattle.strikes.specs.Classes.{highest, comes_next}
use Rattle.strikes.specs.Strikes.{strike_at, Proper, Lawful}

-- no price is above the last
up_to_highest : (ss : List Strike) → Lawful ss → (i : ℕ) → i < length ss → (strike_at ss i).price ≤ highest ss
up_to_highest ss lawful i l = let below = lawful.rises i (length ss - 1) in grind (arith, common_steps)

-- with a strike that may come next they are a class's still
pub lawful_push : (ss : List Strike) (s : Strike) → Lawful ss → length ss < 32 → comes_next ss s.price s.size ≡ true → Lawful (ss ++ s ∷ [])
lawful_push ss s lawful room h =
    let next : (Proper s) × (highest ss < s.price) = grind (arith, nat_tests) in
    record {
      few = grind (arith, common_steps);
      proper = λ i l. let old = lawful.proper i in grind (arith, common_steps);
      rises = λ i j l m. let old = lawful.rises i j l in let below = up_to_highest ss lawful i in grind (arith, common_steps);
    }
