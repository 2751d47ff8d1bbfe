-- The least headroom on a path. Assumes nothing.
use Rattle.std.proofs.Common.{◌≡◌, ℕ, zero, suc, ◌/◌, ◌%◌, ◌<◌, List, length, get_or, map, ℤ, None, Option, sym, refl, ap, ◌∙◌, subst, arith}
use Rattle.std.proofs.lemmas.List.{get_or-map, ext_get_or}
use Rattle.std.specs.declared.cmp.Reverse.{Reverse}
use Rattle.ledger.specs.Meanings.{Meaning}
use Rattle.greatest.specs.declared.Peak.{Peak}
use Rattle.greatest.specs.Greatest.{Stands}
use Rattle.greatest.specs.Headrooms.{rank, opposite}
use Rattle.expiry.specs.declared.side.Side.{Side}
use Rattle.expiry.specs.declared.side.Side.TheVariants.{Long}
use Rattle.expiry.specs.declared.side.BySide.{BySide}
use Rattle.expiry.specs.Sides.{side_at, on_side}
use Rattle.parties.specs.declared.level.Level.{Level}
use Rattle.parties.specs.declared.level.Level.TheVariants.{Account}
use Rattle.parties.specs.declared.path.Path.{Path}
use Rattle.parties.specs.Levels.{level_at, level_number, levels}
use Rattle.parties.specs.Paths.{party_on}
use Rattle.parties.proofs.Levels.{level_below, level_there}
use Rattle.limiter.specs.States.{State}
use Rattle.limiter.specs.Steps.{headroom_of, by_check, path_headrooms, Least}

-- the checks on a path, in their order
abbrev pub checks : List (Level × Side)
checks = by_check (λ level side. (level, side))

-- the check k is at level k / 2 and side k % 2
check_at : (k : ℕ) (d : Level × Side) → k < 8 → ((get_or checks k d).0 ≡ level_at (k / 2)) × ((get_or checks k d).1 ≡ side_at (k % 2))
check_at zero d l = (refl, refl)
check_at (suc zero) d l = (refl, refl)
check_at (suc (suc zero)) d l = (refl, refl)
check_at (suc (suc (suc zero))) d l = (refl, refl)
check_at (suc (suc (suc (suc zero)))) d l = (refl, refl)
check_at (suc (suc (suc (suc (suc zero))))) d l = (refl, refl)
check_at (suc (suc (suc (suc (suc (suc zero)))))) d l = (refl, refl)
check_at (suc (suc (suc (suc (suc (suc (suc zero))))))) d l = (refl, refl)
check_at (suc (suc (suc (suc (suc (suc (suc (suc k)))))))) d l = absurd (omega arith)

abbrev pub no_headroom : BySide (Option ℤ)
no_headroom = record { long = None; short = None }

module _ {X : Type 0} (meaning : X → Meaning) (s : State X) (path : Path) where
  -- the headrooms of the path's party at a level
  abbrev pub AtLevel : Level → BySide (Option ℤ) → Type 0
  AtLevel level h = (side : Side) → on_side h side ≡ headroom_of meaning s level (party_on path level) side

  -- the entry of a check, from the headrooms by level
  abbrev pub AtCheck : List (BySide (Option ℤ)) → Level × Side → Reverse (Option ℤ) → Type 0
  AtCheck hs at e = e ≡ record { 0 = on_side (get_or hs (level_number at.0) no_headroom) at.1 }

  module _ (hs : List (BySide (Option ℤ))) (by_level : (k : ℕ) → k < 4 → AtLevel (get_or levels k Account) (get_or hs k no_headroom))
      (list : List (Reverse (Option ℤ))) (long : length list ≡ 8) (by_check : (k : ℕ) (d : Level × Side) (e : Reverse (Option ℤ)) → k < 8 → AtCheck hs (get_or checks k d) (get_or list k e)) where
    abbrev entry : Level × Side → Reverse (Option ℤ)
    entry at = record { 0 = headroom_of meaning s at.0 (party_on path at.0) at.1 }

    entry_at : (k : ℕ) (d : Level × Side) (e : Reverse (Option ℤ)) → k < 8 → get_or list k e ≡ entry (get_or checks k d)
    entry_at k d e l =
        let level = (get_or checks k d).0 in
        by_check k d e l ∙ ap (λ h. record { 0 = h }) (subst (λ z. AtLevel z (get_or hs (level_number level) no_headroom)) (level_there level) (by_level (level_number level) (level_below level)) (get_or checks k d).1)

    all_entries : list ≡ path_headrooms meaning s path
    all_entries = ext_get_or (record { 0 = None }) list (map entry checks) long (λ k l. entry_at k (Account, Long) _ (omega arith) ∙ sym (get_or-map entry checks k (Account, Long) _ (omega arith)))

    pub least_is : (peak : Peak) (d : Level × Side) (e : Reverse (Option ℤ)) → Stands (opposite rank) list peak → Least meaning s path (record { level = (get_or checks peak.first d).0; side = (get_or checks peak.first d).1; headroom = (get_or list peak.first e).0 })
    least_is peak d e st =
        let within : peak.first < 8 = omega (arith, st.within, long) in
        record {
          check = peak.first;
          stands = subst (λ z. Stands (opposite rank) z peak) all_entries st;
          level = (check_at peak.first d within).0;
          side = (check_at peak.first d within).1;
          headroom = ap (λ (r : Reverse (Option ℤ)). r.0) (entry_at peak.first d e within);
        }
