-- What a search of the places in order finds. Assumes nothing.
use Rattle.std.proofs.Common.{get_or}
use Rattle.std.specs.Prelude.{◌≡◌, ℕ, ◌+◌, ◌-◌, ◌*◌, ◌/◌, ◌%◌, ◌<◌, ◌≤◌, ◌≢◌, map, length, List, pos, Some, None, Option, MatchOption, refl}
use Rattle.std.proofs.Common.{sym, ◌∙◌, ⊎_elim, arith}
use Rattle.std.specs.List.{range_with_len, AllWithin, HoldsAt}
use Rattle.std.proofs.lemmas.Bool.{cases_lt}
use Rattle.std.proofs.lemmas.List.FromFn.{length-map-range_with_len, get_or-map-range_with_len}
use Rattle.ledger.specs.declared.books.Holding.{Holding}
use Rattle.ledger.specs.Listing.{place, NoneHeld, FirstHeld}
use Rattle.tables.specs.Tables.{rows_of}
use Rattle.tables.specs.declared.Table.{Table}
use Rattle.grid.specs.Grids.{grid_meaning, holding_at}
use Rattle.grid.specs.GridsLemmas.{untaken}

-- no count
abbrev pub IsNone : Holding → Type 0
IsNone h = h.held ≡ pos 0

module _ (t : Table) (from n : ℕ) where
  -- what is held at n places from a place on
  abbrev pub listed : List Holding
  listed = map (holding_at t) (range_with_len from n)

  listed_at : (i : ℕ) (d : Holding) → i < n → get_or listed i d ≡ holding_at t (from + i)
  listed_at i d l = get_or-map-range_with_len (holding_at t) from n i (from + i) d l refl

  -- where the first m of them hold nothing, no cell of those places is held
  passed : (m : ℕ) → m ≤ n → AllWithin IsNone listed 0 m → NoneHeld (grid_meaning t).cell (λ p. (from ≤ p) × (p < from + m))
  passed m le none a s small (onward, below) =
      let p = place a s in
      let at_a : p / 64 ≡ a = omega arith in
      let at_s : p % 64 ≡ s = omega arith in
      let at_p : from + (p - from) ≡ p = omega arith in
      rw (listed_at (p - from) (holding_at t 0) (omega arith), at_p, at_a, at_s) at (none (p - from) (holding_at t 0) (omega arith) (omega arith))

  pub first_listed : (r : Option Holding) → 64 * rows_of t ≤ from + n
      → MatchOption r (AllWithin IsNone listed 0 (length listed)) (λ h. (h.held ≢ pos 0) × (i : ℕ) × (i < length listed) × HoldsAt (λ y. y ≡ h) listed i × AllWithin IsNone listed 0 i)
      → FirstHeld (grid_meaning t).cell from r
  first_listed None all none =
      λ a s small onward. ⊎_elim
      (λ l. passed n (omega arith) (rw length-map-range_with_len at none) a s small (onward, l))
      (λ g. untaken t a s (omega arith))
      (cases_lt (place a s) (from + n))
  first_listed (Some h) all (held, i, below, is, none) =
      let l : i < n = rw length-map-range_with_len at below in
      let e : h ≡ holding_at t (from + i) = sym (is h) ∙ listed_at i h l in
      rw e (record {
        held = record { series = omega arith; count = refl; held = rw e at held };
        onward = omega arith;
        first = λ a s small between. passed i (omega arith) none a s small (between.0, omega (arith, between.1));
      })
