-- The order of the held records, and what it says of the counts. Assumes nothing.
use Rattle.std.specs.Prelude.{◌≡◌, ℕ, zero, suc, ◌-◌, ◌/◌, ◌%◌, ◌<◌, ◌≤◌, true, false, ◌⊎◌, List, pos, ◌≢◌, refl}
use Rattle.std.proofs.Common.{sym, ap, subst, ◌∙◌}
use Rattle.std.proofs.Math.Logic.{⊎_elim}
use native.Mathlib.Omega.{arith}
use Rattle.std.proofs.lemmas.Int.{ints}
use Rattle.std.proofs.lemmas.Bool.{cases_lt, cases_eq}
use Rattle.ledger.specs.Actions.{Within, nonzero}
use Rattle.ledger.specs.Listing.{place}
use Rattle.ledger.specs.Books.{at_place, held_below, held_cells}
use Rattle.ledger.proofs.Counts.{one_more, no_more}
use Rattle.ledger.specs.declared.books.Holding.{Holding}
use Rattle.entries.specs.Records.{nth, place_of, held_in, Ordered, Rises, Parts, Gap}
use Rattle.entries.specs.Holds.{Holds, held_cases, held_none}

-- what rises strictly does not fall
pub rises_to : (xs : List Holding) (n : ℕ) → Rises xs n → (j k : ℕ) → j ≤ k → k < n → place_of (nth xs j) ≤ place_of (nth xs k)
rises_to xs n up j k le lt = grind (arith, up j k)

-- past a place that no record has, the records lie above it
pub gap_from : (xs : List Holding) (n p k : ℕ) → Rises xs n → Parts xs n p k → (k < n → place_of (nth xs k) ≢ p) → Gap xs n p k
gap_from xs n p k up c ne = record {
  within = c.within;
  before = c.before;
  onward = λ j g l.
      let first = c.onward k (omega arith) (omega arith) in
      let h = rises_to xs n up k j g l in
      ⊎_elim (λ e. absurd (ne (omega arith) e)) (λ other. omega arith) (cases_eq (place_of (nth xs k)) p);
}

-- a cell's place tells the cell
pub place_parts : (a s b r : ℕ) → s < 64 → r < 64 → place a s ≡ place b r → (a ≡ b) × (s ≡ r)
place_parts a s b r p q e = (omega arith, omega arith)

module _ {xs : List Holding} {n end : ℕ} (o : Ordered xs n end) where
  -- the record of a cell is one of the first n
  pub holds_below : (k a s : ℕ) → k < end → Holds (nth xs k) a s → k < n
  holds_below k a s l h = grind (arith, ints, o.free k)

  holds_place : (k a s : ℕ) → Holds (nth xs k) a s → place_of (nth xs k) ≡ place a s
  holds_place k a s h = let e = h.account in let f = h.series in omega arith

  -- a place has one record
  pub alone : (j k : ℕ) → j < n → k < n → place_of (nth xs j) ≡ place_of (nth xs k) → j ≡ k
  alone j k l m e = grind (arith, o.rises j k, o.rises k j)

  -- the count of a cell that has a record
  pub found_at : (k a s : ℕ) → k < end → Holds (nth xs k) a s → held_in xs end a s ≡ (nth xs k).held
  found_at k a s l h =
      ⊎_elim
      (λ f.
      let p = holds_place k a s h in
      let q = holds_place f.at a s f.holds in
      let same = alone f.at k (holds_below f.at a s f.below f.holds) (holds_below k a s l h) (q ∙ sym p) in
      f.count ∙ ap (λ m. (nth xs m).held) same)
      (λ m. absurd (m.none k l h))
      (held_cases xs end a s)

  -- a held record is its own cell's
  pub live_holds : (k : ℕ) → k < n → Holds (nth xs k) (nth xs k).account (nth xs k).series
  live_holds k l = record { held = (o.known k l).2; account = refl; series = refl }

  -- the count of the cell of a held record
  pub held_live : (k a s : ℕ) → s < 64 → k < n → place_of (nth xs k) ≡ place a s → held_in xs end a s ≡ (nth xs k).held
  held_live k a s small l e =
      let p = place_parts _ _ a s (o.known k l).1 small e in
      let fits = o.fits in
      found_at k a s (omega arith) (record { held = (o.known k l).2; account = p.0; series = p.1 })

  -- the count of a cell whose place no held record has
  pub held_missing : (a s : ℕ) → ((k : ℕ) → k < n → place_of (nth xs k) ≢ place a s) → held_in xs end a s ≡ pos 0
  held_missing a s no_one = held_none xs end a s (λ k l h. no_one k (holds_below k a s l h) (holds_place k a s h))

  pub held_gap : (a s k : ℕ) → Gap xs n (place a s) k → held_in xs end a s ≡ pos 0
  held_gap a s k c = held_missing a s (λ j l e. grind (arith, c.before j, c.onward j))

  -- every count is in reach
  pub held_within : (a s : ℕ) → Within (held_in xs end a s)
  held_within a s =
      ⊎_elim
      (λ f. subst Within (sym f.count) (o.known f.at (holds_below f.at a s f.below f.holds)).3)
      (λ m. subst Within (sym m.count) (omega (arith, ints), omega (arith, ints)))
      (held_cases xs end a s)

  -- nothing is held above account or series 63
  pub held_beyond : (a s : ℕ) → (64 ≤ a) ⊎ (64 ≤ s) → held_in xs end a s ≡ pos 0
  held_beyond a s far = held_none xs end a s (λ k l h. grind (arith, o.known k (holds_below k a s l h)))

  -- no record has a place that parts the records as the next one does
  none_at : (p k : ℕ) → Parts xs n p k → Parts xs n (suc p) k → nonzero (at_place (held_in xs end) p) ≡ false
  none_at p k c d = ap nonzero (held_missing (p / 64) (p % 64) (λ j l e. grind (arith, c.before j, d.onward j)))

  -- a held record at place p
  one_at : (p k : ℕ) → k < n → place_of (nth xs k) ≡ p → nonzero (at_place (held_in xs end) p) ≡ true
  one_at p k l e =
      let m : place_of (nth xs k) ≡ place (p / 64) (p % 64) = omega arith in
      ap nonzero (held_live k (p / 64) (p % 64) (omega arith) l m) ∙ (o.known k l).2

  -- as many places below p are held as records lie below it
  pub held_before : (p k : ℕ) → Parts xs n p k → held_below (held_in xs end) p ≡ k
  unfolding held_below
  held_before zero k c = grind (arith, c.before 0)
  held_before (suc p) k c =
      let within = c.within in
      let on : (j : ℕ) → k ≤ j → j < n → p ≤ place_of (nth xs j) = λ j g l. let h = c.onward j g l in omega arith in
      let same : Parts xs n p k → held_below (held_in xs end) (suc p) ≡ k = λ d. no_more (held_in xs end) p (none_at p k d c) ∙ held_before p k d in
      ⊎_elim
      (λ l. ⊎_elim
      (λ e.
      let d : Parts xs n p (k - 1) = record {
        within = omega arith;
        before = λ j b. let h = o.rises j (k - 1) b (omega arith) in omega arith;
        onward = λ j g b. let h = rises_to xs n o.rises (k - 1) j g b in omega arith;
      } in
      let h = held_before p (k - 1) d in
      let m = one_more (held_in xs end) p (one_at p (k - 1) (omega arith) e) in
      omega arith)
      (λ ne.
      let top = c.before (k - 1) (omega arith) in
      same (record { within = within; onward = on; before = λ j b. let h = rises_to xs n o.rises j (k - 1) (omega arith) (omega arith) in omega arith }))
      (cases_eq (place_of (nth xs (k - 1))) p))
      (λ g. same (record { within = within; onward = on; before = λ j b. absurd (omega arith) }))
      (cases_lt 0 k)

  -- as many cells are held as there are held records
  pub held_all : held_cells (held_in xs end) ≡ n
  held_all =
      held_before 4096 n (record {
        within = omega arith;
        before = λ j l. omega (arith, o.known j l);
        onward = λ j g l. absurd (omega arith);
      })
