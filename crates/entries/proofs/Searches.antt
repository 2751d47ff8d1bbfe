-- What a search by place finds among records. Assumes nothing.
use Rattle.std.specs.Prelude.{◌≡◌, ℕ, ◌<◌, ◌≤◌, List, Ok, Err, Result}
use Rattle.std.proofs.Common.{sym, ap, ◌∙◌, arith, take, length, length-take-le, get_or-take}
use Rattle.std.specs.List.Sorted.{IsSearchInRange, IsBinarySearchResult, IsNonDecreasingBy}
use Rattle.std.specs.Ordering.{nat_cmp, ordering_index}
use Rattle.std.specs.declared.cmp.Ordering.{Ordering}
use Rattle.std.proofs.lemmas.List.Sorted.{IsNonDecreasingBy-from_default}
use Rattle.std.proofs.lemmas.Cmp.{ranked}
use Rattle.std.proofs.lemmas.Bool.Decides.{nat_tests}
use Rattle.ledger.specs.declared.books.Holding.{Holding}
use Rattle.ledger.specs.Listing.{place}
use Rattle.entries.specs.Records.{blank, nth, place_of, wrapped_place, Rises, Known, Gap, Parts, Sought}
use Rattle.entries.specs.Orders.{rises_to}

-- records by their place
abbrev pub cell_cmp : Holding → ℕ → Ordering
cell_cmp e p = nat_cmp (wrapped_place e) p

-- that of a held record does not wrap
unwrapped : (e : Holding) → e.account < 64 → e.series < 64 → wrapped_place e ≡ place_of e
unwrapped e l m = omega arith

module _ (xs : List Holding) (n a s : ℕ) (long : n ≤ length xs) (rises : Rises xs n) (known : Known xs n) (small : s < 64) where
  -- a record that is searched, by its place
  at_place : (k : ℕ) → k < n → cell_cmp (nth (take n xs) k) (place a s) ≡ nat_cmp (place_of (nth xs k)) (place a s)
  at_place k l = rw (get_or-take n xs k blank l) (ap (λ p. nat_cmp p (place a s)) (unwrapped (nth xs k) (known k l).0 (known k l).1))

  ranks_rise : IsNonDecreasingBy (λ e. ordering_index (cell_cmp e (place a s))) (take n xs)
  ranks_rise = IsNonDecreasingBy-from_default (λ e. ordering_index (cell_cmp e (place a s))) (take n xs) blank (λ i j le l.
      let m : j < n = omega (arith, length-take-le n xs long) in
      let up = rises_to xs n rises i j le m in
      rw (at_place i (omega arith), at_place j m) (grind (arith, nat_tests)))

  pub searched : (r : Result ℕ ℕ) → IsSearchInRange r (length (take n xs)) → IsBinarySearchResult (λ e. cell_cmp e (place a s)) (take n xs) r → Sought xs n (place a s) r
  searched (Ok k) l equal =
      let m : k < n = omega (arith, length-take-le n xs long) in
      (m, ranked _ _ _ (sym (equal blank) ∙ at_place k m))
  searched (Err k) l parted =
      let len = length-take-le n xs long in
      record {
        within = omega arith;
        before = λ j b. ranked _ _ _ (sym ((parted ranks_rise).0 j blank (omega arith) b) ∙ at_place j (omega arith));
        onward = λ j g b. ranked _ _ _ (sym ((parted ranks_rise).1 j blank g (omega arith)) ∙ at_place j b);
      }

-- the records are parted at the record of a place, and where it would stand
pub parted_at : {xs : List Holding} {n p k : ℕ} → Rises xs n → k < n → place_of (nth xs k) ≡ p → Parts xs n p k
parted_at {xs} {n} {p} {k} up l at = record {
  within = omega arith;
  before = λ j b. omega (arith, up j k b l);
  onward = λ j g m. omega (arith, rises_to xs n up k j g m);
}

pub parted_gap : {xs : List Holding} {n p q k : ℕ} → q ≡ p → Gap xs n q k → Parts xs n p k
parted_gap e gap = record { within = gap.within; before = λ j b. omega (arith, gap.before j b); onward = λ j g m. omega (arith, gap.onward j g m) }
