-- The records of a whole book, before and after a write. Assumes nothing.
use Rattle.std.specs.Prelude.{◌≡◌, ℕ, ◌<◌, true, not, ℤ, pos, refl}
use Rattle.std.proofs.Common.{sym, ⊎_elim, arith, take, length, length-take-le, get_or-take}
use Rattle.std.proofs.lemmas.Int.{ints}
use Rattle.std.proofs.lemmas.Bool.Decides.{nat_tests}
use Rattle.std.proofs.lemmas.Bool.{cases_lt}
use Rattle.std.proofs.lemmas.Option.{slice_get-get_or, slice_get_past}
use Rattle.ledger.specs.declared.cells.Instruction.{Instruction}
use Rattle.ledger.specs.declared.books.Holding.{Holding}
use Rattle.ledger.specs.Books.{book_cell, is_full}
use Rattle.ledger.specs.Listing.{FirstHeld}
use Rattle.std.specs.List.{slice_get}
use Rattle.ledger.proofs.Counts.{not_zero, nonzero_not}
use Rattle.entries.specs.declared.book.EntryBook.{EntryBook}
use Rattle.entries.specs.Records.{blank, holding, nth, Parts}
use Rattle.entries.specs.Books.{items, held_at, capacity_of, Returned}
use Rattle.entries.specs.Holds.{held_cases}
use Rattle.entries.specs.Orders.{rises_to, held_all, held_live, held_missing, found_at, holds_below, alone}

-- where there is no held record, no cell is held
pub none_held : (x : EntryBook) → x.live ≡ 0 → (a s : ℕ) → held_at x a s ≡ pos 0
none_held x e a s = held_missing x.ordered a s (λ k l _. absurd (omega arith))

-- a cell that is not held may become so unless the book is full, and full is as many held records as the capacity
pub has_room : (x : EntryBook) (i : Instruction) → not (is_full (capacity_of x) (held_at x) i) ≡ true → held_at x i.account i.series ≡ pos 0 → x.live < capacity_of x
has_room x i open-yet zero = grind (arith, nat_tests, ints, x.ordered.fits, held_all x.ordered)

-- each held cell has its record, and each held record its cell
pub returned : (x : EntryBook) → Returned x (items x)
returned x =
    let o = x.ordered in
    record {
      long = refl;
      past = λ k l. refl;
      each = λ a s held. ⊎_elim
          (λ f. (f.at, f.below, rebuilt (nth (items x) f.at) a s (held_at x a s) f.holds.account f.holds.series (sym f.count)))
          (λ m. absurd (held m.count))
          (held_cases (items x) (capacity_of x) a s);
      only = λ k l held. sym (found_at o k _ _ l (record { held = nonzero_not _ held; account = refl; series = refl }));
      one = λ j k t.
          let a = holds_below o j _ _ t.below.0 (record { held = nonzero_not _ t.held.0; account = refl; series = refl }) in
          let b = holds_below o k _ _ t.below.1 (record { held = nonzero_not _ t.held.1; account = refl; series = refl }) in
          let p = t.account in
          let q = t.series in
          alone o j k a b (omega arith);
    }
  where
    rebuilt : (e : Holding) (a s : ℕ) (z : ℤ) → e.account ≡ a → e.series ≡ s → e.held ≡ z → e ≡ holding a s z
    rebuilt e a s z p q r = rw (sym p, sym q, sym r) refl

-- where its records part at a place, the first held cell from there on stands
pub first_held : (x : EntryBook) (p k : ℕ) → Parts (items x) x.live p k → FirstHeld (λ a s. book_cell (held_at x a s)) p (slice_get (take x.live (items x)) k)
first_held x p k parts =
    let o = x.ordered in
    let len : length (take x.live (items x)) ≡ x.live = length-take-le x.live (items x) (omega (arith, x.ordered.fits, x.records.ok.0)) in
    ⊎_elim
    (λ l.
    let e = nth (items x) k in
    let live = x.ordered.known k l in
    rw (slice_get-get_or (take x.live (items x)) k blank (omega arith), get_or-take x.live (items x) k blank l)
    (record {
      held = record { series = live.1; count = sym (held_live o k e.account e.series live.1 l refl); held = not_zero _ live.2 };
      onward = omega (arith, parts.onward k);
      first = λ a s small between. held_missing o a s (λ j m q.
          ⊎_elim
          (λ u. omega (arith, parts.before j u, between.0))
          (λ u. omega (arith, rises_to (items x) x.live x.ordered.rises k j u m, between.1))
          (cases_lt j k));
    }))
    (λ g. rw (slice_get_past (take x.live (items x)) k (omega arith)) (λ a s small from. held_missing o a s (λ j m q. omega (arith, parts.before j))))
    (cases_lt k x.live)
