-- The laws of the entry book. Assumes nothing.
use Rattle.std.specs.Prelude.{◌≡◌, ◌≤◌, refl}
use Rattle.std.proofs.Common.{sym, ap, subst, ◌∙◌, inl}
use native.Mathlib.Omega.{arith}
use Rattle.ledger.specs.Books.{BookLaws, book_meaning}
use Rattle.ledger.specs.Meanings.{Lawful}
use Rattle.ledger.proofs.BookFacts.{book_lawful, book_laws}
use Rattle.entries.specs.Records.{room}
use Rattle.entries.specs.declared.book.EntryBook.{EntryBook}
use Rattle.entries.specs.Books.{capacity_of, held_at, Keeps}
use Rattle.entries.specs.Orders.{held_within, held_beyond, held_all}

-- it is a ledger
pub entry_lawful : (x : EntryBook) → Lawful (book_meaning 64 (capacity_of x) (held_at x))
entry_lawful x =
    book_lawful 64 (capacity_of x) (held_at x) (omega arith)
    (held_within x.ordered)
    (held_beyond x.ordered)

-- and a book
pub entry_laws : (x : EntryBook) → BookLaws (book_meaning 64 (capacity_of x) (held_at x)) (capacity_of x)
entry_laws x =
    let fits = x.ordered.fits in
    let all = held_all x.ordered in
    book_laws 64 (capacity_of x) (held_at x)
    (λ a s h. held_beyond x.ordered a s (inl h))
    (omega arith)

-- what is kept keeps the capacity
pub keeps_capacity : (x y : EntryBook) → Keeps x y → capacity_of y ≡ capacity_of x
keeps_capacity x y k = ap room k.long

-- an unchanged book keeps everything
pub keeps_still : (x : EntryBook) → Keeps x x
keeps_still x = record { space = refl; long = refl; past = λ _ _. refl }

-- what each instruction of a run keeps, the run keeps
pub keeps_onward : (x y z : EntryBook) → Keeps x y → Keeps y z → Keeps x z
keeps_onward x y z h k = record {
  space = k.space ∙ h.space;
  long = k.long ∙ h.long;
  past = λ p l. k.past p (subst (λ n. n ≤ p) (sym (keeps_capacity x y h)) l) ∙ h.past p l;
}
