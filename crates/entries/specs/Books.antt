-- What an entry book means. Assumes nothing.
use Rattle.std.specs.Prelude.{◌≡◌, ℕ, ◌<◌, ◌≤◌, List, length, ℤ, pos, vec_items, vec_len, vec_capacity, ◌≢◌}
use Rattle.ledger.specs.declared.books.Holding.{Holding}
use Rattle.entries.specs.declared.book.EntryBook.{EntryBook}
use Rattle.entries.specs.Records.{holding, nth, room, held_in}

-- all that its memory holds
abbrev pub items : EntryBook → List Holding
items x = vec_items x.records

-- how many cells it can hold
abbrev pub capacity_of : EntryBook → ℕ
capacity_of x = room (vec_len x.records)

-- the count that it holds of a cell
abbrev pub held_at : EntryBook → ℕ → ℕ → ℤ
held_at x a s = held_in (items x) (capacity_of x) a s

-- from x to y the memory stays as long and does not grow, and past the capacity it is as it was
pub record Keeps (x y : EntryBook) : Type 0 where
  pub space : vec_capacity y.records ≡ vec_capacity x.records
  pub long : vec_len y.records ≡ vec_len x.records
  pub past : (k : ℕ) → capacity_of x ≤ k → nth (items y) k ≡ nth (items x) k

-- from x to y the count of one cell is new, and every other as it was
pub record Wrote (x y : EntryBook) (a s : ℕ) (n : ℤ) : Type 0 where
  pub here : held_at y a s ≡ n
  pub elsewhere : (b r : ℕ) → (b ≡ a → r ≢ s) → held_at y b r ≡ held_at x b r

-- the record without its count
abbrev pub freed : Holding → Holding
freed e = holding e.account e.series (pos 0)

-- a book made over a memory that held xs: it is as long, nothing is held, and past the capacity it is as it was
pub record Cleared (xs : List Holding) (x : EntryBook) : Type 0 where
  pub long : length (items x) ≡ length xs
  pub capacity : capacity_of x ≡ room (length xs)
  pub free : (k : ℕ) → k < capacity_of x → nth (items x) k ≡ freed (nth xs k)
  pub past : (k : ℕ) → capacity_of x ≤ k → nth (items x) k ≡ nth xs k
  pub none : (a s : ℕ) → held_at x a s ≡ pos 0

-- two held records of one cell, up to an end
pub record Twins (xs : List Holding) (end j k : ℕ) : Type 0 where
  pub below : (j < end) × (k < end)
  pub held : ((nth xs j).held ≡ pos 0 → ⊥) × ((nth xs k).held ≡ pos 0 → ⊥)
  pub account : (nth xs j).account ≡ (nth xs k).account
  pub series : (nth xs j).series ≡ (nth xs k).series

-- the records xs that a book gives back: as long, past the capacity as they were, and up to it one for each held cell and
-- no other that is not free
pub record Returned (x : EntryBook) (xs : List Holding) : Type 0 where
  pub long : length xs ≡ length (items x)
  pub past : (k : ℕ) → capacity_of x ≤ k → nth xs k ≡ nth (items x) k
  pub each : (a s : ℕ) → (held_at x a s ≢ pos 0) → (k : ℕ) × (k < capacity_of x) × (nth xs k ≡ holding a s (held_at x a s))
  pub only : (k : ℕ) → k < capacity_of x → ((nth xs k).held ≡ pos 0 → ⊥) → (nth xs k).held ≡ held_at x (nth xs k).account (nth xs k).series
  pub one : (j k : ℕ) → Twins xs (capacity_of x) j k → j ≡ k
