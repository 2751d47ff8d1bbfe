-- Records of held cells. Assumes nothing.
use Rattle.std.specs.Prelude.{◌≡◌, ℕ, zero, suc, ◌+◌, ◌-◌, ◌%◌, ◌^◌, ◌<◌, ◌≤◌, min, Bool, true, cond, ◌&&◌, List, ℤ, pos, Ok, Err, Result, ◌==◌, slice_index_or}
use Rattle.ledger.specs.Actions.{Within, nonzero}
use Rattle.ledger.specs.Listing.{place}
use Rattle.ledger.specs.declared.books.Holding.{Holding}

abbrev pub holding : ℕ → ℕ → ℤ → Holding
holding account series held = record { account = account; series = series; held = held }

abbrev pub blank : Holding
blank = holding 0 0 (pos 0)

-- the k-th record
abbrev pub nth : List Holding → ℕ → Holding
nth xs k = slice_index_or xs k blank

-- how many records of a memory that long may hold a cell
abbrev pub room : ℕ → ℕ
room len = min 4096 len

abbrev pub place_of : Holding → ℕ
place_of e = place e.account e.series

-- the same, as 64 bits hold it
abbrev pub wrapped_place : Holding → ℕ
wrapped_place e = (place_of e) % (2 ^ 64)

-- the record is the cell's
abbrev pub is_of : Holding → ℕ → ℕ → Bool
is_of e a s = nonzero e.held && (e.account == a && e.series == s)

-- what the first n records hold of a cell: the count of its record, 0 where it has none
unfoldable pub held_in : List Holding → ℕ → ℕ → ℕ → ℤ
held_in xs zero a s = pos 0
held_in xs (suc n) a s = cond (is_of (nth xs n) a s) (nth xs n).held (held_in xs n a s)

-- the first n records rise by their places
abbrev pub Rises : List Holding → ℕ → Type 0
Rises xs n = (j k : ℕ) → j < k → k < n → place_of (nth xs j) < place_of (nth xs k)

-- a held record of a cell that there is
abbrev pub Live : Holding → Type 0
Live e = (e.account < 64) × (e.series < 64) × (nonzero e.held ≡ true) × Within e.held

-- the first n records are held
abbrev pub Known : List Holding → ℕ → Type 0
Known xs n = (k : ℕ) → k < n → Live (nth xs k)

-- the records from n up to an end are free
abbrev pub Free : List Holding → ℕ → ℕ → Type 0
Free xs n end = (k : ℕ) → n ≤ k → k < end → (nth xs k).held ≡ pos 0

-- the first n records are held and rise, and the rest up to an end are free
pub record Ordered (xs : List Holding) (n end : ℕ) : Type 0 where
  pub fits : n ≤ end
  pub rises : Rises xs n
  pub known : Known xs n
  pub free : Free xs n end

-- k parts the first n records: those before it lie below a place, those from it on do not
pub record Parts (xs : List Holding) (n p k : ℕ) : Type 0 where
  pub within : k ≤ n
  pub before : (j : ℕ) → j < k → place_of (nth xs j) < p
  pub onward : (j : ℕ) → k ≤ j → j < n → p ≤ place_of (nth xs j)

-- k is where a record of that place would stand among the first n
pub record Gap (xs : List Holding) (n p k : ℕ) : Type 0 where
  pub within : k ≤ n
  pub before : (j : ℕ) → j < k → place_of (nth xs j) < p
  pub onward : (j : ℕ) → k ≤ j → j < n → p < place_of (nth xs j)

-- where the record of a place stands among the first n, or where it would
abbrev pub Sought : List Holding → ℕ → ℕ → Result ℕ ℕ → Type 0
Sought xs n p (Ok k) = (k < n) × (place_of (nth xs k) ≡ p)
Sought xs n p (Err k) = Gap xs n p k

-- e is put in at k: from there up to an end each record moves up by one, over the one that stood at the end
pub record Inserted (xs ys : List Holding) (k end : ℕ) (e : Holding) : Type 0 where
  pub before : (j : ℕ) → j < k → nth ys j ≡ nth xs j
  pub new : nth ys k ≡ e
  pub onward : (j : ℕ) → k < j → j ≤ end → nth ys j ≡ nth xs (j - 1)
  pub past : (j : ℕ) → end < j → nth ys j ≡ nth xs j

-- the record at k is taken out: from there up to an end each record moves down by one, and leaves a blank one at the end
pub record Removed (xs ys : List Holding) (k end : ℕ) : Type 0 where
  pub before : (j : ℕ) → j < k → nth ys j ≡ nth xs j
  pub onward : (j : ℕ) → k ≤ j → j < end → nth ys j ≡ nth xs (j + 1)
  pub free : nth ys end ≡ blank
  pub past : (j : ℕ) → end < j → nth ys j ≡ nth xs j
