-- The list of held cells, from the last to the first. Assumes nothing.
use Rattle.std.proofs.Common.{◌≡◌, ℕ, zero, suc, ◌+◌, ◌<◌, ◌≤◌, List, [], ◌∷◌, ◌++◌, map, length, get_or, take, pos, None, Ok, Err, IfOk, Result, Vec, vec_items, ◌≢◌, sym, ap, ◌∙◌, subst, inl, inr, arith}
use Rattle.std.specs.Iterator.{Yields}
use Rattle.std.proofs.lemmas.Bool.{cases_lt}
use Rattle.std.proofs.lemmas.Iterator.{IsCollectResult}
use Rattle.std.proofs.lemmas.List.{append_assoc, map_push, take_more}
use Rattle.ledger.specs.declared.cells.Cell.{Cell}
use Rattle.ledger.specs.declared.books.Holding.{Holding}
use Rattle.ledger.specs.Listing.{place, Held, Next, NoneHeld}
use Rattle.ledger.specs.Meanings.{Meaning}
use Rattle.lines.specs.Output.{SheetLine}
use Rattle.lines.specs.declared.writing.OutputLine.{OutputLine}
use Rattle.day.specs.Days.{buffer}
use Rattle.day.specs.Runs.{Each}
use Rattle.day.specs.declared.sheets.HeldCells.{HeldCells}
use Rattle.day.specs.Sheets.{nth, place_of, GivesNext, Listed, Listing, Adds}
use Rattle.day.proofs.Steps.{each_more}

-- the held cells from a place on
record From (cell : ℕ → ℕ → Cell) (from : ℕ) (hs : List Holding) : Type 0 where
  pub rising : (j k : ℕ) → j < k → k < length hs → place_of (nth hs j) < place_of (nth hs k)
  pub held : (k : ℕ) → k < length hs → Held cell (nth hs k)
  pub all : (a s : ℕ) → s < 64 → from ≤ place a s → (cell a s).held ≢ pos 0 → Listed hs a s
  pub above : (k : ℕ) → k < length hs → from ≤ place_of (nth hs k)

from_none : (cell : ℕ → ℕ → Cell) (from : ℕ) → NoneHeld cell (λ p. from ≤ p) → From cell from []
from_none cell from none = record {
  rising = λ j k l m. absurd (omega arith);
  held = λ k l. absurd (omega arith);
  all = λ a s l m n. absurd (n (none a s l m));
  above = λ k l. absurd (omega arith);
}

-- before the cells behind it stands the first of all
module _ (cell : ℕ → ℕ → Cell) (from : ℕ) (h : Holding) (hs : List Holding) (next : Next cell from h) (rest : From cell (place_of h + 1) hs) where
  rising_more : (j k : ℕ) → j < k → k < length (h ∷ hs) → place_of (nth (h ∷ hs) j) < place_of (nth (h ∷ hs) k)
  rising_more j zero l m = absurd (omega arith)
  rising_more zero (suc k) l m = omega (arith, rest.above k (omega arith))
  rising_more (suc j) (suc k) l m = rest.rising j k (omega arith) (omega arith)

  held_more : (k : ℕ) → k < length (h ∷ hs) → Held cell (nth (h ∷ hs) k)
  held_more zero l = next.held
  held_more (suc k) l = rest.held k (omega arith)

  above_more : (k : ℕ) → k < length (h ∷ hs) → from ≤ place_of (nth (h ∷ hs) k)
  above_more zero l = next.onward
  above_more (suc k) l = let o = next.onward in omega (arith, rest.above k (omega arith))

  listed_behind : (a s : ℕ) → Listed hs a s → Listed (h ∷ hs) a s
  listed_behind a s i = record { index = suc i.index; within = (let w = i.within in omega arith); account = i.account; series = i.series }

  all_more : (a s : ℕ) → s < 64 → from ≤ place a s → (cell a s).held ≢ pos 0 → Listed (h ∷ hs) a s
  all_more a s l m n = elim (cases_lt (place a s) (place_of h)) [
    | inl lt ↦ absurd (n (next.first a s l (m, lt)))
    | inr ge ↦ elim (cases_lt (place_of h) (place a s)) [
      | inl gt ↦ listed_behind a s (rest.all a s l (omega arith) n)
      | inr le ↦ let t = next.held.series in record { index = 0; within = omega arith; account = omega arith; series = omega arith }
    ]
  ]

  from_more : From cell from (h ∷ hs)
  from_more = record { rising = rising_more; held = held_more; all = all_more; above = above_more }

-- what the iterator gives
module _ {B : Type 0} (meaning : B → Meaning) where
  from_yields : (s t u : HeldCells B) (hs : List Holding) → Yields (GivesNext meaning) s hs t → GivesNext meaning t None u → From (meaning s.book.now).cell s.from hs
  from_yields s t u [] y n = subst (λ x. From (meaning x.book.now).cell x.from []) (sym y) (from_none (meaning t.book.now).cell t.from n.0)
  from_yields s t u (h ∷ hs) (j, step, y) n =
      let cell = (meaning s.book.now).cell in
      from_more cell s.from h hs step.0 (subst (λ p. From cell p hs) step.2 (subst (λ b. From (meaning b.now).cell j.from hs) step.1 (from_yields j t u hs y n)))

  -- from the first place on these are all held cells
  pub listing : {Z E : Type 0} (s : HeldCells B) (r : Result (Vec Holding Z) E) → s.from ≡ 0 → IsCollectResult (GivesNext meaning) s r → IfOk r (λ v. Listing (meaning s.book.now).cell (vec_items v))
  listing s (Ok v) z (hs, (t, y, end), e) =
      let n = end tt in
      let f = from_yields s t n.0 hs y n.1 in
      subst (Listing (meaning s.book.now).cell) (sym e.0) (record { rising = f.rising; held = f.held; all = λ a k l m. f.all a k l (omega arith) m })
  listing s (Err e) z h = tt

-- one more line for one more cell
adds_more : (held : List Holding) (lines all more : List OutputLine) (h : Holding) (line : OutputLine) → Adds held lines all → SheetLine h (buffer line) → more ≡ all ++ line ∷ []
    → Adds (held ++ h ∷ []) lines more
adds_more held lines all more h line a s e = record {
  sheet = a.sheet ++ line ∷ [];
  behind = e ∙ ap (λ ys. ys ++ line ∷ []) a.behind ∙ append_assoc lines a.sheet (line ∷ []);
  shows = subst (Each SheetLine (held ++ h ∷ [])) (sym (map_push buffer a.sheet line)) (each_more SheetLine held (map buffer a.sheet) h (buffer line) a.shows s);
}

-- a loop over the cells goes on by the next one
pub adds_next : (held : List Holding) (k : ℕ) (d : Holding) (lines all more : List OutputLine) (line : OutputLine) → k < length held → Adds (take k held) lines all
    → SheetLine (get_or held k d) (buffer line) → more ≡ all ++ line ∷ [] → Adds (take (k + 1) held) lines more
adds_next held k d lines all more line l a s e = subst (λ hs. Adds hs lines more) (sym (take_more held k d l)) (adds_more (take k held) lines all more (get_or held k d) line a s e)
