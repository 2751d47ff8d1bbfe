-- The ledger below a layer, as it answers and as it is left. Assumes nothing.
use Rattle.std.proofs.Common.{◌≡◌, ◌≢◌, ℕ, ℤ, pos, negsuc, ◌+ℤ◌, ◌≤ℤ◌, Some, None, Ok, Err, Option, sym, ap, ◌∙◌, subst, arith, w64, SFits}
use Rattle.std.specs.Prelude.{IfOk}
use Rattle.std.proofs.lemmas.Int.{ints, clamps}
use Rattle.ledger.specs.declared.actions.Action.TheVariants.{Fill}
use Rattle.ledger.specs.declared.cells.Cell.{Cell}
use Rattle.ledger.specs.declared.cells.Quote.{Quote}
use Rattle.ledger.specs.declared.cells.Instruction.{Instruction}
use Rattle.ledger.specs.Actions.{Step}
use Rattle.ledger.specs.Checks.{Answer}
use Rattle.ledger.specs.Cells.{standing, Ranged, Quotes, Obeyed, after}
use Rattle.ledger.specs.Meanings.{Meaning, Lawful, Left}
use Rattle.ledger.specs.Layers.{raised, asked, as_fill, Passed}

pub plus_zero : (z : ℤ) → z +ℤ pos 0 ≡ z
plus_zero z = omega (arith, ints)

-- an answer that comes up as a quote is that quote below
pub raised_ok : (r : Answer) (q : Quote) → raised r ≡ Ok q → r ≡ Ok q
raised_ok (Ok m) q e = e
raised_ok (Err f) q e = cc

-- what the ledger below carries out where d is sent to it: nothing sent is a fill of nothing
abbrev pub told : Instruction → Option Instruction → Instruction
told i None = as_fill i (pos 0)
told i (Some j) = j

-- a cell that came to the quote q, its rests and its cover by the step t
abbrev pub moved : Cell → Step → Quote → Cell
moved c t q = record { held = q.held; low = q.low; high = q.high; buys = c.buys +ℤ t.buys; sells = c.sells +ℤ t.sells; cover = c.cover +ℤ t.cover }

-- from the cells f to the cells g: one cell has come to the quote q by the step t, and every other is as it was
pub record Moved (f g : ℕ → ℕ → Cell) (a s : ℕ) (t : Step) (q : Quote) : Type 0 where
  pub here : g a s ≡ moved (f a s) t q
  pub elsewhere : (b r : ℕ) → (b ≡ a → r ≢ s) → g b r ≡ f b r

-- a cell stays as it is under a fill of nothing
still : (c : Cell) (i : Instruction) → after c (as_fill i (pos 0)) (standing c) ≡ c
still c i = simp plus_zero

module _ (m : Meaning) (lawful : Lawful m) where
  pub asked_quotes : (i : Instruction) (d : Option Instruction) (q : Quote) → asked m i.account i.series d ≡ Ok q → Quotes (told i d).action (told i d).amount (m.cell (told i d).account (told i d).series) q
  asked_quotes i None q e =
      let c = m.cell i.account i.series in
      let is : standing c ≡ q = cc in
      subst (Quotes Fill (pos 0) c) is
      (record {
        held = sym (plus_zero c.held);
        ranged = lawful.ranged i.account i.series;
        moves = record {
          low = record { least = omega (arith, ints, clamps); most = omega (arith, ints, clamps) };
          high = record { least = omega (arith, ints, clamps); most = omega (arith, ints, clamps) };
        };
      })
  asked_quotes i (Some j) q e = lawful.quotes j q (raised_ok (m.quoted j) q e)

  pub asked_ranged : (a s : ℕ) (d : Option Instruction) (q : Quote) → asked m a s d ≡ Ok q → Ranged q
  asked_ranged a s d q e = (asked_quotes (record { action = Fill; account = a; series = s; amount = pos 0 }) d q e).ranged

  -- what is asked comes up in its range, if it comes up as a quote
  pub answer_ranged : (a s : ℕ) (d : Option Instruction) (r : Answer) → r ≡ asked m a s d → IfOk r (λ q. Ranged q)
  answer_ranged a s d (Ok q) e = asked_ranged a s d q (sym e)
  answer_ranged a s d (Err f) e = tt

module _ {X : Type 0} (meaning : X → Meaning) (x y : X) where
  -- the ledger below has carried out what was sent to it
  pub passed_obeyed : (i : Instruction) (d : Option Instruction) (q : Quote) → asked (meaning x) i.account i.series d ≡ Ok q → Passed meaning x y d → Obeyed (meaning x).cell (meaning y).cell (told i d) q
  passed_obeyed i None q e p =
      let c = (meaning x).cell i.account i.series in
      let is : standing c ≡ q = cc in
      record {
        here = ap (λ z. (meaning z).cell i.account i.series) p ∙ sym (still c i) ∙ ap (after c (as_fill i (pos 0))) is;
        elsewhere = λ a s _. ap (λ z. (meaning z).cell a s) p;
      }
  passed_obeyed i (Some j) q e p = subst (Left meaning x y j) (raised_ok ((meaning x).quoted j) q e) p.left

  pub passed_taken : (d : Option Instruction) → Passed meaning x y d → (meaning y).taken ≡ (meaning x).taken
  passed_taken None p = ap (λ z. (meaning z).taken) p
  passed_taken (Some j) p = p.taken

-- a number far inside 64 bits
pub small_fits : (z : ℤ) → negsuc 9999999999 ≤ℤ z → z ≤ℤ pos 10000000000 → SFits w64 z
small_fits (pos n) p q = record { sfits = omega (arith, ints) }
small_fits (negsuc n) p q = record { sfits = omega (arith, ints) }
