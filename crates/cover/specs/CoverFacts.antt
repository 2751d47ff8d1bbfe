-- The laws of the cover layer, from those of the ledger below. Assumes nothing.
use Rattle.std.specs.Prelude.{◌≡◌, ℕ, ◌<◌, ◌⊎◌, ℤ, pos, ◌+ℤ◌, ◌≤ℤ◌, ◌<ℤ◌, Ok, Err, Option, int_lt, true, false, refl}
use Rattle.std.proofs.Common.{sym, ap, subst, ◌∙◌, inl, inr, ⊎_elim, arith, w64, to_z, of_z}
use Rattle.std.proofs.lemmas.Bool.{cases_Bool, cond-true, cond-false}
use Rattle.std.specs.Int.{int_max, int_min}
use Rattle.std.proofs.lemmas.Int.{ints, clamps}
use Rattle.ledger.specs.declared.actions.Action.{Action}
use Rattle.ledger.specs.declared.actions.Action.TheVariants.{Fill, PlaceBuy, PlaceSell, AddCover, TakeCover}
use Rattle.ledger.specs.declared.cells.Cell.{Cell}
use Rattle.ledger.specs.declared.cells.Quote.{Quote}
use Rattle.ledger.specs.declared.cells.Instruction.{Instruction}
use Rattle.ledger.specs.Actions.{reach, Step, step}
use Rattle.ledger.specs.Checks.{Answer, checked, Checked}
use Rattle.ledger.specs.Cells.{empty, standing, Ranged, Quotes, Moves, Obeyed, after}
use Rattle.ledger.specs.Meanings.{Meaning, Lawful}
use Rattle.ledger.specs.Layers.{asked, Passed}
use Rattle.ledger.proofs.Below.{told, Moved, asked_quotes, asked_ranged, passed_obeyed, passed_taken}
use Rattle.ledger.proofs.Chains.{then_err, checked_ok}
use Rattle.tables.specs.declared.Table.{Table}
use Rattle.tables.specs.Tables.{at, Wrote}
use Rattle.tables.proofs.Bounded.{wrote_up_to, none_beyond, wrote_here, wrote_bounded}
use Rattle.cover.specs.Covering.{CoverIn, Covered, with_cover, cover_cell, cover_quote, cover_sent, cover_answer, cover_after, cover_meaning}

-- an answer that is no refusal, where k is the cover after it
pub record Carried (m : Meaning) (i : Instruction) (k : ℤ) (q : Quote) : Type 0 where
  pub checks : Checked m.taken i
  pub cover : CoverIn k
  pub under : Quote
  pub answers : asked m i.account i.series (cover_sent i.action i) ≡ Ok under
  pub is : q ≡ cover_quote under k

-- where the answer by the rules of the layer, with k as the cover after it, is no refusal
pub answer_ok : (m : Meaning) (i : Instruction) (k : ℤ) (q : Quote) → cover_answer m i k ≡ Ok q → Carried m i k q
answer_ok m i k q p = of (asked m i.account i.series (cover_sent i.action i)) refl
  where
    of : (r : Answer) → asked m i.account i.series (cover_sent i.action i) ≡ r → Carried m i k q
    of (Ok u) e = record {
      checks = checked_ok m.taken i tt (grind (arith, ints));
      cover = (grind (arith, ints), grind (arith, ints));
      under = u;
      answers = e;
      is = grind (arith, ints);
    }
    of (Err f) e = absurd (grind (arith, ints))

-- and so of the cover that the layer has after the instruction
pub cover_ok : (m : Meaning) (t : Table) (i : Instruction) (q : Quote) → (cover_meaning m t).quoted i ≡ Ok q → Carried m i (cover_after t i) q
cover_ok m t i q p = answer_ok m i (cover_after t i) q p

is_below : (z : ℤ) → int_lt z (pos 0) ≡ true → z <ℤ pos 0
is_below z e = grind (arith, ints)

not_below : (z : ℤ) → int_lt z (pos 0) ≡ false → pos 0 ≤ℤ z
not_below z e = grind (arith, ints)

-- a count with cover: from 0 on it stays, below 0 it comes nearer to 0
pub with_cover_is : (k z : ℤ) → ((pos 0 ≤ℤ z) × (with_cover k z ≡ z)) ⊎ ((z <ℤ pos 0) × (with_cover k z ≡ int_min (z +ℤ k) (pos 0)))
unfolding with_cover
with_cover_is k z =
    ⊎_elim
    (λ e. inr (is_below z e, cond-true _ _ _ e))
    (λ e. inl (not_below z e, cond-false _ _ _ e))
    (cases_Bool (int_lt z (pos 0)))

-- so cover brings a count nearer to 0, and never past it
pub with_cover_between : (k z : ℤ) → pos 0 ≤ℤ k → with_cover k z ≡ int_max z (int_min (z +ℤ k) (pos 0))
unfolding with_cover
with_cover_between k z least = grind (arith, ints, clamps)

none : (c : Cell) (k : ℤ) → c ≡ empty → k ≡ pos 0 → cover_cell c k ≡ empty
unfolding with_cover
none c k e f = ap (λ d. cover_cell d k) e ∙ ap (cover_cell empty) f

-- the instructions to one cell, of one amount
module _ (a s : ℕ) (n : ℤ) where
  abbrev instruction : Action → Instruction
  instruction u = record { action = u; account = a; series = s; amount = n }

  -- what the ledger below carries out
  abbrev down : Action → Instruction
  down u = told (instruction u) (cover_sent u (instruction u))

  -- its part of a step
  abbrev step_below : Action → Step
  step_below u = record { held = (step u n).held; buys = (step u n).buys; sells = (step u n).sells; cover = pos 0 }

  -- from the cells f to the cells g below
  beneath : (f g : ℕ → ℕ → Cell) (u : Action) (q : Quote) → Obeyed f g (down u) q → Moved f g a s (step_below u) q
  beneath f g Fill q o = record { here = o.here; elsewhere = o.elsewhere }
  beneath f g u q o = record { here = o.here; elsewhere = o.elsewhere }

-- where k is the cover of the cell before the instruction, and l after it
module _ (m : Meaning) (lawful : Lawful m) (a s : ℕ) (n k : ℤ) (least : pos 0 ≤ℤ k) (q : Quote) where
  abbrev Obeys : Action → Type 0
  Obeys u = Carried m (instruction a s n u) (k +ℤ (step u n).cover) q

  abbrev cell : Cell
  cell = m.cell a s

  below : (u : Action) (o : Obeys u) → let j = down a s n u in Quotes j.action j.amount (m.cell j.account j.series) o.under
  below u o = asked_quotes m lawful (instruction a s n u) (cover_sent u (instruction a s n u)) o.under o.answers

  moves : (u : Action) (o : Obeys u) → (o.under.held ≡ cell.held +ℤ (step u n).held) × Moves u n (cover_cell cell k) (cover_quote o.under (k +ℤ (step u n).cover))
  moves Fill o =
      let b = below Fill o in
      let low = b.moves.low in
      let high = b.moves.high in
      let l = with_cover_between k cell.low least in
      let h = with_cover_between k cell.high least in
      let l' = with_cover_between (k +ℤ pos 0) o.under.low o.cover.0 in
      let h' = with_cover_between (k +ℤ pos 0) o.under.high o.cover.0 in (
        b.held,
        record {
          low = record { least = omega (arith, ints, clamps); most = omega (arith, ints, clamps) };
          high = record { least = omega (arith, ints, clamps); most = omega (arith, ints, clamps) };
        },
      )
  moves PlaceBuy o = ((below PlaceBuy o).held, tt)
  moves PlaceSell o = ((below PlaceSell o).held, tt)
  moves AddCover o = ((below AddCover o).held, tt)
  moves TakeCover o = ((below TakeCover o).held, tt)
  moves u o =
      let b = below u o in
      let moves = b.moves in
      let l = with_cover_between k cell.low least in
      let h = with_cover_between k cell.high least in
      let l' = with_cover_between (k +ℤ pos 0) o.under.low o.cover.0 in
      let h' = with_cover_between (k +ℤ pos 0) o.under.high o.cover.0 in
      (b.held, record { rests = moves.rests; low = omega (arith, ints, clamps); high = omega (arith, ints, clamps) })

cover_ranged : (q : Quote) (k : ℤ) → pos 0 ≤ℤ k → Ranged q → Ranged (cover_quote q k)
cover_ranged q k least r =
    let l = with_cover_between k q.low least in
    let h = with_cover_between k q.high least in
    record {
      ordered = omega (arith, ints, clamps, r.ordered);
      held_in = r.held_in;
      low_in = (omega (arith, ints, clamps, r.low_in), omega (arith, ints, clamps, r.low_in));
      high_in = (omega (arith, ints, clamps, r.high_in), omega (arith, ints, clamps, r.high_in));
    }

pub cover_lawful : (m : Meaning) → Lawful m → (t : Table) → Covered t → Lawful (cover_meaning m t)
cover_lawful m lawful t r = record {
  few = lawful.few;
  ranged = λ a s. cover_ranged (standing (m.cell a s)) _ (r.each a s).0 (lawful.ranged a s);
  beyond = λ a s h. none _ _ (lawful.beyond a s h) (none_beyond r a s h);
  first = λ i f e. then_err (checked m.taken i) _ f e;
  quotes = λ i q e.
      let o = cover_ok m t i q e in
      let u = asked_ranged m lawful i.account i.series (cover_sent i.action i) o.under o.answers in
      let l = moves m lawful i.account i.series i.amount (at t i.account i.series) (r.each i.account i.series).0 q i.action o in
      subst (Quotes i.action i.amount _) (sym o.is) (record { held = l.0; ranged = cover_ranged o.under _ o.cover.0 u; moves = l.1 });
  idle = λ u a s. none _ _ (lawful.idle u.0 a s) (u.1 a s);
}

-- from the ledger below x and the table t to y and t', as an obeyed instruction leaves the layer
pub record Done {X : Type 0} (meaning : X → Meaning) (x y : X) (t t' : Table) (i : Instruction) (q : Quote) : Type 0 where
  pub cover : Covered t'
  pub left : Obeyed (cover_meaning (meaning x) t).cell (cover_meaning (meaning y) t').cell i q
  pub taken : (meaning y).taken ≡ (meaning x).taken
  pub passed : Passed meaning x y (cover_sent i.action i)

module _ {X : Type 0} (meaning : X → Meaning) (x y : X) (lawful : Lawful (meaning x)) (i : Instruction) {t t' : Table} (r : Covered t)
    {q : Quote} (k : Carried (meaning x) i (cover_after t i) q) {d : Option Instruction} (sent : d ≡ cover_sent i.action i) (passed : Passed meaning x y d)
    {n : ℤ} (e : n ≡ cover_after t i) (p : Wrote t t' i.account i.series (to_z w64 (of_z w64 n))) where
  account : i.account < 64
  account = omega (arith, k.checks.account, lawful.few)

  wrote : Wrote t t' i.account i.series (cover_after t i)
  wrote = wrote_up_to reach n _ (omega (arith, ints)) k.cover e p

  here : at t' i.account i.series ≡ cover_after t i
  here = wrote_here r wrote account k.checks.series

  went : Passed meaning x y (cover_sent i.action i)
  went = subst (Passed meaning x y) sent passed

  under : Moved (meaning x).cell (meaning y).cell i.account i.series (step_below i.account i.series i.amount i.action) k.under
  under = beneath i.account i.series i.amount _ _ i.action k.under (passed_obeyed meaning x y i (cover_sent i.action i) k.under k.answers went)

  pub done : Done meaning x y t t' i q
  done = record {
    cover = wrote_bounded r wrote account k.checks.series k.cover;
    left = record {
      here = rw (under.here, here) (ap (after ((cover_meaning (meaning x) t).cell i.account i.series) i) (sym k.is));
      elsewhere = λ a s ne. rw (under.elsewhere a s ne, wrote.elsewhere a s ne) refl;
    };
    taken = passed_taken meaning x y _ went;
    passed = went;
  }
