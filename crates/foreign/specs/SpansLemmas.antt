-- The laws of the layer, from those of the ledger below. Assumes nothing.
use Rattle.std.specs.Prelude.{◌≡◌, ℤ, Ok, Err, refl}
use Rattle.std.proofs.Common.{sym, ap, subst, arith}
use Rattle.std.proofs.lemmas.Int.{ints, clamps}
use Rattle.ledger.specs.declared.actions.Action.{Action}
use Rattle.ledger.specs.declared.actions.Action.TheVariants.{Fill, PlaceBuy, PlaceSell, AddCover, TakeCover}
use Rattle.ledger.specs.declared.cells.Cell.{Cell}
use Rattle.ledger.specs.declared.cells.Quote.{Quote}
use Rattle.ledger.specs.declared.cells.Instruction.{Instruction}
use Rattle.ledger.specs.Checks.{Answer, checked}
use Rattle.ledger.specs.Cells.{Ranged, Moves, Quotes}
use Rattle.ledger.specs.Meanings.{Meaning, Lawful}
use Rattle.ledger.proofs.Chains.{then_err}
use Rattle.foreign.specs.Spans.{spanned, span_cell, span_meaning}

ranged : (q : Quote) → Ranged q → Ranged (spanned q)
ranged q r = record {
  ordered = omega (arith, ints, clamps, r.ordered);
  held_in = r.held_in;
  low_in = (omega (arith, ints, clamps, r.low_in), omega (arith, ints, clamps, r.low_in));
  high_in = (omega (arith, ints, clamps, r.high_in), omega (arith, ints, clamps, r.high_in));
}

moves : (a : Action) (n : ℤ) (c : Cell) (q : Quote) → Moves a n c q → Moves a n (span_cell c) (spanned q)
moves Fill n c q m =
    let low = m.low in
    let high = m.high in
    record {
      low = record { least = omega (arith, ints, clamps); most = omega (arith, ints, clamps) };
      high = record { least = omega (arith, ints, clamps); most = omega (arith, ints, clamps) };
    }
moves PlaceBuy n c q m = tt
moves PlaceSell n c q m = tt
moves AddCover n c q m = tt
moves TakeCover n c q m = tt
moves a n c q m = record { rests = m.rests; low = omega (arith, ints, clamps, m.low); high = omega (arith, ints, clamps, m.high) }

-- an obeyed quote is the one below, widened
pub record Spans (m : Meaning) (i : Instruction) (q : Quote) : Type 0 where
  pub under : Quote
  pub answers : m.quoted i ≡ Ok under
  pub is : q ≡ spanned under

pub span_ok : (m : Meaning) (i : Instruction) (q : Quote) → (span_meaning m).quoted i ≡ Ok q → Spans m i q
span_ok m i q p = of (m.quoted i) refl
  where
    of : (r : Answer) → m.quoted i ≡ r → Spans m i q
    of (Ok u) e = record { under = u; answers = e; is = grind arith }
    of (Err f) e = absurd (grind arith)

pub span_lawful : (m : Meaning) → Lawful m → Lawful (span_meaning m)
span_lawful m l = record {
  few = l.few;
  ranged = λ a s. ranged _ (l.ranged a s);
  beyond = λ a s h. ap span_cell (l.beyond a s h);
  first = λ i f e. then_err (checked m.taken i) _ f e;
  quotes = λ i q e.
      let k = span_ok m i q e in
      let below = l.quotes i k.under k.answers in
      subst (Quotes i.action i.amount _) (sym k.is) (record { held = below.held; ranged = ranged _ below.ranged; moves = moves i.action i.amount _ k.under below.moves });
  idle = λ u a s. ap span_cell (l.idle u a s);
}
