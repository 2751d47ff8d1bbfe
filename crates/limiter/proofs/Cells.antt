-- What an instruction does to the ranges and counts of cells. Assumes nothing.
use Rattle.std.proofs.Common.{◌≡◌, ℕ, true, cond, ◌&&◌, eqb, ℤ, pos, ◌+ℤ◌, ◌≤ℤ◌, Some, None, Ok, sym, ap, subst, arith}
use lib.Signed.{≤ℤ_refl}
use Rattle.std.proofs.lemmas.Int.{ints}
use Rattle.std.proofs.lemmas.Bool.{and_parts, eqb-true, cond_both}
use Rattle.std.proofs.lemmas.Bool.Decides.{nat_tests}
use Rattle.ledger.specs.declared.actions.Action.{Action}
use Rattle.ledger.specs.declared.actions.Action.TheVariants.{Fill, PlaceBuy, PlaceSell, CancelBuy, CancelSell, ExecuteBuy, ExecuteSell, AddCover, TakeCover}
use Rattle.ledger.specs.declared.cells.Cell.{Cell}
use Rattle.ledger.specs.declared.cells.Instruction.{Instruction}
use Rattle.ledger.specs.declared.cells.Quote.{Quote}
use Rattle.ledger.specs.Actions.{step, proper}
use Rattle.ledger.specs.Cells.{empty, Ranged, Quotes, Obeyed}
use Rattle.ledger.specs.Meanings.{Meaning, Lawful}
use Rattle.limiter.specs.Changes.{change, at_cell}
use Rattle.limiter.specs.Positions.{quotes}
use Rattle.limiter.specs.Promise.{releases}

module _ (v : Meaning) (i : Instruction) (q : Quote) where
  -- the instruction's own cell
  own_cell : (a s : ℕ) → at_cell (change i q) a s ≡ true → (a ≡ i.account) × (s ≡ i.series)
  own_cell a s e = let b = and_parts _ _ e in (eqb-true _ _ b.0, eqb-true _ _ b.1)

  -- every cell is in its range after an instruction too
  pub after_ranged : Lawful v → v.quoted i ≡ Ok q → (a s : ℕ) → Ranged (quotes v (Some (change i q)) a s)
  after_ranged lawful e a s = cond_both (at_cell (change i q) a s) _ _ Ranged (λ _. (lawful.quotes i q e).ranged) (λ _. lawful.ranged a s)

  -- the ranges after a released amount are no wider
  pub narrower : (v.cell i.account i.series).low ≤ℤ q.low → q.high ≤ℤ (v.cell i.account i.series).high → (a s : ℕ) → ((v.cell a s).low ≤ℤ (quotes v (Some (change i q)) a s).low) × ((quotes v (Some (change i q)) a s).high ≤ℤ (v.cell a s).high)
  narrower l h a s =
      cond_both (at_cell (change i q) a s) _ _ (λ (z : Quote). ((v.cell a s).low ≤ℤ z.low) × (z.high ≤ℤ (v.cell a s).high))
      (λ t. let o = own_cell a s t in let e : v.cell a s ≡ v.cell i.account i.series = λ j. v.cell (o.0 j) (o.1 j) in subst (λ (c : Cell). (c.low ≤ℤ q.low) × (q.high ≤ℤ c.high)) (sym e) (l, h)) (λ _. (≤ℤ_refl _, ≤ℤ_refl _))

  -- another account's are as they were
  pub elsewhere : (a s : ℕ) → (a ≡ i.account → ⊥) → quotes v (Some (change i q)) a s ≡ quotes v None a s
  elsewhere a s ne = grind (arith, nat_tests)

  module _ (w : Meaning) (o : Obeyed v.cell w.cell i q) where
    -- the quotes of the ledger that an instruction leaves, and the count
    pub left_quotes : (a s : ℕ) → quotes w None a s ≡ quotes v (Some (change i q)) a s
    left_quotes a s = grind (arith, nat_tests, o.here, o.elsewhere a s)

    pub left_held : q.held ≡ ((v.cell i.account i.series).held +ℤ (step i.action i.amount).held) → (a s : ℕ)
        → (w.cell a s).held ≡ ((v.cell a s).held +ℤ cond (eqb a i.account && eqb s i.series) (step i.action i.amount).held (pos 0))
    left_held h a s = grind (arith, ints, nat_tests, o.here, o.elsewhere a s)

-- what a cancel or an execution leaves: a range no wider, in a cell where something rests
pub record Released (c : Cell) (q : Quote) : Type 0 where
  pub low : c.low ≤ℤ q.low
  pub high : q.high ≤ℤ c.high
  pub rests : c ≡ empty → ⊥

pub released : (w : Action) (n : ℤ) (c : Cell) (q : Quote) → releases w ≡ true → proper w n ≡ true → Quotes w n c q → Released c q
released Fill n c q e p l = cc
released PlaceBuy n c q e p l = cc
released PlaceSell n c q e p l = cc
released CancelBuy n c q e p l = record { low = l.moves.low; high = l.moves.high; rests = λ d. let z = ap (λ (y : Cell). y.buys) d in grind (arith, ints) }
released CancelSell n c q e p l = record { low = l.moves.low; high = l.moves.high; rests = λ d. let z = ap (λ (y : Cell). y.sells) d in grind (arith, ints) }
released ExecuteBuy n c q e p l = record { low = l.moves.low; high = l.moves.high; rests = λ d. let z = ap (λ (y : Cell). y.buys) d in grind (arith, ints) }
released ExecuteSell n c q e p l = record { low = l.moves.low; high = l.moves.high; rests = λ d. let z = ap (λ (y : Cell). y.sells) d in grind (arith, ints) }
released AddCover n c q e p l = cc
released TakeCover n c q e p l = cc
