-- The laws of the order layer, from those of the ledger below. Assumes nothing.
use Rattle.std.specs.Prelude.{◌≡◌, ◌≢◌, ◌<◌, true, ◌&&◌, ℤ, pos, ◌+ℤ◌, ◌-ℤ◌, ◌≤ℤ◌, Ok, Err, int_le, ℕ, refl}
use Rattle.std.proofs.Common.{Option, sym, ap, subst, ◌∙◌, ⊎_elim, arith, w64, to_z, of_z}
use Rattle.std.proofs.lemmas.Int.{ints, clamps}
use Rattle.ledger.specs.declared.actions.Action.{Action}
use Rattle.ledger.specs.declared.actions.Action.TheVariants.{Fill, PlaceBuy, PlaceSell, CancelBuy, CancelSell, ExecuteBuy, ExecuteSell, AddCover, TakeCover}
use Rattle.ledger.specs.declared.faults.Reason.TheVariants.{Rest}
use Rattle.ledger.specs.declared.cells.Cell.{Cell}
use Rattle.ledger.specs.declared.cells.Quote.{Quote}
use Rattle.ledger.specs.declared.cells.Instruction.{Instruction}
use Rattle.ledger.specs.Actions.{reach, Within, Step, step}
use Rattle.ledger.specs.Checks.{Answer, checked, Checked, unless, ◌then◌}
use Rattle.ledger.specs.Cells.{empty, standing, Ranged, Quotes, Moves, Obeyed, after}
use Rattle.ledger.specs.Meanings.{Meaning, Lawful}
use Rattle.ledger.specs.Layers.{asked, Passed}
use Rattle.ledger.proofs.Below.{told, moved, Moved, asked_quotes, asked_ranged, passed_obeyed, passed_taken}
use Rattle.ledger.proofs.Chains.{unless_ok, then_ok, then_err, checked_ok}
use Rattle.tables.specs.declared.Table.{Table}
use Rattle.tables.specs.Tables.{at, Wrote}
use Rattle.tables.proofs.Writes.{same_cell}
use Rattle.tables.proofs.Bounded.{wrote_up_to, none_beyond, wrote_here, wrote_bounded}
use Rattle.orders.specs.Resting.{most_rest, RestIn, Resting, Near, order_cell, Plain, order_sent, enough, widened, in_reach, order_answer, buys_after, sells_after, order_meaning}

-- an answer that is no refusal, where b and s rest after it
pub record Carried (m : Meaning) (i : Instruction) (b s : ℤ) (q : Quote) : Type 0 where
  pub checks : Checked m.taken i
  pub buys : pos 0 ≤ℤ b
  pub sells : pos 0 ≤ℤ s
  pub under : Quote
  pub answers : asked m i.account i.series (order_sent i.action i) ≡ Ok under
  pub low_in : Within (under.low -ℤ s)
  pub high_in : Within (under.high +ℤ b)
  pub is : q ≡ widened under b s

reached : (u q : Quote) → in_reach u ≡ Ok q → q ≡ u
reached u q p = grind (arith, ints)

pub order_ok : (m : Meaning) (i : Instruction) (b s : ℤ) (q : Quote) → order_answer m i b s ≡ Ok q → Carried m i b s q
order_ok m i b s q p =
    let ask = asked m i.account i.series (order_sent i.action i) in
    let first = then_ok (checked m.taken i) (λ _. unless (enough b s) Rest (ask then (λ u. in_reach (widened u b s)))) q p in
    of (checked_ok m.taken i first.0 first.1) ask refl first.2
  where
    of : Checked m.taken i → (r : Answer) → asked m i.account i.series (order_sent i.action i) ≡ r → unless (enough b s) Rest (r then (λ u. in_reach (widened u b s))) ≡ Ok q → Carried m i b s q
    of c (Ok u) e p = record {
      checks = c;
      buys = grind (arith, ints);
      sells = grind (arith, ints);
      under = u;
      answers = e;
      low_in = (grind (arith, ints), grind (arith, ints));
      high_in = (grind (arith, ints), grind (arith, ints));
      is = reached (widened u b s) q (unless_ok (enough b s) Rest (in_reach (widened u b s)) q p).1;
    }
    of c (Err f) e p = absurd (grind (arith, ints))

-- an order's or an execution's amount, as it is checked
from_one : (n : ℤ) → (int_le (pos 1) n && int_le n reach) ≡ true → pos 1 ≤ℤ n
from_one n p = grind (arith, ints)

-- the instructions to one cell, of one amount
module _ (a r : ℕ) (n : ℤ) where
  abbrev instruction : Action → Instruction
  instruction u = record { action = u; account = a; series = r; amount = n }

  -- what the ledger below carries out
  abbrev down : Action → Instruction
  down u = told (instruction u) (order_sent u (instruction u))

  -- its part of a step
  abbrev step_below : Action → Step
  step_below u = record { held = (step u n).held; buys = pos 0; sells = pos 0; cover = (step u n).cover }

  -- from the cells f to the cells g below
  beneath : (f g : ℕ → ℕ → Cell) (u : Action) (q : Quote) → Obeyed f g (down u) q → Moved f g a r (step_below u) q
  beneath f g Fill q o = record { here = o.here; elsewhere = o.elsewhere }
  beneath f g u q o = record { here = o.here; elsewhere = o.elsewhere }

-- where b and s rest in the cell before the instruction
module _ (m : Meaning) (lawful : Lawful m) (a r : ℕ) (n b s : ℤ) (q : Quote) where
  abbrev Obeys : Action → Type 0
  Obeys u = Carried m (instruction a r n u) (b +ℤ (step u n).buys) (s +ℤ (step u n).sells) q

  abbrev cell : Cell
  cell = order_cell (m.cell a r) b s

  below : (u : Action) (k : Obeys u) → let j = down a r n u in Quotes j.action j.amount (m.cell j.account j.series) k.under
  below u k = asked_quotes m lawful (instruction a r n u) (order_sent u (instruction a r n u)) k.under k.answers

  moves : (u : Action) (k : Obeys u) → (k.under.held ≡ cell.held +ℤ (step u n).held) × Moves u n cell (widened k.under (b +ℤ (step u n).buys) (s +ℤ (step u n).sells))
  moves Fill k =
      let l = below Fill k in
      let low = l.moves.low in
      let high = l.moves.high in (
        l.held,
        record {
          low = record { least = omega (arith, ints, clamps); most = omega (arith, ints, clamps) };
          high = record { least = omega (arith, ints, clamps); most = omega (arith, ints, clamps) };
        },
      )
  moves PlaceBuy k = ((below PlaceBuy k).held, tt)
  moves PlaceSell k = ((below PlaceSell k).held, tt)
  moves AddCover k = ((below AddCover k).held, tt)
  moves TakeCover k = ((below TakeCover k).held, tt)
  moves u k =
      let l = below u k in
      let low = l.moves.low in
      let high = l.moves.high in
      let amount = from_one n k.checks.amount in
      (l.held, record { rests = omega (arith, ints); low = omega (arith, ints, clamps); high = omega (arith, ints, clamps) })

-- where b and s rest after the instruction
module _ (m : Meaning) (lawful : Lawful m) (i : Instruction) (b s : ℤ) (q : Quote) (k : Carried m i b s q) where
  under_ranged : Ranged k.under
  under_ranged = asked_ranged m lawful i.account i.series (order_sent i.action i) k.under k.answers

  pub rests_in : RestIn b × RestIn s
  rests_in = let u = under_ranged in ((k.buys, omega (arith, ints, u.high_in.0, k.high_in.1)), (k.sells, omega (arith, ints, u.low_in.1, k.low_in.0)))

  widened_ranged : Ranged (widened k.under b s)
  widened_ranged = let u = under_ranged in record { ordered = omega (arith, ints, k.buys, k.sells, u.ordered); held_in = u.held_in; low_in = k.low_in; high_in = k.high_in }

cell_ranged : (c : Cell) (b s : ℤ) → Ranged (standing c) → RestIn b → RestIn s → Ranged (standing (order_cell c b s))
cell_ranged c b s r p k = record {
  ordered = omega (arith, ints, clamps);
  held_in = r.held_in;
  low_in = (omega (arith, ints, clamps), omega (arith, ints, clamps));
  high_in = (omega (arith, ints, clamps), omega (arith, ints, clamps));
}

none : (c : Cell) (b s : ℤ) → c ≡ empty → b ≡ pos 0 → s ≡ pos 0 → order_cell c b s ≡ empty
none c b s e f g = ap (λ d. order_cell d b s) e ∙ ap (λ z. order_cell empty z s) f ∙ ap (order_cell empty (pos 0)) g

pub order_lawful : (m : Meaning) → Lawful m → (b s : Table) → Resting b → Resting s → Lawful (order_meaning m b s)
order_lawful m lawful b s p r = record {
  few = lawful.few;
  ranged = λ a t. cell_ranged (m.cell a t) _ _ (lawful.ranged a t) (p.each a t) (r.each a t);
  beyond = λ a t h. none _ _ _ (lawful.beyond a t h) (none_beyond p a t h) (none_beyond r a t h);
  first = λ i f e. then_err (checked m.taken i) _ f e;
  quotes = λ i q e.
      let k = order_ok m i (buys_after b i) (sells_after s i) q e in
      let l = moves m lawful i.account i.series i.amount (at b i.account i.series) (at s i.account i.series) q i.action k in
      subst (Quotes i.action i.amount _) (sym k.is) (record { held = l.0; ranged = widened_ranged m lawful i _ _ q k; moves = l.1 });
  idle = λ u a t. none _ _ _ (lawful.idle u.0 a t) (u.1 a t) (u.2 a t);
}

-- what holds of one cell and of every other holds everywhere
everywhere : (P : ℕ → ℕ → Type 0) (a r : ℕ) → P a r → ((c t : ℕ) → (c ≡ a → t ≢ r) → P c t) → (c t : ℕ) → P c t
everywhere P a r here elsewhere c t =
    ⊎_elim (λ e. rw (e.0, e.1) here) (elsewhere c t) (same_cell a r c t)

-- the plain formulas at one cell
abbrev PlainCell : Cell → ℤ → ℤ → Type 0
PlainCell c b s = ((order_cell c b s).low ≡ c.low -ℤ s) × ((order_cell c b s).high ≡ c.high +ℤ b)

within_plain : (c : Cell) (b s : ℤ) → Within (c.low -ℤ s) → Within (c.high +ℤ b) → PlainCell c b s
within_plain c b s l h = (omega (arith, ints, clamps), omega (arith, ints, clamps))

plain_cell : (c : Cell) (b s : ℤ) → PlainCell c b s → order_cell c b s ≡ record { held = c.held; low = c.low -ℤ s; high = c.high +ℤ b; buys = b; sells = s; cover = c.cover }
plain_cell c b s p = cc

-- from the ledger below x and the tables b and s to y, b' and s', as an obeyed instruction leaves the layer
pub record Done {X : Type 0} (meaning : X → Meaning) (x y : X) (b s b' s' : Table) (i : Instruction) (q : Quote) : Type 0 where
  pub buys : Resting b'
  pub sells : Resting s'
  pub left : Obeyed (order_meaning (meaning x) b s).cell (order_meaning (meaning y) b' s').cell i q
  pub taken : (meaning y).taken ≡ (meaning x).taken
  pub plain : Plain (meaning x) (order_meaning (meaning x) b s) → Plain (meaning y) (order_meaning (meaning y) b' s')
  pub passed : Passed meaning x y (order_sent i.action i)

module _ {X : Type 0} (meaning : X → Meaning) (x y : X) (lawful : Lawful (meaning x)) (i : Instruction) {b s b' s' : Table} (rb : Resting b) (rs : Resting s)
    {q : Quote} (k : Carried (meaning x) i (buys_after b i) (sells_after s i) q) {d : Option Instruction} (sent : d ≡ order_sent i.action i) (passed : Passed meaning x y d)
    {nb ns : ℤ} (eb : nb ≡ buys_after b i) (es : ns ≡ sells_after s i)
    (pb : Wrote b b' i.account i.series (to_z w64 (of_z w64 nb))) (ps : Wrote s s' i.account i.series (to_z w64 (of_z w64 ns))) where
  account : i.account < 64
  account = omega (arith, k.checks.account, lawful.few)

  rests : RestIn (buys_after b i) × RestIn (sells_after s i)
  rests = rests_in (meaning x) lawful i _ _ q k

  wb : Wrote b b' i.account i.series (buys_after b i)
  wb = wrote_up_to most_rest nb _ (omega (arith, ints)) rests.0 eb pb

  ws : Wrote s s' i.account i.series (sells_after s i)
  ws = wrote_up_to most_rest ns _ (omega (arith, ints)) rests.1 es ps

  buys_here : at b' i.account i.series ≡ buys_after b i
  buys_here = wrote_here rb wb account k.checks.series

  sells_here : at s' i.account i.series ≡ sells_after s i
  sells_here = wrote_here rs ws account k.checks.series

  went : Passed meaning x y (order_sent i.action i)
  went = subst (Passed meaning x y) sent passed

  under : Moved (meaning x).cell (meaning y).cell i.account i.series (step_below i.account i.series i.amount i.action) k.under
  under = beneath i.account i.series i.amount _ _ i.action k.under (passed_obeyed meaning x y i (order_sent i.action i) k.under k.answers went)

  abbrev now : Cell
  now = (meaning y).cell i.account i.series

  plain_here : PlainCell now (at b' i.account i.series) (at s' i.account i.series)
  plain_here = rw (under.here, buys_here, sells_here) (within_plain (moved ((meaning x).cell i.account i.series) (step_below i.account i.series i.amount i.action) k.under) _ _ k.low_in k.high_in)

  plain : Plain (meaning x) (order_meaning (meaning x) b s) → (c t : ℕ) → PlainCell ((meaning y).cell c t) (at b' c t) (at s' c t)
  plain p =
      everywhere (λ c t. PlainCell ((meaning y).cell c t) (at b' c t) (at s' c t)) i.account i.series plain_here
      (λ c t ne. rw (under.elsewhere c t ne, wb.elsewhere c t ne, ws.elsewhere c t ne) (p.low c t, p.high c t))

  pub done : Done meaning x y b s b' s' i q
  done = record {
    buys = wrote_bounded rb wb account k.checks.series rests.0;
    sells = wrote_bounded rs ws account k.checks.series rests.1;
    left = record {
      here = plain_cell now (at b' i.account i.series) (at s' i.account i.series) plain_here ∙ rw (under.here, buys_here, sells_here) (ap (after ((order_meaning (meaning x) b s).cell i.account i.series) i) (sym k.is));
      elsewhere = λ c t ne. rw (under.elsewhere c t ne, wb.elsewhere c t ne, ws.elsewhere c t ne) refl;
    };
    taken = passed_taken meaning x y _ went;
    plain = λ p. record { low = λ c t. (plain p c t).0; high = λ c t. (plain p c t).1 };
    passed = went;
  }

-- an action moves what rests by no more than its amount
step_in : (u : Action) (n : ℤ) → Within n → Within (step u n).buys × Within (step u n).sells
step_in Fill n w = ((omega (arith, ints), omega (arith, ints)), (omega (arith, ints), omega (arith, ints)))
step_in PlaceBuy n w = (w, (omega (arith, ints), omega (arith, ints)))
step_in PlaceSell n w = ((omega (arith, ints), omega (arith, ints)), w)
step_in CancelBuy n w = ((omega (arith, ints), omega (arith, ints)), (omega (arith, ints), omega (arith, ints)))
step_in CancelSell n w = ((omega (arith, ints), omega (arith, ints)), (omega (arith, ints), omega (arith, ints)))
step_in ExecuteBuy n w = ((omega (arith, ints), omega (arith, ints)), (omega (arith, ints), omega (arith, ints)))
step_in ExecuteSell n w = ((omega (arith, ints), omega (arith, ints)), (omega (arith, ints), omega (arith, ints)))
step_in AddCover n w = ((omega (arith, ints), omega (arith, ints)), (omega (arith, ints), omega (arith, ints)))
step_in TakeCover n w = ((omega (arith, ints), omega (arith, ints)), (omega (arith, ints), omega (arith, ints)))

-- what rests stays near to 0
pub near_after : (u : Action) (n b s : ℤ) → Within n → RestIn b → RestIn s → Near (b +ℤ (step u n).buys) × Near (s +ℤ (step u n).sells)
near_after u n b s w p r =
    let k = step_in u n w in
    ((omega (arith, ints), omega (arith, ints)), (omega (arith, ints), omega (arith, ints)))
