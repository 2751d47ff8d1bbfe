-- The laws of every book, from its counts. Assumes nothing.
use Rattle.std.proofs.Common.{◌≡◌, ℕ, ◌≤◌, true, not, ◌⊎◌, ℤ, pos, ◌+ℤ◌, Ok, sym, refl, ap, ◌∙◌, subst, arith}
use Rattle.std.proofs.lemmas.Bool.{false≢true, cond-true}
use Rattle.std.proofs.lemmas.Int.{ints, clamps}
use Rattle.ledger.specs.declared.actions.Action.{Action}
use Rattle.ledger.specs.declared.actions.Action.TheVariants.{Fill, PlaceBuy, PlaceSell, CancelBuy, CancelSell, ExecuteBuy, ExecuteSell, AddCover, TakeCover}
use Rattle.ledger.specs.declared.faults.Reason.TheVariants.{NoTaker, Reach, Full}
use Rattle.ledger.specs.declared.cells.Cell.{Cell}
use Rattle.ledger.specs.declared.cells.Quote.{Quote}
use Rattle.ledger.specs.declared.cells.Instruction.{Instruction}
use Rattle.ledger.specs.Actions.{is_fill, within, Within, step}
use Rattle.ledger.specs.Checks.{Answer, checked, Checked, unless, ◌then◌}
use Rattle.ledger.specs.Cells.{Ranged, Quotes, after}
use Rattle.ledger.specs.Meanings.{Lawful}
use Rattle.ledger.specs.Books.{book_cell, flat, is_full, book_answer, book_meaning, held_cells, BookLaws}
use Rattle.ledger.proofs.Chains.{unless_ok, then_ok, then_err, within_in, checked_ok}

-- an obeyed fill
pub record Filled (taken capacity : ℕ) (held : ℕ → ℕ → ℤ) (i : Instruction) (q : Quote) : Type 0 where
  pub checks : Checked taken i
  pub fill : i.action ≡ Fill
  pub reach : Within (held i.account i.series +ℤ i.amount)
  pub room : not (is_full capacity held i) ≡ true
  pub is : q ≡ flat (held i.account i.series +ℤ i.amount)

is_fill-true : (a : Action) → is_fill a ≡ true → a ≡ Fill
is_fill-true Fill e = refl
is_fill-true PlaceBuy e = absurd (false≢true e)
is_fill-true PlaceSell e = absurd (false≢true e)
is_fill-true CancelBuy e = absurd (false≢true e)
is_fill-true CancelSell e = absurd (false≢true e)
is_fill-true ExecuteBuy e = absurd (false≢true e)
is_fill-true ExecuteSell e = absurd (false≢true e)
is_fill-true AddCover e = absurd (false≢true e)
is_fill-true TakeCover e = absurd (false≢true e)

module _ (taken capacity : ℕ) (held : ℕ → ℕ → ℤ) where
  pub book_ok : (i : Instruction) (q : Quote) → book_answer taken capacity held i ≡ Ok q → Filled taken capacity held i q
  book_ok i q p =
      let sum = held i.account i.series +ℤ i.amount in
      let last : Answer = unless (not (is_full capacity held i)) Full (Ok (flat sum)) in
      let a = then_ok (checked taken i) (λ _. unless (is_fill i.action) NoTaker (unless (within sum) Reach last)) q p in
      let b = unless_ok (is_fill i.action) NoTaker (unless (within sum) Reach last) q a.2 in
      let d = unless_ok (within sum) Reach last q b.1 in
      let f = unless_ok (not (is_full capacity held i)) Full (Ok (flat sum)) q d.1 in
      let e = f.1 in
      record { checks = checked_ok taken i a.0 a.1; fill = is_fill-true _ b.0; reach = within_in _ d.0; room = f.0; is = cc }

  -- a fill that passes every check is obeyed
  pub book_yes : (i : Instruction) (u : Unit {0}) → checked taken i ≡ Ok u → is_fill i.action ≡ true → within (held i.account i.series +ℤ i.amount) ≡ true
      → not (is_full capacity held i) ≡ true → book_answer taken capacity held i ≡ Ok (flat (held i.account i.series +ℤ i.amount))
  book_yes i u a b d f =
      let sum = held i.account i.series +ℤ i.amount in
      let next : Unit {0} → Answer = λ _. unless (is_fill i.action) NoTaker (unless (within sum) Reach (unless (not (is_full capacity held i)) Full (Ok (flat sum)))) in
      ap (λ m. m then next) a ∙ cond-true _ _ _ b ∙ cond-true _ _ _ d ∙ cond-true _ _ _ f

  flat_ranged : (h : ℤ) → Within h → Ranged (flat h)
  flat_ranged h w = record { ordered = omega (arith, ints); held_in = w; low_in = w; high_in = w }

  fill_quotes : (h n : ℤ) → Within (h +ℤ n) → Quotes Fill n (book_cell h) (flat (h +ℤ n))
  fill_quotes h n w = record {
    held = refl;
    ranged = flat_ranged (h +ℤ n) w;
    moves = record {
      low = record { least = omega (arith, ints, clamps); most = omega (arith, ints, clamps) };
      high = record { least = omega (arith, ints, clamps); most = omega (arith, ints, clamps) };
    };
  }

  -- counts in reach, and none above account or series 63
  pub book_lawful : taken ≤ 64 → ((a s : ℕ) → Within (held a s)) → ((a s : ℕ) → (64 ≤ a) ⊎ (64 ≤ s) → held a s ≡ pos 0) → Lawful (book_meaning taken capacity held)
  book_lawful few near beyond = record {
    few = few;
    ranged = λ a s. flat_ranged (held a s) (near a s);
    beyond = λ a s h. ap book_cell (beyond a s h);
    first = λ i f e. then_err (checked taken i) _ f e;
    quotes = λ i q e.
        let k = book_ok i q e in
        let cell = book_cell (held i.account i.series) in
        let quoted = subst (Quotes Fill i.amount cell) (sym k.is) (fill_quotes _ i.amount k.reach) in
        subst (λ a. Quotes a i.amount cell q) (sym k.fill) quoted;
    idle = λ u a s. ap book_cell (u a s);
  }

  pub book_laws : ((a s : ℕ) → taken ≤ a → held a s ≡ pos 0) → held_cells held ≤ capacity → BookLaws (book_meaning taken capacity held) capacity
  book_laws untaken room = record {
    plain = λ a s. refl;
    untaken = λ a s h. ap book_cell (untaken a s h);
    quotes = λ i. refl;
    unused = λ u. u;
    room = room;
  }

quote_cell : Action → ℤ → Quote → Cell
quote_cell a n q = record { held = q.held; low = q.low; high = q.high; buys = pos 0 +ℤ (step a n).buys; sells = pos 0 +ℤ (step a n).sells; cover = pos 0 +ℤ (step a n).cover }

-- the cell that it leaves
pub filled_after : (taken capacity : ℕ) (held : ℕ → ℕ → ℤ) (i : Instruction) (q : Quote) → Filled taken capacity held i q → book_cell q.held ≡ after (book_cell (held i.account i.series)) i q
unfolding quote_cell
filled_after taken capacity held i q f =
    ap (λ (r : Quote). book_cell r.held) f.is ∙ sym (ap (quote_cell Fill i.amount) f.is) ∙ ap (λ a. quote_cell a i.amount q) (sym f.fill)
