use Rattle.std.proofs.Common.{ℕ, ◌<◌, ◌≢◌, ◌++◌, vec_items, length, refl, ap, get_or-set_same, get_or-set_other, below_more, arith, rules}
use Rattle.std.specs.Vec.{with_items}
use Rattle.std.proofs.lemmas.List.{places}
use Rattle.ledger.proofs.Counts.{not_zero}
use Rattle.ledger.specs.declared.books.Holding.{Holding}
use Rattle.entries.specs.Records.{nth}
use Rattle.entries.specs.Holds.{held_none}
use Rattle.entries.proofs.book.EntryBook.new.Goals as goal

pub loop-e-preserved : goal.loop-e-preserved
loop-e-preserved c =
    let i = c.loop-e.e-index in
    let done = c.loop-e.invariant.0 in
    let left = c.loop-e.invariant.1 in (
      below_more _ i
          (λ j l. let ne : j ≢ i = omega arith in rw get_or-set_other (done j l))
          (let lt : i < length c.loop-e.e-items = omega arith in rw (get_or-set_same, left i (omega arith)) refl),
      λ j l. let ne : j ≢ i = omega arith in rw get_or-set_other (left j (omega arith)),
    )

pub invariant_of-result : goal.invariant_of-result
invariant_of-result c =
    let zero = λ (j : ℕ) (l : j < c.loop-e.e-index). ap (λ (y : Holding). y.held) (c.loop-e.invariant.0 j l) in
    record {
      ordered = record {
        fits = omega arith;
        rises = λ j k l m. absurd (omega arith);
        known = λ k l. absurd (omega arith);
        free = λ k g l. search (rules, places, zero);
      };
    }

pub returns : goal.returns
returns c =
    let done = c.loop-e.invariant.0 in
    let zero = λ (j : ℕ) (l : j < c.loop-e.e-index). ap (λ (y : Holding). y.held) (done j l) in
    let xs = vec_items (with_items c.args.memory (c.loop-e.e-items ++ c.split_at_mut-cells.result.1.now)) in
    record {
      long = search (rules, places);
      capacity = search (rules, places);
      free = λ k l. search (rules, places, done);
      past = λ k l. search (rules, places);
      none = λ a s. held_none xs _ a s (λ k l h. not_zero (nth xs k).held h.held (search (rules, places, zero)));
    }
