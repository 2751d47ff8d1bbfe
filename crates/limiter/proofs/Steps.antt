-- What the code found, put together to what is defined. Assumes nothing.
use Rattle.std.proofs.Common.{◌≡◌, ◌<◌, ◌≢◌, true, Some, None, Ok, Err, sym, refl, ap, ◌∙◌, subst, arith}
use lib.Signed.{le_z}
use Rattle.std.proofs.lemmas.Bool.Decides.{nat_tests}
use Rattle.ledger.specs.declared.cells.Instruction.{Instruction}
use Rattle.ledger.specs.declared.cells.Quote.{Quote}
use Rattle.ledger.specs.declared.faults.Fault.{Fault}
use Rattle.ledger.specs.declared.faults.Reason.TheVariants as reason
use Rattle.ledger.specs.Faults.{found}
use Rattle.ledger.specs.Layers.{raised}
use Rattle.ledger.specs.Meanings.{Meaning}
use Rattle.ledger.proofs.Below.{raised_ok}
use Rattle.expiry.specs.declared.side.Side.{Side}
use Rattle.expiry.specs.declared.side.Side.TheVariants.{Long, Short}
use Rattle.expiry.specs.declared.side.BySide.{BySide}
use Rattle.expiry.specs.declared.quantity.Quantity.{Quantity}
use Rattle.expiry.specs.Near.{Near}
use Rattle.expiry.specs.Sides.{side_number, side_at, on_side}
use Rattle.parties.specs.declared.path.Path.{Path}
use Rattle.parties.specs.declared.level.Level.{Level}
use Rattle.parties.specs.Levels.{level_number, level_at}
use Rattle.parties.specs.Directories.{path_of}
use Rattle.parties.specs.Tables.{limiting}
use Rattle.calls.specs.declared.NewLimit.{NewLimit}
use Rattle.calls.specs.declared.PartyNumber.{PartyNumber}
use Rattle.calls.specs.declared.Call.{Call}
use Rattle.calls.specs.declared.Call.TheVariants as call
use Rattle.calls.specs.declared.Reply.TheVariants as reply
use Rattle.limiter.specs.Changes.{Change, change}
use Rattle.limiter.specs.States.{State}
use Rattle.limiter.specs.Positions.{positions, quantity_of, Told}
use Rattle.limiter.specs.Verdicts.{Verdict, require, ◌before◌, found_at, known_side, path_verdict, quote_verdict, own_verdict, instruct_verdict, quantities_verdict, limit_verdict}
use Rattle.limiter.specs.Steps.{Answer, Follows}
use Rattle.parties.specs.declared.Limits.{Limits}
use Rattle.parties.specs.Limits.{limits_of, with_limit, settable, Set}
use Rattle.limiter.proofs.Verdicts.{both_pass, require_true}
use Rattle.limiter.proofs.Numbers.{level_known, level_unknown, side_known}

module _ {X : Type 0} (meaning : X → Meaning) (s : State X) where
  -- the checks before the ledger is asked, then its quote, then those along the path
  pub admit_is : (i : Instruction) (q : Quote) (k : Change) (p : Path) (r : Verdict) → own_verdict s i ≡ Ok tt → p ≡ path_of s.entries i.account → raised ((meaning s.ledger).quoted i) ≡ Ok q → k ≡ change i q → r ≡ path_verdict meaning s (Some k) p → r ≡ instruct_verdict meaning s i
  admit_is i q k p r own pe quoted ke e =
      e ∙ (λ j. path_verdict meaning s (Some (ke j)) (pe j)) ∙ sym (ap (quote_verdict meaning s i) (raised_ok _ q quoted))
      ∙ ap (λ (v : Verdict). v before quote_verdict meaning s i ((meaning s.ledger).quoted i)) (sym own)

  -- a declined call
  pub declined : (c : Call) (v : Verdict) (f : Fault) (r : Answer) → v ≡ Err f → r ≡ Err f → Follows meaning s c v r s
  declined c v f r ve re = subst (λ (z : Verdict). Follows meaning s c z r s) (sym ve) (re, refl)

  -- a level that does not exist
  pub no_level : (n : PartyNumber) (f : Fault) → (f ≡ found reason.Unknown) × ((l : Level) → level_number l ≢ n.level) → quantities_verdict n ≡ Err f
  no_level n f h = let none = level_unknown n.level h.1 in grind arith

  pub quantities_are : (n : PartyNumber) (l : Level) (q : BySide Quantity) → level_number l ≡ n.level → n.party < 64 → ((d : Side) → Told (positions meaning s None) l n.party d (on_side q d))
      → Near 20480000000000000 q.long.value × Near 20480000000000000 q.short.value → Follows meaning s (call.Quantities n) (quantities_verdict n) (Ok (reply.Quantities q)) s
  quantities_are n l q le low told near =
      let k = level_known l n.level le in
      let passes : quantities_verdict n ≡ Ok tt = grind (arith, nat_tests) in
      let at : (d : Side) → Told (positions meaning s None) (level_at n.level) n.party d (on_side q d) = λ d. subst (λ (z : Level). Told (positions meaning s None) z n.party d (on_side q d)) k.1 (told d) in
      subst (λ (v : Verdict). Follows meaning s (call.Quantities n) v (Ok (reply.Quantities q)) s) (sym passes) ((q, refl, record { long = at Long; short = at Short; near = near }), refl, refl)

  -- a known party and side, a limit in its range: what is left is the quantity
  pub limit_is : (n : NewLimit) (l : Level) (d : Side) (q : BySide Quantity) → level_number l ≡ n.level → side_number d ≡ n.side → n.party < 64 → limiting n.limit ≡ true
      → ((d : Side) → Told (positions meaning s None) l n.party d (on_side q d)) → limit_verdict meaning s n ≡ require (le_z (on_side q d).value n.limit) (found_at reason.InUse l d)
  limit_is n l d q le de low proper told =
      let k = level_known l n.level le in
      let j = side_known d n.side de in
      let known : known_side n ≡ true = grind (arith, nat_tests) in
      ap (λ b. require b (found reason.Unknown) before (require (limiting n.limit) (found reason.Amount) before require (le_z (quantity_of (positions meaning s None) (level_at n.level) n.party (side_at n.side)) n.limit) (found_at reason.InUse (level_at n.level) (side_at n.side)))) known
      ∙ ap (λ b. require b (found reason.Amount) before require (le_z (quantity_of (positions meaning s None) (level_at n.level) n.party (side_at n.side)) n.limit) (found_at reason.InUse (level_at n.level) (side_at n.side))) proper
      ∙ (λ i. require (le_z (quantity_of (positions meaning s None) (sym k.1 i) n.party (sym j.1 i)) n.limit) (found_at reason.InUse (sym k.1 i) (sym j.1 i)))
      ∙ ap (λ z. require (le_z z n.limit) (found_at reason.InUse l d)) (sym (told d).value)

  -- what a limit that passes its checks is
  pub limit_passed : (n : NewLimit) → limit_verdict meaning s n ≡ Ok tt → (known_side n ≡ true) × (limiting n.limit ≡ true) × (le_z (quantity_of (positions meaning s None) (level_at n.level) n.party (side_at n.side)) n.limit ≡ true)
  limit_passed n e =
      let a = both_pass (require (known_side n) (found reason.Unknown)) _ e in
      let b = both_pass (require (limiting n.limit) (found reason.Amount)) _ a.1 in
      (require_true (known_side n) _ a.0, require_true (limiting n.limit) _ b.0, require_true _ (found_at reason.InUse (level_at n.level) (side_at n.side)) b.1)

  -- it is set
  pub limit_done : (n : NewLimit) (l : Level) (d : Side) (x y : Limits) (r : Verdict) → limit_verdict meaning s n ≡ Ok tt → level_number l ≡ n.level → side_number d ≡ n.side → limits_of x ≡ s.limits → r ≡ settable n.party n.limit → Set x y l n.party d n.limit r
      → Follows meaning s (call.Limit n) (limit_verdict meaning s n) (Ok reply.Done) (record { phase = s.phase; strikes = s.strikes; entries = s.entries; limits = limits_of y; ledger = s.ledger })
  limit_done n l d x y r passed le de xe re set =
      let h = limit_passed n passed in
      let ok : r ≡ Ok tt = grind (arith, nat_tests) in
      let is : limits_of y ≡ with_limit s.limits n.level n.party n.side n.limit
      = subst (λ (z : Verdict). Set x y l n.party d n.limit z) ok set ∙ (λ i. with_limit (xe i) (le i) n.party (de i) n.limit) in
      subst (λ (v : Verdict). Follows meaning s (call.Limit n) v (Ok reply.Done) (record { phase = s.phase; strikes = s.strikes; entries = s.entries; limits = limits_of y; ledger = s.ledger })) (sym passed)
      (refl, (λ i. record { phase = s.phase; strikes = s.strikes; entries = s.entries; limits = is i; ledger = s.ledger }), refl)
