-- What every call keeps, and that each answer is due. Assumes the laws of the ledger.
use Rattle.std.proofs.Common.{◌≡◌, ℕ, ◌*◌, ◌<◌, Bool, true, ◌⊎◌, length, ℤ, pos, ◌+ℤ◌, ◌≤ℤ◌, ◌<ℤ◌, is_some, Some, None, Ok, Err, Decides, Option, Result, sym, refl, ap, ◌∙◌, subst, inl, inr, arith, lt-ltb}
use Rattle.std.proofs.lemmas.Bool.Decides.{eqb_tells, nat_tests}
use Rattle.std.proofs.lemmas.Bool.{eqb-true, and_from}
use Rattle.std.proofs.lemmas.Int.{ints}
use Rattle.ledger.specs.declared.cells.Cell.{Cell}
use Rattle.ledger.specs.declared.cells.Instruction.{Instruction}
use Rattle.ledger.specs.declared.cells.Quote.{Quote}
use Rattle.ledger.specs.declared.faults.Fault.{Fault}
use Rattle.ledger.specs.declared.faults.Reason.TheVariants as reason
use Rattle.ledger.specs.Actions.{proper}
use Rattle.ledger.specs.Cells.{empty, Obeyed}
use Rattle.ledger.specs.Checks.{checked}
use Rattle.ledger.specs.Faults.{found}
use Rattle.ledger.specs.Meanings.{Meaning, Lawful, Instructed, Left}
use Rattle.expiry.specs.declared.side.Side.{Side}
use Rattle.expiry.specs.Sides.{side_at}
use Rattle.parties.specs.declared.level.Level.{Level}
use Rattle.parties.specs.declared.path.Path.{Path}
use Rattle.parties.specs.Levels.{level_at, levels}
use Rattle.parties.specs.Paths.{party_on}
use Rattle.parties.specs.Directories.{path_of, party}
use Rattle.parties.specs.Limits.{Limiting, with_limit}
use Rattle.parties.specs.Tables.{limiting}
use Rattle.calls.specs.declared.NewLimit.{NewLimit}
use Rattle.calls.specs.declared.Call.{Call}
use Rattle.calls.specs.declared.Call.TheVariants as call
use Rattle.calls.specs.declared.Reply.TheVariants as reply
use Rattle.limiter.specs.Changes.{Change, change}
use Rattle.limiter.specs.declared.phase.Phase.{Phase}
use Rattle.limiter.specs.declared.phase.Phase.TheVariants.{Setup, Started}
use Rattle.limiter.specs.States.{State, fresh}
use Rattle.limiter.specs.Positions.{Counts, positions, quantity_of}
use Rattle.limiter.specs.Verdicts.{Verdict, require, ◌before◌, sides, allowed, own_verdict, side_verdict, party_verdict, path_verdict, quote_verdict, verdict}
use Rattle.limiter.specs.Steps.{Answer, Replies, Moved, obeyed, Follows, Step}
use Rattle.limiter.specs.Promise.{releases, Within, carried, Sound, Passes, Bounded, Limited, Due, Served}
use Rattle.limiter.proofs.Numbers.{level_known, side_known}
use Rattle.limiter.proofs.Quantities.{covered, met, quantity_narrower, quantity_same, quantity_none}
use Rattle.limiter.proofs.Verdicts.{ok_err, both_pass, require_true, levels_pass, sides_pass, each_refuses, pass_each, allowed_passes, allowed_refuses, allowed_lesser, within_zero}
use Rattle.limiter.proofs.Cells.{after_ranged, narrower, elsewhere, left_quotes, left_held, released}
use Rattle.limiter.proofs.Steps.{limit_passed}

-- every limit on the path of account a is there
abbrev Backs : {X : Type 0} → State X → ℕ → Type 0
Backs s a = (level : Level) (side : Side) → is_some (s.limits level (party s.entries level a) side) ≡ true

-- a limit after one was set: the new one, or as it was
limit_set : (limits : Limiting) (n : NewLimit) (l : Level) (u : ℕ) (d : Side) → let after : Option ℤ = with_limit limits n.level n.party n.side n.limit l u d in
    ((level_at n.level ≡ l) × (n.party ≡ u) × (side_at n.side ≡ d) × (after ≡ Some n.limit)) ⊎ (after ≡ limits l u d)
limit_set limits n l u d = grind (arith, nat_tests, level_known l n.level, side_known d n.side)

limit_floor : (m : ℤ) → limiting m ≡ true → pos 0 ≤ℤ m
limit_floor m e = grind (arith, ints)

-- an obeyed quote has a proper amount, since that is checked first
proper_checked : (taken : ℕ) (i : Instruction) → ((f : Fault) → checked taken i ≡ Err f → ⊥) → proper i.action i.amount ≡ true
proper_checked taken i h = grind (arith, h (found reason.Unknown), h (found reason.Amount))

module _ {X : Type 0} (meaning : X → Meaning) (laws : (x : X) → Lawful (meaning x)) where
  -- what holds between calls, where h is what the obeyed fills and executions so far come to
  pub record Fit (h : Counts) (s : State X) : Type 0 where
    -- nothing in set-up, and once started the count held
    pub none_yet : s.phase ≡ Setup → (a k : ℕ) → h a k ≡ pos 0
    pub held : s.phase ≡ Started → (a k : ℕ) → ((meaning s.ledger).cell a k).held ≡ h a k
    -- once started, quantities within their limits, and every account empty or with every limit of its path
    pub within : s.phase ≡ Started → (level : Level) (p : ℕ) (side : Side) → p < 64 → Within (quantity_of (positions meaning s None) level p side) (s.limits level p side)
    pub backed : s.phase ≡ Started → (a : ℕ) → a < length s.entries → ((k : ℕ) → (meaning s.ledger).cell a k ≡ empty) ⊎ Backs s a

  -- ---- what holds in every state

  pub bounded : (s : State X) → Sound s → Bounded meaning s
  bounded s z = record {
    covered = λ l p d. covered s.strikes s.entries l p _ _ d z.strikes;
    met = λ l p d. met s.strikes s.entries l p _ _ d (λ a k. ((laws s.ledger).ranged a k).ordered);
  }

  limited : (h : Counts) (s : State X) → Fit h s → s.phase ≡ Started → Limited meaning s
  limited h s fit e = record {
    within = fit.within e;
    lacking = λ l p d other _ miss. quantity_none s.strikes s.entries l p _ _ other (λ a k low b.
        elim (fit.backed e a low) [
          | inl z ↦ (ap (λ (c : Cell). c.low) (z k), ap (λ (c : Cell). c.high) (z k))
          | inr z ↦ absurd (let there = z l d in let own : party s.entries l a ≡ p = eqb-true _ _ b in let none : s.limits l (party s.entries l a) d ≡ None = ap (λ u. s.limits l u d) own ∙ miss in grind arith)
        ]);
  }

  -- ---- the checks along a path

  path_passes : (s : State X) (k : Option Change) (p : Path) → path_verdict meaning s k p ≡ Ok tt → (l : Level) (d : Side) → side_verdict meaning s k l (party_on p l) d ≡ Ok tt
  path_passes s k p e l d = sides_pass (side_verdict meaning s k l (party_on p l)) (levels_pass (λ z. party_verdict meaning s k z (party_on p z)) e l) d

  path_refuses : (s : State X) (k : Option Change) (p : Path) (f : Fault) → path_verdict meaning s k p ≡ Err f → (l : Level) × (d : Side) × (side_verdict meaning s k l (party_on p l) d ≡ Err f)
  path_refuses s k p f e = let h = each_refuses (λ level. party_verdict meaning s k level (party_on p level)) levels f e in let w = each_refuses (side_verdict meaning s k h.0 (party_on p h.0)) sides f h.1 in (h.0, w.0, w.1)

  pass_path : (s : State X) (k : Option Change) (p : Path) → ((l : Level) (d : Side) → side_verdict meaning s k l (party_on p l) d ≡ Ok tt) → path_verdict meaning s k p ≡ Ok tt
  pass_path s k p h = pass_each _ levels (λ l. pass_each _ sides (h l))

  -- a check that refuses tells of a count and a price that pass the limit; one that passes, of none
  module _ (s : State X) (i : Instruction) (q : Quote) (sound : Sound s) (quoted : (meaning s.ledger).quoted i ≡ Ok q) (l : Level) (p : ℕ) (d : Side) where
    refuses : (o : Option ℤ) (f : Fault) → s.limits l p d ≡ o → allowed o (quantity_of (positions meaning s (Some (change i q))) l p d) l d ≡ Err f → Passes (positions meaning s (Some (change i q))) l p d o
    refuses None f at e = tt
    refuses (Some m) f at e =
        let lt : m <ℤ quantity_of (positions meaning s (Some (change i q))) l p d = allowed_refuses m _ l d f e in
        elim (met s.strikes s.entries l p _ _ d (λ a k. (after_ranged (meaning s.ledger) i q (laws s.ledger) quoted a k).ordered)) [
          | inl z ↦ absurd (clash m _ lt (limit_floor m (sound.limits l p d m at)) z)
          | inr z ↦ (z.counts, _, 2, omega arith, z.possible, subst (λ v. m <ℤ v) (sym z.meets) lt)
        ]
      where
        clash : (m v : ℤ) → m <ℤ v → pos 0 ≤ℤ m → v ≡ pos 0 → ⊥
        clash m v h k e = omega (arith, ints)

    passes : (o : Option ℤ) → allowed o (quantity_of (positions meaning s (Some (change i q))) l p d) l d ≡ Ok tt → Passes (positions meaning s (Some (change i q))) l p d o → ⊥
    passes None e w = ok_err tt _ (sym e)
    passes (Some m) e w = clash m _ _ w.5 (covered s.strikes s.entries l p _ _ d sound.strikes w.1 w.2 w.3 w.0 w.4) (allowed_passes (Some m) _ l d e).1
      where
        clash : (m v u : ℤ) → m <ℤ v → v ≤ℤ u → u ≤ℤ m → ⊥
        clash m v u h k e = omega (arith, ints)

  -- ---- one call keeps what is fit

  -- a call that carries nothing
  recount : (h g : Counts) (s : State X) → Fit h s → ((a k : ℕ) → g a k ≡ pos 0) → Fit (λ a k. h a k +ℤ g a k) s
  recount h g s fit z = record {
    none_yet = λ e a k. zero _ _ (fit.none_yet e a k) (z a k);
    held = λ e a k. same _ _ _ (fit.held e a k) (z a k);
    within = fit.within;
    backed = fit.backed;
  }
    where
      zero : (x y : ℤ) → x ≡ pos 0 → y ≡ pos 0 → (x +ℤ y) ≡ pos 0
      zero x y e d = omega (arith, ints)

      same : (w x y : ℤ) → w ≡ x → y ≡ pos 0 → w ≡ (x +ℤ y)
      same w x y e d = omega (arith, ints)

  never : Setup ≡ Started → ⊥
  never e = cc

  setup_fit : (h : Counts) (s : State X) → s.phase ≡ Setup → ((a k : ℕ) → h a k ≡ pos 0) → Fit h s
  setup_fit h s p z = record { none_yet = λ _. z; held = λ e. absurd (never (sym p ∙ e)); within = λ e. absurd (never (sym p ∙ e)); backed = λ e. absurd (never (sym p ∙ e)) }

  start_fit : (h : Counts) (s : State X) → s.phase ≡ Started → Sound s → (meaning s.ledger).unused → ((a k : ℕ) → h a k ≡ pos 0) → Fit h s
  start_fit h s p sound unused z =
      let idle = (laws s.ledger).idle unused in
      record {
        none_yet = λ _. z;
        held = λ _ a k. ap (λ (c : Cell). c.held) (idle a k) ∙ sym (z a k);
        within = λ _ l u d _. within_zero _ _ (λ m at. limit_floor m (sound.limits l u d m at)) (quantity_none s.strikes s.entries l u _ _ d (λ a k _ _. (ap (λ (c : Cell). c.low) (idle a k), ap (λ (c : Cell). c.high) (idle a k))));
        backed = λ _ a _. inl (idle a);
      }

  limit_fit : (h : Counts) (s : State X) (n : NewLimit) → Fit h s → quantity_of (positions meaning s None) (level_at n.level) n.party (side_at n.side) ≤ℤ n.limit → Fit h (obeyed meaning s (call.Limit n) s.ledger)
  limit_fit h s n fit le =
      let quantity : Level → ℕ → Side → ℤ = quantity_of (positions meaning s None) in
      record {
        none_yet = fit.none_yet;
        held = fit.held;
        within = λ e l u d k. elim (limit_set s.limits n l u d) [
          | inl t ↦ subst (Within (quantity l u d)) (sym t.3) (subst (λ z. z ≤ℤ n.limit) (λ j. quantity (t.0 j) (t.1 j) (t.2 j)) le)
          | inr t ↦ subst (Within (quantity l u d)) (sym t) (fit.within e l u d k)
        ];
        backed = λ e a low. elim (fit.backed e a low) [
          | inl z ↦ inl z
          | inr z ↦ inr (λ l d. elim (limit_set s.limits n l (party s.entries l a) d) [ inl t ↦ ap is_some t.3 | inr t ↦ ap is_some t ∙ z l d ])
        ];
      }

  -- an instruction that passes every check on its path
  instruct_fit : (h : Counts) (s : State X) (y : X) (i : Instruction) (q : Quote) (r : Answer) → s.phase ≡ Started → Fit h s → (meaning s.ledger).quoted i ≡ Ok q → r ≡ Ok reply.Done
      → Obeyed (meaning s.ledger).cell (meaning y).cell i q → path_verdict meaning s (Some (change i q)) (path_of s.entries i.account) ≡ Ok tt → Fit (λ a k. h a k +ℤ carried (call.Instruct i) r a k) (record s { ledger = y })
  instruct_fit h s y i q r ph fit qe done o e =
      let x = meaning s.ledger in
      let passed = λ (l : Level) (d : Side). allowed_passes _ _ l d (path_passes s (Some (change i q)) (path_of s.entries i.account) e l d) in
      let left = left_quotes x i q (meaning y) o in
      let then_is : (l : Level) (p : ℕ) (d : Side) → quantity_of (positions meaning (record s { ledger = y }) None) l p d ≡ quantity_of (positions meaning s (Some (change i q))) l p d
      = λ l p d. quantity_same s.strikes s.entries l p _ _ _ _ d (λ a k _ _. (ap (λ (z : Quote). z.low) (left a k), ap (λ (z : Quote). z.high) (left a k))) in
      record {
        none_yet = λ p. absurd (never (sym p ∙ ph));
        held = λ _ a k. left_held x i q (meaning y) o ((laws s.ledger).quotes i q qe).held a k ∙ ap (λ (z : Answer). (x.cell a k).held +ℤ carried (call.Instruct i) z a k) (sym done) ∙ ap (λ z. z +ℤ carried (call.Instruct i) r a k) (fit.held ph a k);
        within = λ _ l p d b. subst (λ (z : ℤ). Within z (s.limits l p d)) (sym (then_is l p d)) (elim (eqb_tells p (party s.entries l i.account)) [
          | inl t ↦ subst (λ (z : ℕ). Within (quantity_of (positions meaning s (Some (change i q))) l z d) (s.limits l z d)) (sym t.1) (passed l d).1
          | inr t ↦ subst (λ (z : ℤ). Within z (s.limits l p d))
              (sym (quantity_same s.strikes s.entries l p _ _ _ _ d (λ a k _ own. let z = elsewhere x i q a k (λ same. t.1 (sym (eqb-true _ _ own) ∙ ap (party s.entries l) same)) in (ap (λ (w : Quote). w.low) z, ap (λ (w : Quote). w.high) z)))) (fit.within ph l p d b)
        ]);
        backed = λ _ a low. elim (eqb_tells a i.account) [
          | inl t ↦ inr (λ l d. subst (λ (z : ℕ). is_some (s.limits l (party s.entries l z) d) ≡ true) (sym t.1) (passed l d).0)
          | inr t ↦ elim (fit.backed ph a low) [ inl z ↦ inl (λ k. o.elsewhere a k (λ u _. t.1 u) ∙ z k) | inr z ↦ inr z ]
        ];
      }

  left_obeyed : (x y : X) (i : Instruction) (q : Quote) → (meaning x).quoted i ≡ Ok q → Instructed meaning x y i ((meaning x).quoted i) → Obeyed (meaning x).cell (meaning y).cell i q
  left_obeyed x y i q e m = subst (Left meaning x y i) e m.left

  quote_fit : (h : Counts) (s : State X) (y : X) (i : Instruction) (r : Answer) (w : Result Quote Fault) → s.phase ≡ Started → Fit h s → (meaning s.ledger).quoted i ≡ w → r ≡ Ok reply.Done
      → Instructed meaning s.ledger y i ((meaning s.ledger).quoted i) → quote_verdict meaning s i w ≡ Ok tt → Fit (λ a k. h a k +ℤ carried (call.Instruct i) r a k) (record s { ledger = y })
  quote_fit h s y i r (Ok q) ph fit qe done m e = instruct_fit h s y i q r ph fit qe done (left_obeyed s.ledger y i q qe m) e
  quote_fit h s y i r (Err f) ph fit qe done m e = absurd (ok_err tt _ (sym e))

  -- an obeyed call, by its phase
  obeyed_fit : (h : Counts) (s : State X) (p : Phase) (c : Call) (r : Answer) (y : X) (u : Bool) → s.phase ≡ p → Sound s → Fit h s → (s.phase ≡ Setup → c ≡ call.Start → Decides u (meaning s.ledger).unused)
      → verdict meaning s u p c ≡ Ok tt → Replies meaning s c r → Moved meaning s.ledger c y → Fit (λ a k. h a k +ℤ carried c r a k) (obeyed meaning s c y)
  obeyed_fit h s Setup (call.Strike k) r y u ph sound fit asked e d m = recount h _ _ (setup_fit h _ ph (fit.none_yet ph)) (λ _ _. refl)
  obeyed_fit h s Started (call.Strike k) r y u ph sound fit asked e d m = absurd (ok_err tt _ (sym e))
  obeyed_fit h s Setup (call.Account k) r y u ph sound fit asked e d m = recount h _ _ (setup_fit h _ ph (fit.none_yet ph)) (λ _ _. refl)
  obeyed_fit h s Started (call.Account k) r y u ph sound fit asked e d m = absurd (ok_err tt _ (sym e))
  obeyed_fit h s Setup call.Start r y u ph sound fit asked e d m = recount h _ _ (subst (λ (z : X). Fit h (obeyed meaning s call.Start z)) (sym m) (start_fit h (obeyed meaning s call.Start s.ledger) refl (record { strikes = sound.strikes; parties = sound.parties; limits = sound.limits }) ((asked ph refl).0 (require_true u _ e)) (fit.none_yet ph))) (λ _ _. refl)
  obeyed_fit h s Started call.Start r y u ph sound fit asked e d m = absurd (ok_err tt _ (sym e))
  obeyed_fit h s p (call.Limit n) r y u ph sound fit asked e d m = recount h _ _ (subst (λ (z : X). Fit h (obeyed meaning s (call.Limit n) z)) (sym m) (limit_fit h s n fit (let z = limit_passed meaning s n e in grind (arith, ints)))) (λ _ _. refl)
  obeyed_fit h s Setup (call.Instruct i) r y u ph sound fit asked e d m = absurd (ok_err tt _ (sym e))
  obeyed_fit h s Started (call.Instruct i) r y u ph sound fit asked e d m = quote_fit h s y i r _ ph fit refl d m (both_pass (own_verdict s i) _ e).1
  obeyed_fit h s p (call.Quantities n) r y u ph sound fit asked e d m = recount h _ _ (subst (λ (z : X). Fit h (record s { ledger = z })) (sym m) fit) (λ _ _. refl)
  obeyed_fit h s p (call.Tightest a) r y u ph sound fit asked e d m = recount h _ _ (subst (λ (z : X). Fit h (record s { ledger = z })) (sym m) fit) (λ _ _. refl)

  -- a declined call carries nothing
  declined_none : (c : Call) (f : Fault) (a k : ℕ) → carried c (Err f) a k ≡ pos 0
  declined_none (call.Strike _) f a k = refl
  declined_none (call.Account _) f a k = refl
  declined_none call.Start f a k = refl
  declined_none (call.Limit _) f a k = refl
  declined_none (call.Instruct _) f a k = refl
  declined_none (call.Quantities _) f a k = refl
  declined_none (call.Tightest _) f a k = refl

  follows_fit : (h : Counts) (s t : State X) (c : Call) (r : Answer) (u : Bool) (v : Verdict) → Sound s → Fit h s → (s.phase ≡ Setup → c ≡ call.Start → Decides u (meaning s.ledger).unused) → verdict meaning s u s.phase c ≡ v → Follows meaning s c v r t → Fit (λ a k. h a k +ℤ carried c r a k) t
  follows_fit h s t c r u (Err f) sound fit asked e p = subst (λ (z : State X). Fit (λ a k. h a k +ℤ carried c r a k) z) (sym p.1) (recount h _ s fit (λ a k. ap (λ (z : Answer). carried c z a k) p.0 ∙ declined_none c f a k))
  follows_fit h s t c r u (Ok _) sound fit asked e p = subst (λ (z : State X). Fit (λ a k. h a k +ℤ carried c r a k) z) (sym p.1) (obeyed_fit h s s.phase c r t.ledger u refl sound fit asked e p.0 p.2)

  -- ---- each answer is due

  quote_proper : (s : State X) (i : Instruction) (q : Quote) → (meaning s.ledger).quoted i ≡ Ok q → proper i.action i.amount ≡ true
  quote_proper s i q e = proper_checked (meaning s.ledger).taken i (λ f d. ok_err q f (sym e ∙ (laws s.ledger).first i f d))

  -- a cancel or an execution passes every check
  release_passes : (h : Counts) (s : State X) (i : Instruction) (q : Quote) → Sound s → Fit h s → s.phase ≡ Started → i.account < length s.entries → (meaning s.ledger).quoted i ≡ Ok q → releases i.action ≡ true
      → path_verdict meaning s (Some (change i q)) (path_of s.entries i.account) ≡ Ok tt
  release_passes h s i q sound fit ph low qe w =
      let r = released i.action i.amount ((meaning s.ledger).cell i.account i.series) q w (quote_proper s i q qe) ((laws s.ledger).quotes i q qe) in
      let backs : Backs s i.account = elim (fit.backed ph i.account low) [ inl z ↦ absurd (r.rests (z i.series)) | inr z ↦ z ] in
      let n = narrower (meaning s.ledger) i q r.low r.high in
      pass_path s (Some (change i q)) (path_of s.entries i.account) (λ l d.
      allowed_lesser _ _ _ l d (backs l d) (fit.within ph l (party s.entries l i.account) d (sound.parties l i.account low))
      (quantity_narrower s.strikes s.entries l (party s.entries l i.account) _ _ _ _ d sound.strikes (λ a k. (n a k).0) (λ a k. (n a k).1) (λ a k. (after_ranged (meaning s.ledger) i q (laws s.ledger) qe a k).ordered)))

  instruct_verdict_is : (s : State X) (u : Bool) (c : Call) (i : Instruction) (q : Quote) → c ≡ call.Instruct i → s.phase ≡ Started → i.account < length s.entries → i.series < 2 * length s.strikes
      → (meaning s.ledger).quoted i ≡ Ok q → verdict meaning s u s.phase c ≡ path_verdict meaning s (Some (change i q)) (path_of s.entries i.account)
  instruct_verdict_is s u c i q ce ph low under qe =
      (λ j. verdict meaning s u (ph j) (ce j))
      ∙ ap (λ (b : Bool). (require b (found reason.Unknown) before require (proper i.action i.amount) (found reason.Amount)) before quote_verdict meaning s i ((meaning s.ledger).quoted i)) (and_from _ _ (lt-ltb _ _ low) (lt-ltb _ _ under))
      ∙ ap (λ (b : Bool). require b (found reason.Amount) before quote_verdict meaning s i ((meaning s.ledger).quoted i)) (quote_proper s i q qe)
      ∙ ap (quote_verdict meaning s i) qe

  due : (h : Counts) (s t : State X) (c : Call) (r : Answer) (i : Instruction) (q : Quote) (v : Verdict) → Sound s → Fit h s → c ≡ call.Instruct i → s.phase ≡ Started → i.account < length s.entries
      → (meaning s.ledger).quoted i ≡ Ok q → path_verdict meaning s (Some (change i q)) (path_of s.entries i.account) ≡ v → Follows meaning s c v r t → Due meaning s i q r
  due h s t c r i q (Err f) sound fit ce ph low qe e p = record {
    declined = λ _ _. let w = path_refuses s (Some (change i q)) (path_of s.entries i.account) f e in (w.0, w.1, refuses s i q sound qe w.0 _ w.1 _ f refl w.2);
    passing = λ _ _ _. (f, p.0);
    released = λ w. absurd (ok_err tt f (sym (release_passes h s i q sound fit ph low qe w) ∙ e));
  }
  due h s t c r i q (Ok _) sound fit ce ph low qe e p =
      let done : r ≡ Ok reply.Done = subst (λ (z : Call). Replies meaning s z r) ce p.0 in
      record {
        declined = λ f d. absurd (ok_err _ f (sym done ∙ d));
        passing = λ l d k. absurd (passes s i q sound qe l _ d _ (path_passes s (Some (change i q)) (path_of s.entries i.account) e l d) k);
        released = λ w. done;
      }

  -- ---- one call of a run

  module _ (keeps : X → X → Type 0) (h : Counts) (s : State X) (c : Call) (r : Answer) (t : State X) (sound : Sound s) (fit : Fit h s) (step : Step meaning keeps s c r t) where
    pub step_fit : Fit (λ a k. h a k +ℤ carried c r a k) t
    step_fit = follows_fit h s t c r step.unused _ sound fit step.asked refl step.follows

    pub served : Sound t → Served meaning keeps h s c r t
    served then-sound = record {
      step = step;
      sound = then-sound;
      bounded = bounded t then-sound;
      limited = limited _ t step_fit;
      rightly = λ i q ce ph low under qe. due h s t c r i q _ sound fit ce ph low qe (sym (instruct_verdict_is s step.unused c i q ce ph low under qe)) step.follows;
      held = step_fit.held;
    }

  pub fresh_fit : (x : X) → Fit (λ _ _. pos 0) (fresh x)
  fresh_fit x = setup_fit _ (fresh x) refl (λ _ _. refl)
