-- One call more at the end of a run, and the tables of a limiter. Assumes the laws of the ledger.
use Rattle.std.proofs.Common.{◌≡◌, ℕ, ◌+◌, ◌<◌, ◌≤◌, List, [], ◌∷◌, ◌++◌, length, get_or, take, pos, ◌+ℤ◌, sym, refl, subst, arith}
use Rattle.std.proofs.lemmas.List.{take_more}
use Rattle.ledger.specs.Meanings.{Meaning, Lawful}
use Rattle.parties.specs.declared.entry.Entry.{Entry}
use Rattle.parties.specs.declared.level.Level.{Level}
use Rattle.parties.specs.declared.level.Level.TheVariants.{Account, Holder, Group, Participant}
use Rattle.parties.specs.Tables.{AllNumbered}
use Rattle.parties.specs.Levels.{level_number}
use Rattle.parties.specs.Directories.{party}
use Rattle.calls.specs.declared.Call.{Call}
use Rattle.limiter.specs.declared.Limiter.{Limiter}
use Rattle.limiter.specs.States.{State, state_of, fresh}
use Rattle.limiter.specs.Positions.{Counts}
use Rattle.limiter.specs.Steps.{Answer, Step}
use Rattle.limiter.specs.Promise.{Run, Served, Promised, Extends, Sound, carried}
use Rattle.limiter.proofs.Keeps.{Fit, served, step_fit, fresh_fit, bounded}

-- ---- the tables of a limiter

party_low : (es : List Entry) (level : Level) (a : ℕ) → AllNumbered es → length es ≤ 64 → a < length es → party es level a < 64
party_low es Account a all few l = omega arith
party_low es Holder a all few l = (all a).0
party_low es Group a all few l = (all a).1
party_low es Participant a all few l = (all a).2

pub sound : {X : Type 0} (l : Limiter X) → Sound (state_of l)
sound l = record {
  strikes = l.class.lawful;
  parties = λ level a. party_low l.directory.entries.items level a l.directory.numbered l.directory.few;
  limits = λ level p side m e. grind (arith, l.limits.proper (level_number level) p side);
}

fresh_sound : {X : Type 0} (x : X) → Sound (fresh x)
fresh_sound x = record {
  strikes = record { few = omega arith; proper = λ i l. absurd (omega arith); rises = λ i j l k. absurd (omega arith) };
  parties = λ level a low. absurd (omega arith);
  limits = λ level p side m e. cc;
}

-- ---- runs

-- what the calls so far come to
abbrev tally : Counts → List Call → List Answer → Counts
tally h [] rs = h
tally h (c ∷ cs) [] = h
tally h (c ∷ cs) (r ∷ rs) = tally (λ a k. h a k +ℤ carried c r a k) cs rs

-- a ledger's meaning with its laws
pub record Below (X : Type 0) : Type 1 where
  pub meaning : X → Meaning
  pub keeps : X → X → Type 0
  pub lawful : (x : X) → Lawful (meaning x)
  pub still : (x : X) → keeps x x
  pub onward : (x y z : X) → keeps x y → keeps y z → keeps x z

module _ {X : Type 0} (b : Below X) where
  run_more : (h : Counts) (s m t : State X) (cs : List Call) (rs : List Answer) (c : Call) (r : Answer) → Run b.meaning b.keeps h s cs rs m → Served b.meaning b.keeps (tally h cs rs) m c r t → Run b.meaning b.keeps h s (cs ++ c ∷ []) (rs ++ r ∷ []) t
  run_more h s m t [] [] c r e x = (t, subst (λ (z : State X). Served b.meaning b.keeps h z c r t) (sym e) x, refl)
  run_more h s m t [] (y ∷ rs) c r e x = absurd e
  run_more h s m t (d ∷ cs) [] c r e x = absurd e
  run_more h s m t (d ∷ cs) (y ∷ rs) c r e x = (e.0, e.1, run_more (λ a k. h a k +ℤ carried d y a k) e.0 m t cs rs c r e.2 x)

  -- what a run carries along
  run_fit : (h : Counts) (s t : State X) (cs : List Call) (rs : List Answer) → Sound s → Fit b.meaning b.lawful h s → Run b.meaning b.keeps h s cs rs t → Sound t × Fit b.meaning b.lawful (tally h cs rs) t
  run_fit h s t [] [] sound fit e = subst (λ (z : State X). Sound z × Fit b.meaning b.lawful h z) e (sound, fit)
  run_fit h s t [] (r ∷ rs) sound fit e = absurd e
  run_fit h s t (c ∷ cs) [] sound fit e = absurd e
  run_fit h s t (c ∷ cs) (r ∷ rs) sound fit e = run_fit (λ a k. h a k +ℤ carried c r a k) e.0 t cs rs e.1.sound (step_fit b.meaning b.lawful b.keeps h s c r e.0 sound fit e.1.step) e.2

  -- an answered call adds to every run that ends before it
  pub extends : (l m : Limiter X) (c : Call) (r : Answer) → Step b.meaning b.keeps (state_of l) c r (state_of m) → Extends b.meaning b.keeps (state_of l) c r (state_of m)
  extends l m c r step = record {
    run = λ x cs rs promised.
        let k = run_fit (λ _ _. pos 0) (fresh x) (state_of l) cs rs (fresh_sound x) (fresh_fit b.meaning b.lawful x) promised.run in
        record {
          first = promised.first;
          run = run_more (λ _ _. pos 0) (fresh x) (state_of l) (state_of m) cs rs c r promised.run (served b.meaning b.lawful b.keeps (tally (λ _ _. pos 0) cs rs) (state_of l) c r (state_of m) k.0 k.1 step (sound m));
          kept = b.onward x l.ledger m.ledger promised.kept step.kept;
        };
  }

  -- a run of no call
  pub begins : (x : X) (s : State X) → s ≡ fresh x → Promised b.meaning b.keeps x [] [] s
  begins x s e = record { first = bounded b.meaning b.lawful (fresh x) (fresh_sound x); run = sym e; kept = subst (λ (z : State X). b.keeps x z.ledger) (sym e) (b.still x) }

-- the call at place i of all calls
module _ {X : Type 0} (meaning : X → Meaning) (keeps : X → X → Type 0) where
  pub promised_next : (x : X) (m t : State X) (all : List Call) (i : ℕ) (d : Call) (rs rs' : List Answer) (r : Answer) → i < length all → rs' ≡ rs ++ r ∷ [] → Extends meaning keeps m (get_or all i d) r t → Promised meaning keeps x (take i all) rs m → Promised meaning keeps x (take (i + 1) all) rs' t
  promised_next x m t all i d rs rs' r l e ext k = rw (take_more all i d l, e) (ext.run x (take i all) rs k)
