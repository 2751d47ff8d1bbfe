-- What every run of calls on a limiter promises. Assumes nothing.
use Rattle.std.specs.Prelude.{◌≡◌, ℕ, ◌*◌, ◌<◌, Bool, true, false, cond, ◌&&◌, List, [], ◌∷◌, ◌++◌, length, ℤ, pos, ◌+ℤ◌, ◌≤ℤ◌, ◌<ℤ◌, Some, None, Ok, Err, Option, ◌==◌}
use Rattle.ledger.specs.declared.actions.Action.{Action}
use Rattle.ledger.specs.declared.actions.Action.TheVariants.{Fill, PlaceBuy, PlaceSell, CancelBuy, CancelSell, ExecuteBuy, ExecuteSell, AddCover, TakeCover}
use Rattle.ledger.specs.declared.cells.Instruction.{Instruction}
use Rattle.ledger.specs.declared.cells.Quote.{Quote}
use Rattle.ledger.specs.declared.faults.Fault.{Fault}
use Rattle.ledger.specs.Actions.{step}
use Rattle.ledger.specs.Meanings.{Meaning}
use Rattle.strikes.specs.Strikes.{Lawful}
use Rattle.expiry.specs.declared.side.Side.{Side}
use Rattle.expiry.specs.Quantities.{flow}
use Rattle.parties.specs.declared.level.Level.{Level}
use Rattle.parties.specs.Directories.{party}
use Rattle.parties.specs.Tables.{limiting}
use Rattle.calls.specs.declared.Call.{Call}
use Rattle.calls.specs.declared.Call.TheVariants as call
use Rattle.calls.specs.declared.Reply.TheVariants as reply
use Rattle.limiter.specs.declared.phase.Phase.TheVariants.{Started}
use Rattle.limiter.specs.States.{State, fresh}
use Rattle.limiter.specs.Changes.{Change, change}
use Rattle.limiter.specs.Positions.{Counts, Positions, positions, net_receipt, Possible, Covered, ZeroOrMet, quantity_of}
use Rattle.limiter.specs.Steps.{Answer, Step}

-- cancels and executions
abbrev pub releases : Action → Bool
releases Fill = false
releases PlaceBuy = false
releases PlaceSell = false
releases CancelBuy = true
releases CancelSell = true
releases ExecuteBuy = true
releases ExecuteSell = true
releases AddCover = false
releases TakeCover = false

-- a quantity within its limit; 0 where the limit is missing
abbrev pub Within : ℤ → Option ℤ → Type 0
Within q None = q ≡ pos 0
Within q (Some m) = q ≤ℤ m

-- by how much an answered call moves the count held in a cell: an obeyed fill or execution by its amount, nothing else
abbrev pub carried : Call → Answer → Counts
carried (call.Instruct i) (Ok r) a s = cond (a == i.account && s == i.series) (step i.action i.amount).held (pos 0)
carried (call.Instruct i) (Err f) a s = pos 0
carried (call.Strike k) r a s = pos 0
carried (call.Account e) r a s = pos 0
carried call.Start r a s = pos 0
carried (call.Limit n) r a s = pos 0
carried (call.Quantities n) r a s = pos 0
carried (call.Tightest b) r a s = pos 0

-- the limiter's own tables: strikes in range and rising, parties below 64, limits in range
pub record Sound {X : Type 0} (s : State X) : Type 0 where
  pub strikes : Lawful s.strikes
  pub parties : (level : Level) (a : ℕ) → a < length s.entries → party s.entries level a < 64
  pub limits : (level : Level) (p : ℕ) (side : Side) (m : ℤ) → s.limits level p side ≡ Some m → limiting m ≡ true

-- the limit is missing, or some possible count at some price passes it
abbrev pub Passes : Positions → Level → ℕ → Side → Option ℤ → Type 0
Passes o level p side None = Unit {0}
Passes o level p side (Some l) = (x : Counts) × (m n : ℕ) × (0 < n) × Possible o x × (l <ℤ flow side (net_receipt o level p x m n))

module _ {X : Type 0} (meaning : X → Meaning) where
  -- no possible count passes a party's quantity at any price, and each quantity is 0 or met at a listed price
  pub record Bounded (s : State X) : Type 0 where
    pub covered : (level : Level) (p : ℕ) (side : Side) → Covered (positions meaning s None) level p side (quantity_of (positions meaning s None) level p side)
    pub met : (level : Level) (p : ℕ) (side : Side) → ZeroOrMet (positions meaning s None) level p side (quantity_of (positions meaning s None) level p side)

  -- no quantity is above its limit, and a party that lacks a limit on either side has quantities of 0
  pub record Limited (s : State X) : Type 0 where
    pub within : (level : Level) (p : ℕ) (side : Side) → p < 64 → Within (quantity_of (positions meaning s None) level p side) (s.limits level p side)
    pub lacking : (level : Level) (p : ℕ) (side other : Side) → p < 64 → s.limits level p side ≡ None → quantity_of (positions meaning s None) level p other ≡ pos 0

  -- after the change, something passes the limit of account a's party at a level
  abbrev pub PassesOn : State X → Change → ℕ → Level → Side → Type 0
  PassesOn s k a level side = Passes (positions meaning s (Some k)) level (party s.entries level a) side (s.limits level (party s.entries level a) side)

  -- an instruction with the quote q is declined exactly when something on its path passes; a cancel or an execution never is
  pub record Due (s : State X) (i : Instruction) (q : Quote) (r : Answer) : Type 0 where
    pub declined : (f : Fault) → r ≡ Err f → (level : Level) × (side : Side) × PassesOn s (change i q) i.account level side
    pub passing : (level : Level) (side : Side) → PassesOn s (change i q) i.account level side → (f : Fault) × (r ≡ Err f)
    pub released : releases i.action ≡ true → r ≡ Ok reply.Done

  -- so it is for every instruction on an added account and a series of an added strike that the ledger would carry out
  abbrev pub Rightly : State X → Call → Answer → Type 0
  Rightly s c r = (i : Instruction) (q : Quote) → c ≡ call.Instruct i → s.phase ≡ Started → i.account < length s.entries → i.series < 2 * length s.strikes → (meaning s.ledger).quoted i ≡ Ok q → Due s i q r

  module _ (keeps : X → X → Type 0) where
    -- one call of a run, where sum is what the obeyed fills and executions before it come to
    pub record Served (sum : Counts) (s : State X) (c : Call) (r : Answer) (t : State X) : Type 0 where
      pub step : Step meaning keeps s c r t
      pub sound : Sound t
      pub bounded : Bounded t
      pub limited : t.phase ≡ Started → Limited t
      pub rightly : Rightly s c r
      pub held : t.phase ≡ Started → (a k : ℕ) → ((meaning t.ledger).cell a k).held ≡ (sum a k +ℤ carried c r a k)

    -- the calls in order, each with its answer, through the states between
    abbrev pub Run : Counts → State X → List Call → List Answer → State X → Type 0
    Run sum s [] [] t = s ≡ t
    Run sum s [] (r ∷ rs) t = ⊥
    Run sum s (c ∷ cs) [] t = ⊥
    Run sum s (c ∷ cs) (r ∷ rs) t = (m : State X) × Served sum s c r m × Run (λ a k. sum a k +ℤ carried c r a k) m cs rs t

    -- the whole promise of a run from a fresh limiter over a ledger
    pub record Promised (ledger : X) (cs : List Call) (rs : List Answer) (t : State X) : Type 0 where
      pub first : Bounded (fresh ledger)
      pub run : Run (λ _ _. pos 0) (fresh ledger) cs rs t
      pub kept : keeps ledger t.ledger

    -- a call with its answer adds to every run that ends before it
    pub record Extends (s : State X) (c : Call) (r : Answer) (t : State X) : Type 0 where
      pub run : (ledger : X) (cs : List Call) (rs : List Answer) → Promised ledger cs rs s → Promised ledger (cs ++ c ∷ []) (rs ++ r ∷ []) t
