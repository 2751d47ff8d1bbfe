-- What one call answers and leaves. Assumes nothing.
use Rattle.std.specs.Prelude.{◌≡◌, ℕ, ◌/◌, ◌%◌, Bool, List, [], ◌∷◌, ◌++◌, map, ℤ, ◌-ℤ◌, None, Ok, Err, Decides, Option, Result}
use Rattle.std.specs.List.{flat_map}
use Rattle.std.specs.Option.{option_map}
use Rattle.std.specs.declared.cmp.Reverse.{Reverse}
use Rattle.ledger.specs.declared.faults.Fault.{Fault}
use Rattle.ledger.specs.Meanings.{Meaning, Instructed}
use Rattle.greatest.specs.Greatest.{Stands}
use Rattle.greatest.specs.Headrooms.{rank, opposite}
use Rattle.expiry.specs.declared.side.Side.{Side}
use Rattle.expiry.specs.declared.side.Side.TheVariants.{Long, Short}
use Rattle.expiry.specs.declared.quantity.Quantity.{Quantity}
use Rattle.expiry.specs.declared.side.BySide.{BySide}
use Rattle.expiry.specs.Near.{Near}
use Rattle.expiry.specs.Sides.{side_at}
use Rattle.parties.specs.declared.level.Level.{Level}
use Rattle.parties.specs.declared.path.Path.{Path}
use Rattle.parties.specs.Paths.{party_on}
use Rattle.parties.specs.Levels.{level_at, levels}
use Rattle.parties.specs.Directories.{path_of}
use Rattle.parties.specs.Limits.{with_limit}
use Rattle.calls.specs.declared.PartyNumber.{PartyNumber}
use Rattle.calls.specs.declared.Tightest.{Tightest}
use Rattle.calls.specs.declared.Call.{Call}
use Rattle.calls.specs.declared.Call.TheVariants as call
use Rattle.calls.specs.declared.Reply.{Reply}
use Rattle.calls.specs.declared.Reply.TheVariants as reply
use Rattle.limiter.specs.declared.phase.Phase.TheVariants.{Setup, Started}
use Rattle.limiter.specs.States.{State}
use Rattle.limiter.specs.Positions.{positions, quantity_of, Told}
use Rattle.limiter.specs.Verdicts.{Verdict, sides, verdict}

-- the reply to an obeyed call, or the refusal
abbrev pub Answer : Type 0
Answer = Result Reply Fault

-- what a limit leaves above a quantity
abbrev pub headroom : Option ℤ → ℤ → Option ℤ
headroom limit q = option_map (λ m. m -ℤ q) limit

-- one entry for each check on a path, in the order of checks
abbrev pub by_check : {A : Type 0} → (Level → Side → A) → List A
by_check f = flat_map (λ level. map (f level) sides) levels

module _ {X : Type 0} (meaning : X → Meaning) where
  -- the headroom on a side of a party
  abbrev pub headroom_of : State X → Level → ℕ → Side → Option ℤ
  headroom_of s level p side = headroom (s.limits level p side) (quantity_of (positions meaning s None) level p side)

  -- those of the path, for the order reversed
  abbrev pub path_headrooms : State X → Path → List (Reverse (Option ℤ))
  path_headrooms s p = by_check (λ level side. record { 0 = headroom_of s level (party_on p level) side })

  -- both quantities of a party, each far below the highest limit
  pub record Asked (s : State X) (n : PartyNumber) (q : BySide Quantity) : Type 0 where
    pub long : Told (positions meaning s None) (level_at n.level) n.party Long q.long
    pub short : Told (positions meaning s None) (level_at n.level) n.party Short q.short
    pub near : Near 20480000000000000 q.long.value × Near 20480000000000000 q.short.value

  -- the first least headroom on a path, where the check k is at level k / 2 and side k % 2
  pub record Least (s : State X) (p : Path) (t : Tightest) : Type 0 where
    pub check : ℕ
    pub stands : Stands (opposite rank) (path_headrooms s p) (record { first = check })
    pub level : t.level ≡ level_at (check / 2)
    pub side : t.side ≡ side_at (check % 2)
    pub headroom : t.headroom ≡ headroom_of s t.level (party_on p t.level) t.side

  -- the reply to an obeyed call
  abbrev pub Replies : State X → Call → Answer → Type 0
  Replies s (call.Strike k) r = r ≡ Ok reply.Done
  Replies s (call.Account e) r = r ≡ Ok reply.Done
  Replies s call.Start r = r ≡ Ok reply.Done
  Replies s (call.Limit n) r = r ≡ Ok reply.Done
  Replies s (call.Instruct i) r = r ≡ Ok reply.Done
  Replies s (call.Quantities n) r = (q : BySide Quantity) × (r ≡ Ok (reply.Quantities q)) × Asked s n q
  Replies s (call.Tightest a) r = (t : Tightest) × (r ≡ Ok (reply.Tightest t)) × Least s (path_of s.entries a) t

  -- what an obeyed call does to the ledger, from x to y: only an instruction reaches it
  abbrev pub Moved : X → Call → X → Type 0
  Moved x (call.Strike k) y = y ≡ x
  Moved x (call.Account e) y = y ≡ x
  Moved x call.Start y = y ≡ x
  Moved x (call.Limit n) y = y ≡ x
  Moved x (call.Instruct i) y = Instructed meaning x y i ((meaning x).quoted i)
  Moved x (call.Quantities n) y = y ≡ x
  Moved x (call.Tightest a) y = y ≡ x

  -- the state that an obeyed call leaves, where the ledger is then y
  abbrev pub obeyed : State X → Call → X → State X
  obeyed s (call.Strike k) y = record s { strikes = s.strikes ++ k ∷ []; ledger = y }
  obeyed s (call.Account e) y = record s { entries = s.entries ++ e ∷ []; ledger = y }
  obeyed s call.Start y = record s { phase = Started; ledger = y }
  obeyed s (call.Limit n) y = record s { limits = with_limit s.limits n.level n.party n.side n.limit; ledger = y }
  obeyed s (call.Instruct i) y = record s { ledger = y }
  obeyed s (call.Quantities n) y = record s { ledger = y }
  obeyed s (call.Tightest a) y = record s { ledger = y }

  -- from s to t by a call with that verdict: declined, the first refusal and the state as it was
  abbrev pub Follows : State X → Call → Verdict → Answer → State X → Type 0
  Follows s c (Err f) r t = (r ≡ Err f) × (t ≡ s)
  Follows s c (Ok _) r t = Replies s c r × (t ≡ obeyed s c t.ledger) × Moved s.ledger c t.ledger

  -- from s to t by a call with its answer; whether the ledger is unused is asked at a start in set-up only
  pub record Step (keeps : X → X → Type 0) (s : State X) (c : Call) (r : Answer) (t : State X) : Type 0 where
    pub unused : Bool
    pub asked : s.phase ≡ Setup → c ≡ call.Start → Decides unused (meaning s.ledger).unused
    pub follows : Follows s c (verdict meaning s unused s.phase c) r t
    pub kept : keeps s.ledger t.ledger
