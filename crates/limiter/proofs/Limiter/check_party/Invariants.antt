use Rattle.std.proofs.Common.{◌≡◌, drop}
use Rattle.std.specs.Option.{option_copied}
use Rattle.limiter.specs.States.{state_of}
use Rattle.limiter.specs.Verdicts.{each, side_verdict, party_verdict}
use Rattle.limiter.proofs.Limiter.check_party.Given as goal

-- the sides so far have passed
abbrev pub invariant-loop-side : goal.invariant-loop-side
invariant-loop-side g l =
    party_verdict g.L.Ledger.meaning (state_of l.self) (option_copied l.change) l.level l.party ≡ each (side_verdict g.L.Ledger.meaning (state_of l.self) (option_copied l.change) l.level l.party) (drop l.side-index l.side-items)
