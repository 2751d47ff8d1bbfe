use Rattle.std.proofs.Common.{◌≡◌, drop}
use Rattle.std.specs.Option.{option_copied}
use Rattle.parties.specs.Paths.{party_on}
use Rattle.limiter.specs.States.{state_of}
use Rattle.limiter.specs.Verdicts.{each, party_verdict, path_verdict}
use Rattle.limiter.proofs.Limiter.check_path.Given as goal

-- the levels so far have passed
abbrev pub invariant-loop-level : goal.invariant-loop-level
invariant-loop-level g l =
    path_verdict g.L.Ledger.meaning (state_of l.self) (option_copied l.change) l.path ≡ each (λ level. party_verdict g.L.Ledger.meaning (state_of l.self) (option_copied l.change) level (party_on l.path level)) (drop l.level-index l.level-items)
