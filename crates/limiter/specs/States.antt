-- What a limiter is between two calls. Assumes nothing.
use Rattle.std.specs.Prelude.{List, []}
use Rattle.strikes.specs.declared.strike.Strike.{Strike}
use Rattle.strikes.specs.Classes.{strikes_of}
use Rattle.parties.specs.declared.entry.Entry.{Entry}
use Rattle.parties.specs.Directories.{entries_of}
use Rattle.parties.specs.Limits.{Limiting, limits_of, none_set}
use Rattle.limiter.specs.declared.phase.Phase.{Phase}
use Rattle.limiter.specs.declared.phase.Phase.TheVariants.{Setup}
use Rattle.limiter.specs.declared.Limiter.{Limiter}

-- the phase, the strikes, the accounts, the limits, and the ledger with its cells
pub record State (X : Type 0) : Type 0 where
  pub phase : Phase
  pub strikes : List Strike
  pub entries : List Entry
  pub limits : Limiting
  pub ledger : X

abbrev pub state_of : {X : Type 0} → Limiter X → State X
state_of l = record { phase = l.phase; strikes = strikes_of l.class; entries = entries_of l.directory; limits = limits_of l.limits; ledger = l.ledger }

-- in set-up over a ledger, with no strike, account or limit
abbrev pub fresh : {X : Type 0} → X → State X
fresh x = record { phase = Setup; strikes = []; entries = []; limits = none_set; ledger = x }
