use Rattle.std.proofs.Common.{◌≡◌, ◌*◌, ◌≤◌, length}
use Rattle.std.specs.Option.{option_copied}
use Rattle.expiry.specs.Expiry.{sum_to}
use Rattle.expiry.specs.Near.{Near}
use Rattle.parties.specs.Directories.{entries_of}
use Rattle.limiter.specs.Positions.{lows, highs, share}
use Rattle.limiter.proofs.Limiter.series_range.Given as goal

-- the accounts so far are summed, each within a count's reach
abbrev pub invariant-loop-account : goal.invariant-loop-account
invariant-loop-account g l = record {
  low : l.low ≡ sum_to (share (entries_of l.self.directory) l.level l.party (lows (g.L.Ledger.meaning l.self.ledger) (option_copied l.change)) l.series) l.account;
  high : l.high ≡ sum_to (share (entries_of l.self.directory) l.level l.party (highs (g.L.Ledger.meaning l.self.ledger) (option_copied l.change)) l.series) l.account;
  low_near : Near (l.account * 1000000000) l.low;
  high_near : Near (l.account * 1000000000) l.high;
  within : l.account ≤ length (entries_of l.self.directory);
}
