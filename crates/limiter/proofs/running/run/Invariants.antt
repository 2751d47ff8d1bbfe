use Rattle.std.proofs.Common.{◌≡◌, ◌≤◌, length, take, vec_items, vec_len, vec_capacity}
use Rattle.limiter.specs.States.{state_of}
use Rattle.limiter.specs.Promise.{Promised}
use Rattle.limiter.proofs.running.run.Given as goal

-- the calls so far are run, and there is room for the answers
abbrev pub invariant-loop-call : goal.invariant-loop-call
invariant-loop-call g l = record {
  answered : vec_len l.answers ≡ l.call-index;
  room : length l.calls ≤ vec_capacity l.answers;
  promised : Promised g.L.Ledger.meaning g.L.Ledger.keeps l.initial.limiter.ledger (take l.call-index l.calls) (vec_items l.answers) (state_of l.limiter);
}
