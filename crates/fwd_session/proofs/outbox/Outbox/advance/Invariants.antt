use Rattle.std.proofs.Common.{◌≡◌, ◌≤◌, ◌-◌, length}
use Rattle.std.specs.List.{concat}
use Rattle.fwd_session.specs.Flights.{unsent_after}
use Rattle.fwd_session.proofs.outbox.Outbox.advance.Given as goal

-- what is still to be passed is there, and the rest is passed
abbrev pub invariant-loop-rest : goal.invariant-loop-rest
invariant-loop-rest l = record {
  whole : l.rest ≤ l.count;
  there : l.rest ≤ length (concat l.self);
  passed : l.self ≡ unsent_after (l.count - l.rest) l.fn.self;
}

abbrev pub decreases-loop-rest : goal.decreases-loop-rest
decreases-loop-rest l = l.rest
