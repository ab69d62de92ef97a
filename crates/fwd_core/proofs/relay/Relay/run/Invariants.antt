use Rattle.std.proofs.Common.{◌≡◌, ◌≤◌, length, take, vec_capacity}
use Rattle.fwd_core.specs.Runs.{AreStepsOf}
use Rattle.fwd_core.proofs.relay.Relay.run.Given as goal

-- the answers so far are those of steps, and there is room for the rest
abbrev pub invariant-loop-event : goal.invariant-loop-event
invariant-loop-event l = record {
  steps : AreStepsOf l.fn.self (take l.event-index l.events) l.answers.items l.self;
  size : length (take l.event-index l.events) ≡ length l.answers.items;
  room : length l.events ≤ vec_capacity l.answers;
}
