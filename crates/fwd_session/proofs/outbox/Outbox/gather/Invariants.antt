use Rattle.std.proofs.Common.{◌≤◌, length, take}
use Rattle.std.specs.List.{concat}
use Rattle.fwd_session.proofs.Gathering.{IsGathered}
use Rattle.fwd_session.proofs.outbox.Outbox.gather.Given as goal

-- the frames up to a place are in the room, as far as they fit
abbrev pub invariant-loop-place : goal.invariant-loop-place
invariant-loop-place l = record {
  within : l.place ≤ length l.self-inside.frames.items;
  gathered : IsGathered (concat (take l.place l.self-inside.frames.items)) l.fn.room l.room l.filled;
}
