use Rattle.std.proofs.Common.{◌≤◌, length, take}
use Rattle.std.specs.List.{concat}
use Rattle.fwd_chunks.specs.Lending.{IsLent}
use Rattle.fwd_session.proofs.outbox.Outbox.lend.Given as goal

-- the frames up to a place are lent, as far as there is place for them
abbrev pub invariant-loop-place : goal.invariant-loop-place
invariant-loop-place l = record {
  within : l.place ≤ length l.self-inside.frames.items;
  lent : IsLent l.fn.pieces (concat (take l.place l.self-inside.frames.items)) l.lent;
}
