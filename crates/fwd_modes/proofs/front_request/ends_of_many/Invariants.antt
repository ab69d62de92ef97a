use Rattle.std.proofs.Common.{◌≤◌}
use Rattle.fwd_modes.specs.Fronts.{AreKeptInARow}
use Rattle.fwd_modes.proofs.front_request.ends_of_many.Given as goal

-- so many entries were read, and end here
abbrev pub invariant-loop-place : goal.invariant-loop-place
invariant-loop-place l = record {
  row : AreKeptInARow l.fn.limits.depth l.place l.fn.bytes l.ends.items l.used;
  fits : l.used ≤ l.fn.limits.bytes;
}
