use Rattle.std.proofs.Common.{◌≡◌, ◌<◌, length, take}
use Rattle.std.specs.Prelude.{map}
use Rattle.std.specs.List.{AllByRecursion}
use Rattle.fwd_session.specs.Flights.{pending_at, pending_of}
use Rattle.fwd_session.proofs.unacked.Unacked.of.Given as goal

-- the places so far are there
abbrev pub invariant-loop-place : goal.invariant-loop-place
invariant-loop-place l = record {
  many : length l.left.items ≡ l.place;
  within : AllByRecursion (λ place. place < length l.chunks) l.left.items;
  same : map (pending_at l.handed_on l.chunks) l.left.items ≡ take l.place (pending_of l.handed_on l.chunks);
}
