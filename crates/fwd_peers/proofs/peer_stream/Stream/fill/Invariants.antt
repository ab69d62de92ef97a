use Rattle.std.proofs.Common.{◌≡◌, ◌≤◌, length, take}
use Rattle.fwd_peers.proofs.Visiting.{IsUnderWay}
use Rattle.fwd_peers.proofs.peer_stream.Stream.fill.Given as goal

-- so many bytes stand in the room: those that the calls moved
abbrev pub invariant-loop : goal.invariant-loop
invariant-loop g l = record {
  within : l.count ≤ length l.room;
  way : IsUnderWay l.counter (g.Self.Stream.reads l.initial.self) (take l.count l.room) (g.Self.Stream.reads l.self);
  other : (g.Self.Stream.writes l.self) ≡ (g.Self.Stream.writes l.initial.self);
}
