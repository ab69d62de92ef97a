use Rattle.std.proofs.Common.{◌≡◌, ◌≤◌, length, take}
use Rattle.fwd_peers.proofs.Visiting.{IsUnderWay}
use Rattle.fwd_peers.proofs.peer_stream.Stream.send.Given as goal

-- so many bytes were taken: those that the calls moved
abbrev pub invariant-loop : goal.invariant-loop
invariant-loop g l = record {
  within : l.count ≤ length l.bytes;
  way : IsUnderWay l.counter (g.Self.Stream.writes l.initial.self) (take l.count l.bytes) (g.Self.Stream.writes l.self);
  other : (g.Self.Stream.reads l.self) ≡ (g.Self.Stream.reads l.initial.self);
}
