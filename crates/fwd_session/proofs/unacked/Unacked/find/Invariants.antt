use Rattle.std.proofs.Common.{◌≡◌, false, take}
use Rattle.std.specs.List.{list_any}
use Rattle.std.specs.Str.{bytes_eq}
use Rattle.fwd_session.specs.Flights.{PendingChunk}
use Rattle.fwd_session.proofs.unacked.Unacked.find.Given as goal

-- none of those before has the name
abbrev pub invariant-loop-place : goal.invariant-loop-place
invariant-loop-place l = list_any (λ (p : PendingChunk). bytes_eq l.name p.chunk.name) (take l.place l.self) ≡ false
