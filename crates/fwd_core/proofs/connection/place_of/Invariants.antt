use Rattle.std.proofs.Common.{◌≡◌, ◌++◌, take, drop}
use Rattle.fwd_source.specs.Live.{LiveSource}
use Rattle.fwd_model.specs.Live.{live_source_at, with_live_source}
use Rattle.fwd_core.proofs.connection.place_of.Given as goal

-- nothing before this place has the id
abbrev pub invariant-loop-place : goal.invariant-loop-place
invariant-loop-place l = record {
  found : live_source_at l.id (drop l.place l.connections) ≡ live_source_at l.id l.connections;
  put : (s : LiveSource) → with_live_source l.id s l.connections ≡ take l.place l.connections ++ with_live_source l.id s (drop l.place l.connections);
}
