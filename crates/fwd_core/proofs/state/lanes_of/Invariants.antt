use Rattle.std.proofs.Common.{◌≡◌, take, length}
use Rattle.fwd_core.specs.Lanes.{new_live_lanes}
use Rattle.fwd_core.proofs.state.lanes_of.Given as goal

-- the outputs so far
abbrev pub invariant-loop-config : goal.invariant-loop-config
invariant-loop-config l = record {
  all : l.lanes.items ≡ new_live_lanes l.run 0 (take l.config-index l.configs);
  count : length l.lanes.items ≡ l.config-index;
}
