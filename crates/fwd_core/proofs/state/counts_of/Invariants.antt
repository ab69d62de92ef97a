use Rattle.std.proofs.Common.{◌≡◌, take}
use Rattle.std.specs.Prelude.{map}
use Rattle.fwd_chunks.specs.Live.{live_counts}
use Rattle.fwd_core.proofs.state.counts_of.Given as goal

abbrev pub invariant-loop-lane : goal.invariant-loop-lane
invariant-loop-lane l = l.counts.items ≡ map (λ m. live_counts m.output.buffer) (take l.lane-index l.lanes)
