use Rattle.std.proofs.Common.{◌≡◌, take}
use Rattle.std.specs.Prelude.{map}
use Rattle.fwd_chunks.specs.TagCounts.{live_report}
use Rattle.fwd_core.proofs.state.reports_of.Given as goal

abbrev pub invariant-loop-lane : goal.invariant-loop-lane
invariant-loop-lane l = l.reports.items ≡ map (λ m. live_report m.output.buffer) (take l.lane-index l.lanes)
