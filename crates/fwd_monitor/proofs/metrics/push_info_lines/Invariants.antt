use Rattle.std.proofs.Common.{◌≡◌, ◌++◌, drop}
use Rattle.std.specs.List.{enumerate_from, flat_map}
use Rattle.fwd_monitor.specs.Metrics.{info_line}
use Rattle.fwd_monitor.proofs.metrics.push_info_lines.Given as goal

-- the samples so far, and those that are still to be added
abbrev pub invariant-loop-output : goal.invariant-loop-output
invariant-loop-output l =
    l.page.items ++ flat_map (info_line l.name) (enumerate_from l.output (drop l.output l.outputs))
    ≡ l.fn.page.items ++ flat_map (info_line l.name) (enumerate_from 0 l.outputs)
