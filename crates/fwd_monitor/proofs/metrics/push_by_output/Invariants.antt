use Rattle.std.proofs.Common.{◌≡◌, ◌++◌, drop}
use Rattle.std.specs.List.{enumerate_from, flat_map}
use Rattle.std.specs.String.{string_bytes}
use Rattle.fwd_monitor.specs.Metrics.{
  measure_help,
  measure_kind,
  measure_line,
  measure_name,
}
use Rattle.fwd_monitor.specs.Samples.{head_lines_of}
use Rattle.fwd_monitor.proofs.metrics.push_by_output.Given as goal

-- the samples so far, and those that are still to be added
abbrev pub invariant-loop-output : goal.invariant-loop-output
invariant-loop-output l =
    string_bytes l.text
    ++ flat_map (measure_line l.measure) (enumerate_from l.output (drop l.output l.reports))
    ≡ string_bytes l.fn.text
    ++ (head_lines_of (measure_name l.measure) (measure_kind l.measure) (measure_help l.measure)
    ++ flat_map (measure_line l.measure) (enumerate_from 0 l.reports))
