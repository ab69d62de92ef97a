use Rattle.std.proofs.Common.{◌≡◌, ◌++◌, drop}
use Rattle.std.specs.Prelude.{codes}
use Rattle.std.specs.List.{enumerate_from, flat_map}
use Rattle.std.specs.String.{string_bytes}
use Rattle.fwd_monitor.specs.Metrics.{figure_help, figure_line, figure_name}
use Rattle.fwd_monitor.specs.Samples.{head_lines_of}
use Rattle.fwd_monitor.proofs.metrics.push_by_figure.Given as goal

-- the samples so far, and those that are still to be added
abbrev pub invariant-loop-output : goal.invariant-loop-output
invariant-loop-output l =
    string_bytes l.text
    ++ flat_map (figure_line l.figure) (enumerate_from l.output (drop l.output l.outputs))
    ≡ string_bytes l.fn.text
    ++ (head_lines_of (figure_name l.figure) (codes "gauge") (figure_help l.figure)
    ++ flat_map (figure_line l.figure) (enumerate_from 0 l.outputs))
