use Rattle.std.proofs.Common.{◌≡◌, ◌++◌, drop}
use Rattle.std.specs.Prelude.{codes}
use Rattle.std.specs.List.{enumerate_from}
use Rattle.std.specs.String.{string_bytes}
use Rattle.fwd_monitor.specs.declared.limits.TheConstants.{MAX_TAGS}
use Rattle.fwd_monitor.proofs.TagLemmas.{left_out_samples}
use Rattle.fwd_monitor.specs.Samples.{head_lines_of}
use Rattle.fwd_monitor.proofs.metrics.push_left_out_by.Given as goal

-- the samples so far, and those that are still to be added
abbrev pub invariant-loop-output : goal.invariant-loop-output
invariant-loop-output l =
    string_bytes l.text
    ++ left_out_samples l.name l.room (enumerate_from l.output (drop l.output l.reports))
    ≡ string_bytes l.fn.text
    ++ (head_lines_of l.name (codes "gauge") l.help
    ++ left_out_samples l.name MAX_TAGS (enumerate_from 0 l.reports))
