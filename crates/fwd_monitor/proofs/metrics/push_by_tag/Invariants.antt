use Rattle.std.proofs.Common.{◌≡◌, ◌++◌, drop}
use Rattle.std.specs.List.{enumerate_from}
use Rattle.std.specs.Prelude.{codes}
use Rattle.fwd_monitor.specs.declared.limits.TheConstants.{MAX_TAGS}
use Rattle.fwd_monitor.specs.Metrics.{tag_measure_help, tag_measure_name}
use Rattle.fwd_monitor.specs.Samples.{head_lines_of}
use Rattle.fwd_monitor.proofs.TagLemmas.{tag_samples}
use Rattle.fwd_monitor.proofs.metrics.push_by_tag.Given as goal

-- the samples so far, and those that are still to be added
abbrev pub invariant-loop-output : goal.invariant-loop-output
invariant-loop-output l =
    l.page.items
    ++ tag_samples l.measure l.room (enumerate_from l.output (drop l.output l.reports))
    ≡ l.fn.page.items
    ++ (head_lines_of (tag_measure_name l.measure) (codes "gauge") (tag_measure_help l.measure)
    ++ tag_samples l.measure MAX_TAGS (enumerate_from 0 l.reports))
