use Rattle.std.proofs.Common.{◌≡◌, ◌++◌, drop}
use Rattle.std.specs.List.{enumerate_from, flat_map}
use Rattle.std.specs.String.{string_bytes}
use Rattle.fwd_monitor.specs.Page.{page_of, report_lines}
use Rattle.fwd_monitor.proofs.pages.page.Given as goal

-- the lines so far, and those that are still to be added
abbrev pub invariant-loop-output : goal.invariant-loop-output
invariant-loop-output l =
    string_bytes l.text ++ flat_map report_lines (enumerate_from l.output (drop l.output l.reports))
    ≡ page_of l.reports
