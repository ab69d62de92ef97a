use Rattle.std.proofs.Common.{◌≡◌, ◌++◌, drop}
use Rattle.std.specs.List.{flat_map}
use Rattle.std.specs.String.{string_bytes}
use Rattle.fwd_monitor.specs.Page.{report_lines, tag_line_of}
use Rattle.fwd_monitor.proofs.pages.push_report.Given as goal

-- the lines so far, and those that are still to be added
abbrev pub invariant-loop-tag : goal.invariant-loop-tag
invariant-loop-tag l =
    string_bytes l.text ++ flat_map tag_line_of (drop l.tag-index l.fn.report.tags)
    ≡ string_bytes l.fn.text ++ report_lines (l.output, l.fn.report)
