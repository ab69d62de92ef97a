use Rattle.std.proofs.Common.{◌≡◌, ◌++◌, drop}
use Rattle.std.specs.List.{enumerate_from, flat_map}
use Rattle.std.specs.String.{string_bytes}
use Rattle.fwd_monitor.specs.Tallies.{count_help, count_line, count_name, counter_head}
use Rattle.fwd_monitor.proofs.tallies.push_by_count.Given as goal

-- the samples so far, and those that are still to be added
abbrev pub invariant-loop-output : goal.invariant-loop-output
invariant-loop-output l =
    string_bytes l.text
    ++ flat_map (count_line l.count) (enumerate_from l.output (drop l.output l.outputs))
    ≡ string_bytes l.fn.text
    ++ (counter_head (count_name l.count) (count_help l.count)
    ++ flat_map (count_line l.count) (enumerate_from 0 l.outputs))
