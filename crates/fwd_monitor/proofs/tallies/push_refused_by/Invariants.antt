use Rattle.std.proofs.Common.{◌≡◌, ◌++◌, drop}
use Rattle.std.specs.List.{enumerate_from, flat_map}
use Rattle.std.specs.String.{string_bytes}
use Rattle.fwd_monitor.specs.Tallies.{counter_head, refused_samples}
use Rattle.fwd_monitor.proofs.tallies.push_refused_by.Given as goal

-- the samples so far, and those that are still to be added
abbrev pub invariant-loop-output : goal.invariant-loop-output
invariant-loop-output l =
    string_bytes l.text
    ++ flat_map (refused_samples l.name) (enumerate_from l.output (drop l.output l.outputs))
    ≡ string_bytes l.fn.text
    ++ (counter_head l.name l.help
    ++ flat_map (refused_samples l.name) (enumerate_from 0 l.outputs))
