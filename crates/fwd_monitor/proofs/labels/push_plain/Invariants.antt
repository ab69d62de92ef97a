use Rattle.std.proofs.Common.{◌≡◌, ◌++◌, drop}
use Rattle.std.specs.Prelude.{codes}
use Rattle.fwd_monitor.specs.Samples.{escaped}
use Rattle.fwd_monitor.proofs.labels.push_plain.Given as goal

-- the bytes so far, and those that are still to be added
abbrev pub invariant-loop-byte : goal.invariant-loop-byte
invariant-loop-byte l =
    l.page.items ++ escaped (drop l.byte-index l.text)
    ≡ l.fn.page.items ++ l.name ++ codes "=\"" ++ escaped l.text
