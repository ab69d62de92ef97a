use Rattle.std.proofs.Common.{◌≡◌, take}
use Rattle.fwd_listeners.specs.Endings.{entries_with}
use Rattle.fwd_listeners.proofs.left.Left.with_held.Given as goal

abbrev pub invariant-loop-report : goal.invariant-loop-report
invariant-loop-report l =
    l.entries ≡ entries_with l.fn.self.entries (take l.report-index l.fn.reports)
