use Rattle.std.specs.Prelude.{◌≡◌, length}
use Rattle.fwd_reader.specs.Ends.{AddUp}
use Rattle.fwd_reader.proofs.output.reports_of.Given as goal

-- the reports so far, of each output once
abbrev pub invariant-loop-output : goal.invariant-loop-output
invariant-loop-output g l = (length l.reports.items ≡ l.output-index) × AddUp l.reports.items
