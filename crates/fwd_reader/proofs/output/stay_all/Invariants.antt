use Rattle.std.proofs.Common.{◌≡◌, ◌+◌, length}
use Rattle.std.specs.Prelude.{All}
use Rattle.std.specs.Vec.Iter.{into_iter_items}
use Rattle.fwd_reader.specs.Ends.{AddUp, AreReportsAfter, IsLast}
use Rattle.fwd_reader.proofs.output.stay_all.Given as goal

-- the reports so far are true behind the history, and those that are left were reported last
abbrev pub invariant-loop-ended : goal.invariant-loop-ended
invariant-loop-ended g l = record {
  count : length l.reports.items + length (into_iter_items l.ended-iterator) ≡ length l.fn.last.items;
  left : All (IsLast l.fn.reached) (into_iter_items l.ended-iterator);
  add_up : AddUp l.reports.items;
  reached : AreReportsAfter l.fn.reached l.reports.items;
}
