use Rattle.std.proofs.Common.{◌≡◌, ◌+◌, length}
use Rattle.std.specs.Prelude.{All}
use Rattle.std.specs.Vec.Iter.{into_iter_items}
use Rattle.fwd_history.specs.Histories.{Comes}
use Rattle.fwd_reader.specs.Ends.{IsLast}
use Rattle.fwd_reader.proofs.output.end_all.Given as goal

-- each output so far has reported, and the history goes on
abbrev pub invariant-loop-output : goal.invariant-loop-output
invariant-loop-output g l = record {
  count : length l.last.items + length (into_iter_items l.output-iterator) ≡ length l.fn.outputs.items;
  each : All (IsLast l.all) l.last.items;
  onward : Comes l.fn.reached l.all;
}
