use Rattle.std.proofs.Common.{◌≡◌, ◌++◌}
use Rattle.std.specs.List.{concat}
use Rattle.fwd_chunks.specs.Pieces.{parts_left}
use Rattle.fwd_session.proofs.writing.frame_of.Given as goal

-- what is written, and the parts to come, are the head and all parts
abbrev pub invariant-loop-part : goal.invariant-loop-part
invariant-loop-part l = record {
  all : l.frame.items ++ concat (parts_left l.part-iterator) ≡ l.initial.frame.items ++ concat (parts_left l.initial.part-iterator);
}
