use Rattle.std.proofs.Common.{◌≡◌, ◌≤◌, false, length, drop}
use Rattle.std.specs.List.{concat}
use Rattle.fwd_source.specs.Live.{source_appends}
use Rattle.fwd_source.proofs.laws.answers_fit.Given as goal

-- what was taken, with what is left, is all of it, and what is left has room
abbrev pub invariant-loop-answer : goal.invariant-loop-answer
invariant-loop-answer l = record {
  still : l.source.live.shut ≡ false;
  all : source_appends l.source.live (concat (drop l.answer-index l.answers))
      ≡ source_appends l.fn.source.live (concat l.answers);
  room : length (concat (drop l.answer-index l.answers)) ≤ l.source.room;
}
