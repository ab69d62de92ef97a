use Rattle.std.proofs.Common.{◌≡◌, ◌≤◌, ◌+◌, ◌*◌, ◌||◌, length, true}
use Rattle.fwd_match.specs.Patterns.{matches, parts, some_suffix}
use Rattle.fwd_match.specs.Steps.{word_left, tag_left}
use Rattle.fwd_match.proofs.Tries.{retried, weight, tried_word}
use Rattle.fwd_match.proofs.matching.parts_match.Given as goal

abbrev pub invariant-loop-next : goal.invariant-loop-next
invariant-loop-next l = record {
  answer : matches (parts l.word) (parts l.tag)
      ≡ (matches (word_left l.at) (tag_left l.at) || retried l.again);
  later : retried l.again ≡ true
      → some_suffix (matches (word_left l.at)) (tag_left l.at) ≡ true;
  word_within : length (word_left l.at) ≤ length (parts l.word);
  tried_within : length (tried_word l.again) ≤ length (parts l.word);
  tag_within : length (tag_left l.at) ≤ weight l.again (tag_left l.at);
}

abbrev pub decreases-loop-next : goal.decreases-loop-next
decreases-loop-next l =
    weight l.again (tag_left l.at) * (length (parts l.word) + 1) + length (word_left l.at)
