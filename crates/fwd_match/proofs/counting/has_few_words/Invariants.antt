use Rattle.std.proofs.Common.{◌≡◌, ◌≤◌, ◌+◌, length}
use Rattle.std.specs.Prelude.{filter}
use Rattle.std.specs.List.{flat_map}
use Rattle.std.specs.Option.{option_copied}
use Rattle.fwd_match.specs.Patterns.{expanded, spellings, is_something, is_blank}
use Rattle.fwd_match.specs.Marks.{fields_left, size_left}
use Rattle.fwd_match.specs.declared.limits.TheConstants.{WORD_LIMIT}
use Rattle.fwd_match.proofs.counting.has_few_words.Given as goal

abbrev pub invariant-loop-rest : goal.invariant-loop-rest
invariant-loop-rest l = record {
  bound : l.count ≤ WORD_LIMIT;
  counted : length (expanded l.text)
      ≡ l.count
      + length
      (flat_map spellings (filter is_something (fields_left is_blank (option_copied l.rest))));
}

abbrev pub decreases-loop-rest : goal.decreases-loop-rest
decreases-loop-rest l = size_left (option_copied l.rest)
