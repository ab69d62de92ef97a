use Rattle.std.proofs.Common.{◌≡◌, ◌≤◌, length}
use Rattle.std.specs.Option.{option_copied}
use Rattle.fwd_match.specs.Patterns.{spellings, choices, is_brace}
use Rattle.fwd_match.specs.Marks.{fields_left, size_left}
use Rattle.fwd_match.proofs.Counts.{spelled_count}
use Rattle.fwd_match.specs.declared.limits.TheConstants.{WORD_LIMIT}
use Rattle.fwd_match.proofs.counting.count_spellings.Given as goal

abbrev pub invariant-loop-rest : goal.invariant-loop-rest
invariant-loop-rest l = record {
  bound : l.texts ≤ WORD_LIMIT;
  counted : length (spellings l.word)
      ≡ spelled_count l.texts (choices l.inside (fields_left is_brace (option_copied l.rest)));
}

abbrev pub decreases-loop-rest : goal.decreases-loop-rest
decreases-loop-rest l = size_left (option_copied l.rest)
