use Rattle.std.proofs.Common.{◌≡◌, ◌≢◌, length, true, false}
use Rattle.std.specs.Prelude.{filter}
use Rattle.std.specs.List.{list_all}
use Rattle.std.specs.Option.{option_copied}
use Rattle.fwd_match.specs.Patterns.{words, has_good_braces, is_something, is_blank}
use Rattle.fwd_match.specs.Marks.{fields_left, size_left}
use Rattle.fwd_match.proofs.pattern.check_words.Given as goal

abbrev pub invariant-loop-rest : goal.invariant-loop-rest
invariant-loop-rest l = record {
  some : l.found ≡ true → length (words l.text) ≢ 0;
  none : l.found ≡ false
      → length (words l.text)
      ≡ length (filter is_something (fields_left is_blank (option_copied l.rest)));
  good : list_all has_good_braces (words l.text)
      ≡ list_all has_good_braces (filter is_something (fields_left is_blank (option_copied l.rest)));
}

abbrev pub decreases-loop-rest : goal.decreases-loop-rest
decreases-loop-rest l = size_left (option_copied l.rest)
