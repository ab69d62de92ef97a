use Rattle.std.proofs.Common.{◌≡◌}
use Rattle.std.specs.Option.{option_copied}
use Rattle.fwd_match.specs.Patterns.{spellings, spelled, choices, is_brace}
use Rattle.fwd_match.specs.Marks.{fields_left, size_left}
use Rattle.fwd_match.proofs.spelling.spell.Given as goal

abbrev pub invariant-loop-rest : goal.invariant-loop-rest
invariant-loop-rest l =
    spellings l.word
    ≡ spelled l.texts.items (choices l.inside (fields_left is_brace (option_copied l.rest)))

abbrev pub decreases-loop-rest : goal.decreases-loop-rest
decreases-loop-rest l = size_left (option_copied l.rest)
