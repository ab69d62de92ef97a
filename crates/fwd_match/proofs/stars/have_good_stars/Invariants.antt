use Rattle.std.proofs.Common.{◌≡◌}
use Rattle.std.specs.List.{list_all}
use Rattle.std.specs.Option.{option_copied}
use Rattle.fwd_match.specs.Patterns.{has_good_stars, spellings, choices, is_brace}
use Rattle.fwd_match.specs.Marks.{fields_left, size_left}
use Rattle.fwd_match.specs.Asterisks.{each_front, all_fine}
use Rattle.fwd_match.proofs.stars.have_good_stars.Given as goal

abbrev pub invariant-loop-rest : goal.invariant-loop-rest
invariant-loop-rest l =
    list_all has_good_stars (spellings l.word)
    ≡ each_front l.fronts
    (all_fine (choices l.inside (fields_left is_brace (option_copied l.rest))))

abbrev pub decreases-loop-rest : goal.decreases-loop-rest
decreases-loop-rest l = size_left (option_copied l.rest)
