use Rattle.std.proofs.Common.{◌≡◌}
use Rattle.std.specs.Prelude.{filter}
use Rattle.std.specs.List.{list_all, flat_map}
use Rattle.std.specs.Option.{option_copied}
use Rattle.fwd_match.specs.Patterns.{has_good_stars, spellings, expanded, is_something, is_blank}
use Rattle.fwd_match.specs.Marks.{fields_left, size_left}
use Rattle.fwd_match.proofs.stars.has_good_stars.Given as goal

abbrev pub invariant-loop-rest : goal.invariant-loop-rest
invariant-loop-rest l =
    list_all has_good_stars (expanded l.text)
    ≡ list_all has_good_stars
    (flat_map spellings (filter is_something (fields_left is_blank (option_copied l.rest))))

abbrev pub decreases-loop-rest : goal.decreases-loop-rest
decreases-loop-rest l = size_left (option_copied l.rest)
