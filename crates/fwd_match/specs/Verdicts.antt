-- Whether a text is a pattern.
use Rattle.std.specs.Prelude.{ℕ, ◌==◌, not, nat_lt, List, length, if◌then◌else◌}
use Rattle.std.specs.List.{list_all}
use Rattle.fwd_match.specs.Patterns.{words, expanded, has_good_braces, has_good_stars}
use Rattle.fwd_match.specs.declared.limits.TheConstants.{WORD_LIMIT}
use Rattle.fwd_match.specs.declared.fault.PatternFault.{PatternFault}
use Rattle.fwd_match.specs.declared.fault.PatternFault.TheVariants.{Empty, BadBrace, BadStar, TooMany}

-- a text is a pattern of these words, or it has a fault
pub data Verdict : Type 0 where
  Good : (pattern : List (List ℕ)) → Verdict
  Bad : (fault : PatternFault) → Verdict

-- the first fault of a text in the order of judgement, or its expanded words
unfoldable pub verdict : List ℕ → Verdict
verdict text =
    if length (words text) == 0 then Bad Empty
    else (if not (list_all has_good_braces (words text)) then Bad BadBrace
    else (if nat_lt WORD_LIMIT (length (expanded text)) then Bad TooMany
    else (if not (list_all has_good_stars (expanded text)) then Bad BadStar
    else Good (expanded text))))
