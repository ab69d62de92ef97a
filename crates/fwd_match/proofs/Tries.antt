-- What is still to be tried, after the last `**`.
use Rattle.std.proofs.Common.{◌+◌, ℕ, Bool, false, List, [], Option, Some, None, length}
use Rattle.fwd_match.specs.Patterns.{matches, some_suffix}
use Rattle.fwd_match.specs.Steps.{word_left, tag_left}
use Rattle.fwd_match.specs.declared.matching.Remainder.{Remainder}

-- whether a later try matches
abbrev pub retried : Option Remainder → Bool
retried None = false
retried (Some again) = some_suffix (matches (word_left again)) (tag_left again)

abbrev pub tried_word : Option Remainder → List (List ℕ)
tried_word None = []
tried_word (Some again) = word_left again

-- how many tries are left at most
abbrev pub weight : Option Remainder → List (List ℕ) → ℕ
weight None tag = length tag
weight (Some again) tag = length (tag_left again) + 1
