-- Braces by turns, one after the other.
use Rattle.std.proofs.Common.{◌≡◌, ℕ, Bool, true, false, ◌&&◌, List, [], ◌∷◌, refl}
use Rattle.std.specs.Prelude.{filter}
use Rattle.fwd_match.specs.Patterns.{in_pairs, is_closing, is_brace, has_good_braces}

-- braces by turns, from outside or from inside
abbrev pub pairs_from : Bool → List ℕ → Bool
pairs_from false braces = in_pairs braces
pairs_from true [] = false
pairs_from true (first ∷ more) = is_closing first && in_pairs more

pub braces_start : (word : List ℕ)
    → has_good_braces word ≡ pairs_from false (filter is_brace word)
unfolding has_good_braces
braces_start word = refl
