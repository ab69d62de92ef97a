-- How many words there are, as braces are expanded.
use Rattle.std.proofs.Common.{◌≡◌, ◌+◌, ◌<◌, ◌≤◌, ℕ, Bool, false, not, ◌&&◌, List, [], ◌∷◌, ◌++◌, length, length-append, append-nil, take, get_or, map, refl, ap, sym, ◌∙◌, arith, suc}
use Rattle.std.specs.List.{slice_split, list_all}
use Rattle.std.proofs.lemmas.List.{take_more}
use Rattle.std.proofs.lemmas.List.Splits.{length-slice_split}
use Rattle.std.proofs.lemmas.List.Folds.{length-flat_map-take}
use Rattle.std.proofs.lemmas.Grind.{flat_map-append}
use Rattle.fwd_match.specs.Patterns.{is_comma, is_brace, is_good_part, parts, alternatives, choices, each_with, spelled, spellings, has_good_stars}

pub length_behind : (text : List ℕ) (behind : List (List ℕ))
    → length (map (λ more. text ++ more) behind) ≡ length behind
length_behind text [] = refl
length_behind text (first ∷ more) = ap suc (length_behind text more)

-- the texts of one front more
pub each_more : (texts behind : List (List ℕ)) (i : ℕ) (front : List ℕ) → i < length texts
    →
    each_with (take (i + 1) texts) behind ≡ each_with (take i texts) behind ++ map
    (λ more. get_or texts i front ++ more) behind
each_more texts behind i front h =
    rw (take_more texts i front h) (flat_map-append (λ (text : List ℕ). map (λ more. text ++ more) behind) (take i texts) (get_or texts i front ∷ []) ∙ simp append-nil)

pub length_each_more : (texts behind : List (List ℕ)) (i : ℕ) → i < length texts →
    length (each_with (take (i + 1) texts) behind) ≡ length
    (each_with (take i texts) behind) + length behind
length_each_more texts behind i h =
    ap length (each_more texts behind i [] h) ∙ length-append (each_with (take i texts) behind) (map (λ more. get_or texts i [] ++ more) behind)
    ∙ ap (λ (n : ℕ). length (each_with (take i texts) behind) + n) (length_behind (get_or texts i []) behind)

pub each_within : (texts behind : List (List ℕ)) (i : ℕ) → i < length texts →
    length (each_with (take i texts) behind) + length behind ≤ length (each_with texts behind)
each_within texts behind i h =
    let within = length-flat_map-take (λ (text : List ℕ). map (λ more. text ++ more) behind) texts i [] h in
    omega (arith, within, length_behind (get_or texts i []) behind)

pub some_alternative : (inside : Bool) (text : List ℕ) → 0 < length (alternatives inside text)
some_alternative inside text = omega (arith, length-slice_split (λ byte. inside && is_comma byte) text)

each_longer : (texts behind : List (List ℕ)) → 0 < length behind
    → length texts ≤ length (each_with texts behind)
each_longer [] behind some = omega arith
each_longer (text ∷ texts) behind some =
    omega (arith, each_longer texts behind some, length_behind text behind, length-append (map (λ more. text ++ more) behind) (each_with texts behind))

-- no text is lost as it is put further
pub spelled_longer : (inside : Bool) (texts fields : List (List ℕ))
    → length texts ≤ length (spelled texts (choices inside fields))
spelled_longer inside texts [] = omega arith
spelled_longer inside texts (text ∷ more) =
    omega (arith, each_longer texts (alternatives inside text) (some_alternative inside text), spelled_longer (not inside) (each_with texts (alternatives inside text)) more)

pub spellings_start : (word : List ℕ) (texts : List (List ℕ)) → texts ≡ [] ∷ []
    → spellings word ≡ spelled texts (choices false (slice_split is_brace word))
unfolding spellings
spellings_start word texts e = ap (λ (t : List (List ℕ)). spelled t (choices false (slice_split is_brace word))) (sym e)

pub stars_start : (word : List ℕ) → has_good_stars word ≡ list_all is_good_part (parts word)
unfolding has_good_stars
stars_start word = refl
