-- Words against tags: a later `**` never has to give back what an earlier one took.
use Rattle.std.proofs.Common.{◌≡◌, ◌<◌, ℕ, Bool, true, false, ◌||◌, ◌&&◌, List, [], ◌∷◌, Option, Some, None, Bor, length, add-one, refl, sym, ◌∙◌, arith}
use Rattle.std.specs.Prelude.{is_some}
use Rattle.std.specs.List.{slice_split}
use Rattle.std.specs.Option.{option_copied}
use Rattle.std.proofs.lemmas.List.Splits.{length-slice_split}
use Rattle.std.proofs.lemmas.Slice.Eq.{bytes_eq-Decides}
use Rattle.fwd_match.specs.Marks.{fields_left}
use Rattle.fwd_match.specs.Steps.{TakesOne, TakesStars}
use Rattle.fwd_match.specs.Patterns.{matches, one_part, some_suffix, fits, is_stars, is_dot, parts}

pub true_right : (b : Bool) → (b || true) ≡ true
true_right true = refl
true_right false = refl

or_cases : (a b : Bool) (P : Type 0) → (a ≡ true → P) → (b ≡ true → P)
    → (a || b) ≡ true → P
or_cases true b P left right h = left refl
or_cases false b P left right h = right h

and_right : (a b : Bool) → (a && b) ≡ true → b ≡ true
and_right true b h = h
and_right false b h = cc

pub same_or : (a b : Bool) → (b ≡ true → a ≡ true) → (a || b) ≡ a
same_or true b h = refl
same_or false true h = sym (h refl)
same_or false false h = refl

-- some suffix passes where the whole does
pub whole_passes : (test : List (List ℕ) → Bool) (tag : List (List ℕ)) → test tag ≡ true
    → some_suffix test tag ≡ true
whole_passes test [] h = h
whole_passes test (part ∷ more) h = rw h refl

-- a suffix of a suffix is a suffix
pub suffix_of_suffix : (test : List (List ℕ) → Bool) (tag : List (List ℕ))
    → some_suffix (some_suffix test) tag ≡ true → some_suffix test tag ≡ true
suffix_of_suffix test [] h = h
suffix_of_suffix test (part ∷ more) h =
    or_cases (some_suffix test (part ∷ more)) (some_suffix (some_suffix test) more) (some_suffix test (part ∷ more) ≡ true)
    (λ here. here)
    (λ later. rw (suffix_of_suffix test more later) (true_right (test (part ∷ more))))
    h

-- where one part more of the word is wanted from some suffix,
-- its rest is found in a suffix of the rest of the tag
pub later_rest :
    (wanted : List ℕ) (test : List (List ℕ) → Bool) (part : List ℕ) (more : List (List ℕ))
    →
    some_suffix (one_part wanted test) (part ∷ more) ≡ true → some_suffix test more ≡ true
later_rest wanted test part [] h =
    or_cases (one_part wanted test (part ∷ [])) (some_suffix (one_part wanted test) []) (some_suffix test [] ≡ true)
    (λ here. and_right (fits wanted part) (test []) here) (λ later. cc) h
later_rest wanted test part (next ∷ more) h =
    or_cases (one_part wanted test (part ∷ next ∷ more)) (some_suffix (one_part wanted test) (next ∷ more)) (some_suffix test (next ∷ more) ≡ true)
    (λ here. whole_passes test (next ∷ more) (and_right (fits wanted part) (test (next ∷ more)) here))
    (λ later. rw (later_rest wanted test next more later) (true_right (test (next ∷ more))))
    h

same_tests : (one other : List (List ℕ) → Bool)
    → ((tag : List (List ℕ)) → one tag ≡ other tag) → (tag : List (List ℕ))
    → some_suffix one tag ≡ some_suffix other tag
same_tests one other same [] = same []
same_tests one other same (part ∷ more) = rw (same (part ∷ more), same_tests one other same more) refl

at_stars : (wanted : List ℕ) (word tag : List (List ℕ)) → is_stars wanted ≡ true
    → matches (wanted ∷ word) tag ≡ some_suffix (matches word) tag
unfolding matches
at_stars wanted word tag e = rw e refl

at_part : (wanted : List ℕ) (word tag : List (List ℕ)) → is_stars wanted ≡ false
    → matches (wanted ∷ word) tag ≡ one_part wanted (matches word) tag
unfolding matches
at_part wanted word tag e = rw e refl

pub ends_here : matches [] [] ≡ true
unfolding matches
ends_here = refl

pub too_long : (part : List ℕ) (tag : List (List ℕ)) → matches [] (part ∷ tag) ≡ false
unfolding matches
too_long part tag = refl

pub takes_stars : (wanted : List ℕ) (word tag : List (List ℕ)) → is_stars wanted ≡ true
    → TakesStars (wanted ∷ word) tag word tag
takes_stars wanted word tag e = record {
  same = at_stars wanted word tag e;
  shorter_word = simp add-one;
  tag_stays = refl;
  later = λ h. at_stars wanted word tag e ∙ suffix_of_suffix (matches word) tag (sym (same_tests (matches (wanted ∷ word)) (some_suffix (matches word)) (λ t. at_stars wanted word t e) tag) ∙ h);
}

pub takes_one :
    (wanted : List ℕ) (word : List (List ℕ)) (part : List ℕ) (tag : List (List ℕ))
    → is_stars wanted ≡ false → fits wanted part ≡ true →
    TakesOne (wanted ∷ word) (part ∷ tag) word tag
takes_one wanted word part tag e f = record {
  same = at_part wanted word (part ∷ tag) e ∙ rw f refl;
  shorter_word = simp add-one;
  shorter_tag = simp add-one;
  later = λ h. later_rest wanted (matches word) part tag (sym (same_tests (matches (wanted ∷ word)) (one_part wanted (matches word)) (λ t. at_part wanted word t e) (part ∷ tag)) ∙ h);
}

pub misses : (wanted : List ℕ) (word : List (List ℕ)) (part : List ℕ) (tag : List (List ℕ))
    → is_stars wanted ≡ false → fits wanted part ≡ false →
    matches (wanted ∷ word) (part ∷ tag) ≡ false
misses wanted word part tag e f = at_part wanted word (part ∷ tag) e ∙ rw f refl

pub too_short : (wanted : List ℕ) (word : List (List ℕ)) → is_stars wanted ≡ false
    → matches (wanted ∷ word) [] ≡ false
too_short wanted word e = at_part wanted word [] e

pub too_long_tag : (tag : List (List ℕ)) → 0 < length tag → matches [] tag ≡ false
too_long_tag [] some = absurd (omega arith)
too_long_tag (part ∷ tag) some = too_long part tag

pub both_end : (tag : Option (Bor (List ℕ))) → is_some tag ≡ false
    → matches [] (fields_left is_dot (option_copied tag)) ≡ true
both_end None none = ends_here
both_end (Some bytes) none = cc

pub word_ends : (tag : Option (Bor (List ℕ))) → is_some tag ≡ true
    → matches [] (fields_left is_dot (option_copied tag)) ≡ false
word_ends None some = cc
word_ends (Some bytes) some = too_long_tag (slice_split is_dot bytes.now) (omega (arith, length-slice_split is_dot bytes.now))

-- `**` at its end takes all that is left
takes_all : (tag : List (List ℕ)) → some_suffix (matches []) tag ≡ true
takes_all [] = ends_here
takes_all (part ∷ more) = rw (takes_all more) (true_right (matches [] (part ∷ more)))

all_match : (tag : List (List ℕ)) → matches ((42 ∷ 42 ∷ []) ∷ []) tag ≡ true
all_match tag = at_stars (42 ∷ 42 ∷ []) [] tag refl ∙ takes_all tag

-- the word `**` matches each tag
pub stars_match : (word tag : List ℕ) → is_stars word ≡ true
    → matches (parts word) (parts tag) ≡ true
stars_match word tag e =
    let same : word ≡ 42 ∷ 42 ∷ [] = (bytes_eq-Decides word (42 ∷ 42 ∷ [])).0 e in
    rw same (all_match (parts tag))
