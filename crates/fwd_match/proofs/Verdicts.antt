-- The verdict on a text, fault by fault.
use Rattle.std.proofs.Common.{◌≡◌, ◌≢◌, ◌<◌, ◌≤◌, ℕ, Bool, true, false, List, ◌∷◌, length, refl, arith, eqb, nat_lt}
use Rattle.std.specs.Prelude.{filter}
use Rattle.std.specs.List.{list_all}
use Rattle.std.proofs.lemmas.Bool.Decides.{nat_tests}
use Rattle.fwd_match.specs.Patterns.{words, expanded, has_good_braces, has_good_stars, is_something}
use Rattle.fwd_match.specs.declared.limits.TheConstants.{WORD_LIMIT}
use Rattle.fwd_match.specs.Verdicts.{Good, Bad, verdict}
use Rattle.fwd_match.specs.declared.fault.PatternFault.TheVariants.{Empty, BadBrace, BadStar, TooMany}

some_words : (n : ℕ) → n ≢ 0 → eqb n 0 ≡ false
some_words n h = grind (arith, nat_tests)

many : (n : ℕ) → WORD_LIMIT < n → nat_lt WORD_LIMIT n ≡ true
many n h = grind (arith, nat_tests)

few : (n : ℕ) → n ≤ WORD_LIMIT → nat_lt WORD_LIMIT n ≡ false
few n h = grind (arith, nat_tests)

pub empty_verdict : (text : List ℕ) → length (words text) ≡ 0 → verdict text ≡ Bad Empty
unfolding verdict
empty_verdict text e = rw e refl

pub brace_verdict : (text : List ℕ) → length (words text) ≢ 0
    → list_all has_good_braces (words text) ≡ false → verdict text ≡ Bad BadBrace
unfolding verdict
brace_verdict text some bad = rw (some_words (length (words text)) some, bad) refl

pub many_verdict : (text : List ℕ) → length (words text) ≢ 0
    → list_all has_good_braces (words text) ≡ true → WORD_LIMIT < length (expanded text)
    → verdict text ≡ Bad TooMany
unfolding verdict
many_verdict text some good more = rw (some_words (length (words text)) some, good, many (length (expanded text)) more) refl

pub star_verdict : (text : List ℕ) → length (words text) ≢ 0
    → list_all has_good_braces (words text) ≡ true → length (expanded text) ≤ WORD_LIMIT →
    list_all has_good_stars (expanded text) ≡ false → verdict text ≡ Bad BadStar
unfolding verdict
star_verdict text some good fit bad = rw (some_words (length (words text)) some, good, few (length (expanded text)) fit, bad) refl

pub good_verdict : (text : List ℕ) → length (words text) ≢ 0
    → list_all has_good_braces (words text) ≡ true → length (expanded text) ≤ WORD_LIMIT →
    list_all has_good_stars (expanded text) ≡ true → verdict text ≡ Good (expanded text)
unfolding verdict
good_verdict text some good fit stars = rw (some_words (length (words text)) some, good, few (length (expanded text)) fit, stars) refl

-- a field with something in it is a word
pub word_stays : (word : List ℕ) (more : List (List ℕ)) → eqb (length word) 0 ≡ false
    → filter is_something (word ∷ more) ≡ word ∷ filter is_something more
word_stays word more e = rw e refl

pub bad_word : (word : List ℕ) (more : List (List ℕ)) → eqb (length word) 0 ≡ false
    → has_good_braces word ≡ false
    → list_all has_good_braces (filter is_something (word ∷ more)) ≡ false
bad_word word more some bad = rw (some, bad) refl

pub still_some : (found : Bool) (n : ℕ) (more : List (List ℕ)) → (found ≡ true → n ≢ 0)
    → (found ≡ false → n ≡ length more) → 0 < length more → n ≢ 0
still_some true n more some none here = some refl
still_some false n more some none here = λ e. let at = none refl in omega arith
