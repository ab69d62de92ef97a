-- The definitions at work on small patterns and tags.
use Rattle.std.proofs.Common.{◌≡◌, [], ◌∷◌, Some, None, true, false, refl}
use Rattle.std.specs.Prelude.{codes}
use Rattle.fwd_match.specs.Patterns.{has_good_braces, spellings, has_good_stars, matches, pattern_matches, route, words, parts}
use Rattle.fwd_match.specs.Verdicts.{Good, Bad, verdict}
use Rattle.fwd_match.specs.declared.fault.PatternFault.TheVariants.{Empty, BadBrace, BadStar, TooMany}

parts_of_a_tag : parts (codes "a..b") ≡ codes "a" ∷ [] ∷ codes "b" ∷ []
parts_of_a_tag = refl

parts_of_nothing : parts (codes "") ≡ [] ∷ []
parts_of_nothing = refl

words_of_a_text : words (codes "  a b,c ") ≡ codes "a" ∷ codes "b,c" ∷ []
words_of_a_text = refl

expands : spellings (codes "x.{b,c.d,}.{e,f}")
    ≡ codes "x.b.e" ∷ codes "x.b.f" ∷ codes "x.c.d.e" ∷ codes "x.c.d.f" ∷ codes "x..e"
    ∷ codes "x..f" ∷ []
unfolding spellings
expands = refl

one_alternative : spellings (codes "{a},b") ≡ codes "a,b" ∷ []
unfolding spellings
one_alternative = refl

no_alternative : spellings (codes "{}") ≡ [] ∷ []
unfolding spellings
no_alternative = refl

good : verdict (codes "{a,b}.c x") ≡ Good (codes "a.c" ∷ codes "b.c" ∷ codes "x" ∷ [])
unfolding verdict spellings has_good_braces has_good_stars
good = refl

empty : verdict (codes " ") ≡ Bad Empty
unfolding verdict
empty = refl

unclosed : verdict (codes "a{b") ≡ Bad BadBrace
unfolding verdict has_good_braces
unclosed = refl

unopened : verdict (codes "a b}") ≡ Bad BadBrace
unfolding verdict has_good_braces
unopened = refl

nested : verdict (codes "{a,{b}}") ≡ Bad BadBrace
unfolding verdict has_good_braces
nested = refl

starred : verdict (codes "a*") ≡ Bad BadStar
unfolding verdict spellings has_good_braces has_good_stars
starred = refl

starred_by_expansion : verdict (codes "a.{b,*}*") ≡ Bad BadStar
unfolding verdict spellings has_good_braces has_good_stars
starred_by_expansion = refl

too_many : verdict (codes "{a,b}{a,b}{a,b}{a,b}{a,b}{a,b}{a,b}") ≡ Bad TooMany
unfolding verdict spellings has_good_braces has_good_stars
too_many = refl

star_is_one_part : pattern_matches (codes "a.*" ∷ []) (codes "a.b") ≡ true
unfolding pattern_matches matches
star_is_one_part = refl

star_is_not_two_parts : pattern_matches (codes "a.*" ∷ []) (codes "a.b.c") ≡ false
unfolding pattern_matches matches
star_is_not_two_parts = refl

stars_are_no_part : pattern_matches (codes "a.**" ∷ []) (codes "a") ≡ true
unfolding pattern_matches matches
stars_are_no_part = refl

stars_are_two_parts : pattern_matches (codes "a.**.c" ∷ []) (codes "a.b.b.c") ≡ true
unfolding pattern_matches matches
stars_are_two_parts = refl

either_word : pattern_matches (codes "a" ∷ codes "b" ∷ []) (codes "b") ≡ true
unfolding pattern_matches matches
either_word = refl

second_output : route ((codes "a.*" ∷ []) ∷ (codes "a.**" ∷ []) ∷ []) (codes "a.b.c")
    ≡ Some 1
unfolding route pattern_matches matches
second_output = refl

no_output : route ((codes "a.*" ∷ []) ∷ (codes "a.**" ∷ []) ∷ []) (codes "ab") ≡ None
unfolding route pattern_matches matches
no_output = refl
