-- How the code goes on through a word and a tag.
use Rattle.std.specs.Prelude.{◌≡◌, ℕ, ◌+◌, true, false, List, [], ◌∷◌, length, Option, Some, None}
use Rattle.std.specs.Option.{option_copied}
use Rattle.fwd_match.specs.Patterns.{matches, some_suffix, is_dot}
use Rattle.fwd_match.specs.Marks.{fields_left}
use Rattle.fwd_match.specs.declared.matching.Remainder.{Remainder}
use Rattle.fwd_match.specs.declared.matching.MatchStep.{MatchStep}
use Rattle.fwd_match.specs.declared.matching.MatchStep.TheVariants.{Ends, Fits, Stars, Differs}

-- the parts that are left of the word
abbrev pub word_left : Remainder → List (List ℕ)
word_left at = fields_left is_dot (option_copied at.word)

-- the parts that are left of the tag
abbrev pub tag_left : Remainder → List (List ℕ)
tag_left at = fields_left is_dot (option_copied at.tag)

-- one part is taken from both, and the word behind it is
-- found in some suffix wherever all of it was
pub record TakesOne (word tag word' tag' : List (List ℕ)) : Type 0 where
  pub same : matches word tag ≡ matches word' tag'
  pub shorter_word : length word ≡ length word' + 1
  pub shorter_tag : length tag ≡ length tag' + 1
  pub later : some_suffix (matches word) tag ≡ true → some_suffix (matches word') tag' ≡ true

-- `**` is taken from the word
pub record TakesStars (word tag word' tag' : List (List ℕ)) : Type 0 where
  pub same : matches word tag ≡ some_suffix (matches word') tag'
  pub shorter_word : length word ≡ length word' + 1
  pub tag_stays : tag' ≡ tag
  pub later : some_suffix (matches word) tag ≡ true → matches word tag ≡ true

-- a step says the truth of a place: it matches, or differs,
-- or one part or a `**` is taken to come to the next place
abbrev pub IsStep : Remainder → MatchStep → Type 0
IsStep at Ends = matches (word_left at) (tag_left at) ≡ true
IsStep at (Fits next) = TakesOne (word_left at) (tag_left at) (word_left next) (tag_left next)
IsStep at (Stars next) = TakesStars (word_left at) (tag_left at) (word_left next) (tag_left next)
IsStep at Differs = matches (word_left at) (tag_left at) ≡ false

-- one part is taken from the tag
abbrev pub IsLater : Remainder → Option Remainder → Type 0
IsLater at None = tag_left at ≡ []
IsLater at (Some next) =
    (part : List ℕ)
    × ((tag_left at ≡ part ∷ tag_left next) × (word_left next ≡ word_left at))
