-- What a match pattern means (Fluentd's documentation on match patterns). Texts are lists of bytes.
use Rattle.std.specs.Prelude.{ℕ, ◌==◌, Bool, true, false, not, ◌&&◌, ◌||◌, List, [], ◌∷◌, ◌++◌, Option, length, filter, map, position, if◌then◌else◌}
use Rattle.std.specs.List.{slice_split, flat_map, list_all, list_any}
use Rattle.std.specs.Str.{bytes_eq}

-- ---- the bytes that cut a text: blanks, dots, braces and the commas in them

-- a blank, which stands between words: a space or a tab
abbrev pub is_blank : ℕ → Bool
is_blank byte = (byte == 32) || (byte == 9)

-- a dot, which stands between parts
abbrev pub is_dot : ℕ → Bool
is_dot byte = byte == 46

-- a comma, which stands between the texts inside braces
abbrev pub is_comma : ℕ → Bool
is_comma byte = byte == 44

-- a brace that opens
abbrev pub is_opening : ℕ → Bool
is_opening byte = byte == 123

-- a brace that closes
abbrev pub is_closing : ℕ → Bool
is_closing byte = byte == 125

-- a brace of either kind
abbrev pub is_brace : ℕ → Bool
is_brace byte = is_opening byte || is_closing byte

-- an asterisk
abbrev pub is_asterisk : ℕ → Bool
is_asterisk byte = byte == 42

-- a text that is not empty
abbrev pub is_something : List ℕ → Bool
is_something text = not (length text == 0)

-- the words of a text stand between blanks
abbrev pub words : List ℕ → List (List ℕ)
words text = filter is_something (slice_split is_blank text)

-- braces open and close by turns: none is nested, unclosed or unopened
abbrev pub in_pairs : List ℕ → Bool
in_pairs [] = true
in_pairs (first ∷ []) = false
in_pairs (first ∷ second ∷ more) = is_opening first && (is_closing second && in_pairs more)

-- no brace of a word is nested, unclosed or unopened
unfoldable pub has_good_braces : List ℕ → Bool
has_good_braces word = in_pairs (filter is_brace word)

-- the texts that may stand in a place: a comma is a cut only inside braces
abbrev pub alternatives : Bool → List ℕ → List (List ℕ)
alternatives inside text = slice_split (λ byte. inside && is_comma byte) text

-- a word cut at its braces stands by turns outside and inside of them
abbrev pub choices : Bool → List (List ℕ) → List (List (List ℕ))
choices inside [] = []
choices inside (text ∷ more) = alternatives inside text ∷ choices (not inside) more

-- each alternative put behind each text
abbrev pub each_with : List (List ℕ) → List (List ℕ) → List (List ℕ)
each_with texts behind = flat_map (λ text. map (λ more. text ++ more) behind) texts

-- the texts, with one alternative of each choice put behind them
abbrev pub spelled : List (List ℕ) → List (List (List ℕ)) → List (List ℕ)
spelled texts [] = texts
spelled texts (choice ∷ more) = spelled (each_with texts choice) more

-- the words that a word stands for, once its braces are expanded
unfoldable pub spellings : List ℕ → List (List ℕ)
spellings word = spelled ([] ∷ []) (choices false (slice_split is_brace word))

-- the expanded words of a text
abbrev pub expanded : List ℕ → List (List ℕ)
expanded text = flat_map spellings (words text)

-- a word or a tag is split at dots into parts, empty ones too
abbrev pub parts : List ℕ → List (List ℕ)
parts text = slice_split is_dot text

-- `*` is any one part
abbrev pub is_star : List ℕ → Bool
is_star part = bytes_eq part (42 ∷ [])

-- `**` is any parts, also none
abbrev pub is_stars : List ℕ → Bool
is_stars part = bytes_eq part (42 ∷ 42 ∷ [])

-- a part has no `*`, or is `*` or `**`
abbrev pub is_good_part : List ℕ → Bool
is_good_part part = is_star part || (is_stars part || not (list_any is_asterisk part))

-- each part of a word has no `*`, or is `*` or `**`
unfoldable pub has_good_stars : List ℕ → Bool
has_good_stars word = list_all is_good_part (parts word)

-- the test passes some suffix
abbrev pub some_suffix : (List (List ℕ) → Bool) → List (List ℕ) → Bool
some_suffix test [] = test []
some_suffix test (part ∷ more) = test (part ∷ more) || some_suffix test more

-- a part of a word that is no `**` fits a part of a tag
abbrev pub fits : List ℕ → List ℕ → Bool
fits wanted part = is_star wanted || bytes_eq wanted part

-- there is a first part that fits, and the test passes the rest
abbrev pub one_part : List ℕ → (List (List ℕ) → Bool) → List (List ℕ) → Bool
one_part wanted test [] = false
one_part wanted test (part ∷ more) = fits wanted part && test more

-- whether the parts of a word match the parts of a tag
unfoldable pub matches : List (List ℕ) → List (List ℕ) → Bool
matches [] [] = true
matches [] (part ∷ more) = false
matches (wanted ∷ word) tag =
    if is_stars wanted then some_suffix (matches word) tag else one_part wanted (matches word) tag

-- whether one of the expanded words matches the tag
unfoldable pub pattern_matches : List (List ℕ) → List ℕ → Bool
pattern_matches pattern tag = list_any (λ word. matches (parts word) (parts tag)) pattern

-- the least output whose pattern matches the tag
unfoldable pub route : List (List (List ℕ)) → List ℕ → Option ℕ
route patterns tag = position (λ pattern. pattern_matches pattern tag) patterns
