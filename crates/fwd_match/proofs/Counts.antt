-- How many words there are, as they are counted from left to right.
use Rattle.std.proofs.Common.{◌≡◌, ◌+◌, ◌*◌, ◌≤◌, ℕ, Bool, not, List, [], ◌∷◌, ◌++◌, length, length-append, map, refl, ap, ◌∙◌, arith, false}
use Rattle.std.specs.List.{slice_split}
use Rattle.std.proofs.Math.Nat.{mul-suc, suc-mul, le-mul_of_pos_right}
use Rattle.fwd_match.specs.Patterns.{alternatives, choices, each_with, spelled, spellings, is_brace}
use Rattle.fwd_match.proofs.Spellings.{length_behind, some_alternative, spellings_start}

-- how many texts come of so many with the choices that are left
abbrev pub spelled_count : ℕ → List (List (List ℕ)) → ℕ
spelled_count count [] = count
spelled_count count (choice ∷ more) = spelled_count (count * length choice) more

-- one more of so many
pub times_more : (count : ℕ) (first : List ℕ) (more : List (List ℕ))
    → count * length (first ∷ more) ≡ count + count * length more
times_more count first more = omega (arith, mul-suc count (length more))

length_each_with : (texts behind : List (List ℕ))
    → length (each_with texts behind) ≡ length texts * length behind
length_each_with [] behind = omega arith
length_each_with (text ∷ texts) behind =
    length-append (map (λ more. text ++ more) behind) (each_with texts behind)
    ∙ omega (arith, length_behind text behind, length_each_with texts behind, suc-mul (length texts) (length behind))

length_spelled : (texts : List (List ℕ)) (choices : List (List (List ℕ)))
    → length (spelled texts choices) ≡ spelled_count (length texts) choices
length_spelled texts [] = refl
length_spelled texts (choice ∷ more) =
    length_spelled (each_with texts choice) more ∙ ap (λ (n : ℕ). spelled_count n more) (length_each_with texts choice)

-- a word begins with one text, which is empty
pub count_start : (word : List ℕ)
    → length (spellings word) ≡ spelled_count 1 (choices false (slice_split is_brace word))
count_start word =
    ap length (spellings_start word ([] ∷ []) refl) ∙ length_spelled ([] ∷ []) (choices false (slice_split is_brace word))

-- no choice leaves fewer texts
pub count_grows : (inside : Bool) (count : ℕ) (fields : List (List ℕ))
    → count ≤ spelled_count count (choices inside fields)
count_grows inside count [] = omega arith
count_grows inside count (text ∷ more) =
    let here = le-mul_of_pos_right count (some_alternative inside text) in
    let later = count_grows (not inside) (count * length (alternatives inside text)) more in
    omega (arith, here, later)
