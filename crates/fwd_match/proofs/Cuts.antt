-- Where a text is first cut.
use Rattle.std.proofs.Common.{◌≡◌, ◌<◌, ◌≤◌, ◌+◌, ℕ, Bool, true, false, List, [], ◌∷◌, Some, None, length, take, drop, refl, ap, ◌∙◌, arith, cond, not}
use Rattle.std.specs.Prelude.{position}
use Rattle.std.specs.List.{slice_split, onto_first, position_or_len}
use Rattle.std.proofs.lemmas.List.Splits.{slice_split_first}
use Rattle.std.proofs.lemmas.Bool.Decides.{nat_tests}

some_of_choice : (b : Bool) (n at : ℕ) → cond b (Some n) None ≡ Some at
    → (b ≡ true) × (n ≡ at)
some_of_choice true n at e = (refl, cc)
some_of_choice false n at e = cc

none_of_choice : (b : Bool) (n : ℕ) → cond b (Some n) None ≡ None → b ≡ false
none_of_choice true n e = cc
none_of_choice false n e = refl

-- cut at the first place that passes
pub split_at_some : (test : ℕ → Bool) (bytes : List ℕ) (at : ℕ)
    → position test bytes ≡ Some at →
    slice_split test bytes ≡ take at bytes ∷ slice_split test (drop (at + 1) bytes)
split_at_some test bytes at e =
    let both = some_of_choice _ _ at e in
    let within : position_or_len test bytes < length bytes = grind (arith, nat_tests, both.0) in
    slice_split_first test bytes 0 within ∙ ap (λ (k : ℕ). take k bytes ∷ slice_split test (drop (k + 1) bytes)) both.1

uncut_step : (passes : Bool) (rest : List (List ℕ)) (byte : ℕ) (bytes : List ℕ) (n : ℕ) →
    length (byte ∷ bytes) ≤ cond (not passes) (1 + n) 0 → (length bytes ≤ n → rest ≡ bytes ∷ []) →
    cond passes ([] ∷ rest) (onto_first byte rest) ≡ (byte ∷ bytes) ∷ []
uncut_step true rest byte bytes n h is = absurd (omega arith)
uncut_step false rest byte bytes n h is = rw (is (omega arith)) refl

uncut : (test : ℕ → Bool) (bytes : List ℕ) → length bytes ≤ position_or_len test bytes
    → slice_split test bytes ≡ bytes ∷ []
uncut test [] h = refl
uncut test (byte ∷ bytes) h = uncut_step (test byte) (slice_split test bytes) byte bytes (position_or_len test bytes) h (uncut test bytes)

pub split_at_none : (test : ℕ → Bool) (bytes : List ℕ) → position test bytes ≡ None
    → slice_split test bytes ≡ bytes ∷ []
split_at_none test bytes e =
    let fails = none_of_choice _ _ e in
    uncut test bytes (grind (arith, nat_tests, fails))
