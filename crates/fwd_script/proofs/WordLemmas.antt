-- What a word spells, in both directions.
use Rattle.std.proofs.Common.{◌≡◌, ℕ, ◌+◌, ◌*◌, ◌^◌, ◌<◌, ◌≤◌, ◌&&◌, Bool, true, false, cond, nat_lt, List, length, get_or, take, ◌-◌, Option, Some, None, Result, Ok, Err, refl, sym, ap, subst, ◌∙◌, arith, inl, inr}
use Rattle.std.specs.Prelude.{MatchOption, IfSome}
use Rattle.std.specs.Char.{is_ascii_digit, digit_value}
use Rattle.std.specs.Result.{OkIff, result_ok}
use Rattle.std.specs.Str.{bytes_eq}
use Rattle.std.specs.Str.Parse.{AllDigits, digits_value}
use Rattle.std.specs.Fmt.{decimal}
use Rattle.std.proofs.lemmas.Bool.{and_parts, cases_lt, lt-ltb, ltb-true, false≢true}
use Rattle.std.proofs.lemmas.Bool.Decides.{nat_tests}
use Rattle.std.proofs.lemmas.Slice.Eq.{bytes_eq-Decides}
use Rattle.std.proofs.lemmas.Fmt.{decimal_is_IsNumeral, decimal_digit, decimal-digits_value, decimal_nonempty, first_decimal}
use Rattle.std.proofs.lemmas.Str.Parse.{IsNumeralModel, numerals_by_value, tells_digits, digit_at, digits_value-take-le}
use Rattle.std.proofs.lemmas.Int.Digits.{digits_value_more, digits_more}
use Rattle.fwd_script.specs.Words.{number_of}

-- ---- tests

pub bytes_eq-same : (xs ys : List ℕ) → xs ≡ ys → bytes_eq xs ys ≡ true
bytes_eq-same xs ys e = (bytes_eq-Decides xs ys).1 e

pub bytes_eq-true : (xs ys : List ℕ) → bytes_eq xs ys ≡ true → xs ≡ ys
bytes_eq-true xs ys e = (bytes_eq-Decides xs ys).0 e

-- a choice that gave something
pub chosen_some : {A : Type 0} (b : Bool) (x y : A) → cond b (Some x) None ≡ Some y
    → (b ≡ true) × (x ≡ y)
chosen_some true x y e = (refl, cc)
chosen_some false x y e = absurd cc

-- a choice of nothing
pub chosen_none : {A : Type 0} (b : Bool) (x : A) → (b ≡ true → ⊥)
    → cond b (Some x) None ≡ None
chosen_none true x h = absurd (h refl)
chosen_none false x h = refl

-- ---- numbers

digits_model : IsNumeralModel (AllDigits 10) (digits_value 10)
digits_model = numerals_by_value (AllDigits 10) tells_digits

pub decimal-value : (n : ℕ) → n < 2 ^ 64 → digits_value 10 (decimal n) ≡ n
decimal-value n h = (decimal_is_IsNumeral n h).1

pub number_of-decimal : (limit n : ℕ) → n < limit → n < 2 ^ 64
    → number_of limit (decimal n) ≡ Some n
unfolding number_of
number_of-decimal limit n lt h = rw (decimal-value n h, lt-ltb n limit lt, bytes_eq-same (decimal n) (decimal n) refl) refl

pub number_of-some : (limit : ℕ) (word : List ℕ) (n : ℕ) → number_of limit word ≡ Some n
    → (n < limit) × (word ≡ decimal n)
unfolding number_of
number_of-some limit word n e =
    let v : ℕ = digits_value 10 word in
    let c = chosen_some (nat_lt v limit && bytes_eq word (decimal v)) v n e in
    let t = and_parts (nat_lt v limit) (bytes_eq word (decimal v)) c.0 in
    rw (← c.1) (ltb-true _ _ t.0, bytes_eq-true _ _ t.1)

pub number_of-none : (limit : ℕ) (word : List ℕ)
    → ((n : ℕ) → n < limit → word ≡ decimal n → ⊥) → number_of limit word ≡ None
number_of-none limit word h =
    let P : Option ℕ → Type 0 = λ o. number_of limit word ≡ o → number_of limit word ≡ None in
    (elim (number_of limit word) as P [
      | Some n ↦ λ e. let s = number_of-some limit word n e in absurd (h n s.0 s.1)
      | None ↦ λ e. e
    ]) refl

-- the number of a smaller width is that of a greater, if it fits
pub number_of-narrow : (word : List ℕ) (n : ℕ) → number_of (2 ^ 64) word ≡ Some n
    → n < 2 ^ 16 → number_of (2 ^ 16) word ≡ Some n
number_of-narrow word n e lt =
    let s = number_of-some (2 ^ 64) word n e in
    rw s.1 (number_of-decimal (2 ^ 16) n lt s.0)

pub number_of-wide : (word : List ℕ) (n : ℕ) → number_of (2 ^ 64) word ≡ Some n
    → 2 ^ 16 ≤ n → number_of (2 ^ 16) word ≡ None
number_of-wide word n e le =
    number_of-none (2 ^ 16) word (λ m lt is.
    let s = number_of-decimal (2 ^ 64) m (omega arith) (omega arith) in
    let both : number_of (2 ^ 64) word ≡ Some m = rw is s in
    let same : n ≡ m = cc in
    omega arith)

pub number_of-neither : (word : List ℕ) → number_of (2 ^ 64) word ≡ None
    → number_of (2 ^ 16) word ≡ None
number_of-neither word e =
    number_of-none (2 ^ 16) word (λ m lt is.
    let s = number_of-decimal (2 ^ 64) m (omega arith) (omega arith) in
    let both : number_of (2 ^ 64) word ≡ Some m = rw is s in
    cc)

-- no number is spelled by no digits
pub number_of-empty : (word : List ℕ) → length word ≡ 0 → number_of (2 ^ 64) word ≡ None
number_of-empty word empty =
    number_of-none (2 ^ 64) word (λ n lt is.
    let long = decimal_nonempty n lt in
    let e : length word ≡ length (decimal n) = ap length is in
    omega arith)

-- or with a zero before other digits
pub number_of-leading_zero : (word : List ℕ) → 1 < length word → get_or word 0 0 ≡ 48
    → number_of (2 ^ 64) word ≡ None
number_of-leading_zero word long zero-first =
    number_of-none (2 ^ 64) word (λ n lt is.
    let first-is : get_or word 0 0 ≡ get_or (decimal n) 0 0 = ap (λ (w : List ℕ). get_or w 0 0) is in
    let long-is : length word ≡ length (decimal n) = ap length is in
    elim (cases_lt 0 n) [
      | inl above ↦ let first = first_decimal n above lt in omega arith
      | inr none ↦
          let e : n ≡ 0 = omega arith in
          let one : length (decimal n) ≡ 1 = ap length (decimal_digit n (omega arith)) in
          omega arith
    ])

-- what has no digits alone, or digits of too great a number, is no number's spelling
pub number_of-no_digits : (word : List ℕ)
    → (AllDigits 10 word → 2 ^ 64 ≤ digits_value 10 word) → number_of (2 ^ 64) word ≡ None
number_of-no_digits word h =
    number_of-none (2 ^ 64) word (λ n lt is.
    let numeral = decimal_is_IsNumeral n lt in
    let all : AllDigits 10 word = rw is numeral.0.1 in
    let great = h all in
    let value : digits_value 10 word ≡ n = rw is numeral.1 in
    omega arith)

-- digits with no leading zero are their number's spelling
pub number_of-digits : (word : List ℕ) → AllDigits 10 word → 0 < length word
    → (get_or word 0 0 ≡ 48 → length word ≡ 1) → digits_value 10 word < 2 ^ 64
    → number_of (2 ^ 64) word ≡ Some (digits_value 10 word)
number_of-digits word all some no_zero lt =
    let spelling = decimal-digits_value digits_model word all some no_zero lt in
    let taken = number_of-decimal (2 ^ 64) (digits_value 10 word) lt lt in
    rw spelling at taken

-- ---- reading digits from the left

-- a byte that is no digit stands in no digits
pub no_digit : (word : List ℕ) (i d : ℕ) → i < length word → d ≡ get_or word i 0
    → is_ascii_digit d ≡ false → AllDigits 10 word → ⊥
no_digit word i d lt is other all =
    let range = digit_at word i all lt in
    grind (arith, nat_tests)

-- where the number of a front is too great with one more digit, so is that of all
pub digits-overflow : (word : List ℕ) (i n d : ℕ) → i < length word → d ≡ get_or word i 0
    → n ≡ digits_value 10 (take i word) → 48 ≤ d → d < 58 → 2 ^ 64 ≤ n * 10 + (d - 48)
    → 2 ^ 64 ≤ digits_value 10 word
digits-overflow word i n d lt is front low high great =
    let more = digits_value_more 10 word i lt in
    let whole = digits_value-take-le 10 word (i + 1) (omega arith) in
    let value : digit_value d ≡ d - 48 = grind (arith, nat_tests) in
    let value' : digit_value (get_or word i 0) ≡ d - 48 = subst (λ (x : ℕ). digit_value x ≡ d - 48) is value in
    omega arith

-- one digit more
pub digits-more : (word : List ℕ) (i n d : ℕ) → i < length word → d ≡ get_or word i 0
    → AllDigits 10 (take i word) → n ≡ digits_value 10 (take i word) → 48 ≤ d → d < 58
    → AllDigits 10 (take (i + 1) word)
    × (n * 10 + (d - 48) ≡ digits_value 10 (take (i + 1) word))
digits-more word i n d lt is all front low high =
    let more = digits_value_more 10 word i lt in
    let value : digit_value d ≡ d - 48 = grind (arith, nat_tests) in
    let value' : digit_value (get_or word i 0) ≡ d - 48 = subst (λ (x : ℕ). digit_value x ≡ d - 48) is value in
    (digits_more 10 word i lt all (omega arith), omega arith)

pub is_digit-range : (d : ℕ) → is_ascii_digit d ≡ true → (48 ≤ d) × (d < 58)
is_digit-range d e = (grind (arith, nat_tests), grind (arith, nat_tests))

-- what holds where there is nothing
pub MatchOption-none : {A P : Type 0} (Q : A → Type 0) (o : Option A) → o ≡ None → P
    → MatchOption o P Q
MatchOption-none {A} {P} Q o e h = subst (λ (x : Option A). MatchOption x P Q) (sym e) h

-- where the test for a leading zero failed, a zero that is the first digit is the only one
pub no_leading_zero : (word : List ℕ) (r : Bool) → 0 < length word
    → ((1 < length word) × (get_or word 0 0 ≡ 48) → r ≡ true) → r ≡ false
    → get_or word 0 0 ≡ 48 → length word ≡ 1
no_leading_zero word r some test failed is_zero =
    elim (cases_lt 1 (length word)) [
      | inl long ↦ absurd (false≢true (sym failed ∙ test (long, is_zero)))
      | inr short ↦ omega arith
    ]

-- what the digits of a word gave, where the word is not empty and has no leading zero
pub number_of-option : (word : List ℕ) (o : Option ℕ) → 0 < length word
    → (get_or word 0 0 ≡ 48 → length word ≡ 1)
    → MatchOption o (AllDigits 10 word
    → 2 ^ 64 ≤ digits_value 10 word) (λ n. AllDigits 10 word × (n ≡ digits_value 10 word))
    → IfSome o (λ n. n < 2 ^ 64) → o ≡ number_of (2 ^ 64) word
number_of-option word (Some n) some no_zero h lt =
    let value = h.1 in
    let spelled-is = number_of-digits word h.0 some no_zero (omega arith) in
    cc
number_of-option word None some no_zero h lt = sym (number_of-no_digits word h)

-- a number that is turned into a narrower one, if it fits
pub number_of-converted : {E : Type 0} (word : List ℕ) (n : ℕ) (r : Result ℕ E)
    → number_of (2 ^ 64) word ≡ Some n → OkIff r (n < 2 ^ 16) n
    → number_of (2 ^ 16) word ≡ result_ok r
number_of-converted word n (Ok m) e h = number_of-narrow word n e h.0 ∙ ap Some (sym h.1)
number_of-converted word n (Err x) e h =
    elim (cases_lt n (2 ^ 16)) [
      | inl below ↦ absurd (h below)
      | inr above ↦ number_of-wide word n e above
    ]
