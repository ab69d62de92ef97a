-- Bytes as lower-case hexadecimal digits, in both directions.
use Rattle.std.proofs.Common.{◌≡◌, ℕ, zero, suc, ◌+◌, ◌*◌, ◌^◌, ◌<◌, ◌/◌, ◌%◌, ◌==◌, ◌&&◌, ◌||◌, Bool, true, false, not, cond, nat_lt, List, [], ◌∷◌, length, slice_index, Option, Some, None, Result, Ok, Err, refl, sym, ap, ◌∙◌, arith, inl, inr, ◌⊎◌}
use Rattle.std.specs.Prelude.{codes, option_and_then, IsSome, ◌≤◌}
use Rattle.std.specs.Char.{is_ascii_hexdigit, is_ascii_uppercase}
use Rattle.std.specs.List.{list_all, list_any}
use Rattle.std.specs.Result.{result_ok}
use Rattle.std.specs.Str.{bytes_eq}
use Rattle.std.proofs.lemmas.Bool.{and_parts, cases_lt, eqb-true, false≢true, lt-ltb, ltb-true}
use Rattle.std.proofs.lemmas.Bool.Decides.{nat_tests}
use Rattle.std.proofs.lemmas.List.Sums.{AllPass-from_list_all, list_all-from_AllPass}
use Rattle.hex.specs.Hex.{IsBytes, encode_lower, encode_with, lower_digits, decode_of, decode_pairs, decode_sized, digit_or_error, is_hex_digit, pair_value, value_at, hex_digit_value, ◌>>=◌}
use Rattle.hex.specs.declared.error.FromHexError.{FromHexError}
use Rattle.hex.proofs.HexLemmas.{IsDigits-lower_digits, decode_of-digits, decode_of-encode_lower, decode_of-ok, decode_sized-encode_lower, decode_of-even, decode_sized-ok, decode_sized-twice, length-encode_with}
use Rattle.fwd_script.specs.Words.{hex_text, is_hex, spelled, bytes_of, sixteen_of, salt_of}
use Rattle.fwd_script.proofs.WordLemmas.{bytes_eq-same, bytes_eq-true, chosen_some, chosen_none}

-- what an `Ok` after `>>=` shows
bind_ok : {A B : Type 0} (r : Result A FromHexError) (f : A → Result B FromHexError) (y : B)
    → (r >>= f) ≡ Ok y → (x : A) × (r ≡ Ok x) × (f x ≡ Ok y)
bind_ok (Ok x) f y h = (x, refl, h)
bind_ok (Err e) f y h = absurd cc

abbrev done : {A : Type 0} → A → Result A FromHexError
done x = Ok x

ok_is : {A : Type 0} (x y : A) → done x ≡ done y → x ≡ y
ok_is x y e = cc

-- ---- no digit of the table is an upper-case letter, or a space

not_true : (b : Bool) → not b ≡ true → b ≡ false
not_true true e = absurd cc
not_true false e = refl

-- the digits below n fail a test
abbrev fails_below : (ℕ → Bool) → ℕ → Bool
fails_below test zero = true
fails_below test (suc n) = not (test (slice_index lower_digits n)) && fails_below test n

fails_below-at : (test : ℕ → Bool) (n k : ℕ) → fails_below test n ≡ true → k < n
    → test (slice_index lower_digits k) ≡ false
fails_below-at test zero k h lt = absurd (omega arith)
fails_below-at test (suc n) k h lt =
    let parts = and_parts (not (test (slice_index lower_digits n))) (fails_below test n) h in
    elim (cases_lt k n) [
      | inl below ↦ fails_below-at test n k parts.1 below
      | inr top ↦ let e : k ≡ n = omega arith in rw e (not_true (test (slice_index lower_digits n)) parts.0)
    ]

is_lower : (d : ℕ) → d < 16 → is_ascii_uppercase (slice_index lower_digits d) ≡ false
is_lower d lt = fails_below-at is_ascii_uppercase 16 d refl lt

pub no_space : (d : ℕ) → d < 16 → (slice_index lower_digits d == 32) ≡ false
no_space d lt = fails_below-at (λ b. b == 32) 16 d refl lt

pub no_upper-encode_lower : (bytes : List ℕ) → IsBytes bytes
    → list_any is_ascii_uppercase (encode_lower bytes) ≡ false
unfolding encode_with
no_upper-encode_lower [] fits = refl
no_upper-encode_lower (b ∷ rest) fits =
    let small = fits 0 in
    let high = is_lower (b / 16) (omega arith) in
    let low = is_lower (b % 16) (omega arith) in
    rw (high, low) (no_upper-encode_lower rest (λ i. fits (suc i)))

-- ---- what decodes and has no upper-case letter is the lower-case text

-- two digits of one value, neither in upper case
one_digit : (c d v : ℕ) → hex_digit_value c ≡ Some v → hex_digit_value d ≡ Some v
    → is_ascii_uppercase c ≡ false → is_ascii_uppercase d ≡ false → c ≡ d
one_digit c d v e f low other = grind (arith, nat_tests)

-- the digit of a value, where it is none in upper case
lower_digit : (c v : ℕ) → hex_digit_value c ≡ Some v → is_ascii_uppercase c ≡ false
    → v < 16 → slice_index lower_digits v ≡ c
lower_digit c v e low small =
    let d : ℕ = slice_index lower_digits v in
    let same : hex_digit_value d ≡ Some v = IsDigits-lower_digits v small in
    let lower : is_ascii_uppercase d ≡ false = is_lower v small in
    one_digit d c v same e lower low

where_digit : (c v : ℕ) → hex_digit_value c ≡ Some v → is_ascii_uppercase c ≡ false
    → v < 16
where_digit c v e low = grind (arith, nat_tests)

-- neither part of a choice that is false
pub or_false : (x y : Bool) → (x || y) ≡ false → (x ≡ false) × (y ≡ false)
or_false true y e = absurd cc
or_false false y e = (refl, e)

digit_some : (c i : ℕ) (o : Option ℕ) (v : ℕ) → digit_or_error c i o ≡ Ok v
    → o ≡ Some v
digit_some c i (Some w) v h = ap Some (ok_is w v h)
digit_some c i None v h = absurd cc

pub encode_lower-decode_pairs : (i : ℕ) (s bytes : List ℕ) → decode_pairs i s ≡ Ok bytes
    → list_any is_ascii_uppercase s ≡ false → encode_lower bytes ≡ s
unfolding decode_pairs encode_with
encode_lower-decode_pairs i [] bytes h low =
    let e : [] ≡ bytes = ok_is [] bytes h in
    rw (← e) refl
encode_lower-decode_pairs i (a ∷ []) bytes h low = absurd cc
encode_lower-decode_pairs i (a ∷ b ∷ rest) bytes h low =
    let p0 = bind_ok (pair_value a b i) _ bytes h in
    let p1 = bind_ok (value_at a i) _ p0.0 p0.1 in
    let p2 = bind_ok (value_at b (i + 1)) _ p0.0 p1.2 in
    let p3 = bind_ok (decode_pairs (i + 2) rest) _ bytes p0.2 in
    let q0 = or_false (is_ascii_uppercase a) (is_ascii_uppercase b || list_any is_ascii_uppercase rest) low in
    let q1 = or_false (is_ascii_uppercase b) (list_any is_ascii_uppercase rest) q0.1 in
    let ih = encode_lower-decode_pairs (i + 2) rest p3.0 p3.1 q1.1 in
    let va = digit_some a i (hex_digit_value a) p1.0 p1.1 in
    let vb = digit_some b (i + 1) (hex_digit_value b) p2.0 p2.1 in
    let sa = where_digit a p1.0 va q0.0 in
    let sb = where_digit b p2.0 vb q1.0 in
    let byte : p1.0 * 16 + p2.0 ≡ p0.0 = ok_is (p1.0 * 16 + p2.0) p0.0 p2.2 in
    let all : p0.0 ∷ p3.0 ≡ bytes = ok_is (p0.0 ∷ p3.0) bytes p3.2 in
    let high : p0.0 / 16 ≡ p1.0 = omega arith in
    let low-is : p0.0 % 16 ≡ p2.0 = omega arith in
    let da = lower_digit a p1.0 va q0.0 sa in
    let db = lower_digit b p2.0 vb q1.0 sb in
    rw (← all, high, low-is, da, db, ih) refl

-- ---- the bytes of a word

hex_text-cons : (bytes : List ℕ) → 0 < length bytes → hex_text bytes ≡ encode_lower bytes
hex_text-cons [] some = absurd (omega arith)
hex_text-cons (b ∷ bytes) some = refl

pub chosen : {A : Type 0} (b : Bool) (x y z : A) → cond b x y ≡ z
    → ((b ≡ true) × (x ≡ z)) ⊎ ((b ≡ false) × (y ≡ z))
chosen true x y z e = inl (refl, e)
chosen false x y z e = inr (refl, e)

some_is : {A : Type 0} (x y : Option A) (a b : A) → x ≡ Some a → y ≡ Some b → x ≡ y
    → a ≡ b
some_is x y a b e f g = cc

spelled-some : (word : List ℕ) (r : Result (List ℕ) FromHexError) (bytes : List ℕ)
    → spelled word r ≡ Some bytes → (r ≡ Ok bytes) × (word ≡ hex_text bytes)
spelled-some word (Ok found) bytes e =
    let c = chosen_some (bytes_eq word (hex_text found)) found bytes e in
    (ap Ok c.1, rw (← c.1) (bytes_eq-true word (hex_text found) c.0))
spelled-some word (Err x) bytes e = absurd cc

pub bytes_of-some : (word bytes : List ℕ) → bytes_of word ≡ Some bytes → IsBytes bytes
    × (word ≡ hex_text bytes)
unfolding bytes_of
bytes_of-some word bytes e =
    elim (chosen (bytes_eq word (codes "-")) (Some []) (spelled word (decode_of word)) (Some bytes) e) [
      | inl none ↦
          let nothing : [] ≡ bytes = cc in
          rw (← nothing) (λ i. omega arith, bytes_eq-true word (codes "-") none.0)
      | inr some ↦
          let s = spelled-some word (decode_of word) bytes some.1 in
          ((decode_of-ok word bytes s.0).3, s.1)
    ]

pub bytes_of-none : (word : List ℕ)
    → ((bytes : List ℕ) → IsBytes bytes → word ≡ hex_text bytes → ⊥)
    → bytes_of word ≡ None
bytes_of-none word h =
    let P : Option (List ℕ) → Type 0 = λ o. bytes_of word ≡ o → bytes_of word ≡ None in
    (elim (bytes_of word) as P [
      | Some bytes ↦ λ e. let s = bytes_of-some word bytes e in absurd (h bytes s.0 s.1)
      | None ↦ λ e. e
    ]) refl

no_dash : (word : List ℕ) → 1 < length word → bytes_eq word (codes "-") ≡ false
no_dash word long =
    let P : Bool → Type 0 = λ b. bytes_eq word (codes "-") ≡ b → bytes_eq word (codes "-") ≡ false in
    (elim (bytes_eq word (codes "-")) as P [
      | true ↦ λ e. let same = ap length (bytes_eq-true word (codes "-") e) in absurd (omega arith)
      | false ↦ λ e. e
    ]) refl

-- what decodes, with no upper-case letter, is what is spelled
pub bytes_of-decoded : (word bytes : List ℕ) → 0 < length word
    → list_any is_ascii_uppercase word ≡ false → decode_of word ≡ Ok bytes
    → bytes_of word ≡ Some bytes
unfolding bytes_of
bytes_of-decoded word bytes some low e =
    let facts = decode_of-ok word bytes e in
    let len = facts.2 in
    let pairs : decode_pairs 0 word ≡ Ok bytes = sym (decode_of-even word (omega arith)) ∙ e in
    let text : encode_lower bytes ≡ word = encode_lower-decode_pairs 0 word bytes pairs low in
    let same : hex_text bytes ≡ word = hex_text-cons bytes (omega arith) ∙ text in
    rw (no_dash word (omega arith), e, bytes_eq-same word (hex_text bytes) (sym same)) refl

pub bytes_of-refused : (word : List ℕ) (x : FromHexError) → bytes_eq word (codes "-") ≡ false
    → decode_of word ≡ Err x → bytes_of word ≡ None
unfolding bytes_of
bytes_of-refused word x other e = rw (other, e) refl

-- what a hexadecimal digit is, in std's words and in hex's
same_digit : (c : ℕ) → is_ascii_hexdigit c ≡ is_hex_digit c
same_digit c = grind (arith, nat_tests)

same_digits : (word : List ℕ) → list_all is_ascii_hexdigit word ≡ list_all is_hex_digit word
same_digits [] = refl
same_digits (c ∷ word) = rw (same_digit c, same_digits word) refl

pub low_of : (word : List ℕ) → is_hex word ≡ true → list_any is_ascii_uppercase word ≡ false
low_of word h =
    let p = and_parts (length word % 2 == 0) _ h in
    not_true (list_any is_ascii_uppercase word)
    (and_parts (not (list_any is_ascii_uppercase word)) _ p.1).0

-- pairs of hexadecimal digits are the spelling of bytes
pub bytes_of-hex : (word : List ℕ) → 0 < length word → is_hex word ≡ true
    → (bytes : List ℕ) × (decode_of word ≡ Ok bytes) × (bytes_of word ≡ Some bytes)
bytes_of-hex word some h =
    let p = and_parts (length word % 2 == 0) _ h in
    let q = and_parts (not (list_any is_ascii_uppercase word)) _ p.1 in
    let digits = AllPass-from_list_all is_hex_digit word (sym (same_digits word) ∙ q.1) in
    let read = decode_of-digits word (eqb-true _ _ p.0) digits in
    (read.0, read.1, bytes_of-decoded word read.0 some (low_of word h) read.1)

pub bytes_of-dash : bytes_of (codes "-") ≡ Some []
unfolding bytes_of
bytes_of-dash = refl

pub bytes_of-hex_text : (bytes : List ℕ) → IsBytes bytes
    → bytes_of (hex_text bytes) ≡ Some bytes
bytes_of-hex_text [] fits = bytes_of-dash
bytes_of-hex_text (b ∷ bytes) fits =
    let len = length-encode_with lower_digits (b ∷ bytes) in
    bytes_of-decoded (encode_lower (b ∷ bytes)) (b ∷ bytes) (omega arith) (no_upper-encode_lower (b ∷ bytes) fits) (decode_of-encode_lower (b ∷ bytes) fits)

-- no bytes are spelled by no digits, or with a letter in upper case
pub bytes_of-empty : (word : List ℕ) → length word ≡ 0 → bytes_of word ≡ None
bytes_of-empty word empty = bytes_of-none word (λ bytes fits is. nonempty bytes (sym (ap length is) ∙ empty))
  where
    nonempty : (bytes : List ℕ) → length (hex_text bytes) ≡ 0 → ⊥
    nonempty [] e = omega arith
    nonempty (b ∷ bytes) e = let len = length-encode_with lower_digits (b ∷ bytes) in omega arith

no_upper-hex_text : (bytes : List ℕ) → IsBytes bytes
    → list_any is_ascii_uppercase (hex_text bytes) ≡ false
no_upper-hex_text [] fits = refl
no_upper-hex_text (b ∷ bytes) fits = no_upper-encode_lower (b ∷ bytes) fits

pub bytes_of-upper : (word : List ℕ) → list_any is_ascii_uppercase word ≡ true
    → bytes_of word ≡ None
bytes_of-upper word up = bytes_of-none word (λ bytes fits is. let low : list_any is_ascii_uppercase word ≡ false = rw is (no_upper-hex_text bytes fits) in cases up low)
  where
    cases : {b : Bool} → b ≡ true → b ≡ false → ⊥
    cases e f = false≢true (sym f ∙ e)

-- what is spelled is pairs of hexadecimal digits
is_hex-encode_lower : (bytes : List ℕ) → IsBytes bytes → is_hex (encode_lower bytes) ≡ true
is_hex-encode_lower bytes fits =
    let whole = decode_of-ok (encode_lower bytes) bytes (decode_of-encode_lower bytes fits) in
    let digits = same_digits (encode_lower bytes) ∙ list_all-from_AllPass is_hex_digit (encode_lower bytes) whole.1 in
    rw (whole.0, digits, no_upper-encode_lower bytes fits) refl

-- nothing else is, but the dash
pub bytes_of-no_hex : (word : List ℕ) → bytes_eq word (codes "-") ≡ false
    → is_hex word ≡ false
    → bytes_of word ≡ None
bytes_of-no_hex word other h = bytes_of-none word (λ bytes fits is. spelled-not bytes fits is)
  where
    spelled-not : (bytes : List ℕ) → IsBytes bytes → word ≡ hex_text bytes → ⊥
    spelled-not [] fits is = false≢true (sym other ∙ bytes_eq-same word (codes "-") is)
    spelled-not (b ∷ bytes) fits is =
        false≢true (sym h ∙ ap is_hex is ∙ is_hex-encode_lower (b ∷ bytes) fits)

-- ---- sixteen bytes

-- the value of a step that gave something
pub then_some : {A B : Type 0} (o : Option A) (f : A → Option B) (y : B)
    → option_and_then f o ≡ Some y → (x : A) × (o ≡ Some x) × (f x ≡ Some y)
then_some (Some x) f y e = (x, refl, e)
then_some None f y e = absurd cc

pub sixteen_of-some : (word bytes : List ℕ) → sixteen_of word ≡ Some bytes → IsBytes bytes
    × (length bytes ≡ 16) × (word ≡ encode_lower bytes)
unfolding sixteen_of
sixteen_of-some word bytes e =
    let found = then_some (bytes_of word) _ bytes e in
    let c = chosen_some (length found.0 == 16) found.0 bytes found.2 in
    let s = bytes_of-some word found.0 found.1 in
    let len : length found.0 ≡ 16 = eqb-true _ _ c.0 in
    rw (← c.1) (s.0, len, s.1 ∙ hex_text-cons found.0 (omega arith))

pub sixteen_of-encode_lower : (bytes : List ℕ) → IsBytes bytes → length bytes ≡ 16
    → sixteen_of (encode_lower bytes) ≡ Some bytes
unfolding sixteen_of
sixteen_of-encode_lower bytes fits len =
    let text : hex_text bytes ≡ encode_lower bytes = hex_text-cons bytes (omega arith) in
    let found : bytes_of (encode_lower bytes) ≡ Some bytes = rw (← text) (bytes_of-hex_text bytes fits) in
    rw (found, len) refl

pub sixteen_of-none : (word : List ℕ)
    → ((bytes : List ℕ) → IsBytes bytes → length bytes ≡ 16
    → word ≡ encode_lower bytes → ⊥) → sixteen_of word ≡ None
sixteen_of-none word h =
    let P : Option (List ℕ) → Type 0 = λ o. sixteen_of word ≡ o → sixteen_of word ≡ None in
    (elim (sixteen_of word) as P [
      | Some bytes ↦ λ e. let s = sixteen_of-some word bytes e in absurd (h bytes s.0 s.1 s.2)
      | None ↦ λ e. e
    ]) refl

pub sixteen_of-upper : (word : List ℕ) → list_any is_ascii_uppercase word ≡ true
    → sixteen_of word ≡ None
unfolding sixteen_of
sixteen_of-upper word up = rw (bytes_of-upper word up) refl

pub sixteen_of-decoded : (word : List ℕ) → list_any is_ascii_uppercase word ≡ false
    → (r : Result (List ℕ) FromHexError) → decode_sized word 16 ≡ r
    → sixteen_of word ≡ result_ok r
sixteen_of-decoded word low (Ok bytes) e =
    let sized = decode_sized-ok word 16 bytes e in
    let whole : decode_of word ≡ Ok bytes = sym (decode_sized-twice word 16 sized) ∙ e in
    let facts = decode_of-ok word bytes whole in
    let len = facts.2 in
    let found = bytes_of-decoded word bytes (omega arith) low whole in
    let s = bytes_of-some word bytes found in
    let text : word ≡ encode_lower bytes = s.1 ∙ hex_text-cons bytes (omega arith) in
    rw text (sixteen_of-encode_lower bytes facts.3 (omega arith))
sixteen_of-decoded word low (Err x) e =
    sixteen_of-none word (λ bytes fits len is.
    let read : decode_sized word 16 ≡ Ok bytes = rw is (decode_sized-encode_lower bytes 16 len fits) in
    cc)

-- ---- a salt

hex_text-length : (bytes : List ℕ)
    → (2 * length bytes ≤ length (hex_text bytes)) × (length (hex_text bytes) ≤ 2 * length bytes + 1)
hex_text-length [] = (omega arith, omega arith)
hex_text-length (b ∷ bytes) =
    let len = length-encode_with lower_digits (b ∷ bytes) in
    (omega (arith, len), omega (arith, len))

-- bytes are a salt where their word is not too long
salt_or_none : (word : List ℕ) (o : Option (List ℕ)) → bytes_of word ≡ o
    → (2 ^ 33 ≤ length word → salt_of word ≡ None)
    × (length word < 2 ^ 33 → IsSome o → IsSome (salt_of word))
unfolding salt_of
salt_or_none word (Some bytes) e =
    let s = bytes_of-some word bytes e in
    let len = hex_text-length bytes in
    let same : length word ≡ length (hex_text bytes) = ap length s.1 in (
      (λ long. rw e (chosen_none (nat_lt (length bytes) (2 ^ 32)) bytes (λ lt. let below = ltb-true (length bytes) (2 ^ 32) lt in omega arith))),
      (λ short some. let below : length bytes < 2 ^ 32 = omega arith in rw (e, lt-ltb (length bytes) (2 ^ 32) below) refl),
    )
salt_or_none word None e = ((λ long. rw e refl), (λ short some. absurd cc))

pub salt_of-long : (word : List ℕ) → 2 ^ 33 ≤ length word → salt_of word ≡ None
salt_of-long word long = (salt_or_none word (bytes_of word) refl).0 long

pub salt_of-short : (word : List ℕ) → length word < 2 ^ 33 → IsSome (bytes_of word)
    → IsSome (salt_of word)
salt_of-short word short some = (salt_or_none word (bytes_of word) refl).1 short some

-- a salt is bytes
pub bytes_of-salt : (word : List ℕ) → IsSome (salt_of word) → IsSome (bytes_of word)
unfolding salt_of
bytes_of-salt word some = by (bytes_of word) some
  where
    by : (o : Option (List ℕ))
        → IsSome (option_and_then (λ bytes. cond (nat_lt (length bytes) (2 ^ 32)) (Some bytes) None) o)
        → IsSome o
    by (Some bytes) h = refl
    by None h = h

pub salt_of-some : (word bytes : List ℕ) → salt_of word ≡ Some bytes
    → IsBytes bytes × (length bytes < 2 ^ 32) × (word ≡ hex_text bytes)
unfolding salt_of
salt_of-some word bytes e =
    let found = then_some (bytes_of word) _ bytes e in
    let c = chosen_some (nat_lt (length found.0) (2 ^ 32)) found.0 bytes found.2 in
    let s = bytes_of-some word found.0 found.1 in
    rw (← c.1) (s.0, ltb-true _ _ c.0, s.1)

pub salt_of-hex_text : (bytes : List ℕ) → IsBytes bytes → length bytes < 2 ^ 32
    → salt_of (hex_text bytes) ≡ Some bytes
unfolding salt_of
salt_of-hex_text bytes fits lt = rw (bytes_of-hex_text bytes fits, lt-ltb (length bytes) (2 ^ 32) lt) refl
