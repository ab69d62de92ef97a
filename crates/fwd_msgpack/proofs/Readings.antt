-- What a row of the table makes of the bytes behind the first, by the number that stands there.
use Rattle.std.proofs.Common.{◌≡◌, ℕ, ◌+◌, Bool, true, false, cond, ltb, not, List, [], ◌∷◌, length, take, get_or, Option, Some, None, refl, sym, ap, ◌∙◌, arith}
use Rattle.std.specs.List.{slice_get}
use Rattle.std.specs.Int.{Width, w8, w16, w32, byte_len, from_be_bytes, cast_signed}
use Rattle.std.proofs.lemmas.Bool.{le-ltb}
use Rattle.std.proofs.lemmas.Bool.Decides.{nat_tests}
use Rattle.std.proofs.lemmas.List.{get_or-take}
use Rattle.fwd_msgpack.specs.declared.head.Head.{Head}
use Rattle.fwd_msgpack.specs.declared.head.Head.TheVariants.{Ext}
use Rattle.fwd_msgpack.specs.declared.head.HeadRead.{HeadRead}
use Rattle.fwd_msgpack.specs.declared.head.HeadRead.TheVariants.{Whole, Short}
use Rattle.fwd_msgpack.specs.Heads.{sized, sized_ext, extended, row_of, row_reading, number_at}

-- the first byte is the number of one byte
pub one_number : (bytes : List ℕ) → slice_get bytes 0 ≡ number_at w8 bytes
one_number [] = refl
one_number (byte ∷ rest) = sym (ap (λ (b : Bool). cond b None (Some byte)) (le-ltb (length (byte ∷ rest)) 1 (omega arith)))

-- ---- a number is all

-- a number of this width, or less, as its row reads it
abbrev number_read : Width → (ℕ → Head) → Option ℕ → HeadRead
number_read w kind (Some n) = Whole (kind n) (byte_len w + 1)
number_read w kind None = Short

sized_read : (w : Width) (kind : ℕ → Head) (rest : List ℕ)
    → row_reading (sized w kind) rest ≡ number_read w kind (number_at w rest)
sized_read w kind rest = by_test (ltb (length rest) (byte_len w))
  where
    by_test : (b : Bool)
        → cond b Short (Whole (kind (from_be_bytes w (take (byte_len w) rest))) (byte_len w + 1))
        ≡ number_read w kind (cond b None (Some (from_be_bytes w (take (byte_len w) rest))))
    by_test true = refl
    by_test false = refl

read_by : (w : Width) (kind : ℕ → Head) (code first : ℕ) (rest : List ℕ) (found : Option ℕ)
    → row_of code ≡ sized w kind → first ≡ code → found ≡ number_at w rest
    → number_read w kind found ≡ row_reading (row_of first) rest
read_by w kind code first rest found row is at =
    ap (number_read w kind) at
    ∙ sym (sized_read w kind rest)
    ∙ ap (λ r. row_reading r rest) (sym row)
    ∙ ap (λ n. row_reading (row_of n) rest) (sym is)

-- the number is there, and with it the head
pub read_whole : (w : Width) (kind : ℕ → Head) (code first : ℕ) (rest : List ℕ) (n : ℕ)
    → row_of code ≡ sized w kind → first ≡ code → Some n ≡ number_at w rest
    → Whole (kind n) (byte_len w + 1) ≡ row_reading (row_of first) rest
read_whole w kind code first rest n row is at = read_by w kind code first rest (Some n) row is at

-- the number is not there
pub read_short : (w : Width) (kind : ℕ → Head) (code first : ℕ) (rest : List ℕ)
    → row_of code ≡ sized w kind → first ≡ code → None ≡ number_at w rest
    → Short ≡ row_reading (row_of first) rest
read_short w kind code first rest row is at = read_by w kind code first rest None row is at

-- ---- a type stands behind it, and a length may stand before the type

-- the extension of this length whose type stands at this place, if it is there
abbrev pub ext_read : List ℕ → (at len : ℕ) → HeadRead
ext_read rest at len =
    cond (ltb at (length rest)) (Whole (Ext (cast_signed w8 (get_or rest at 0)) len) (at + 2)) Short

-- the byte behind a length is no part of it
abbrev pub IsApart : Width → Type 0
IsApart w = (rest : List ℕ)
    → from_be_bytes w (take (byte_len w + 1) rest) ≡ from_be_bytes w (take (byte_len w) rest)

pub apart_8 : IsApart w8
apart_8 [] = refl
apart_8 (a ∷ rest) = refl

pub apart_16 : IsApart w16
apart_16 [] = refl
apart_16 (a ∷ []) = refl
apart_16 (a ∷ b ∷ rest) = refl

pub apart_32 : IsApart w32
apart_32 [] = refl
apart_32 (a ∷ []) = refl
apart_32 (a ∷ b ∷ []) = refl
apart_32 (a ∷ b ∷ c ∷ []) = refl
apart_32 (a ∷ b ∷ c ∷ d ∷ rest) = refl

-- what stands behind the first byte: a length, or less, and whether a type is there
abbrev ext_shown : List ℕ → ℕ → Bool → Option ℕ → HeadRead
ext_shown rest at there (Some len) =
    cond there (Whole (Ext (cast_signed w8 (get_or rest at 0)) len) (at + 2)) Short
ext_shown rest at there None = Short

below_or_not : (m n : ℕ) → ltb m (n + 1) ≡ not (ltb n m)
below_or_not m n = grind (arith, nat_tests)

below_too : (m n : ℕ) → ltb m n ≡ true → ltb n m ≡ false
below_too m n e = grind (arith, nat_tests)

settled : (rest : List ℕ) (at len : ℕ)
    → cond (ltb (length rest) (at + 1)) Short
    (Whole (Ext (cast_signed w8 (get_or rest at 0)) len) (at + 2))
    ≡ ext_shown rest at (ltb at (length rest)) (cond (ltb (length rest) at) None (Some len))
settled rest at len = rw (below_or_not (length rest) at) (by_tests (ltb (length rest) at) (ltb at (length rest)) (below_too (length rest) at))
  where
    by_tests : (a b : Bool) → (a ≡ true → b ≡ false)
        → cond (not b) Short (Whole (Ext (cast_signed w8 (get_or rest at 0)) len) (at + 2))
        ≡ ext_shown rest at b (cond a None (Some len))
    by_tests true b less = rw (less refl) refl
    by_tests false true less = refl
    by_tests false false less = refl

ext_sized_read : (w : Width) (rest : List ℕ) → IsApart w
    → row_reading (sized_ext w) rest
    ≡ ext_shown rest (byte_len w) (ltb (byte_len w) (length rest)) (number_at w rest)
ext_sized_read w rest apart =
    let behind : get_or (take (byte_len w + 1) rest) (byte_len w) 0 ≡ get_or rest (byte_len w) 0 = get_or-take (byte_len w + 1) rest (byte_len w) 0 (omega arith) in
    let two : byte_len w + 1 + 1 ≡ byte_len w + 2 = omega arith in
    rw (behind, apart rest, two) (settled rest (byte_len w) (from_be_bytes w (take (byte_len w) rest)))

ext_by : (w : Width) (code first : ℕ) (rest : List ℕ) (found : Option ℕ) → IsApart w
    → row_of code ≡ sized_ext w → first ≡ code → found ≡ number_at w rest
    → ext_shown rest (byte_len w) (ltb (byte_len w) (length rest)) found
    ≡ row_reading (row_of first) rest
ext_by w code first rest found apart row is at =
    ap (ext_shown rest (byte_len w) (ltb (byte_len w) (length rest))) at
    ∙ sym (ext_sized_read w rest apart)
    ∙ ap (λ r. row_reading r rest) (sym row)
    ∙ ap (λ n. row_reading (row_of n) rest) (sym is)

pub ext_whole : (w : Width) (code first : ℕ) (rest : List ℕ) (len : ℕ) → IsApart w
    → row_of code ≡ sized_ext w → first ≡ code → Some len ≡ number_at w rest
    → ext_read rest (byte_len w) len ≡ row_reading (row_of first) rest
ext_whole w code first rest len apart row is at = ext_by w code first rest (Some len) apart row is at

pub ext_short : (w : Width) (code first : ℕ) (rest : List ℕ) → IsApart w
    → row_of code ≡ sized_ext w → first ≡ code → None ≡ number_at w rest
    → Short ≡ row_reading (row_of first) rest
ext_short w code first rest apart row is at = ext_by w code first rest None apart row is at

extended_read : (len : ℕ) (rest : List ℕ) → row_reading (extended len) rest ≡ ext_read rest 0 len
extended_read len rest =
    rw (get_or-take 1 rest 0 0 (omega arith)) (
    settled rest 0 len
    ∙ ap (λ (b : Bool). ext_shown rest 0 (ltb 0 (length rest)) (cond b None (Some len))) (le-ltb (length rest) 0 (omega arith))
    )

-- no length stands there
pub ext_of_fixed : (code first len : ℕ) (rest : List ℕ) → row_of code ≡ extended len
    → first ≡ code → ext_read rest 0 len ≡ row_reading (row_of first) rest
ext_of_fixed code first len rest row is =
    sym (extended_read len rest)
    ∙ ap (λ r. row_reading r rest) (sym row)
    ∙ ap (λ n. row_reading (row_of n) rest) (sym is)
