-- The table of sizes agrees with the table of heads.
use Rattle.std.proofs.Common.{◌≡◌, ℕ, zero, suc, ◌+◌, ◌-◌, ◌*◌, ◌<◌, ◌≤◌, Bool, true, false, cond, ltb, List, [], ◌∷◌, length, take, get_or, Option, Some, None, lit≤, refl, sym, ap, subst, ◌∙◌, arith, add-zero, zero-add}
use Rattle.std.specs.Prelude.{◌==◌, ◌&&◌, slice_index}
use Rattle.std.specs.Int.{Width, w8, w16, w32, w64, byte_len, from_be_bytes, cast_signed}
use Rattle.std.proofs.lemmas.Bool.{le-ltb, lt-ltb, false≢true, eqb-true}
use Rattle.fwd_msgpack.specs.declared.head.Head.{Head}
use Rattle.fwd_msgpack.specs.declared.head.Head.TheVariants.{Nil, Bool as Boolean, Int, Float, Str, Bin, Arr, Map, Ext}
use Rattle.fwd_msgpack.specs.declared.head.HeadRead.TheVariants.{Whole, Short}
use Rattle.fwd_msgpack.specs.declared.plain.TheConstants.{SIZES}
use Rattle.fwd_msgpack.specs.Heads.{Row, fixed, sized, sized_ext, unsigned, signed, twos_complement, extended, named_rows, row_of, row_reading, reading_of}
use Rattle.fwd_msgpack.specs.Plain.{plain_len, IsSmallOpening}

-- an item of this row has just this size, or the size is 0 and says nothing
abbrev Tells : Option Row → ℕ → Type 0
Tells row size =
    (rest : List ℕ) → 0 < size → size ≤ length rest + 1
    → plain_len (row_reading row rest) ≡ Some size

untold : (found : Option Row) → Tells found 0
untold found rest lt le = absurd (omega arith)

whole : (row : Row) (size : ℕ) → row.more < size
    → ((bytes : List ℕ) → plain_len (Whole (row.spells bytes) (row.more + 1)) ≡ Some size)
    → Tells (Some row) size
whole row size more same rest lt le =
    ap (λ (b : Bool). plain_len (cond b Short (Whole (row.spells (take row.more rest)) (row.more + 1)))) (le-ltb (length rest) row.more (omega (arith, more, le)))
    ∙ same (take row.more rest)

fixed_told : (head : Head) (size : ℕ) → plain_len (Whole head 1) ≡ Some size → 0 < size
    → Tells (fixed head) size
fixed_told head size e pos = whole (record { more = 0; spells = λ _. head }) size pos (λ bytes. e)

unsigned_told : (w : Width) → Tells (unsigned w) (byte_len w + 1)
unsigned_told w = whole (record { more = byte_len w; spells = λ bytes. Int false (from_be_bytes w bytes) }) (byte_len w + 1) (omega arith) (λ bytes. ap Some (add-zero (byte_len w + 1)))

complement_len : (half n used : ℕ)
    → plain_len (Whole (twos_complement half n) used) ≡ Some used
complement_len half n used = by_test (ltb n half)
  where
    by_test : (b : Bool)
        → plain_len (Whole (cond b (Int false n) (Int true (2 * half - n))) used) ≡ Some used
    by_test true = ap Some (add-zero used)
    by_test false = ap Some (add-zero used)

signed_told : (w : Width) (half : ℕ) → Tells (signed w half) (byte_len w + 1)
signed_told w half = whole (record { more = byte_len w; spells = λ bytes. twos_complement half (from_be_bytes w bytes) }) (byte_len w + 1) (omega arith) (λ bytes. complement_len half (from_be_bytes w bytes) (byte_len w + 1))

extended_told : (len : ℕ) → Tells (extended len) (2 + len)
extended_told len = whole (record { more = 1; spells = λ bytes. Ext (cast_signed w8 (slice_index bytes 0)) len }) (2 + len) (omega arith) (λ bytes. refl)

-- the sizes of the rows with names
named_sizes : List ℕ
named_sizes = 1 ∷ 0 ∷ 1 ∷ 1 ∷ 0 ∷ 0 ∷ 0 ∷ 0 ∷ 0 ∷ 0 ∷ 5 ∷ 9 ∷ 2 ∷ 3 ∷ 5 ∷ 9 ∷ 2 ∷ 3 ∷ 5 ∷ 9 ∷ 3 ∷ 4 ∷ 6 ∷ 10 ∷ 18 ∷ 0 ∷ 0 ∷ 0 ∷ 0 ∷ 0 ∷ 0 ∷ 0 ∷ []

-- each row has the size beside it
abbrev AllTell : List (Option Row) → List ℕ → Type 0
AllTell [] sizes = sizes ≡ []
AllTell (row ∷ rows) [] = Unit {0}
AllTell (row ∷ rows) (size ∷ sizes) = Tells row size × AllTell rows sizes

told_at : (rows : List (Option Row)) (sizes : List ℕ) (i : ℕ) → AllTell rows sizes
    → Tells (get_or rows i None) (get_or sizes i 0)
told_at [] sizes i all = subst (λ (xs : List ℕ). Tells None (get_or xs i 0)) (sym all) (untold None)
told_at (row ∷ rows) [] i all = untold (get_or (row ∷ rows) i None)
told_at (row ∷ rows) (size ∷ sizes) zero all = all.0
told_at (row ∷ rows) (size ∷ sizes) (suc i) all = told_at rows sizes i all.1

named_told : AllTell named_rows named_sizes
unfolding named_rows named_sizes
named_told = (fixed_told Nil 1 refl (lit≤ tt), (untold None, (fixed_told (Boolean false) 1 refl (lit≤ tt), (fixed_told (Boolean true) 1 refl (lit≤ tt), (untold (sized w8 Bin), (untold (sized w16 Bin), (untold (sized w32 Bin), (untold (sized_ext w8), (untold (sized_ext w16), (untold (sized_ext w32), (fixed_told (Float 4) 5 refl (lit≤ tt), (fixed_told (Float 8) 9 refl (lit≤ tt), (unsigned_told w8, (unsigned_told w16, (unsigned_told w32, (unsigned_told w64, (signed_told w8 0x80, (signed_told w16 0x8000, (signed_told w32 0x8000_0000, (signed_told w64 0x8000_0000_0000_0000, (extended_told 1, (extended_told 2, (extended_told 4, (extended_told 8, (extended_told 16, (untold (sized w8 Str), (untold (sized w16 Str), (untold (sized w32 Str), (untold (sized w16 Arr), (untold (sized w32 Arr), (untold (sized w16 Map), (untold (sized w32 Map), refl))))))))))))))))))))))))))))))))

-- what the table of heads says of a first byte
abbrev size_in : ℕ → ℕ
size_in first =
    cond (ltb first 0x80) 1
    (cond (ltb first 0x90) 0
    (cond (ltb first 0xa0) 0
    (cond (ltb first 0xc0) (first - 0xa0 + 1)
    (cond (ltb first 0xe0) (get_or named_sizes (first - 0xc0) 0) 1))))

told : (first : ℕ) → Tells (row_of first) (size_in first)
unfolding row_of
told first = by_tests (ltb first 0x80) (ltb first 0x90) (ltb first 0xa0) (ltb first 0xc0) (ltb first 0xe0)
  where
    by_tests : (a b c d e : Bool)
        → Tells
        (cond a (fixed (Int false first))
        (cond b (fixed (Map (first - 0x80)))
        (cond c (fixed (Arr (first - 0x90)))
        (cond d (fixed (Str (first - 0xa0)))
        (cond e (get_or named_rows (first - 0xc0) None)
        (fixed (Int true (256 - first))))))))
        (cond a 1 (cond b 0
        (cond c 0 (cond d (first - 0xa0 + 1) (cond e (get_or named_sizes (first - 0xc0) 0) 1)))))
    by_tests true b c d e = fixed_told (Int false first) 1 refl (lit≤ tt)
    by_tests false true c d e = untold (fixed (Map (first - 0x80)))
    by_tests false false true d e = untold (fixed (Arr (first - 0x90)))
    by_tests false false false true e = fixed_told (Str (first - 0xa0)) (first - 0xa0 + 1) (ap Some (omega arith)) (omega arith)
    by_tests false false false false true = told_at named_rows named_sizes (first - 0xc0) named_told
    by_tests false false false false false = fixed_told (Int true (256 - first)) 1 refl (lit≤ tt)

-- the sizes from a first byte on are those
abbrev are_sizes : ℕ → List ℕ → Bool
are_sizes first [] = true
are_sizes first (size ∷ sizes) = (size == size_in first) && are_sizes (suc first) sizes

both : (a b : Bool) → a && b ≡ true → (a ≡ true) × (b ≡ true)
both true b e = (refl, e)
both false b e = absurd (false≢true e)

size_at : (first : ℕ) (sizes : List ℕ) (i : ℕ) → are_sizes first sizes ≡ true
    → i < length sizes → get_or sizes i 0 ≡ size_in (first + i)
size_at first [] i all lt = absurd (omega arith)
size_at first (size ∷ sizes) zero all lt = eqb-true size (size_in first) (both (size == size_in first) (are_sizes (suc first) sizes) all).0 ∙ ap size_in (sym (add-zero first))
size_at first (size ∷ sizes) (suc i) all lt =
    let on : suc first + i ≡ first + suc i = omega arith in
    size_at (suc first) sizes i (both (size == size_in first) (are_sizes (suc first) sizes) all).1 (omega (arith, lt)) ∙ ap size_in on

-- the size that stands in the table is that of the item
pub size_told : (first place size : ℕ) → place ≡ first → size ≡ get_or SIZES place 0
    → first < 256
    → (rest : List ℕ) → 0 < size → size ≤ length rest + 1
    → plain_len (reading_of (first ∷ rest)) ≡ Some size
unfolding reading_of named_sizes
size_told first place size same is small rest lt le =
    let found : size ≡ size_in first = is ∙ size_at 0 SIZES place refl (omega (arith, same)) ∙ ap size_in (zero-add place ∙ same) in
    subst (λ (n : ℕ). 0 < n → n ≤ length rest + 1 → plain_len (row_reading (row_of first) rest) ≡ Some n) (sym found) (told first rest) lt le

-- a text's size is how far its first byte lies behind that of the empty one
pub text_told : (first size : ℕ) → size ≡ first - 0x9f → 0xa0 ≤ first → first < 0xc0
    → (rest : List ℕ) → 0 < size → size ≤ length rest + 1
    → plain_len (reading_of (first ∷ rest)) ≡ Some size
unfolding reading_of
text_told first size is low high rest lt le =
    let behind : first - 0x9f ≡ first - 0xa0 + 1 = omega (arith, low) in
    let found : size ≡ size_in first = is ∙ behind ∙ rw (le-ltb first 0x80 (omega (arith, low)), le-ltb first 0x90 (omega (arith, low)), le-ltb first 0xa0 low, lt-ltb first 0xc0 high) refl in
    subst (λ (n : ℕ). 0 < n → n ≤ length rest + 1 → plain_len (row_reading (row_of first) rest) ≡ Some n) (sym found) (told first rest) lt le

-- the byte of a map of up to 15 pairs
pub map_told : (first size : ℕ) → size ≡ 2 * (first - 0x80) → 0x80 ≤ first → first < 0x90
    → (rest : List ℕ) → IsSmallOpening (reading_of (first ∷ rest)) size
unfolding reading_of row_of
map_told first size is low high rest =
    rw (le-ltb first 0x80 low, lt-ltb first 0x90 high, le-ltb (length rest) 0 (omega arith)) (refl, refl, sym is)

-- the byte of an array of up to 15 values
pub array_told : (first size : ℕ) → size ≡ first - 0x90 → 0x90 ≤ first → first < 0xa0
    → (rest : List ℕ) → IsSmallOpening (reading_of (first ∷ rest)) size
unfolding reading_of row_of
array_told first size is low high rest =
    rw (le-ltb first 0x80 (omega (arith, low)), le-ltb first 0x90 low, lt-ltb first 0xa0 high, le-ltb (length rest) 0 (omega arith)) (refl, refl, sym is)
