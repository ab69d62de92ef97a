-- A head's shortest spelling reads as the head.
use Rattle.std.proofs.Common.{◌≡◌, ◌⊎◌, ℕ, suc, ◌+◌, ◌-◌, ◌*◌, ◌^◌, ◌<◌, ◌≤◌, Bool, true, false, cond, ltb, leb, eqb, List, [], ◌∷◌, ◌++◌, length, Option, ℤ, refl, sym, ap, subst, ◌∙◌, arith, inl, inr}
use Rattle.std.proofs.lemmas.Bool.{cond_both, ltb-true, leb-true, eqb-true, lt-ltb, le-ltb}
use Rattle.std.proofs.lemmas.Nat.{from_be_bytes-to_be_bytes_2, from_be_bytes-to_be_bytes_4, from_be_bytes-to_be_bytes_8}
use Rattle.std.proofs.lemmas.Int.{to_z-of_z}
use Rattle.std.specs.Prelude.{FitsSigned}
use Rattle.std.specs.Int.{w8, w16, w32, w64, to_be_bytes, cast_unsigned}
use Rattle.fwd_msgpack.specs.declared.head.Head.{Head}
use Rattle.fwd_msgpack.specs.declared.head.Head.TheVariants.{Nil, Bool as Boolean, Int, Float, Str, Bin, Arr, Map, Ext}
use Rattle.fwd_msgpack.specs.declared.head.HeadRead.TheVariants as read
use Rattle.fwd_msgpack.specs.Heads.{Row, sized, fixed, extended, twos_complement, row_of, named_rows, row_reading, reading_of, IsHead, IsSpelled, head_bytes, unsigned_bytes, negative_bytes, float_bytes, str_bytes, bin_bytes, arr_bytes, map_bytes, ext_len_bytes}

-- these bytes are a whole spelling of the head
abbrev Spells : List ℕ → Head → Type 0
Spells bytes head =
    (rest : List ℕ) → reading_of (bytes ++ rest) ≡ read.Whole head (length bytes)

spells_fixed : (first : ℕ) (head : Head) → row_of first ≡ fixed head
    → Spells (first ∷ []) head
unfolding reading_of
spells_fixed first head e rest = ap (λ (o : Option Row). row_reading o rest) e ∙ rw (le-ltb (length rest) 0 (omega arith)) refl

spells_8 : (first n : ℕ) (kind : ℕ → Head) → row_of first ≡ sized w8 kind
    → Spells (first ∷ n ∷ []) (kind n)
unfolding reading_of
spells_8 first n kind e rest = ap (λ (o : Option Row). row_reading o (n ∷ rest)) e ∙ rw (le-ltb (suc (length rest)) 1 (omega arith)) refl

spells_16 : (first n : ℕ) (kind : ℕ → Head) → row_of first ≡ sized w16 kind → n < 2 ^ 16
    → Spells (first ∷ to_be_bytes w16 n) (kind n)
unfolding reading_of
spells_16 first n kind e lt rest =
    ap (λ (o : Option Row). row_reading o (to_be_bytes w16 n ++ rest)) e ∙ rw (le-ltb (suc (suc (length rest))) 2 (omega arith), from_be_bytes-to_be_bytes_2 n lt) refl

spells_32 : (first n : ℕ) (kind : ℕ → Head) → row_of first ≡ sized w32 kind → n < 2 ^ 32
    → Spells (first ∷ to_be_bytes w32 n) (kind n)
unfolding reading_of
spells_32 first n kind e lt rest =
    ap (λ (o : Option Row). row_reading o (to_be_bytes w32 n ++ rest)) e ∙ rw (le-ltb (suc (suc (suc (suc (length rest))))) 4 (omega arith), from_be_bytes-to_be_bytes_4 n lt) refl

spells_64 : (first n : ℕ) (kind : ℕ → Head) → row_of first ≡ sized w64 kind → n < 2 ^ 64
    → Spells (first ∷ to_be_bytes w64 n) (kind n)
unfolding reading_of
spells_64 first n kind e lt rest =
    ap (λ (o : Option Row). row_reading o (to_be_bytes w64 n ++ rest)) e ∙ rw (le-ltb (suc (suc (suc (suc (suc (suc (suc (suc (length rest))))))))) 8 (omega arith), from_be_bytes-to_be_bytes_8 n lt) refl

-- ---- first bytes that hold a number

row_of-positive : (n : ℕ) → n < 0x80 → row_of n ≡ fixed (Int false n)
unfolding row_of
row_of-positive n lt = rw (lt-ltb n 0x80 lt) refl

row_of-map : (n : ℕ) → n < 0x10 → row_of (0x80 + n) ≡ fixed (Map n)
unfolding row_of
row_of-map n lt =
    let back : 0x80 + n - 0x80 ≡ n = omega arith in
    rw (le-ltb (0x80 + n) 0x80 (omega arith), lt-ltb (0x80 + n) 0x90 (omega arith), back) refl

row_of-arr : (n : ℕ) → n < 0x10 → row_of (0x90 + n) ≡ fixed (Arr n)
unfolding row_of
row_of-arr n lt =
    let back : 0x90 + n - 0x90 ≡ n = omega arith in
    rw (le-ltb (0x90 + n) 0x80 (omega arith), le-ltb (0x90 + n) 0x90 (omega arith), lt-ltb (0x90 + n) 0xa0 (omega arith), back) refl

row_of-str : (n : ℕ) → n < 0x20 → row_of (0xa0 + n) ≡ fixed (Str n)
unfolding row_of
row_of-str n lt =
    let back : 0xa0 + n - 0xa0 ≡ n = omega arith in
    rw (le-ltb (0xa0 + n) 0x80 (omega arith), le-ltb (0xa0 + n) 0x90 (omega arith), le-ltb (0xa0 + n) 0xa0 (omega arith), lt-ltb (0xa0 + n) 0xc0 (omega arith), back) refl

row_of-negative : (n : ℕ) → 1 ≤ n → n ≤ 0x20 → row_of (0x100 - n) ≡ fixed (Int true n)
unfolding row_of
row_of-negative n ge le =
    let back : 256 - (0x100 - n) ≡ n = omega arith in
    rw (le-ltb (0x100 - n) 0x80 (omega arith), le-ltb (0x100 - n) 0x90 (omega arith), le-ltb (0x100 - n) 0xa0 (omega arith), le-ltb (0x100 - n) 0xc0 (omega arith), le-ltb (0x100 - n) 0xe0 (omega arith), back) refl

-- ---- kind by kind

either : (b : Bool) (x y : List ℕ) (head : Head) → (b ≡ true → Spells x head)
    → (b ≡ false → Spells y head) → Spells (cond b x y) head
either b x y head p q = cond_both b x y (λ (bytes : List ℕ). Spells bytes head) p q

str_back : (len : ℕ) → len < 2 ^ 32 → Spells (str_bytes len) (Str len)
unfolding row_of named_rows
str_back len fits =
    either (ltb len 0x20) _ _ (Str len) (λ t. spells_fixed (0xa0 + len) (Str len) (row_of-str len (ltb-true len 0x20 t))) (λ _.
    either (ltb len 0x100) _ _ (Str len) (λ t. spells_8 0xd9 len Str refl) (λ _.
    either (ltb len 0x1_0000) _ _ (Str len) (λ t. spells_16 0xda len Str refl (ltb-true len 0x1_0000 t)) (λ _.
    spells_32 0xdb len Str refl fits)))

bin_back : (len : ℕ) → len < 2 ^ 32 → Spells (bin_bytes len) (Bin len)
unfolding row_of named_rows
bin_back len fits =
    either (ltb len 0x100) _ _ (Bin len) (λ t. spells_8 0xc4 len Bin refl) (λ _.
    either (ltb len 0x1_0000) _ _ (Bin len) (λ t. spells_16 0xc5 len Bin refl (ltb-true len 0x1_0000 t)) (λ _.
    spells_32 0xc6 len Bin refl fits))

arr_back : (n : ℕ) → n < 2 ^ 32 → Spells (arr_bytes n) (Arr n)
unfolding row_of named_rows
arr_back n fits =
    either (ltb n 0x10) _ _ (Arr n) (λ t. spells_fixed (0x90 + n) (Arr n) (row_of-arr n (ltb-true n 0x10 t))) (λ _.
    either (ltb n 0x1_0000) _ _ (Arr n) (λ t. spells_16 0xdc n Arr refl (ltb-true n 0x1_0000 t)) (λ _.
    spells_32 0xdd n Arr refl fits))

map_back : (n : ℕ) → n < 2 ^ 32 → Spells (map_bytes n) (Map n)
unfolding row_of named_rows
map_back n fits =
    either (ltb n 0x10) _ _ (Map n) (λ t. spells_fixed (0x80 + n) (Map n) (row_of-map n (ltb-true n 0x10 t))) (λ _.
    either (ltb n 0x1_0000) _ _ (Map n) (λ t. spells_16 0xde n Map refl (ltb-true n 0x1_0000 t)) (λ _.
    spells_32 0xdf n Map refl fits))

unsigned_back : (n : ℕ) → n < 2 ^ 64 → Spells (unsigned_bytes n) (Int false n)
unfolding row_of named_rows
unsigned_back n fits =
    either (ltb n 0x80) _ _ (Int false n) (λ t. spells_fixed n (Int false n) (row_of-positive n (ltb-true n 0x80 t))) (λ _.
    either (ltb n 0x100) _ _ (Int false n) (λ t. spells_8 0xcc n (λ m. Int false m) refl) (λ _.
    either (ltb n 0x1_0000) _ _ (Int false n) (λ t. spells_16 0xcd n (λ m. Int false m) refl (ltb-true n 0x1_0000 t)) (λ _.
    either (ltb n 0x1_0000_0000) _ _ (Int false n) (λ t. spells_32 0xce n (λ m. Int false m) refl (ltb-true n 0x1_0000_0000 t)) (λ _.
    spells_64 0xcf n (λ m. Int false m) refl fits))))

-- what two's complement makes of minus n
complement : (half n : ℕ) → 1 ≤ n → n ≤ half
    → twos_complement half (2 * half - n) ≡ Int true n
complement half n ge le =
    let back : 2 * half - (2 * half - n) ≡ n = omega arith in
    rw (le-ltb (2 * half - n) half (omega arith), back) refl

negative_back : (n : ℕ) → 1 ≤ n → n ≤ 2 ^ 63 → Spells (negative_bytes n) (Int true n)
unfolding row_of named_rows
negative_back n ge fits =
    either (leb n 0x20) _ _ (Int true n) (λ t. spells_fixed (0x100 - n) (Int true n) (row_of-negative n ge (leb-true n 0x20 t))) (λ _.
    either (leb n 0x80) _ _ (Int true n) (λ t. subst (Spells (0xd0 ∷ (0x100 - n) ∷ [])) (complement 0x80 n ge (leb-true n 0x80 t)) (spells_8 0xd0 (0x100 - n) (twos_complement 0x80) refl)) (λ _.
    either (leb n 0x8000) _ _ (Int true n) (λ t. subst (Spells (0xd1 ∷ to_be_bytes w16 (0x1_0000 - n))) (complement 0x8000 n ge (leb-true n 0x8000 t)) (spells_16 0xd1 (0x1_0000 - n) (twos_complement 0x8000) refl (omega arith))) (λ _.
    either (leb n 0x8000_0000) _ _ (Int true n) (λ t. subst (Spells (0xd2 ∷ to_be_bytes w32 (0x1_0000_0000 - n))) (complement 0x8000_0000 n ge (leb-true n 0x8000_0000 t)) (spells_32 0xd2 (0x1_0000_0000 - n) (twos_complement 0x8000_0000) refl (omega arith))) (λ _.
    subst (Spells (0xd3 ∷ to_be_bytes w64 (0x1_0000_0000_0000_0000 - n))) (complement 0x8000_0000_0000_0000 n ge fits) (spells_64 0xd3 (0x1_0000_0000_0000_0000 - n) (twos_complement 0x8000_0000_0000_0000) refl (omega arith))))))

float_back : (len : ℕ) → (len ≡ 4) ⊎ (len ≡ 8) → Spells (float_bytes len) (Float len)
unfolding row_of named_rows
float_back len (inl e) = subst (λ (n : ℕ). Spells (float_bytes n) (Float n)) (sym e) (spells_fixed 0xca (Float 4) refl)
float_back len (inr e) = subst (λ (n : ℕ). Spells (float_bytes n) (Float n)) (sym e) (spells_fixed 0xcb (Float 8) refl)

-- ---- extensions

spells_ext : (first len : ℕ) (kind : ℤ) → FitsSigned w8 kind → row_of first ≡ extended len
    → Spells ((first ∷ []) ++ cast_unsigned w8 kind ∷ []) (Ext kind len)
unfolding reading_of
spells_ext first len kind fits e rest =
    ap (λ (o : Option Row). row_reading o (cast_unsigned w8 kind ∷ rest)) e ∙ rw (le-ltb (suc (length rest)) 1 (omega arith), to_z-of_z w8 kind fits) refl

spells_ext_8 : (len : ℕ) (kind : ℤ) → FitsSigned w8 kind
    → Spells ((0xc7 ∷ len ∷ []) ++ cast_unsigned w8 kind ∷ []) (Ext kind len)
unfolding reading_of row_of named_rows
spells_ext_8 len kind fits rest = rw (le-ltb (suc (suc (length rest))) 2 (omega arith), to_z-of_z w8 kind fits) refl

spells_ext_16 : (len : ℕ) (kind : ℤ) → FitsSigned w8 kind → len < 2 ^ 16
    → Spells ((0xc8 ∷ to_be_bytes w16 len) ++ cast_unsigned w8 kind ∷ []) (Ext kind len)
unfolding reading_of row_of named_rows
spells_ext_16 len kind fits lt rest = rw (le-ltb (suc (suc (suc (length rest)))) 3 (omega arith), to_z-of_z w8 kind fits, from_be_bytes-to_be_bytes_2 len lt) refl

spells_ext_32 : (len : ℕ) (kind : ℤ) → FitsSigned w8 kind → len < 2 ^ 32
    → Spells ((0xc9 ∷ to_be_bytes w32 len) ++ cast_unsigned w8 kind ∷ []) (Ext kind len)
unfolding reading_of row_of named_rows
spells_ext_32 len kind fits lt rest = rw (le-ltb (suc (suc (suc (suc (suc (length rest)))))) 5 (omega arith), to_z-of_z w8 kind fits, from_be_bytes-to_be_bytes_4 len lt) refl

either_ext : (b : Bool) (x y : List ℕ) (kind : ℤ) (len : ℕ)
    → (b ≡ true → Spells (x ++ cast_unsigned w8 kind ∷ []) (Ext kind len))
    → (b ≡ false → Spells (y ++ cast_unsigned w8 kind ∷ []) (Ext kind len))
    → Spells (cond b x y ++ cast_unsigned w8 kind ∷ []) (Ext kind len)
either_ext b x y kind len p q = cond_both b x y (λ (bytes : List ℕ). Spells (bytes ++ cast_unsigned w8 kind ∷ []) (Ext kind len)) p q

fixed_ext : (first size len : ℕ) (kind : ℤ) → FitsSigned w8 kind
    → row_of first ≡ extended size → eqb len size ≡ true
    → Spells ((first ∷ []) ++ cast_unsigned w8 kind ∷ []) (Ext kind len)
fixed_ext first size len kind fits e t = subst (λ (n : ℕ). Spells ((first ∷ []) ++ cast_unsigned w8 kind ∷ []) (Ext kind n)) (sym (eqb-true len size t)) (spells_ext first size kind fits e)

ext_back : (kind : ℤ) (len : ℕ) → FitsSigned w8 kind → len < 2 ^ 32
    → Spells (ext_len_bytes len ++ cast_unsigned w8 kind ∷ []) (Ext kind len)
unfolding row_of named_rows
ext_back kind len fits lt =
    either_ext (eqb len 1) _ _ kind len (fixed_ext 0xd4 1 len kind fits refl) (λ _.
    either_ext (eqb len 2) _ _ kind len (fixed_ext 0xd5 2 len kind fits refl) (λ _.
    either_ext (eqb len 4) _ _ kind len (fixed_ext 0xd6 4 len kind fits refl) (λ _.
    either_ext (eqb len 8) _ _ kind len (fixed_ext 0xd7 8 len kind fits refl) (λ _.
    either_ext (eqb len 16) _ _ kind len (fixed_ext 0xd8 16 len kind fits refl) (λ _.
    either_ext (ltb len 0x100) _ _ kind len (λ t. spells_ext_8 len kind fits) (λ _.
    either_ext (ltb len 0x1_0000) _ _ kind len (λ t. spells_ext_16 len kind fits (ltb-true len 0x1_0000 t)) (λ _.
    spells_ext_32 len kind fits lt)))))))

pub read_back : (head : Head) (rest : List ℕ) → IsHead head → IsSpelled head
    → reading_of (head_bytes head ++ rest) ≡ read.Whole head (length (head_bytes head))
unfolding head_bytes row_of named_rows
read_back Nil rest fits spelled = spells_fixed 0xc0 Nil refl rest
read_back (Boolean false) rest fits spelled = spells_fixed 0xc2 (Boolean false) refl rest
read_back (Boolean true) rest fits spelled = spells_fixed 0xc3 (Boolean true) refl rest
read_back (Int false mag) rest fits spelled = unsigned_back mag fits rest
read_back (Int true mag) rest fits spelled = negative_back mag spelled.0 spelled.1 rest
read_back (Float len) rest fits spelled = float_back len spelled rest
read_back (Str len) rest fits spelled = str_back len fits rest
read_back (Bin len) rest fits spelled = bin_back len fits rest
read_back (Arr n) rest fits spelled = arr_back n fits rest
read_back (Map n) rest fits spelled = map_back n fits rest
read_back (Ext kind len) rest fits spelled = ext_back kind len fits.0 fits.1 rest
