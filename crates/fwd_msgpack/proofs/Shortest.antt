-- No spelling of a head is shorter than the one that is written.
use Rattle.std.proofs.Common.{◌≡◌, ℕ, zero, suc, ◌+◌, ◌-◌, ◌*◌, ◌^◌, ◌<◌, ◌≤◌, Bool, true, false, cond, ltb, leb, eqb, List, [], ◌∷◌, ◌++◌, length, get_or, Option, Some, None, refl, sym, subst, arith}
use Rattle.std.proofs.lemmas.Bool.{ltb-true, ltb-false, lt-ltb, le-leb}
use Rattle.std.proofs.lemmas.List.{length-append}
use Rattle.std.specs.Int.{w8, w16, w32, w64, from_be_bytes, cast_signed, cast_unsigned}
use Rattle.fwd_msgpack.specs.declared.head.Head.{Head}
use Rattle.fwd_msgpack.specs.declared.head.Head.TheVariants.{Int}
use Rattle.fwd_msgpack.specs.declared.head.HeadRead.TheVariants as read
use Rattle.fwd_msgpack.specs.Heads.{Row, row_of, named_rows, reading_of, twos_complement, head_bytes, unsigned_bytes, negative_bytes, str_bytes, bin_bytes, arr_bytes, map_bytes, ext_len_bytes, ext_sized_bytes}
use Rattle.fwd_msgpack.specs.Streams.{AreBytes}
use Rattle.fwd_msgpack.proofs.Fronts.{Reads-from}
use Rattle.fwd_msgpack.proofs.Fillings.{AreBytes-front}
use Rattle.std.proofs.lemmas.Option.{same_Some}

-- ---- lengths by size

at_most : (b : Bool) (x y : List ℕ) (k : ℕ) → length x ≤ k → length y ≤ k
    → length (cond b x y) ≤ k
at_most true x y k p q = p
at_most false x y k p q = q

taken : (b : Bool) (x y : List ℕ) (k : ℕ) → b ≡ true → length x ≤ k
    → length (cond b x y) ≤ k
taken true x y k e p = p
taken false x y k e p = absurd cc

unsigned_1 : (n : ℕ) → n < 0x80 → length (unsigned_bytes n) ≤ 1
unsigned_1 n lt = taken (ltb n 0x80) _ _ 1 (lt-ltb n 0x80 lt) (omega arith)

unsigned_2 : (n : ℕ) → n < 0x100 → length (unsigned_bytes n) ≤ 2
unsigned_2 n lt = at_most (ltb n 0x80) _ _ 2 (omega arith) (taken (ltb n 0x100) _ _ 2 (lt-ltb n 0x100 lt) (omega arith))

unsigned_3 : (n : ℕ) → n < 0x1_0000 → length (unsigned_bytes n) ≤ 3
unsigned_3 n lt = at_most (ltb n 0x80) _ _ 3 (omega arith) (at_most (ltb n 0x100) _ _ 3 (omega arith) (taken (ltb n 0x1_0000) _ _ 3 (lt-ltb n 0x1_0000 lt) (omega arith)))

unsigned_5 : (n : ℕ) → n < 0x1_0000_0000 → length (unsigned_bytes n) ≤ 5
unsigned_5 n lt = at_most (ltb n 0x80) _ _ 5 (omega arith) (at_most (ltb n 0x100) _ _ 5 (omega arith) (at_most (ltb n 0x1_0000) _ _ 5 (omega arith) (taken (ltb n 0x1_0000_0000) _ _ 5 (lt-ltb n 0x1_0000_0000 lt) (omega arith))))

unsigned_9 : (n : ℕ) → length (unsigned_bytes n) ≤ 9
unsigned_9 n = at_most (ltb n 0x80) _ _ 9 (omega arith) (at_most (ltb n 0x100) _ _ 9 (omega arith) (at_most (ltb n 0x1_0000) _ _ 9 (omega arith) (at_most (ltb n 0x1_0000_0000) _ _ 9 (omega arith) (omega arith))))

negative_1 : (n : ℕ) → n ≤ 0x20 → length (negative_bytes n) ≤ 1
negative_1 n le = taken (leb n 0x20) _ _ 1 (le-leb n 0x20 le) (omega arith)

negative_2 : (n : ℕ) → n ≤ 0x80 → length (negative_bytes n) ≤ 2
negative_2 n le = at_most (leb n 0x20) _ _ 2 (omega arith) (taken (leb n 0x80) _ _ 2 (le-leb n 0x80 le) (omega arith))

negative_3 : (n : ℕ) → n ≤ 0x8000 → length (negative_bytes n) ≤ 3
negative_3 n le = at_most (leb n 0x20) _ _ 3 (omega arith) (at_most (leb n 0x80) _ _ 3 (omega arith) (taken (leb n 0x8000) _ _ 3 (le-leb n 0x8000 le) (omega arith)))

negative_5 : (n : ℕ) → n ≤ 0x8000_0000 → length (negative_bytes n) ≤ 5
negative_5 n le = at_most (leb n 0x20) _ _ 5 (omega arith) (at_most (leb n 0x80) _ _ 5 (omega arith) (at_most (leb n 0x8000) _ _ 5 (omega arith) (taken (leb n 0x8000_0000) _ _ 5 (le-leb n 0x8000_0000 le) (omega arith))))

negative_9 : (n : ℕ) → length (negative_bytes n) ≤ 9
negative_9 n = at_most (leb n 0x20) _ _ 9 (omega arith) (at_most (leb n 0x80) _ _ 9 (omega arith) (at_most (leb n 0x8000) _ _ 9 (omega arith) (at_most (leb n 0x8000_0000) _ _ 9 (omega arith) (omega arith))))

str_1 : (n : ℕ) → n < 0x20 → length (str_bytes n) ≤ 1
str_1 n lt = taken (ltb n 0x20) _ _ 1 (lt-ltb n 0x20 lt) (omega arith)

str_2 : (n : ℕ) → n < 0x100 → length (str_bytes n) ≤ 2
str_2 n lt = at_most (ltb n 0x20) _ _ 2 (omega arith) (taken (ltb n 0x100) _ _ 2 (lt-ltb n 0x100 lt) (omega arith))

str_3 : (n : ℕ) → n < 0x1_0000 → length (str_bytes n) ≤ 3
str_3 n lt = at_most (ltb n 0x20) _ _ 3 (omega arith) (at_most (ltb n 0x100) _ _ 3 (omega arith) (taken (ltb n 0x1_0000) _ _ 3 (lt-ltb n 0x1_0000 lt) (omega arith)))

str_5 : (n : ℕ) → length (str_bytes n) ≤ 5
str_5 n = at_most (ltb n 0x20) _ _ 5 (omega arith) (at_most (ltb n 0x100) _ _ 5 (omega arith) (at_most (ltb n 0x1_0000) _ _ 5 (omega arith) (omega arith)))

bin_2 : (n : ℕ) → n < 0x100 → length (bin_bytes n) ≤ 2
bin_2 n lt = taken (ltb n 0x100) _ _ 2 (lt-ltb n 0x100 lt) (omega arith)

bin_3 : (n : ℕ) → n < 0x1_0000 → length (bin_bytes n) ≤ 3
bin_3 n lt = at_most (ltb n 0x100) _ _ 3 (omega arith) (taken (ltb n 0x1_0000) _ _ 3 (lt-ltb n 0x1_0000 lt) (omega arith))

bin_5 : (n : ℕ) → length (bin_bytes n) ≤ 5
bin_5 n = at_most (ltb n 0x100) _ _ 5 (omega arith) (at_most (ltb n 0x1_0000) _ _ 5 (omega arith) (omega arith))

arr_1 : (n : ℕ) → n < 0x10 → length (arr_bytes n) ≤ 1
arr_1 n lt = taken (ltb n 0x10) _ _ 1 (lt-ltb n 0x10 lt) (omega arith)

arr_3 : (n : ℕ) → n < 0x1_0000 → length (arr_bytes n) ≤ 3
arr_3 n lt = at_most (ltb n 0x10) _ _ 3 (omega arith) (taken (ltb n 0x1_0000) _ _ 3 (lt-ltb n 0x1_0000 lt) (omega arith))

arr_5 : (n : ℕ) → length (arr_bytes n) ≤ 5
arr_5 n = at_most (ltb n 0x10) _ _ 5 (omega arith) (at_most (ltb n 0x1_0000) _ _ 5 (omega arith) (omega arith))

map_1 : (n : ℕ) → n < 0x10 → length (map_bytes n) ≤ 1
map_1 n lt = taken (ltb n 0x10) _ _ 1 (lt-ltb n 0x10 lt) (omega arith)

map_3 : (n : ℕ) → n < 0x1_0000 → length (map_bytes n) ≤ 3
map_3 n lt = at_most (ltb n 0x10) _ _ 3 (omega arith) (taken (ltb n 0x1_0000) _ _ 3 (lt-ltb n 0x1_0000 lt) (omega arith))

map_5 : (n : ℕ) → length (map_bytes n) ≤ 5
map_5 n = at_most (ltb n 0x10) _ _ 5 (omega arith) (at_most (ltb n 0x1_0000) _ _ 5 (omega arith) (omega arith))

ext_sizes : (n k : ℕ) → 1 ≤ k → length (ext_sized_bytes n) ≤ k
    → length (ext_len_bytes n) ≤ k
ext_sizes n k one sized =
    at_most (eqb n 1) _ _ k (omega arith) (at_most (eqb n 2) _ _ k (omega arith) (at_most (eqb n 4) _ _ k (omega arith) (at_most (eqb n 8) _ _ k (omega arith) (at_most (eqb n 16) _ _ k (omega arith) sized))))

ext_2 : (n : ℕ) → n < 0x100 → length (ext_len_bytes n) ≤ 2
ext_2 n lt = ext_sizes n 2 (omega arith) (taken (ltb n 0x100) _ _ 2 (lt-ltb n 0x100 lt) (omega arith))

ext_3 : (n : ℕ) → n < 0x1_0000 → length (ext_len_bytes n) ≤ 3
ext_3 n lt = ext_sizes n 3 (omega arith) (at_most (ltb n 0x100) _ _ 3 (omega arith) (taken (ltb n 0x1_0000) _ _ 3 (lt-ltb n 0x1_0000 lt) (omega arith)))

ext_5 : (n : ℕ) → length (ext_len_bytes n) ≤ 5
ext_5 n = ext_sizes n 5 (omega arith) (at_most (ltb n 0x100) _ _ 5 (omega arith) (at_most (ltb n 0x1_0000) _ _ 5 (omega arith) (omega arith)))

with_type : (bytes : List ℕ) (k b : ℕ) → length bytes ≤ k
    → length (bytes ++ b ∷ []) ≤ k + 1
with_type bytes k b le = omega (arith, length-append bytes (b ∷ []))

-- ---- rows

-- what a row spells is written in no more bytes
abbrev IsFine : Row → Type 0
IsFine row =
    (front : List ℕ) → length front ≡ row.more → AreBytes front
    → length (head_bytes (row.spells front)) ≤ row.more + 1

signed_fine : (half n k : ℕ) → n < 2 * half
    → ((m : ℕ) → m < half → length (unsigned_bytes m) ≤ k)
    → ((m : ℕ) → m ≤ half → length (negative_bytes m) ≤ k)
    → length (head_bytes (twos_complement half n)) ≤ k
unfolding head_bytes
signed_fine half n k fits low high = by_test (ltb n half) refl
  where
    by_test : (b : Bool) → ltb n half ≡ b
        → length (head_bytes (cond b (Int false n) (Int true (2 * half - n)))) ≤ k
    by_test true e = low n (ltb-true n half e)
    by_test false e =
        let le = ltb-false n half e in
        high (2 * half - n) (omega arith)

abbrev AllFine : List (Option Row) → Type 0
AllFine [] = Unit {0}
AllFine (None ∷ rows) = AllFine rows
AllFine (Some row ∷ rows) = IsFine row × AllFine rows

fine_at : (rows : List (Option Row)) (i : ℕ) (row : Row) → AllFine rows
    → get_or rows i None ≡ Some row → IsFine row
fine_at [] i row all e = absurd cc
fine_at (None ∷ rows) zero row all e = absurd cc
fine_at (None ∷ rows) (suc i) row all e = fine_at rows i row all e
fine_at (Some first ∷ rows) zero row all e = subst IsFine (same_Some first row e) all.0
fine_at (Some first ∷ rows) (suc i) row all e = fine_at rows i row all.1 e

below_8 : (front : List ℕ) → AreBytes front → from_be_bytes w8 front < 2 ^ 8
below_8 front are = are 0

below_16 : (front : List ℕ) → AreBytes front → from_be_bytes w16 front < 2 ^ 16
below_16 front are = omega (arith, are 0, are 1)

below_32 : (front : List ℕ) → AreBytes front → from_be_bytes w32 front < 2 ^ 32
below_32 front are = omega (arith, are 0, are 1, are 2, are 3)

below_64 : (front : List ℕ) → AreBytes front → from_be_bytes w64 front < 2 ^ 64
below_64 front are = omega (arith, are 0, are 1, are 2, are 3, are 4, are 5, are 6, are 7)

named_fine : AllFine named_rows
unfolding named_rows head_bytes
named_fine = (
  λ front len are. omega arith,
  (
    λ front len are. omega arith,
    (
      λ front len are. omega arith,
      (
        λ front len are. bin_2 (from_be_bytes w8 front) (below_8 front are),
        (
          λ front len are. bin_3 (from_be_bytes w16 front) (below_16 front are),
          (
            λ front len are. bin_5 (from_be_bytes w32 front),
            (
              λ front len are. with_type (ext_len_bytes (from_be_bytes w8 front)) 2 (cast_unsigned w8 (cast_signed w8 (get_or front 1 0))) (ext_2 (from_be_bytes w8 front) (below_8 front are)),
              (
                λ front len are. with_type (ext_len_bytes (from_be_bytes w16 front)) 3 (cast_unsigned w8 (cast_signed w8 (get_or front 2 0))) (ext_3 (from_be_bytes w16 front) (below_16 front are)),
                (
                  λ front len are. with_type (ext_len_bytes (from_be_bytes w32 front)) 5 (cast_unsigned w8 (cast_signed w8 (get_or front 4 0))) (ext_5 (from_be_bytes w32 front)),
                  (
                    λ front len are. omega arith,
                    (
                      λ front len are. omega arith,
                      (
                        λ front len are. unsigned_2 (from_be_bytes w8 front) (below_8 front are),
                        (
                          λ front len are. unsigned_3 (from_be_bytes w16 front) (below_16 front are),
                          (
                            λ front len are. unsigned_5 (from_be_bytes w32 front) (below_32 front are),
                            (
                              λ front len are. unsigned_9 (from_be_bytes w64 front),
                              (
                                λ front len are. signed_fine 0x80 (from_be_bytes w8 front) 2 (below_8 front are) (λ m lt. unsigned_2 m (omega arith)) negative_2,
                                (
                                  λ front len are. signed_fine 0x8000 (from_be_bytes w16 front) 3 (below_16 front are) (λ m lt. unsigned_3 m (omega arith)) negative_3,
                                  (
                                    λ front len are. signed_fine 0x8000_0000 (from_be_bytes w32 front) 5 (below_32 front are) (λ m lt. unsigned_5 m (omega arith)) negative_5,
                                    (
                                      λ front len are. signed_fine 0x8000_0000_0000_0000 (from_be_bytes w64 front) 9 (below_64 front are) (λ m lt. unsigned_9 m) (λ m le. negative_9 m),
                                      (
                                        λ front len are. omega arith,
                                        (
                                          λ front len are. omega arith,
                                          (
                                            λ front len are. omega arith,
                                            (
                                              λ front len are. omega arith,
                                              (
                                                λ front len are. omega arith,
                                                (
                                                  λ front len are. str_2 (from_be_bytes w8 front) (below_8 front are),
                                                  (
                                                    λ front len are. str_3 (from_be_bytes w16 front) (below_16 front are),
                                                    (
                                                      λ front len are. str_5 (from_be_bytes w32 front),
                                                      (
                                                        λ front len are. arr_3 (from_be_bytes w16 front) (below_16 front are),
                                                        (
                                                          λ front len are. arr_5 (from_be_bytes w32 front),
                                                          (
                                                            λ front len are. map_3 (from_be_bytes w16 front) (below_16 front are),
                                                            (
                                                              λ front len are. map_5 (from_be_bytes w32 front),
                                                              tt,
                                                            ),
                                                          ),
                                                        ),
                                                      ),
                                                    ),
                                                  ),
                                                ),
                                              ),
                                            ),
                                          ),
                                        ),
                                      ),
                                    ),
                                  ),
                                ),
                              ),
                            ),
                          ),
                        ),
                      ),
                    ),
                  ),
                ),
              ),
            ),
          ),
        ),
      ),
    ),
  ),
)

fixed_fine : (b : Bool) (row : Row) (made : Row) (o : Option Row)
    → cond b (Some made) o ≡ Some row → (b ≡ true → IsFine made)
    → (b ≡ false → o ≡ Some row → IsFine row) → IsFine row
fixed_fine true row made o e p q = subst IsFine (same_Some made row e) (p refl)
fixed_fine false row made o e p q = q refl e

named_or : (b : Bool) (row : Row) (made : Row) (o : Option Row)
    → cond b o (Some made) ≡ Some row → (o ≡ Some row → IsFine row)
    → (b ≡ false → IsFine made) → IsFine row
named_or true row made o e p q = p e
named_or false row made o e p q = subst IsFine (same_Some made row e) (q refl)

row_fine : (first : ℕ) (row : Row) → first < 256 → row_of first ≡ Some row → IsFine row
unfolding row_of head_bytes
row_fine first row byte e =
    fixed_fine (ltb first 0x80) row _ _ e (λ t front len are. unsigned_1 first (ltb-true first 0x80 t)) (λ f0 e0.
    fixed_fine (ltb first 0x90) row _ _ e0 (λ t front len are. let lt = ltb-true first 0x90 t in map_1 (first - 0x80) (omega arith)) (λ f1 e1.
    fixed_fine (ltb first 0xa0) row _ _ e1 (λ t front len are. let lt = ltb-true first 0xa0 t in arr_1 (first - 0x90) (omega arith)) (λ f2 e2.
    fixed_fine (ltb first 0xc0) row _ _ e2 (λ t front len are. let lt = ltb-true first 0xc0 t in str_1 (first - 0xa0) (omega arith)) (λ f3 e3.
    named_or (ltb first 0xe0) row _ _ e3 (λ e4. fine_at named_rows (first - 0xc0) row named_fine e4) (λ f front len are. let le = ltb-false first 0xe0 f in negative_1 (256 - first) (omega arith))))))

-- no spelling of a head is shorter than the one that is written
pub shortest : (bytes : List ℕ) (head : Head) (n : ℕ) → AreBytes bytes
    → reading_of bytes ≡ read.Whole head n → length (head_bytes head) ≤ n
shortest bytes head n are h =
    let r = Reads-from bytes head n h in
    let whole = subst AreBytes r.parts are in
    let front = AreBytes-front r.front r.after (λ i. whole (suc i)) in
    let fine = row_fine r.first r.row (whole 0) r.row_is r.front r.len front in
    subst (λ (hd : Head). length (head_bytes hd) ≤ n) (sym r.head_is) (omega (arith, fine, r.used_is))
