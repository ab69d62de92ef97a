-- The head of a str or a bin has five bytes at most.
use Rattle.std.proofs.Common.{◌≡◌, ℕ, zero, suc, ◌+◌, ◌*◌, ◌-◌, ◌≤◌, ◌⊎◌, inl, inr, Bool, true, false, cond, ltb, List, [], ◌∷◌, length, drop, take, get_or, Option, Some, None, lit≤, refl, ap, arith}
use Rattle.std.specs.Prelude.{option_and_then}
use Rattle.std.specs.Int.{w64, from_be_bytes}
use Rattle.std.proofs.lemmas.List.{length-drop}
use Rattle.fwd_msgpack.specs.declared.head.Head.{Head}
use Rattle.fwd_msgpack.specs.declared.head.Head.TheVariants.{Nil, Bool as Boolean, Int, Float, Str, Bin, Arr, Map, Ext}
use Rattle.fwd_msgpack.specs.declared.head.HeadRead.{HeadRead}
use Rattle.fwd_msgpack.specs.declared.head.HeadRead.TheVariants.{Whole, Short}
use Rattle.fwd_msgpack.specs.Heads.{Row, row_of, named_rows, reading_of, row_reading, fixed, twos_complement}
use Rattle.fwd_msgpack.specs.Scans.{parts_of, parts_read, text_in, text_of}

-- a row of at most four bytes behind the first, or one of no text
abbrev IsSmall : Option Row → Type 0
IsSmall None = Unit {0}
IsSmall (Some row) =
    (row.more ≤ 4) ⊎ ((bytes body : List ℕ) → text_in (row.spells bytes) body ≡ None)

abbrev AreSmall : List (Option Row) → Type 0
AreSmall [] = Unit {0}
AreSmall (row ∷ rows) = IsSmall row × AreSmall rows

small_at : (rows : List (Option Row)) (i : ℕ) → AreSmall rows → IsSmall (get_or rows i None)
small_at [] i all = tt
small_at (row ∷ rows) zero all = all.0
small_at (row ∷ rows) (suc i) all = small_at rows i all.1

no_text : (half n : ℕ) (body : List ℕ) → text_in (twos_complement half n) body ≡ None
no_text half n body = by_test (ltb n half)
  where
    by_test : (b : Bool) → text_in (cond b (Int false n) (Int true (2 * half - n))) body ≡ None
    by_test true = refl
    by_test false = refl

named_small : AreSmall named_rows
unfolding named_rows
named_small = (
  inl (lit≤ tt),
  (
    tt,
    (
      inl (lit≤ tt),
      (
        inl (lit≤ tt),
        (
          inl (lit≤ tt),
          (
            inl (lit≤ tt),
            (
              inl (lit≤ tt),
              (
                inl (lit≤ tt),
                (
                  inl (lit≤ tt),
                  (
                    inr (λ bytes body. refl),
                    (
                      inl (lit≤ tt),
                      (
                        inl (lit≤ tt),
                        (
                          inl (lit≤ tt),
                          (
                            inl (lit≤ tt),
                            (
                              inl (lit≤ tt),
                              (
                                inr (λ bytes body. refl),
                                (
                                  inl (lit≤ tt),
                                  (
                                    inl (lit≤ tt),
                                    (
                                      inl (lit≤ tt),
                                      (
                                        inr (λ bytes body. no_text 0x8000_0000_0000_0000 (from_be_bytes w64 bytes) body),
                                        (
                                          inl (lit≤ tt),
                                          (
                                            inl (lit≤ tt),
                                            (
                                              inl (lit≤ tt),
                                              (
                                                inl (lit≤ tt),
                                                (
                                                  inl (lit≤ tt),
                                                  (
                                                    inl (lit≤ tt),
                                                    (
                                                      inl (lit≤ tt),
                                                      (
                                                        inl (lit≤ tt),
                                                        (
                                                          inl (lit≤ tt),
                                                          (
                                                            inl (lit≤ tt),
                                                            (inl (lit≤ tt), (inl (lit≤ tt), tt)),
                                                          ),
                                                        ),
                                                      ),
                                                    ),
                                                  ),
                                                ),
                                              ),
                                            ),
                                          ),
                                        ),
                                      ),
                                    ),
                                  ),
                                ),
                              ),
                            ),
                          ),
                        ),
                      ),
                    ),
                  ),
                ),
              ),
            ),
          ),
        ),
      ),
    ),
  ),
)

small : (first : ℕ) → IsSmall (row_of first)
unfolding row_of
small first = by_tests (ltb first 0x80) (ltb first 0x90) (ltb first 0xa0) (ltb first 0xc0) (ltb first 0xe0)
  where
    by_tests : (a b c d e : Bool)
        → IsSmall
        (cond a (fixed (Int false first))
        (cond b (fixed (Map (first - 0x80)))
        (cond c (fixed (Arr (first - 0x90)))
        (cond d (fixed (Str (first - 0xa0)))
        (cond e (get_or named_rows (first - 0xc0) None)
        (fixed (Int true (256 - first))))))))
    by_tests true b c d e = inl (omega arith)
    by_tests false true c d e = inl (omega arith)
    by_tests false false true d e = inl (omega arith)
    by_tests false false false true e = inl (omega arith)
    by_tests false false false false true = small_at named_rows (first - 0xc0) named_small
    by_tests false false false false false = inl (omega arith)

text_is : (head : Head) (body text : List ℕ) → Some text ≡ text_in head body → text ≡ body
text_is Nil body text e = absurd cc
text_is (Boolean b) body text e = absurd cc
text_is (Int neg mag) body text e = absurd cc
text_is (Float len) body text e = absurd cc
text_is (Str len) body text e = cc
text_is (Bin len) body text e = cc
text_is (Arr n) body text e = absurd cc
text_is (Map n) body text e = absurd cc
text_is (Ext kind len) body text e = absurd cc

abbrev text_read : HeadRead → List ℕ → Option (List ℕ)
text_read read bytes =
    option_and_then (λ (parts : Head × List ℕ). text_in parts.0 parts.1) (parts_read read bytes)

row_text : (first : ℕ) (rest text : List ℕ) (row : Option Row) → IsSmall row
    → Some text ≡ text_read (row_reading row rest) (first ∷ rest)
    → length (first ∷ rest) ≤ length text + 5
row_text first rest text None s e = absurd cc
row_text first rest text (Some row) s e = by_test (ltb (length rest) row.more) e
  where
    whole : (head : Head)
        → (row.more ≤ 4) ⊎ (text_in head (drop (row.more + 1) (first ∷ rest)) ≡ None)
        → Some text ≡ text_in head (drop (row.more + 1) (first ∷ rest))
        → length (first ∷ rest) ≤ length text + 5
    whole head (inl few) f = omega (arith, ap length (text_is head (drop (row.more + 1) (first ∷ rest)) text f), length-drop (row.more + 1) (first ∷ rest))
    whole head (inr none) f = absurd cc

    at_row :
        (row.more ≤ 4) ⊎ ((bytes body : List ℕ) → text_in (row.spells bytes) body ≡ None)
        → (row.more ≤ 4)
        ⊎ (text_in (row.spells (take row.more rest)) (drop (row.more + 1) (first ∷ rest))
        ≡ None)
    at_row (inl few) = inl few
    at_row (inr none) = inr (none (take row.more rest) (drop (row.more + 1) (first ∷ rest)))

    by_test : (b : Bool)
        → Some text
        ≡ text_read (cond b Short (Whole (row.spells (take row.more rest)) (row.more + 1)))
        (first ∷ rest)
        → length (first ∷ rest) ≤ length text + 5
    by_test true f = absurd cc
    by_test false f = whole (row.spells (take row.more rest)) (at_row s) f

-- a str or a bin is at most five bytes longer than its payload
pub length-text_of : (bytes text : List ℕ) → Some text ≡ text_of bytes
    → length bytes ≤ length text + 5
unfolding parts_of reading_of
length-text_of [] text e = omega arith
length-text_of (first ∷ rest) text e = row_text first rest text (row_of first) (small first) e
