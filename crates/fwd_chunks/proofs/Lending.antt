-- Bytes that are lent, in pieces.
use Rattle.std.proofs.Common.{◌≡◌, ℕ, zero, suc, ◌-◌, ◌<◌, ◌≤◌, List, [], ◌∷◌, ◌++◌, length, take, drop, refl, sym, subst, ap, ◌∙◌, arith, append_assoc, length-append}
use Rattle.std.specs.Prelude.{Bool, map, ◌||◌}
use Rattle.std.specs.List.{concat, list_any}
use Rattle.std.proofs.lemmas.List.{take_at, append-nil, take-append-drop}
use Rattle.std.proofs.lemmas.List.Folds.{concat-append}
use Rattle.fwd_chunks.specs.declared.write_slices.TheConstants.{PIECE_LIMIT}
use Rattle.fwd_chunks.specs.Lending.{AreSome, IsLent}

-- no bytes
pub lent_nothing : (before : List (List ℕ)) → IsLent before [] before
lent_nothing before = record { parts = []; some = tt; whole = refl; is = none (PIECE_LIMIT - length before) }
  where
    none : (n : ℕ) → before ≡ before ++ take n []
    none zero = sym (append-nil before)
    none (suc n) = sym (append-nil before)

pub lent_empty : (before : List (List ℕ)) (piece : List ℕ) → length piece ≡ 0
    → IsLent before piece before
lent_empty before [] none = lent_nothing before
lent_empty before (x ∷ xs) none = absurd (omega (arith, none))

-- one piece, where there is place
pub lent_piece : (before : List (List ℕ)) (piece : List ℕ) → 0 < length piece
    → length before < PIECE_LIMIT → IsLent before piece (before ++ piece ∷ [])
lent_piece before piece some lt = record {
  parts = piece ∷ [];
  some = (some, tt);
  whole = append-nil piece;
  is = ap (λ ps. before ++ ps) (sym (by (PIECE_LIMIT - length before) (omega (arith, lt))));
}
  where
    by : (n : ℕ) → 0 < n → take n (piece ∷ []) ≡ piece ∷ []
    by zero lt = absurd (omega (arith, lt))
    by (suc zero) lt = refl
    by (suc (suc n)) lt = refl

-- bytes where there is no place
pub lent_full : (before : List (List ℕ)) (bytes : List ℕ) → length before ≡ PIECE_LIMIT
    → IsLent before bytes before
lent_full before [] full = lent_nothing before
lent_full before (x ∷ xs) full =
    let none : 0 ≡ PIECE_LIMIT - length before = omega (arith, full) in
    record {
      parts = (x ∷ xs) ∷ [];
      some = (omega arith, tt);
      whole = append-nil (x ∷ xs);
      is = sym (append-nil before) ∙ ap (λ n. before ++ take n ((x ∷ xs) ∷ [])) none;
    }

some-both : (ps qs : List (List ℕ)) → AreSome ps → AreSome qs → AreSome (ps ++ qs)
some-both [] qs a b = b
some-both (p ∷ ps) qs a b = (a.0, some-both ps qs a.1 b)

take-both : (n : ℕ) (ps qs : List (List ℕ))
    → take n ps ++ take (n - length (take n ps)) qs ≡ take n (ps ++ qs)
take-both zero ps qs = refl
take-both (suc n) [] qs = (let all : suc n - 0 ≡ suc n = omega arith in ap (λ m. take m qs) all)
take-both (suc n) (p ∷ ps) qs =
    let same : n - length (take n ps) ≡ suc n - suc (length (take n ps)) = omega arith in
    ap (λ l. p ∷ l) (ap (λ m. take n ps ++ take m qs) (sym same) ∙ take-both n ps qs)

-- first these bytes, and then others
pub lent_both : (before mid after : List (List ℕ)) (xs ys : List ℕ) → IsLent before xs mid
    → IsLent mid ys after → IsLent before (xs ++ ys) after
lent_both before mid after xs ys first second =
    let n : ℕ = PIECE_LIMIT - length before in
    let left : PIECE_LIMIT - length mid ≡ n - length (take n first.parts) =
    omega (arith, ap length first.is, length-append before (take n first.parts)) in
    record {
      parts = first.parts ++ second.parts;
      some = some-both first.parts second.parts first.some second.some;
      whole = concat-append first.parts second.parts ∙ (λ i. first.whole i ++ second.whole i);
      is = second.is
          ∙ (λ i. first.is i ++ take (left i) second.parts)
          ∙ append_assoc before (take n first.parts) (take (n - length (take n first.parts)) second.parts)
          ∙ ap (λ ps. before ++ ps) (take-both n first.parts second.parts);
    }

-- where what is left is lent behind those in the middle, all are behind those before
abbrev pub GoesOn : (before : List (List ℕ)) (all : List ℕ) (mid : List (List ℕ)) (left : List ℕ)
    → Type 0
GoesOn before all mid left = (after : List (List ℕ)) → IsLent mid left after
    → IsLent before all after

-- one piece of what is left more
pub goes_on : (before mid next : List (List ℕ)) (all piece left : List ℕ)
    → GoesOn before all mid (piece ++ left) → IsLent mid piece next → GoesOn before all next left
goes_on before mid next all piece left goes lent after last =
    goes after (lent_both mid next after piece left lent last)

-- the bytes that are lent are the first ones
pub lent_front : (bytes : List ℕ) (after : List (List ℕ)) → IsLent [] bytes after
    → concat after ≡ take (length (concat after)) bytes
lent_front bytes after lent =
    let all : concat after ++ concat (drop PIECE_LIMIT lent.parts) ≡ bytes =
    ap (λ ps. concat ps ++ concat (drop PIECE_LIMIT lent.parts)) lent.is
    ∙ sym (concat-append (take PIECE_LIMIT lent.parts) (drop PIECE_LIMIT lent.parts))
    ∙ ap concat (take-append-drop PIECE_LIMIT lent.parts)
    ∙ lent.whole in
    sym (ap (take (length (concat after))) (sym all) ∙ take_at (concat after) (concat (drop PIECE_LIMIT lent.parts)) (length (concat after)) refl)

some-first : (ps : List (List ℕ)) → AreSome ps → 0 < length (concat ps)
    → 0 < length (concat (take PIECE_LIMIT ps))
some-first [] some lt = absurd (omega (arith, lt))
some-first (p ∷ ps) some lt = omega (arith, some.0, length-append p (concat (take 3 ps)))

-- some are lent where there are some
pub lent_some : (bytes : List ℕ) (after : List (List ℕ)) → IsLent [] bytes after
    → 0 < length bytes → 0 < length (concat after)
lent_some bytes after lent lt =
    omega (arith, ap (λ ps. length (concat ps)) lent.is, some-first lent.parts lent.some (omega (arith, lt, ap length lent.whole)))

some-take : (n : ℕ) (ps : List (List ℕ)) → AreSome ps → AreSome (take n ps)
some-take zero ps some = tt
some-take (suc n) [] some = tt
some-take (suc n) (p ∷ ps) some = (some.0, some-take n ps some.1)

-- none of them is empty
pub lent_each : (bytes : List ℕ) (after : List (List ℕ)) → IsLent [] bytes after → AreSome after
lent_each bytes after lent = subst AreSome (sym lent.is) (some-take PIECE_LIMIT lent.parts lent.some)

few-take : (n : ℕ) (ps : List (List ℕ)) → length (take n ps) ≤ n
few-take zero ps = omega arith
few-take (suc n) [] = omega arith
few-take (suc n) (p ∷ ps) = omega (arith, few-take n ps)

pub lent_few : (bytes : List ℕ) (after : List (List ℕ)) → IsLent [] bytes after
    → length after ≤ PIECE_LIMIT
lent_few bytes after lent = omega (arith, ap length lent.is, few-take PIECE_LIMIT lent.parts)

-- ---- a test of the pieces

pub any_map : {A B : Type 0} (test : B → Bool) (f : A → B) (xs : List A)
    → list_any test (map f xs) ≡ list_any (λ x. test (f x)) xs
any_map test f [] = refl
any_map test f (x ∷ xs) = ap (λ b. test (f x) || b) (any_map test f xs)
