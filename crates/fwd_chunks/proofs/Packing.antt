-- Entries one after the other: how many bytes, where they end, and what is cut of them.
use Rattle.std.proofs.Common.{◌≡◌, ℕ, zero, suc, ◌+◌, ◌-◌, ◌<◌, ◌≤◌, List, [], ◌∷◌, ◌++◌, length, take, drop, get_or, refl, sym, ap, ◌∙◌, arith, take-add, take-take, drop-drop, length-drop, length-take-le, length-append}
use Rattle.std.specs.List.{concat}
use Rattle.std.proofs.lemmas.List.{drop-take}
use Rattle.fwd_modes.specs.Entries.{AreFull, cut_at, ends_from, ends_of}
use Rattle.fwd_modes.proofs.EntryLemmas.{cut_joined}
use Rattle.fwd_chunks.specs.Cells.{size_of}

pub size_joined : (entries : List (List ℕ)) → size_of entries ≡ length (concat entries)
size_joined [] = refl
size_joined (e ∷ entries) = omega (arith, size_joined entries, length-append e (concat entries))

pub size_append : (xs ys : List (List ℕ)) → size_of (xs ++ ys) ≡ size_of xs + size_of ys
size_append [] ys = omega arith
size_append (x ∷ xs) ys = omega (arith, size_append xs ys)

-- ---- the first so many, and the others

ends-take : (n place : ℕ) (entries : List (List ℕ))
    → take n (ends_from place entries) ≡ ends_from place (take n entries)
ends-take zero place entries = refl
ends-take (suc n) place [] = refl
ends-take (suc n) place (e ∷ entries) = ap (λ ns. (place + length e) ∷ ns) (ends-take n (place + length e) entries)

ends-drop : (n place : ℕ) (entries : List (List ℕ))
    → drop n (ends_from place entries)
    ≡ ends_from (place + size_of (take n entries)) (drop n entries)
ends-drop zero place entries = (let same : place ≡ place + 0 = omega arith in ap (λ p. ends_from p entries) same)
ends-drop (suc n) place [] = refl
ends-drop (suc n) place (e ∷ entries) =
    let same : place + length e + size_of (take n entries) ≡ place + (length e + size_of (take n entries)) = omega arith in
    ends-drop n (place + length e) entries ∙ ap (λ p. ends_from p (drop n entries)) same

concat-take : (n : ℕ) (entries : List (List ℕ))
    → take (size_of (take n entries)) (concat entries) ≡ concat (take n entries)
concat-take zero entries = refl
concat-take (suc n) [] = refl
concat-take (suc n) (e ∷ entries) = front e (size_of (take n entries)) (concat entries) ∙ ap (λ bs. e ++ bs) (concat-take n entries)
  where
    front : (xs : List ℕ) (k : ℕ) (ys : List ℕ) → take (length xs + k) (xs ++ ys) ≡ xs ++ take k ys
    front [] k ys = (let same : 0 + k ≡ k = omega arith in ap (λ m. take m ys) same)
    front (x ∷ xs) k ys = (let same : suc (length xs) + k ≡ suc (length xs + k) = omega arith in ap (λ m. take m (x ∷ (xs ++ ys))) same ∙ ap (λ l. x ∷ l) (front xs k ys))

concat-drop : (n : ℕ) (entries : List (List ℕ))
    → drop (size_of (take n entries)) (concat entries) ≡ concat (drop n entries)
concat-drop zero entries = refl
concat-drop (suc n) [] = refl
concat-drop (suc n) (e ∷ entries) = front e (size_of (take n entries)) (concat entries) ∙ concat-drop n entries
  where
    front : (xs : List ℕ) (k : ℕ) (ys : List ℕ) → drop (length xs + k) (xs ++ ys) ≡ drop k ys
    front [] k ys = (let same : 0 + k ≡ k = omega arith in ap (λ m. drop m ys) same)
    front (x ∷ xs) k ys = (let same : suc (length xs) + k ≡ suc (length xs + k) = omega arith in ap (λ m. drop m (x ∷ (xs ++ ys))) same ∙ front xs k ys)

-- ---- a row of entries, behind so many others

pub row_size : (f c : ℕ) (entries : List (List ℕ))
    → size_of (take (f + c) entries)
    ≡ size_of (take f entries) + size_of (take c (drop f entries))
row_size f c entries = ap size_of (take-add f c entries) ∙ size_append (take f entries) (take c (drop f entries))

pub row_bytes : (f c : ℕ) (entries : List (List ℕ))
    → take (size_of (take c (drop f entries))) (drop (size_of (take f entries)) (concat entries))
    ≡ concat (take c (drop f entries))
row_bytes f c entries = ap (take (size_of (take c (drop f entries)))) (concat-drop f entries) ∙ concat-take c (drop f entries)

pub row_ends : (f c : ℕ) (entries : List (List ℕ))
    → take c (drop f (ends_of entries))
    ≡ ends_from (size_of (take f entries)) (take c (drop f entries))
row_ends f c entries =
    let place : 0 + size_of (take f entries) ≡ size_of (take f entries) = omega arith in
    ap (take c) (ends-drop f 0 entries ∙ ap (λ p. ends_from p (drop f entries)) place) ∙ ends-take c (size_of (take f entries)) (drop f entries)

pub row_length : (f c : ℕ) (entries : List (List ℕ)) → f + c ≤ length entries
    → length (take c (drop f entries)) ≡ c
row_length f c entries le = length-take-le c (drop f entries) (omega (arith, le, length-drop f entries))

pub row_front : (f c n : ℕ) (entries : List (List ℕ)) → n ≤ c
    → take n (drop f entries) ≡ take n (take c (drop f entries))
row_front f c n entries le = sym (take-take n c (drop f entries) le)

pub row_back : (f c n : ℕ) (entries : List (List ℕ)) → n ≤ c
    → take (c - n) (drop (f + n) entries) ≡ drop n (take c (drop f entries))
row_back f c n entries le =
    let all : n + (c - n) ≡ c = omega (arith, le) in
    ap (take (c - n)) (sym (drop-drop n f entries)) ∙ sym (drop-take n (c - n) (drop f entries)) ∙ ap (λ k. drop n (take k (drop f entries))) all

pub size_take : (n : ℕ) (entries : List (List ℕ)) → size_of (take n entries) ≤ size_of entries
size_take zero entries = omega arith
size_take (suc n) [] = omega arith
size_take (suc n) (e ∷ entries) = omega (arith, size_take n entries)

-- rows that have the same ends and bytes
pub row_same : (place : ℕ) (xs ys : List (List ℕ)) → ends_from place xs ≡ ends_from place ys
    → concat xs ≡ concat ys → xs ≡ ys
row_same place xs ys ends bytes = sym (cut_joined place xs) ∙ (λ i. cut_at place (ends i) (bytes i)) ∙ cut_joined place ys

-- the end of an entry
ends-at : (i place d : ℕ) (entries : List (List ℕ)) → i < length entries
    → get_or (ends_from place entries) i d ≡ place + size_of (take (suc i) entries)
ends-at i place d [] lt = absurd (omega arith)
ends-at zero place d (e ∷ entries) lt = omega arith
ends-at (suc i) place d (e ∷ entries) lt = omega (arith, ends-at i (place + length e) d entries (omega (arith, lt)))

pub end_at : (i d : ℕ) (entries : List (List ℕ)) → i < length entries
    → get_or (ends_of entries) i d ≡ size_of (take (suc i) entries)
end_at i d entries lt = omega (arith, ends-at i 0 d entries lt)

-- ---- each entry has a byte

full-take : (n : ℕ) (entries : List (List ℕ)) → AreFull entries → AreFull (take n entries)
full-take zero entries full = tt
full-take (suc n) [] full = tt
full-take (suc n) (e ∷ entries) full = (full.0, full-take n entries full.1)

full-drop : (n : ℕ) (entries : List (List ℕ)) → AreFull entries → AreFull (drop n entries)
full-drop zero entries full = full
full-drop (suc n) [] full = tt
full-drop (suc n) (e ∷ entries) full = full-drop n entries full.1

pub few : (entries : List (List ℕ)) → AreFull entries → length entries ≤ size_of entries
few [] full = omega arith
few (e ∷ entries) full = omega (arith, full.0, few entries full.1)

pub row_few : (f c : ℕ) (entries : List (List ℕ)) → AreFull entries
    → length (take c (drop f entries)) ≤ size_of (take c (drop f entries))
row_few f c entries full = few (take c (drop f entries)) (full-take c (drop f entries) (full-drop f entries full))
