-- A list of tags in two pieces of memory.
use Rattle.std.proofs.Common.{◌≡◌, ℕ, suc, zero, ◌+◌, ◌≤◌, ◌<◌, List, [], ◌∷◌, ◌++◌, length, take, drop, get_or, refl, sym, ap, ◌∙◌, arith, append_assoc}
use Rattle.std.proofs.Math.Seq.{drop-cons}
use Rattle.std.proofs.lemmas.List.{length-append, append-nil}
use Rattle.fwd_base.specs.declared.tag_count.TagCount.{TagCount}
use Rattle.fwd_chunks.specs.declared.tag_list.TagRow.{TagRow}
use Rattle.fwd_chunks.specs.Listing.{unpacked, names_len}

names_len-more : (rows : List TagRow) (r : TagRow) → names_len (rows ++ r ∷ []) ≡ names_len rows + r.len
names_len-more [] r = omega arith
names_len-more (x ∷ rows) r = omega (arith, names_len-more rows r)

pub names_len-push : (rows : List TagRow) (names tag : List ℕ) (held bytes : ℕ)
    → names_len rows ≡ length names
    → names_len (rows ++ record { len = length tag; held = held; bytes = bytes } ∷ []) ≡ length (names ++ tag)
names_len-push rows names tag held bytes e = omega (arith, e, names_len-more rows (record { len = length tag; held = held; bytes = bytes }), length-append names tag)

take-all : (xs : List ℕ) → take (length xs) xs ≡ xs
take-all [] = refl
take-all (x ∷ xs) = ap (λ l. x ∷ l) (take-all xs)

take-front : (n : ℕ) (xs ys : List ℕ) → n ≤ length xs → take n (xs ++ ys) ≡ take n xs
take-front zero xs ys le = refl
take-front (suc n) [] ys le = absurd (omega (arith, le))
take-front (suc n) (x ∷ xs) ys le = ap (λ l. x ∷ l) (take-front n xs ys (omega (arith, le)))

drop-front : (n : ℕ) (xs ys : List ℕ) → n ≤ length xs → drop n (xs ++ ys) ≡ drop n xs ++ ys
drop-front zero xs ys le = refl
drop-front (suc n) [] ys le = absurd (omega (arith, le))
drop-front (suc n) (x ∷ xs) ys le = drop-front n xs ys (omega (arith, le))

length-drop : (n : ℕ) (xs : List ℕ) (m : ℕ) → n + m ≡ length xs → m ≡ length (drop n xs)
length-drop zero xs m e = omega (arith, e)
length-drop (suc n) [] m e = absurd (omega (arith, e))
length-drop (suc n) (x ∷ xs) m e = length-drop n xs m (omega (arith, e))

pub unpacked-push : (rows : List TagRow) (names tag : List ℕ) (held bytes : ℕ)
    → names_len rows ≡ length names
    → unpacked (rows ++ record { len = length tag; held = held; bytes = bytes } ∷ []) (names ++ tag)
    ≡ unpacked rows names ++ record { tag = tag; held = held; bytes = bytes } ∷ []
unpacked-push [] [] tag held bytes e = λ i. record { tag = take-all tag i; held = held; bytes = bytes } ∷ []
unpacked-push [] (n ∷ names) tag held bytes e = absurd (omega (arith, e))
unpacked-push (r ∷ rows) names tag held bytes e =
    let within : r.len ≤ length names = omega (arith, e) in
    let rest : names_len rows ≡ length (drop r.len names) = length-drop r.len names (names_len rows) e in
    λ i. record { tag = take-front r.len names tag within i; held = r.held; bytes = r.bytes }
    ∷ (ap (unpacked (rows ++ record { len = length tag; held = held; bytes = bytes } ∷ [])) (drop-front r.len names tag within) ∙ unpacked-push rows (drop r.len names) tag held bytes rest) i

-- ---- the way of a loop

-- what is left of the rows at a place, and of their names
pub record Unpacks (rows : List TagRow) (all names : List ℕ) (done : List TagCount) (place : ℕ) : Type 0 where
  pub made : done ++ unpacked (drop place rows) names ≡ unpacked rows all
  pub fits : names_len (drop place rows) ≡ length names

pub unpacks-first : (rows : List TagRow) (names : List ℕ) → names_len rows ≡ length names
    → Unpacks rows names names [] 0
unpacks-first rows names e = record { made = refl; fits = e }

next-at : (rows : List TagRow) (place : ℕ) (d : TagRow) → place < length rows
    → drop place rows ≡ get_or rows place d ∷ drop (place + 1) rows
next-at rows place d lt = (let more : suc place ≡ place + 1 = omega arith in drop-cons rows place d lt ∙ ap (λ k. get_or rows place d ∷ drop k rows) more)

pub unpacks-fit : (rows : List TagRow) (all names : List ℕ) (done : List TagCount) (place : ℕ) (d : TagRow)
    → Unpacks rows all names done place → place < length rows
    → (get_or rows place d).len ≤ length names
unpacks-fit rows all names done place d own lt = omega (arith, own.fits, ap names_len (next-at rows place d lt))

pub unpacks-next : (rows : List TagRow) (all names : List ℕ) (done : List TagCount) (place : ℕ) (d : TagRow)
    → Unpacks rows all names done place → place < length rows
    → Unpacks rows all (drop (get_or rows place d).len names)
    (done ++ record { tag = take (get_or rows place d).len names; held = (get_or rows place d).held; bytes = (get_or rows place d).bytes } ∷ [])
    (place + 1)
unpacks-next rows all names done place d own lt =
    let r = get_or rows place d in
    record {
      made = append_assoc done (record { tag = take r.len names; held = r.held; bytes = r.bytes } ∷ []) (unpacked (drop (place + 1) rows) (drop r.len names))
          ∙ ap (λ l. done ++ unpacked l names) (sym (next-at rows place d lt)) ∙ own.made;
      fits = length-drop r.len names (names_len (drop (place + 1) rows)) (sym (ap names_len (next-at rows place d lt)) ∙ own.fits);
    }

pub unpacks-last : (rows : List TagRow) (all names : List ℕ) (done : List TagCount) (place : ℕ)
    → Unpacks rows all names done place → length rows ≤ place → done ≡ unpacked rows all
unpacks-last rows all names done place own le =
    sym (append-nil done) ∙ ap (λ l. done ++ unpacked l names) (sym (drop-all place rows le)) ∙ own.made
  where
    drop-all : (n : ℕ) (xs : List TagRow) → length xs ≤ n → drop n xs ≡ []
    drop-all zero [] l = refl
    drop-all zero (x ∷ xs) l = absurd (omega (arith, l))
    drop-all (suc n) [] l = refl
    drop-all (suc n) (x ∷ xs) l = drop-all n xs (omega (arith, l))
