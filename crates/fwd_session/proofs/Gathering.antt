-- Bytes that are sent, or copied into a room, part by part.
use Rattle.std.proofs.Common.{◌≡◌, ℕ, zero, suc, ◌+◌, ◌-◌, ◌<◌, ◌≤◌, List, [], ◌∷◌, ◌++◌, length, take, drop, min, slice_index_or, refl, sym, ap, ◌∙◌, arith, append_assoc, drop-drop, take-add, length-append, length-drop, length-take-le}
use Rattle.std.specs.List.{concat, AllByRecursion}
use Rattle.std.proofs.lemmas.List.{take_at, drop_at, append-nil, take-append-drop}
use Rattle.std.proofs.lemmas.List.Folds.{concat-append}
use Rattle.fwd_msgpack.specs.Heads.{head_bytes}
use Rattle.fwd_modes.specs.Frames.{frame_head, frame_option, chunk_frame}
use Rattle.fwd_chunks.specs.History.{CarriedChunk}
use Rattle.fwd_session.specs.ServerAcks.{frame_of}

-- a frame is its head, its entries and its tail
pub frame_parts : (c : CarriedChunk) (size : ℕ) → size ≡ length (concat c.entries)
    → frame_head c.tag size ++ concat c.entries ++ frame_option (length c.entries) c.name
    ≡ frame_of c
unfolding chunk_frame
frame_parts c size e = ap (λ n. frame_head c.tag n ++ concat c.entries ++ frame_option (length c.entries) c.name) e

-- a frame has a byte
pub frame_some : (c : CarriedChunk) → 0 < length (frame_of c)
unfolding chunk_frame head_bytes
frame_some c = omega arith

-- one frame more, which has a byte
pub full_push : (frames : List (List ℕ)) (frame : List ℕ)
    → AllByRecursion (λ f. 0 < length f) frames → 0 < length frame
    → AllByRecursion (λ f. 0 < length f) (frames ++ frame ∷ [])
full_push [] frame full some = (some, tt)
full_push (f ∷ frames) frame full some = (full.0, full_push frames frame full.1 some)

pub concat_push : (frames : List (List ℕ)) (frame : List ℕ)
    → concat (frames ++ frame ∷ []) ≡ concat frames ++ frame
concat_push frames frame = concat-append frames (frame ∷ []) ∙ ap (λ l. concat frames ++ l) (append-nil frame)

-- ---- sent

drop-front : (n : ℕ) (xs ys : List ℕ) → n ≤ length xs → drop n (xs ++ ys) ≡ drop n xs ++ ys
drop-front zero xs ys le = refl
drop-front (suc n) [] ys le = absurd (omega arith)
drop-front (suc n) (x ∷ xs) ys le = drop-front n xs ys (omega (arith, le))

-- so many bytes of the first, and then of the second
pub drop_both : (xs ys : List ℕ) (count first : ℕ) → first ≡ min count (length xs)
    → drop first xs ++ drop (count - first) ys ≡ drop count (xs ++ ys)
drop_both xs ys count first e = sym (by xs ys count first e)
  where
    by : (xs ys : List ℕ) (count first : ℕ) → first ≡ min count (length xs)
        → drop count (xs ++ ys) ≡ drop first xs ++ drop (count - first) ys
    by xs ys zero first e = (let none : 0 ≡ first = omega (arith, e) in ap (λ n. drop n xs ++ drop (0 - n) ys) none)
    by [] ys (suc count) first e =
        let none : 0 ≡ first = omega (arith, e) in
        let all : suc count ≡ suc count - 0 = omega arith in
        ap (λ n. drop n ys) all ∙ ap (λ n. drop n [] ++ drop (suc count - n) ys) none
    by (x ∷ xs) ys (suc count) zero e = absurd (omega (arith, e))
    by (x ∷ xs) ys (suc count) (suc first) e =
        let same : count - first ≡ suc count - suc first = omega arith in
        by xs ys count first (omega (arith, e)) ∙ ap (λ n. drop first xs ++ drop n ys) same

-- ---- copied

-- as many bytes as fit are in a room, which is as it was behind them
pub record IsGathered (bytes old new : List ℕ) (count : ℕ) : Type 0 where
  pub most : count ≡ min (length old) (length bytes)
  pub is : new ≡ take count bytes ++ drop count old

take-short : (n : ℕ) (xs ys : List ℕ) → n ≤ length xs → take n (xs ++ ys) ≡ take n xs
take-short zero xs ys le = refl
take-short (suc n) [] ys le = absurd (omega arith)
take-short (suc n) (x ∷ xs) ys le = ap (λ l. x ∷ l) (take-short n xs ys (omega (arith, le)))

none-behind : (xs ys : List ℕ) (m : ℕ) → (0 < length xs → m ≡ 0) → take m (xs ++ ys) ≡ take m ys
none-behind [] ys m none = refl
none-behind (x ∷ xs) ys m none =
    let zero-is : m ≡ 0 = none (omega arith) in
    ap (λ k. take k (x ∷ (xs ++ ys))) zero-is ∙ sym (ap (λ k. take k ys) zero-is)

module _ (xs ys old mid front rest low : List ℕ) (n m : ℕ) (first : IsGathered xs old mid n)
    (front-is : front ≡ take n mid) (rest-is : rest ≡ drop n mid)
    (second : IsGathered ys rest low m) where
  long : length (take n xs) ≡ n
  long = length-take-le n xs (omega (arith, first.most))

  same : length mid ≡ length old
  same = omega (arith, ap length first.is, length-append (take n xs) (drop n old), long, length-drop n old, first.most)

  left : length rest ≡ length old - n
  left = omega (arith, ap length rest-is, length-drop n mid, same)

  begins : front ≡ take n xs
  begins = front-is ∙ ap (take n) first.is ∙ take_at (take n xs) (drop n old) n long

  goes : rest ≡ drop n old
  goes = rest-is ∙ ap (drop n) first.is ∙ drop_at (take n xs) (drop n old) n long

  none : 0 < length (drop n xs) → m ≡ 0
  none some = omega (arith, some, length-drop n xs, first.most, second.most, left)

  both : take n xs ++ take m ys ≡ take (n + m) (xs ++ ys)
  both =
      sym (take-add n m (xs ++ ys)
      ∙ (λ i. take-short n xs ys (omega (arith, first.most)) i ++ take m (drop-front n xs ys (omega (arith, first.most)) i))
      ∙ ap (λ l. take n xs ++ l) (none-behind (drop n xs) ys m none))

  -- first these bytes, and then others
  pub gathered_both : IsGathered (xs ++ ys) old (front ++ low) (n + m)
  gathered_both = record {
    most = omega (arith, first.most, second.most, left, length-append xs ys);
    is = (λ i. begins i ++ (second.is ∙ (λ j. take m ys ++ drop m (goes j))) i)
        ∙ sym (append_assoc (take n xs) (take m ys) (drop m (drop n old)))
        ∙ (λ i. both i ++ drop-drop m n old i);
  }

-- a room that is full
pub gathered_full : (xs ys old new : List ℕ) (n : ℕ) → IsGathered xs old new n → n ≡ length old
    → IsGathered (xs ++ ys) old new n
gathered_full xs ys old new n g full = record {
  most = omega (arith, g.most, full, length-append xs ys);
  is = g.is ∙ ap (λ l. l ++ drop n old) (sym (take-short n xs ys (omega (arith, g.most))));
}

pub gathered_nothing : (old : List ℕ) → IsGathered [] old old 0
gathered_nothing old = record { most = omega arith; is = refl }

-- the frames up to a place, and one more
pub next_frame : (frames : List (List ℕ)) (place : ℕ) (d : List ℕ) → place < length frames
    → concat (take (place + 1) frames)
    ≡ concat (take place frames) ++ slice_index_or frames place d
next_frame [] place d lt = absurd (omega arith)
next_frame (f ∷ frames) zero d lt = append-nil f
next_frame (f ∷ frames) (suc place) d lt =
    let same : suc place + 1 ≡ suc (place + 1) = omega arith in
    ap (λ n. concat (take n (f ∷ frames))) same ∙ ap (λ l. f ++ l) (next_frame frames place d (omega (arith, lt))) ∙ sym (append_assoc f (concat (take place frames)) (slice_index_or frames place d))

-- all of them, and those behind a place
pub frames_behind : (frames : List (List ℕ)) (place : ℕ)
    → concat frames ≡ concat (take place frames) ++ concat (drop place frames)
frames_behind frames place = ap concat (sym (take-append-drop place frames)) ∙ concat-append (take place frames) (drop place frames)
