-- Frames of which bytes are sent, and how many bytes wait through each one.
use Rattle.std.proofs.Common.{◌≡◌, ℕ, zero, suc, ◌+◌, ◌-◌, ◌<◌, ◌≤◌, ⊎_elim, Bool, true, false, cond, ltb, min, List, [], ◌∷◌, ◌++◌, length, take, drop, refl, sym, ap, subst, ◌∙◌, arith, length-append, length-drop, length-take, drop-drop, append_assoc}
use Rattle.std.specs.Prelude.{map, replicate, slice_index_or, slice_set}
use Rattle.std.specs.List.{concat, AllByRecursion}
use Rattle.std.proofs.Math.Seq.{drop-append-add}
use Rattle.std.proofs.lemmas.Bool.{cases_lt}
use Rattle.std.proofs.lemmas.Bool.Decides.{nat_tests}
use Rattle.std.proofs.lemmas.List.{drop-append-le, map-append, replicate-append-replicate}
use Rattle.fwd_session.specs.Flights.{unsent_after, ends_behind, left_through}

-- each has a byte
abbrev pub AreFull : List (List ℕ) → Type 0
AreFull frames = AllByRecursion (λ f. 0 < length f) frames

pub unsent_none : (frames : List (List ℕ)) → AreFull frames → unsent_after 0 frames ≡ frames
unsent_none [] full = refl
unsent_none (f ∷ frames) full =
    let some : ltb 0 (length f) ≡ true = grind (arith, nat_tests, full.0) in
    ap (λ b. cond b (drop 0 f ∷ frames) (unsent_after (0 - length f) frames)) some

-- the bytes that are left
pub concat_unsent : (count : ℕ) (frames : List (List ℕ))
    → concat (unsent_after count frames) ≡ drop count (concat frames)
concat_unsent zero [] = refl
concat_unsent (suc count) [] = refl
concat_unsent count (f ∷ frames) =
    by (ltb count (length f)) refl (concat_unsent (count - length f) frames)
  where
    by : (b : Bool) → ltb count (length f) ≡ b
        → concat (unsent_after (count - length f) frames) ≡ drop (count - length f) (concat frames)
        → concat (cond b (drop count f ∷ frames) (unsent_after (count - length f) frames))
        ≡ drop count (f ++ concat frames)
    by true is later = sym (drop-append-le count f (concat frames) (grind (arith, nat_tests, is)))
    by false is later =
        let all : length f + (count - length f) ≡ count = grind (arith, nat_tests, is) in
        later ∙ sym (drop-append-add f (concat frames) (count - length f))
        ∙ ap (λ n. drop n (f ++ concat frames)) all

pub full_unsent : (count : ℕ) (frames : List (List ℕ)) → AreFull frames
    → AreFull (unsent_after count frames)
full_unsent count [] full = tt
full_unsent count (f ∷ frames) full =
    by (ltb count (length f)) refl (full_unsent (count - length f) frames full.1)
  where
    by : (b : Bool) → ltb count (length f) ≡ b → AreFull (unsent_after (count - length f) frames)
        → AreFull (cond b (drop count f ∷ frames) (unsent_after (count - length f) frames))
    by true is later = (let some : count < length f = grind (arith, nat_tests, is) in omega (arith, some, length-drop count f), full.1)
    by false is later = later

pub fewer_unsent : (count : ℕ) (frames : List (List ℕ))
    → length (unsent_after count frames) ≤ length frames
fewer_unsent count [] = omega arith
fewer_unsent count (f ∷ frames) =
    by (ltb count (length f)) (fewer_unsent (count - length f) frames)
  where
    by : (b : Bool) → length (unsent_after (count - length f) frames) ≤ length frames
        → length (cond b (drop count f ∷ frames) (unsent_after (count - length f) frames))
        ≤ suc (length frames)
    by true later = omega arith
    by false later = omega (arith, later)

-- so many, and then so many more
pub unsent_more : (first more : ℕ) (frames : List (List ℕ))
    → unsent_after more (unsent_after first frames) ≡ unsent_after (first + more) frames
unsent_more first more [] = refl
unsent_more first more (f ∷ frames) =
    by (ltb first (length f)) refl (unsent_more (first - length f) more frames)
  where
    within : first < length f → (b : Bool) → ltb (first + more) (length f) ≡ b
        → cond (ltb more (length (drop first f))) (drop more (drop first f) ∷ frames)
        (unsent_after (more - length (drop first f)) frames)
        ≡ cond b (drop (first + more) f ∷ frames) (unsent_after (first + more - length f) frames)
    within some true is =
        let there : ltb more (length (drop first f)) ≡ true = grind (arith, nat_tests, is, some, length-drop first f) in
        ap (λ b. cond b (drop more (drop first f) ∷ frames) (unsent_after (more - length (drop first f)) frames)) there
        ∙ ap (λ g. g ∷ frames) (drop-drop more first f)
    within some false is =
        let past : ltb more (length (drop first f)) ≡ false = grind (arith, nat_tests, is, some, length-drop first f) in
        let same : more - length (drop first f) ≡ first + more - length f = omega (arith, some, length-drop first f) in
        ap (λ b. cond b (drop more (drop first f) ∷ frames) (unsent_after (more - length (drop first f)) frames)) past
        ∙ ap (λ n. unsent_after n frames) same

    by : (b : Bool) → ltb first (length f) ≡ b
        → unsent_after more (unsent_after (first - length f) frames)
        ≡ unsent_after (first - length f + more) frames
        → unsent_after more (cond b (drop first f ∷ frames)
        (unsent_after (first - length f) frames))
        ≡ cond (ltb (first + more) (length f)) (drop (first + more) f ∷ frames)
        (unsent_after (first + more - length f) frames)
    by true is later = within (grind (arith, nat_tests, is)) (ltb (first + more) (length f)) refl
    by false is later =
        let past : ltb (first + more) (length f) ≡ false = grind (arith, nat_tests, is) in
        let same : first - length f + more ≡ first + more - length f = grind (arith, nat_tests, is) in
        later ∙ ap (λ n. unsent_after n frames) same
        ∙ sym (ap (λ b. cond b (drop (first + more) f ∷ frames) (unsent_after (first + more - length f) frames)) past)

-- some bytes of the first frame
pub unsent_first : (count : ℕ) (f : List ℕ) (frames : List (List ℕ)) → AreFull frames
    → count ≤ length f
    → unsent_after count (f ∷ frames)
    ≡ cond (ltb count (length f)) (drop count f ∷ frames) frames
unsent_first count f frames full le = by (ltb count (length f)) refl
  where
    by : (b : Bool) → ltb count (length f) ≡ b
        → cond b (drop count f ∷ frames) (unsent_after (count - length f) frames)
        ≡ cond b (drop count f ∷ frames) frames
    by true is = refl
    by false is =
        let none : count - length f ≡ 0 = omega (arith, le) in
        ap (λ n. unsent_after n frames) none ∙ unsent_none frames full

-- the first frame, whichever stands for one that is not there
pub same_first : (frames : List (List ℕ)) (f g : List ℕ) → 0 < length frames
    → slice_index_or frames 0 f ≡ f → slice_index_or frames 0 g ≡ g → f ≡ g
same_first [] f g some e h = absurd (omega (arith, some))
same_first (x ∷ frames) f g some e h = sym e ∙ h

pub within_front : (front f : List ℕ) (n : ℕ) → front ≡ take n f → length front ≤ length f
within_front front f n e = omega (arith, ap length e, length-take n f)

-- the first frame is sent whole, and is gone
pub unsent_popped : (count : ℕ) (frames : List (List ℕ)) (f g : List ℕ) → AreFull frames
    → 0 < length frames → slice_index_or frames 0 f ≡ f → count ≤ length f
    → length (drop count f) ≡ 0 → drop 1 (slice_set frames 0 g) ≡ unsent_after count frames
unsent_popped count [] f g full some first le none = absurd (omega (arith, some))
unsent_popped count (h ∷ frames) f g full some first le none =
    let past : ltb count (length h) ≡ false = grind (arith, nat_tests, le, none, length-drop count f, ap length first) in
    sym (unsent_first count h frames full.1 (omega (arith, le, ap length first))
    ∙ ap (λ b. cond b (drop count h ∷ frames) frames) past)

-- the first frame is sent in part
pub unsent_part : (count : ℕ) (frames : List (List ℕ)) (f : List ℕ) → AreFull frames
    → 0 < length frames → slice_index_or frames 0 f ≡ f → count ≤ length f
    → 0 < length (drop count f) → slice_set frames 0 (drop count f) ≡ unsent_after count frames
unsent_part count [] f full some first le more = absurd (omega (arith, some))
unsent_part count (h ∷ frames) f full some first le more =
    let there : ltb count (length h) ≡ true = grind (arith, nat_tests, le, more, length-drop count f, ap length first) in
    (λ i. drop count (sym first i) ∷ frames)
    ∙ sym (unsent_first count h frames full.1 (omega (arith, le, ap length first))
    ∙ ap (λ b. cond b (drop count h ∷ frames) frames) there)

-- ---- how many bytes wait through each

pub ends_length : (before : ℕ) (frames : List (List ℕ))
    → length (ends_behind before frames) ≡ length frames
ends_length before [] = refl
ends_length before (f ∷ frames) = ap suc (ends_length (before + length f) frames)

pub ends_push : (before : ℕ) (frames : List (List ℕ)) (frame : List ℕ)
    → ends_behind before (frames ++ frame ∷ [])
    ≡ ends_behind before frames ++ (before + length (concat frames) + length frame) ∷ []
ends_push before [] frame = ap (λ n. n ∷ []) (omega arith)
ends_push before (f ∷ frames) frame =
    let same : before + length f + length (concat frames) + length frame ≡ before + length (f ++ concat frames) + length frame = omega (arith, length-append f (concat frames)) in
    ap (λ ns. (before + length f) ∷ ns) (ends_push (before + length f) frames frame ∙ ap (λ n. ends_behind (before + length f) frames ++ n ∷ []) same)

pub ends_some : (before : ℕ) (frames : List (List ℕ)) → AreFull frames
    → AllByRecursion (λ n. 0 < n) (ends_behind before frames)
ends_some before [] full = tt
ends_some before (f ∷ frames) full = (omega (arith, full.0), ends_some (before + length f) frames full.1)

-- so many bytes fewer
abbrev pub less : ℕ → List ℕ → List ℕ
less count ns = map (λ n. n - count) ns

less_zeros : (count m : ℕ) → less count (replicate m 0) ≡ replicate m 0
less_zeros count zero = refl
less_zeros count (suc m) = (let none : 0 - count ≡ 0 = omega arith in λ i. none i ∷ less_zeros count m i)

-- where all of them are of those before
less_before : (count before : ℕ) (frames : List (List ℕ)) → count ≤ before
    → less count (ends_behind before frames) ≡ ends_behind (before - count) frames
less_before count before [] le = refl
less_before count before (f ∷ frames) le =
    let same : before + length f - count ≡ before - count + length f = omega (arith, le) in
    (λ i. same i ∷ less_before count (before + length f) frames (omega (arith, le)) i)
    ∙ ap (λ n. (before - count + length f) ∷ ends_behind n frames) same

-- where those before are among them
less_past : (count before : ℕ) (frames : List (List ℕ)) → before ≤ count
    → less count (ends_behind before frames)
    ≡ replicate (length frames - length (unsent_after (count - before) frames)) 0
    ++ ends_behind 0 (unsent_after (count - before) frames)
less_past count before [] le = refl
less_past count before (f ∷ frames) le =
    by (ltb (count - before) (length f)) refl (less_past count (before + length f) frames)
  where
    by : (b : Bool) → ltb (count - before) (length f) ≡ b
        → (before + length f ≤ count → less count (ends_behind (before + length f) frames)
        ≡ replicate (length frames - length (unsent_after (count - (before + length f)) frames)) 0
        ++ ends_behind 0 (unsent_after (count - (before + length f)) frames))
        → (before + length f - count) ∷ less count (ends_behind (before + length f) frames)
        ≡ replicate
        (suc (length frames) - length (cond b (drop (count - before) f ∷ frames)
        (unsent_after (count - before - length f) frames))) 0
        ++ ends_behind 0 (cond b (drop (count - before) f ∷ frames)
        (unsent_after (count - before - length f) frames))
    by true is later =
        let some : count - before < length f = grind (arith, nat_tests, is) in
        let left : before + length f - count ≡ 0 + length (drop (count - before) f) = omega (arith, le, some, length-drop (count - before) f) in
        let none : 0 ≡ suc (length frames) - suc (length frames) = omega arith in
        (λ i. left i ∷ less_before count (before + length f) frames (omega (arith, some)) i)
        ∙ ap (λ n. (0 + length (drop (count - before) f)) ∷ ends_behind n frames) left
        ∙ ap (λ n. replicate n 0 ++ ends_behind 0 (drop (count - before) f ∷ frames)) none
    by false is later =
        let past : length f ≤ count - before = grind (arith, nat_tests, is) in
        let same : count - (before + length f) ≡ count - before - length f = omega arith in
        let zero_left : before + length f - count ≡ 0 = omega (arith, past, le) in
        let us = unsent_after (count - before - length f) frames in
        let more : suc (length frames - length us) ≡ suc (length frames) - length us = omega (arith, fewer_unsent (count - before - length f) frames) in
        (λ i. zero_left i ∷ (later (omega (arith, past, le)) ∙ ap (λ n. replicate (length frames - length (unsent_after n frames)) 0 ++ ends_behind 0 (unsent_after n frames)) same) i)
        ∙ ap (λ n. replicate n 0 ++ ends_behind 0 us) more

-- what is left where so many of them are of those before, and the rest of the frames
abbrev IsSent : (count before : ℕ) → List (List ℕ) → (first : ℕ) → Type 0
IsSent count before frames first = less count (ends_behind before frames)
    ≡ replicate (length frames - length (unsent_after (count - first) frames)) 0
    ++ ends_behind (before - first) (unsent_after (count - first) frames)

ends_sent : (count before : ℕ) (frames : List (List ℕ)) → AreFull frames
    → IsSent count before frames (min count before)
ends_sent count before frames full = ⊎_elim (λ lt. many (omega (arith, lt))) few (cases_lt before count)
  where
    few : count ≤ before → IsSent count before frames (min count before)
    few le =
        let first : count ≡ min count before = omega (arith, le) in
        let none : 0 ≡ count - count = omega arith in
        let whole : frames ≡ unsent_after (count - count) frames = sym (unsent_none frames full) ∙ ap (λ n. unsent_after n frames) none in
        let all : 0 ≡ length frames - length frames = omega arith in
        subst (IsSent count before frames) first
        (less_before count before frames le
        ∙ ap (λ n. replicate n 0 ++ ends_behind (before - count) frames) all
        ∙ ap (λ fs. replicate (length frames - length fs) 0 ++ ends_behind (before - count) fs) whole)

    many : before ≤ count → IsSent count before frames (min count before)
    many le =
        let first : before ≡ min count before = omega (arith, le) in
        let none : 0 ≡ before - before = omega arith in
        subst (IsSent count before frames) first
        (less_past count before frames le
        ∙ ap (λ n. replicate (length frames - length (unsent_after (count - before) frames)) 0 ++ ends_behind n (unsent_after (count - before) frames)) none)

-- zeros before zeros
join_zeros : (a b n : ℕ) (ends : List ℕ) → a + b ≡ n
    → replicate a 0 ++ (replicate b 0 ++ ends) ≡ replicate n 0 ++ ends
join_zeros a b n ends e =
    sym (append_assoc (replicate a 0) (replicate b 0) ends)
    ∙ ap (λ zs. zs ++ ends) (replicate-append-replicate a b 0 ∙ ap (λ m. replicate m 0) e)

-- so many bytes are sent, first of those before
pub left_sent : (count total before : ℕ) (frames : List (List ℕ)) → AreFull frames
    → length frames ≤ total
    → less count (left_through total before frames)
    ≡ left_through total (before - min count before)
    (unsent_after (count - min count before) frames)
left_sent count total before frames full le =
    map-append (λ n. n - count) (replicate (total - length frames) 0) (ends_behind before frames)
    ∙ (λ i. less_zeros count (total - length frames) i ++ ends_sent count before frames full i)
    ∙ join_zeros (total - length frames) (length frames - length (unsent_after (count - min count before) frames)) (total - length (unsent_after (count - min count before) frames)) (ends_behind (before - min count before) (unsent_after (count - min count before) frames)) (omega (arith, le, fewer_unsent (count - min count before) frames))
