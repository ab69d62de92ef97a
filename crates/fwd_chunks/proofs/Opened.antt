-- Each open chunk is found by its tag's number.
use Rattle.std.proofs.Common.{◌≡◌, ℕ, suc, ◌+◌, ◌-◌, ◌<◌, ◌≤◌, Bool, true, false, cond, List, [], ◌∷◌, ◌++◌, length, Option, Some, None, IfSome, IfNone, refl, sym, ap, ◌∙◌, subst, arith}
use Rattle.std.specs.Prelude.{find, filter, not, ◌==◌, nat_le, option_map, IsSome}
use Rattle.std.specs.List.{AllByRecursion}
use Rattle.std.specs.Str.{bytes_eq}
use Rattle.std.proofs.lemmas.Bool.{and_parts}
use Rattle.std.proofs.lemmas.List.{append-nil}
use Rattle.std.proofs.lemmas.Slice.Eq.{bytes_eq-Decides}
use Rattle.fwd_chunks.specs.declared.chunk.Chunk.{Chunk}
use Rattle.fwd_chunks.specs.declared.chunk_state.ChunkState.TheVariants.{Open, Closed}
use Rattle.fwd_chunks.specs.declared.tag_entry.TagEntry.{TagEntry}
use Rattle.fwd_chunks.specs.Cells.{size_of}
use Rattle.fwd_chunks.specs.Live.{is_open, is_at, is_open_of, staged, changed}
use Rattle.fwd_chunks.specs.Soundness.{IsBefore, AreInOrder}
use Rattle.fwd_chunks.specs.Stored.{put_back}
use Rattle.fwd_chunks.specs.Newest.{tag_entry, tag_number, HasNumber, AreNewest}
use Rattle.fwd_chunks.specs.Filling.{open_chunk, fresh_from, fresh_of, extra, needed, stage_last, joined_by, filled_in}
use Rattle.fwd_chunks.proofs.Numbers.{not_from, true_false, eq_same}
use Rattle.fwd_chunks.proofs.CellLemmas.{size_of-push}
use Rattle.fwd_chunks.proofs.Sounding.{all-map, found-all, found-passes}
use Rattle.fwd_chunks.proofs.Places.{unchanged}
use Rattle.std.proofs.lemmas.Option.{same_Some}
use Rattle.std.proofs.lemmas.Bool.{eqb-true}

-- ---- what holds of all chunks

pub all-append : (P : Chunk → Type 0) (xs ys : List Chunk) → AllByRecursion P xs
    → AllByRecursion P ys → AllByRecursion P (xs ++ ys)
all-append P [] ys one two = two
all-append P (x ∷ xs) ys one two = (one.0, all-append P xs ys one.1 two)

pub all-right : (P : Chunk → Type 0) (xs ys : List Chunk) → AllByRecursion P (xs ++ ys)
    → AllByRecursion P ys
all-right P [] ys all = all
all-right P (x ∷ xs) ys all = all-right P xs ys all.1

pub all-with : (P Q R : Chunk → Type 0) (xs : List Chunk) → ((c : Chunk) → P c → Q c → R c)
    → AllByRecursion P xs → AllByRecursion Q xs → AllByRecursion R xs
all-with P Q R [] h one two = tt
all-with P Q R (x ∷ xs) h one two = (h x one.0 two.0, all-with P Q R xs h one.1 two.1)

pub all-kept : (P Q : Chunk → Type 0) (p : Chunk → Bool) (xs : List Chunk)
    → ((c : Chunk) → p c ≡ true → P c → Q c) → AllByRecursion P xs → AllByRecursion Q (filter p xs)
all-kept P Q p [] h all = tt
all-kept P Q p (x ∷ xs) h all = by (all-kept P Q p xs h all.1) (p x) refl
  where
    by : AllByRecursion Q (filter p xs) → (b : Bool) → p x ≡ b
        → AllByRecursion Q (cond b (x ∷ filter p xs) (filter p xs))
    by rest true e = (h x e all.0, rest)
    by rest false e = rest

-- ---- the tag's open chunk

pub no_number : {n : ℕ} → None ≡ Some n → ⊥
no_number e = cc

-- no later chunk has the number
pub found-above : (n : ℕ) (c : Chunk) (xs : List Chunk) → c.number ≡ n
    → AllByRecursion (IsBefore c) xs → find (is_at n) xs ≡ None
found-above n c [] same all = refl
found-above n c (x ∷ xs) same all =
    let apart : is_at n x ≡ false = not_from (is_at n x) (λ e. absurd (omega (arith, all.0.lower, same, eqb-true x.number n e))) in
    ap (λ b. cond b (Some x) (find (is_at n) xs)) apart ∙ found-above n c xs same all.1

-- what is found is what has its number
pub found-same : (p : Chunk → Bool) (xs : List Chunk) (e : Chunk) → AreInOrder xs
    → find p xs ≡ Some e → find (is_at e.number) xs ≡ Some e
found-same p [] e h f = f
found-same p (x ∷ xs) e h f = by (p x) refl (found-same p xs e h.1)
  where
    by : (b : Bool) → p x ≡ b → (find p xs ≡ Some e → find (is_at e.number) xs ≡ Some e)
        → find (is_at e.number) (x ∷ xs) ≡ Some e
    by true t rest =
        let is : x ≡ e = same_Some _ _ (ap (λ d. cond d (Some x) (find p xs)) (sym t) ∙ f) in
        let here : is_at e.number x ≡ true = ap (λ y. x.number == y.number) (sym is) ∙ eq_same x.number in
        ap (λ d. cond d (Some x) (find (is_at e.number) xs)) here ∙ ap Some is
    by false t rest =
        let later : find p xs ≡ Some e = ap (λ d. cond d (Some x) (find p xs)) (sym t) ∙ f in
        let lower : x.number < e.number = (found-all (IsBefore x) p xs e later h.0).lower in
        let apart : is_at e.number x ≡ false = not_from (is_at e.number x) (λ g. absurd (omega (arith, lower, eqb-true x.number e.number g))) in
        ap (λ d. cond d (Some x) (find (is_at e.number) xs)) apart ∙ rest later

-- an open chunk of the tag has the tag's number
pub open-number : (numbers : List (List ℕ × TagEntry)) (tag : List ℕ) (d : Chunk) → HasNumber numbers d
    → is_open_of tag d ≡ true → tag_number tag numbers ≡ Some d.number
open-number numbers tag d has t =
    let parts = and_parts (is_open d.stage) (bytes_eq d.tag tag) t in
    ap (λ l. tag_number l numbers) (sym ((bytes_eq-Decides d.tag tag).0 parts.1)) ∙ has parts.0

pub open-untold : (numbers : List (List ℕ × TagEntry)) (xs : List Chunk) (tag : List ℕ)
    → AreNewest numbers xs → tag_number tag numbers ≡ None → find (is_open_of tag) xs ≡ None
open-untold numbers [] tag all e = refl
open-untold numbers (x ∷ xs) tag all e =
    let apart : is_open_of tag x ≡ false = not_from (is_open_of tag x) (λ t. absurd (no_number (sym e ∙ open-number numbers tag x all.0 t))) in
    ap (λ b. cond b (Some x) (find (is_open_of tag) xs)) apart ∙ open-untold numbers xs tag all.1 e

-- a chunk, if it is open and of the tag
abbrev pub if_open : List ℕ → Option Chunk → Option Chunk
if_open tag None = None
if_open tag (Some c) = cond (is_open_of tag c) (Some c) None

pub open-told : (numbers : List (List ℕ × TagEntry)) (xs : List Chunk) (tag : List ℕ) (n : ℕ)
    → AreNewest numbers xs → AreInOrder xs → tag_number tag numbers ≡ Some n
    → find (is_open_of tag) xs ≡ if_open tag (find (is_at n) xs)
open-told numbers [] tag n all order e = refl
open-told numbers (x ∷ xs) tag n all order e = by (is_open_of tag x) (is_at n x) refl refl (open-told numbers xs tag n all.1 order.1 e)
  where
    by : (b d : Bool) → is_open_of tag x ≡ b → is_at n x ≡ d
        → find (is_open_of tag) xs ≡ if_open tag (find (is_at n) xs)
        → find (is_open_of tag) (x ∷ xs) ≡ if_open tag
        (cond (is_at n x) (Some x) (find (is_at n) xs))
    by true true t at rest =
        ap (λ b. cond b (Some x) (find (is_open_of tag) xs)) t
        ∙ ap (λ b. cond b (Some x) None) (sym t)
        ∙ ap (λ d. if_open tag (cond d (Some x) (find (is_at n) xs))) (sym at)
    by true false t at rest = absurd (true_false (is_at n x) (ap (λ k. k == n) (same_Some _ _ (sym (open-number numbers tag x all.0 t) ∙ e)) ∙ eq_same n) at)
    by false true t at rest =
        ap (λ b. cond b (Some x) (find (is_open_of tag) xs)) t ∙ rest
        ∙ ap (if_open tag) (found-above n x xs (eqb-true x.number n at) order.0)
        ∙ ap (λ b. cond b (Some x) None) (sym t)
        ∙ ap (λ d. if_open tag (cond d (Some x) (find (is_at n) xs))) (sym at)
    by false false t at rest =
        ap (λ b. cond b (Some x) (find (is_open_of tag) xs)) t ∙ rest
        ∙ ap (λ d. if_open tag (cond d (Some x) (find (is_at n) xs))) (sym at)

-- ---- what calls leave

-- where no chunk is opened
pub newest-changed : (numbers : List (List ℕ × TagEntry)) (test : Chunk → Bool) (f : Chunk → Chunk)
    (xs : List Chunk) → ((c : Chunk) → is_open (f c).stage ≡ false) → AreNewest numbers xs
    → AreNewest numbers (changed test f xs)
newest-changed numbers test f xs shut all = all-map (HasNumber numbers) (HasNumber numbers) (λ c. cond (test c) (f c) c) (λ c has. by c has (test c)) xs all
  where
    by : (c : Chunk) → HasNumber numbers c → (b : Bool) → HasNumber numbers (cond b (f c) c)
    by c has true = λ now. absurd (true_false (is_open (f c).stage) now (shut c))
    by c has false = has

pub newest-put_back : (numbers : List (List ℕ × TagEntry)) (n : ℕ) (lost : Bool) (moment : ℕ)
    (xs : List Chunk) → AreNewest numbers xs
    → AreNewest numbers (changed (is_at n) (put_back lost moment) xs)
newest-put_back numbers n true moment xs all = newest-changed numbers (is_at n) (put_back true moment) xs (λ c. refl) all
newest-put_back numbers n false moment xs all = newest-changed numbers (is_at n) (put_back false moment) xs (λ c. refl) all

-- where a chunk leaves: a tag that something is kept for has the number that it had
pub newest-filter : (numbers after : List (List ℕ × TagEntry)) (n : ℕ) (xs : List Chunk)
    → ((t : List ℕ) → IsSome (tag_entry t after) → tag_number t after ≡ tag_number t numbers)
    → AllByRecursion (λ d. IsSome (tag_entry d.tag after)) (filter (λ d. not (is_at n d)) xs)
    → AreNewest numbers xs → AreNewest after (filter (λ d. not (is_at n d)) xs)
newest-filter numbers after n xs kept there all =
    all-with (HasNumber numbers) (λ d. IsSome (tag_entry d.tag after)) (HasNumber after) (filter (λ d. not (is_at n d)) xs) (λ d has some now. kept d.tag some ∙ has now)
    (all-kept (HasNumber numbers) (HasNumber numbers) (λ d. not (is_at n d)) xs (λ d other has. has) all) there

-- where no number changes
pub newest-kept : (numbers after : List (List ℕ × TagEntry)) (xs : List Chunk)
    → ((t : List ℕ) (m : ℕ) → tag_number t numbers ≡ Some m → tag_number t after ≡ Some m)
    → AreNewest numbers xs → AreNewest after xs
newest-kept numbers after xs kept all = all-with (HasNumber numbers) (HasNumber numbers) (HasNumber after) xs (λ c has also now. kept c.tag c.number (has now)) all all

-- ---- a request's entries

-- the new chunks: all of the tag, and the one that is open has the last number
abbrev pub IsFresh : List ℕ → ℕ → Chunk → Type 0
IsFresh tag n c = (c.tag ≡ tag) × (is_open c.stage ≡ true → c.number ≡ n)

pub fresh-all : (limit : ℕ) (tag : List ℕ) (since n : ℕ) (current entries : List (List ℕ)) (last : ℕ)
    → last ≡ n + extra limit (size_of current) entries
    → AllByRecursion (IsFresh tag last) (fresh_from limit tag since n current entries)
fresh-all limit tag since n current [] last e = ((refl, λ now. omega arith), tt)
fresh-all limit tag since n current (x ∷ entries) last e =
    by (λ f. fresh-all limit tag since n (current ++ x ∷ []) entries last f) (λ f. fresh-all limit tag since (n + 1) (x ∷ []) entries last f) (nat_le (size_of current + length x) limit) e
  where
    by :
        (last ≡ n + extra limit (size_of (current ++ x ∷ [])) entries → AllByRecursion
        (IsFresh tag last) (fresh_from limit tag since n (current ++ x ∷ []) entries))
        →
        (last ≡ n + 1 + extra limit (size_of (x ∷ [])) entries
        → AllByRecursion (IsFresh tag last) (fresh_from limit tag since (n + 1) (x ∷ []) entries))
        → (b : Bool)
        → last ≡ n + cond b (extra limit (size_of current + length x) entries)
        (suc (extra limit (length x) entries))
        → AllByRecursion (IsFresh tag last)
        (cond b (fresh_from limit tag since n (current ++ x ∷ []) entries)
        (staged Closed (open_chunk tag since n current)
        ∷ fresh_from limit tag since (n + 1) (x ∷ []) entries))
    by one two true f = one (f ∙ ap (λ k. n + extra limit k entries) (sym (size_of-push current x)))
    by one two false f =
        let alone : length x ≡ length x + 0 = omega arith in
        ((refl, λ now. absurd (true_false false now refl)), two (omega (arith, f, ap (λ k. extra limit k entries) alone)))

pub fresh-open : (limit : ℕ) (tag : List ℕ) (since n : ℕ) (current entries : List (List ℕ))
    → (d : Chunk) ×
    (find (λ c. is_open c.stage) (fresh_from limit tag since n current entries) ≡ Some d)
fresh-open limit tag since n current [] = (open_chunk tag since n current, refl)
fresh-open limit tag since n current (x ∷ entries) = by (fresh-open limit tag since n (current ++ x ∷ []) entries) (fresh-open limit tag since (n + 1) (x ∷ []) entries) (nat_le (size_of current + length x) limit)
  where
    by :
        ((d : Chunk) ×
        (find (λ c. is_open c.stage) (fresh_from limit tag since n (current ++ x ∷ []) entries)
        ≡ Some d))
        →
        ((d : Chunk) ×
        (find (λ c. is_open c.stage) (fresh_from limit tag since (n + 1) (x ∷ []) entries)
        ≡ Some d))
        → (b : Bool)
        → (d : Chunk) ×
        (find (λ c. is_open c.stage) (cond b
        (fresh_from limit tag since n (current ++ x ∷ []) entries)
        (staged Closed (open_chunk tag since n current)
        ∷ fresh_from limit tag since (n + 1) (x ∷ []) entries)) ≡ Some d)
    by one two true = one
    by one two false = two

-- chunks in order are before one that is found behind them
pub before-found : (q : Chunk → Bool) (xs ys : List Chunk) (d : Chunk) → AreInOrder (xs ++ ys)
    → find q ys ≡ Some d → AllByRecursion (λ c. IsBefore c d) xs
before-found q [] ys d h e = tt
before-found q (x ∷ xs) ys d h e = (found-all (IsBefore x) q ys d e (all-right (IsBefore x) xs ys h.0), before-found q xs ys d h.1 e)

-- the chunks that are not new
newest-joined : (numbers : List (List ℕ × TagEntry)) (items : List Chunk) (tag : List ℕ) (c : Chunk)
    (front : List (List ℕ)) (b : Bool) → AreInOrder items → AreNewest numbers items
    → find (is_open_of tag) items ≡ Some c
    → AreNewest numbers (changed (is_at c.number) (joined_by front (stage_last b)) items)
newest-joined numbers [] tag c front b order all e = tt
newest-joined numbers (x ∷ xs) tag c front b order all e = by (is_open_of tag x) refl (newest-joined numbers xs tag c front b order.1 all.1)
  where
    f : Chunk → Chunk
    f = joined_by front (stage_last b)

    by : (t : Bool) → is_open_of tag x ≡ t
        → (find (is_open_of tag) xs ≡ Some c → AreNewest numbers (changed (is_at c.number) f xs))
        → AreNewest numbers (changed (is_at c.number) f (x ∷ xs))
    by true t rest =
        let is : x ≡ c = same_Some _ _ (ap (λ d. cond d (Some x) (find (is_open_of tag) xs)) (sym t) ∙ e) in
        let here : is_at c.number x ≡ true = ap (λ y. x.number == y.number) (sym is) ∙ eq_same x.number in
        let opened = (and_parts (is_open x.stage) (bytes_eq x.tag tag) t).0 in
        let stay : changed (is_at c.number) f xs ≡ xs = unchanged c.number f x xs (ap (λ y. y.number) is) order.0 in
        subst (AreNewest numbers) (λ i. cond (sym here i) (f x) x ∷ sym stay i) ((λ now. all.0 opened), all.1)
    by false t rest =
        let later : find (is_open_of tag) xs ≡ Some c = ap (λ d. cond d (Some x) (find (is_open_of tag) xs)) (sym t) ∙ e in
        let lower : x.number < c.number = (found-all (IsBefore x) (is_open_of tag) xs c later order.0).lower in
        let apart : is_at c.number x ≡ false = not_from (is_at c.number x) (λ g. absurd (omega (arith, lower, eqb-true x.number c.number g))) in
        subst (AreNewest numbers) (λ i. cond (sym apart i) (f x) x ∷ changed (is_at c.number) f xs) (all.0, rest later)

newest-filled : (numbers : List (List ℕ × TagEntry)) (items : List Chunk) (joins : Option ℕ)
    (front : List (List ℕ)) (tag : List ℕ) (b : Bool)
    → joins ≡ option_map (λ c. c.number) (find (is_open_of tag) items) → AreInOrder items
    → AreNewest numbers items → AreNewest numbers (filled_in joins front (stage_last b) items)
newest-filled numbers items joins front tag b e order all = subst (λ o. AreNewest numbers (filled_in o front (stage_last b) items)) (sym e) (by (find (is_open_of tag) items) refl)
  where
    by : (o : Option Chunk) → find (is_open_of tag) items ≡ o
        → AreNewest numbers (filled_in (option_map (λ c. c.number) o) front (stage_last b) items)
    by None f = all
    by (Some c) f = newest-joined numbers items tag c front b order all f

pub newest-entered : (numbers after : List (List ℕ × TagEntry)) (items : List Chunk) (joins : Option ℕ)
    (front back : List (List ℕ)) (limit : ℕ) (tag : List ℕ) (since first : ℕ) (newest : Option ℕ)
    → AreNewest numbers items → AreInOrder items
    → joins ≡ option_map (λ c. c.number) (find (is_open_of tag) items)
    → (0 < needed limit back → newest ≡ Some (first + (needed limit back - 1)))
    → (needed limit back ≤ 0 → newest ≡ None)
    → IfSome newest
    (λ n. (t : List ℕ) → tag_number t after ≡ cond (bytes_eq tag t) (Some n) (tag_number t numbers))
    → IfNone newest ((t : List ℕ) → tag_number t after ≡ tag_number t numbers)
    → AreInOrder
    (filled_in joins front (stage_last (length (fresh_of limit tag since first back) == 0)) items
    ++ fresh_of limit tag since first back)
    → AreNewest after
    (filled_in joins front (stage_last (length (fresh_of limit tag since first back) == 0)) items
    ++ fresh_of limit tag since first back)
newest-entered numbers after items joins front [] limit tag since first newest all sorted at some none put same order =
    let last : newest ≡ None = none (omega arith) in
    let equal : (t : List ℕ) → tag_number t after ≡ tag_number t numbers = subst (λ o. IfNone o ((t : List ℕ) → tag_number t after ≡ tag_number t numbers)) last same in
    let old = newest-filled numbers items joins front tag true at sorted all in
    subst (λ l. AreNewest after l) (sym (append-nil (filled_in joins front Open items))) (newest-kept numbers after (filled_in joins front Open items) (λ t m h. equal t ∙ h) old)
newest-entered numbers after items joins front (e ∷ back) limit tag since first newest all sorted at some none put same order =
    let fresh = fresh_from limit tag since first (e ∷ []) back in
    let kept = filled_in joins front (stage_last (length fresh == 0)) items in
    let n = first + extra limit (length e) back in
    let count : first + (suc (extra limit (length e) back) - 1) ≡ first + extra limit (length e) back = omega arith in
    let last : newest ≡ Some (first + extra limit (length e) back) = some (omega arith) ∙ ap Some count in
    let told : (t : List ℕ) → tag_number t after ≡ cond (bytes_eq tag t) (Some (first + extra limit (length e) back)) (tag_number t numbers) =
    subst (λ o. IfSome o (λ m. (t : List ℕ) → tag_number t after ≡ cond (bytes_eq tag t) (Some m) (tag_number t numbers))) last put in
    let alone : length e + 0 ≡ length e = omega arith in
    let made = fresh-all limit tag since first (e ∷ []) back n (ap (λ k. first + extra limit k back) (sym alone)) in
    let d = fresh-open limit tag since first (e ∷ []) back in
    let shut = found-passes (λ c. is_open c.stage) fresh d.0 d.1 in
    let dtag : d.0.tag ≡ tag = (found-all (IsFresh tag n) (λ c. is_open c.stage) fresh d.0 d.1 made).0 in
    all-append (HasNumber after) kept fresh
    (all-with (HasNumber numbers) (λ c. IsBefore c d.0) (HasNumber after) kept (λ c has before now.
    let apart : bytes_eq tag c.tag ≡ false = not_from (bytes_eq tag c.tag) (λ f. true_false (is_open c.stage) now (before.shut ((bytes_eq-Decides c.tag d.0.tag).1 (sym ((bytes_eq-Decides tag c.tag).0 f) ∙ sym dtag)))) in
    told c.tag ∙ ap (λ b. cond b (Some n) (tag_number c.tag numbers)) apart ∙ has now)
    (newest-filled numbers items joins front tag (length fresh == 0) at sorted all) (before-found (λ c. is_open c.stage) kept fresh d.0 order d.1))
    (all-with (IsFresh tag n) (IsFresh tag n) (HasNumber after) fresh (λ c is also now.
    told c.tag ∙ ap (λ b. cond b (Some n) (tag_number c.tag numbers)) ((bytes_eq-Decides tag c.tag).1 (sym is.0)) ∙ ap Some (sym (is.1 now))) made made)
