-- What is kept for each tag is what its chunks have.
use Rattle.std.proofs.Common.{◌≡◌, ◌⊎◌, inl, inr, ℕ, ◌+◌, ◌-◌, ◌<◌, ◌≤◌, ◌^◌, ◌||◌, Bool, true, false, cond, List, [], ◌∷◌, ◌++◌, length, map, Option, Some, None, refl, sym, ap, ◌∙◌, subst, arith}
use Rattle.std.specs.Prelude.{find, filter, not, option_map, is_some, IsSome}
use Rattle.std.specs.List.{AllByRecursion, IsDistinct, list_any}
use Rattle.std.specs.Str.{bytes_eq}
use Rattle.std.proofs.lemmas.Bool.{and_parts}
use Rattle.std.proofs.lemmas.Slice.Eq.{bytes_eq-Decides}
use Rattle.fwd_modes.specs.Requests.{Request}
use Rattle.fwd_base.specs.declared.tag_count.TagCount.{TagCount}
use Rattle.fwd_chunks.specs.declared.chunk.Chunk.{Chunk}
use Rattle.fwd_chunks.specs.declared.tag_entry.TagEntry.{TagEntry}
use Rattle.fwd_chunks.specs.Cells.{size_of}
use Rattle.fwd_chunks.specs.Live.{LiveBuffer, is_open, is_at, is_open_of, changed, held_in, bytes_in, may_take, live_adds_to, live_adds, live_adds_all, live_looks, live_enters}
use Rattle.fwd_chunks.specs.Soundness.{IsWithin, AreInOrder, IsSound}
use Rattle.fwd_chunks.specs.Stored.{put_back}
use Rattle.fwd_chunks.specs.Newest.{tag_entry, tag_number, held_by, bytes_by, HasNumber, AreNewest, tag_held, tag_bytes, AreSome, AreCounted}
use Rattle.fwd_chunks.specs.TagCounts.{Tagged, of_tag, tag_count, tagged_in, AreTagCounts}
use Rattle.fwd_chunks.specs.Listing.{listed}
use Rattle.fwd_chunks.proofs.CellLemmas.{size_of-push}
use Rattle.fwd_chunks.proofs.Sounding.{total, total-push, total-map, total-filter, total-changed, closing_one, closed-tag, closed-entries, with_entry, IsSorted, adds-sorted, sorted, found-all, found-passes}
use Rattle.fwd_chunks.proofs.Places.{filter-found}
use Rattle.fwd_chunks.proofs.Opened.{open-number}

-- ---- equal bytes

pub bytes_flip : (x y : List ℕ) → bytes_eq x y ≡ bytes_eq y x
bytes_flip x y = both (bytes_eq x y) (bytes_eq y x) (λ e. (bytes_eq-Decides y x).1 (sym ((bytes_eq-Decides x y).0 e))) (λ e. (bytes_eq-Decides x y).1 (sym ((bytes_eq-Decides y x).0 e)))
  where
    both : (a b : Bool) → (a ≡ true → b ≡ true) → (b ≡ true → a ≡ true) → a ≡ b
    both true b f g = sym (f refl)
    both false true f g = g refl
    both false false f g = refl

itself : (t : List ℕ) → bytes_eq t t ≡ true
itself t = (bytes_eq-Decides t t).1 refl

-- ---- what the chunks of a tag weigh

-- a chunk weighs what its entries do, where it is of the tag
abbrev pub weight : (List (List ℕ) → ℕ) → List ℕ → Chunk → ℕ
weight f tag c = cond (bytes_eq tag c.tag) (f c.entries) 0

pub held-weighs : (t : List ℕ) (xs : List Chunk) → tag_held t xs ≡ total (weight length t) xs
held-weighs t [] = refl
held-weighs t (x ∷ xs) = ap (λ n. weight length t x + n) (held-weighs t xs)

pub bytes-weigh : (t : List ℕ) (xs : List Chunk) → tag_bytes t xs ≡ total (weight size_of t) xs
bytes-weigh t [] = refl
bytes-weigh t (x ∷ xs) = ap (λ n. weight size_of t x + n) (bytes-weigh t xs)

-- a tag's entries are among all
pub held-among : (t : List ℕ) (xs : List Chunk) → tag_held t xs ≤ held_in xs
held-among t [] = omega arith
held-among t (x ∷ xs) = omega (arith, held-among t xs, by (bytes_eq t x.tag))
  where
    by : (b : Bool) → cond b (length x.entries) 0 ≤ length x.entries
    by true = omega arith
    by false = omega arith

pub bytes-among : (t : List ℕ) (xs : List Chunk) → tag_bytes t xs ≤ bytes_in xs
bytes-among t [] = omega arith
bytes-among t (x ∷ xs) = omega (arith, bytes-among t xs, by (bytes_eq t x.tag))
  where
    by : (b : Bool) → cond b (size_of x.entries) 0 ≤ size_of x.entries
    by true = omega arith
    by false = omega arith

-- no entries, no bytes
pub none-weighs : (t : List ℕ) (xs : List Chunk) → tag_held t xs ≡ 0 → tag_bytes t xs ≡ 0
none-weighs t [] e = refl
none-weighs t (x ∷ xs) e = by (none-weighs t xs) (bytes_eq t x.tag) e
  where
    empty : (es : List (List ℕ)) → length es ≡ 0 → size_of es ≡ 0
    empty [] f = refl
    empty (y ∷ es) f = absurd (omega (arith, f))

    by : (tag_held t xs ≡ 0 → tag_bytes t xs ≡ 0) → (b : Bool)
        → cond b (length x.entries) 0 + tag_held t xs ≡ 0
        → cond b (size_of x.entries) 0 + tag_bytes t xs ≡ 0
    by rest true f = omega (arith, empty x.entries (omega (arith, f)), rest (omega (arith, f)))
    by rest false f = omega (arith, rest (omega (arith, f)))

-- each chunk's tag has entries
pub held-each : (limit : ℕ) (xs : List Chunk) → AllByRecursion (IsWithin limit) xs
    → AllByRecursion (λ c. 0 < tag_held c.tag xs) xs
held-each limit xs all = go xs (λ t. omega arith) all
  where
    go : (ys : List Chunk) → ((t : List ℕ) → tag_held t ys ≤ tag_held t xs)
        → AllByRecursion (IsWithin limit) ys → AllByRecursion (λ c. 0 < tag_held c.tag xs) ys
    go [] sub own = tt
    go (y ∷ ys) sub own =
        let mine : cond (bytes_eq y.tag y.tag) (length y.entries) 0 ≡ length y.entries = ap (λ b. cond b (length y.entries) 0) (itself y.tag) in
        (omega (arith, sub y.tag, mine, own.0.some), go ys (λ t. omega (arith, sub t)) own.1)

-- ---- chunks that change, and that leave

same-weights : (f : List (List ℕ) → ℕ) (t : List ℕ) (test : Chunk → Bool) (g : Chunk → Chunk)
    → ((c : Chunk) → (g c).tag ≡ c.tag) → ((c : Chunk) → (g c).entries ≡ c.entries)
    → (xs : List Chunk) → total (weight f t) (changed test g xs) ≡ total (weight f t) xs
same-weights f t test g tag entries xs = total-map (weight f t) (λ c. cond (test c) (g c) c) (λ c. by (test c) c) xs
  where
    by : (b : Bool) (c : Chunk) → weight f t (cond b (g c) c) ≡ weight f t c
    by true c = λ i. cond (bytes_eq t (tag c i)) (f (entries c i)) 0
    by false c = refl

pub counted-changed : (es : List (List ℕ × TagEntry)) (test : Chunk → Bool) (g : Chunk → Chunk)
    (xs : List Chunk) → ((c : Chunk) → (g c).tag ≡ c.tag)
    → ((c : Chunk) → (g c).entries ≡ c.entries) → AreCounted es xs
    → AreCounted es (changed test g xs)
counted-changed es test g xs tag entries own = record {
  held = λ t. own.held t ∙ held-weighs t xs ∙ sym (held-weighs t (changed test g xs) ∙ same-weights length t test g tag entries xs);
  bytes = λ t. own.bytes t ∙ bytes-weigh t xs ∙ sym (bytes-weigh t (changed test g xs) ∙ same-weights size_of t test g tag entries xs);
  some = own.some;
}

pub counted-put_back : (es : List (List ℕ × TagEntry)) (n : ℕ) (lost : Bool) (moment : ℕ)
    (xs : List Chunk) → AreCounted es xs → AreCounted es (changed (is_at n) (put_back lost moment) xs)
counted-put_back es n true moment xs own = counted-changed es (is_at n) (put_back true moment) xs (λ c. refl) (λ c. refl) own
counted-put_back es n false moment xs own = counted-changed es (is_at n) (put_back false moment) xs (λ c. refl) (λ c. refl) own

-- the chunk of a number, and what is left without it
split-weights : (f : List (List ℕ) → ℕ) (t : List ℕ) (n : ℕ) (xs : List Chunk) (c : Chunk)
    → AreInOrder xs → find (is_at n) xs ≡ Some c
    → total (weight f t) xs
    ≡ weight f t c + total (weight f t) (filter (λ d. not (is_at n d)) xs)
split-weights f t n xs c order e =
    let one : total (weight f t) (filter (is_at n) xs) ≡ weight f t c + 0 = ap (total (weight f t)) (filter-found n xs c order e) in
    omega (arith, one, total-filter (weight f t) (is_at n) xs)

-- what leaves with a chunk
pub record Leaves (es : List (List ℕ × TagEntry)) (n : ℕ) (xs : List Chunk) (c : Chunk) : Type 0 where
  pub held : (t : List ℕ) → held_by (tag_entry t es)
      ≡ cond (bytes_eq c.tag t) (length c.entries) 0
      + tag_held t (filter (λ d. not (is_at n d)) xs)
  pub bytes : (t : List ℕ) → bytes_by (tag_entry t es)
      ≡ cond (bytes_eq c.tag t) (size_of c.entries) 0
      + tag_bytes t (filter (λ d. not (is_at n d)) xs)

pub leaves-with : (es : List (List ℕ × TagEntry)) (n : ℕ) (xs : List Chunk) (c : Chunk)
    → AreInOrder xs → find (is_at n) xs ≡ Some c → AreCounted es xs → Leaves es n xs c
leaves-with es n xs c order e own = record {
  held = λ t. own.held t ∙ held-weighs t xs ∙ split-weights length t n xs c order e
      ∙ (λ i. cond (bytes_flip t c.tag i) (length c.entries) 0 + sym (held-weighs t (filter (λ d. not (is_at n d)) xs)) i);
  bytes = λ t. own.bytes t ∙ bytes-weigh t xs ∙ split-weights size_of t n xs c order e
      ∙ (λ i. cond (bytes_flip t c.tag i) (size_of c.entries) 0 + sym (bytes-weigh t (filter (λ d. not (is_at n d)) xs)) i);
}

module _ (es : List (List ℕ × TagEntry)) (n : ℕ) (xs : List Chunk) (c : Chunk) (is : Leaves es n xs c) where
  own-held : held_by (tag_entry c.tag es)
      ≡ length c.entries + tag_held c.tag (filter (λ d. not (is_at n d)) xs)
  own-held = is.held c.tag ∙ ap (λ b. cond b (length c.entries) 0 + tag_held c.tag (filter (λ d. not (is_at n d)) xs)) (itself c.tag)

  own-bytes : bytes_by (tag_entry c.tag es)
      ≡ size_of c.entries + tag_bytes c.tag (filter (λ d. not (is_at n d)) xs)
  own-bytes = is.bytes c.tag ∙ ap (λ b. cond b (size_of c.entries) 0 + tag_bytes c.tag (filter (λ d. not (is_at n d)) xs)) (itself c.tag)

  pub leaves-count : length c.entries ≤ held_by (tag_entry c.tag es)
  leaves-count = omega (arith, own-held)

  pub leaves-size : size_of c.entries ≤ bytes_by (tag_entry c.tag es)
  leaves-size = omega (arith, own-bytes)

  pub leaves-all : held_by (tag_entry c.tag es) ≡ length c.entries
      → bytes_by (tag_entry c.tag es) ≡ size_of c.entries
  leaves-all e = omega (arith, own-bytes, none-weighs c.tag (filter (λ d. not (is_at n d)) xs) (omega (arith, e, own-held)))

  pub counted-without : (after : List (List ℕ × TagEntry))
      → ((t : List ℕ) → held_by (tag_entry t after) ≡ held_by (tag_entry t es) - cond (bytes_eq c.tag t) (length c.entries) 0)
      → ((t : List ℕ) → bytes_by (tag_entry t after) ≡ bytes_by (tag_entry t es) - cond (bytes_eq c.tag t) (size_of c.entries) 0)
      → AreSome after → AreCounted after (filter (λ d. not (is_at n d)) xs)
  counted-without after held bytes some = record {
    held = λ t. omega (arith, held t, is.held t);
    bytes = λ t. omega (arith, bytes t, is.bytes t);
    some = some;
  }

-- something is kept for a tag with entries
pub kept-some : (o : Option TagEntry) → 0 < held_by o → IsSome o
kept-some None lt = absurd (omega (arith, lt))
kept-some (Some e) lt = refl

pub kept-each : (es : List (List ℕ × TagEntry)) (limit : ℕ) (xs : List Chunk)
    → AllByRecursion (IsWithin limit) xs
    → ((t : List ℕ) → held_by (tag_entry t es) ≡ tag_held t xs)
    → AllByRecursion (λ c. IsSome (tag_entry c.tag es)) xs
kept-each es limit xs within held = go xs (held-each limit xs within)
  where
    go : (ys : List Chunk) → AllByRecursion (λ c. 0 < tag_held c.tag xs) ys
        → AllByRecursion (λ c. IsSome (tag_entry c.tag es)) ys
    go [] all = tt
    go (y ∷ ys) all = (kept-some (tag_entry y.tag es) (omega (arith, held y.tag, all.0)), go ys all.1)

-- ---- entries that come

-- what entries weigh, one by one
pub record Adds (f : List (List ℕ) → ℕ) (g : List ℕ → ℕ) : Type 0 where
  pub push : (es : List (List ℕ)) (e : List ℕ) → f (es ++ e ∷ []) ≡ f es + g e
  pub first : (e : List ℕ) (es : List (List ℕ)) → f (e ∷ es) ≡ g e + f es
  pub none : f [] ≡ 0

pub length-adds : Adds length (λ e. 1)
length-adds = record { push = push; first = λ e es. omega arith; none = refl }
  where
    push : (es : List (List ℕ)) (e : List ℕ) → length (es ++ e ∷ []) ≡ length es + 1
    push [] e = refl
    push (x ∷ es) e = omega (arith, push es e)

pub size-adds : Adds size_of length
size-adds = record { push = size_of-push; first = λ e es. refl; none = refl }

module _ (f : List (List ℕ) → ℕ) (g : List ℕ → ℕ) (own : Adds f g) (t : List ℕ) where
  added-one : (b : LiveBuffer) (tag entry : List ℕ) → IsSorted b
      → total (weight f t) (live_adds b tag entry).chunks
      ≡ total (weight f t) b.chunks + cond (bytes_eq t tag) (g entry) 0
  unfolding live_adds
  added-one b tag entry is = by (find (may_take b tag entry) b.chunks) refl
    where
      w : Chunk → ℕ
      w = weight f t

      more : (b : Bool) (m n k : ℕ) → m ≡ n + k → cond b m 0 ≡ cond b n 0 + cond b k 0
      more true m n k e = e
      more false m n k e = refl

      same-closed : (d : Chunk) → weight f t (closing_one b tag entry is d) ≡ weight f t d
      same-closed d = λ i. cond (bytes_eq t (closed-tag b tag entry is d i)) (f (closed-entries b tag entry is d i)) 0

      alone : f (entry ∷ []) ≡ g entry
      alone = omega (arith, own.first entry [], own.none)

      by : (o : Option Chunk) → find (may_take b tag entry) b.chunks ≡ o
          → total w (live_adds_to b tag entry o).chunks
          ≡ total w b.chunks + cond (bytes_eq t tag) (g entry) 0
      by None e =
          total-push w (map (closing_one b tag entry is) b.chunks) _
          ∙ (λ i. total-map w (closing_one b tag entry is) same-closed b.chunks i + cond (bytes_eq t tag) (alone i) 0)
      by (Some c) e =
          let open_of = (and_parts (is_open_of tag c) _ (found-passes (may_take b tag entry) b.chunks c e)).0 in
          let tag-is : c.tag ≡ tag = (bytes_eq-Decides c.tag tag).0 (and_parts (is_open c.stage) (bytes_eq c.tag tag) open_of).1 in
          let grown : weight f t (with_entry entry c) ≡ weight f t c + cond (bytes_eq t c.tag) (g entry) 0 = more (bytes_eq t c.tag) (f (c.entries ++ entry ∷ [])) (f c.entries) (g entry) (own.push c.entries entry) in
          let its : cond (bytes_eq t c.tag) (g entry) 0 ≡ cond (bytes_eq t tag) (g entry) 0 = ap (λ l. cond (bytes_eq t l) (g entry) 0) tag-is in
          omega (arith, total-changed (may_take b tag entry) (with_entry entry) w b.chunks c is.in_order e, grown, its)

  added-all : (entries : List (List ℕ)) (b : LiveBuffer) (tag : List ℕ) → IsSorted b
      → total (weight f t) (live_adds_all b tag entries).chunks
      ≡ total (weight f t) b.chunks + cond (bytes_eq t tag) (f entries) 0
  added-all [] b tag is = by (bytes_eq t tag)
    where
      by : (c : Bool) → total (weight f t) b.chunks ≡ total (weight f t) b.chunks + cond c (f []) 0
      by true = omega (arith, own.none)
      by false = omega arith
  added-all (entry ∷ entries) b tag is =
      added-all entries (live_adds b tag entry) tag (adds-sorted b tag entry is)
      ∙ ap (λ n. n + cond (bytes_eq t tag) (f entries) 0) (added-one b tag entry is)
      ∙ by (bytes_eq t tag)
    where
      by : (c : Bool) → (total (weight f t) b.chunks + cond c (g entry) 0) + cond c (f entries) 0
          ≡ total (weight f t) b.chunks + cond c (f (entry ∷ entries)) 0
      by true = omega (arith, own.first entry entries)
      by false = omega arith

  pub entered-weighs : (b : LiveBuffer) (r : Request) (now : ℕ) → IsSound b
      → total (weight f t) (live_enters b r now).chunks
      ≡ total (weight f t) b.chunks + cond (bytes_eq t r.tag) (f r.entries) 0
  entered-weighs b r now sound = added-all r.entries (live_looks b now) r.tag (sorted b now sound)

-- what the code counts of a request
pub counted-entered : (old ready after : List (List ℕ × TagEntry)) (b : LiveBuffer) (r : Request)
    (now : ℕ) (newest : Option ℕ) → IsSound b → AreCounted old b.chunks
    → ((t : List ℕ) → held_by (tag_entry t ready) ≡ held_by (tag_entry t old))
    → ((t : List ℕ) → bytes_by (tag_entry t ready) ≡ bytes_by (tag_entry t old))
    → ((t : List ℕ) (e : TagEntry) → tag_entry t ready ≡ Some e
    → (tag_entry t old ≡ Some e) ⊎ ((r.tag ≡ t) × IsSome newest))
    → (IsSome newest → 0 < length r.entries)
    → ((t : List ℕ) → held_by (tag_entry t after)
    ≡ held_by (tag_entry t ready) + cond (bytes_eq r.tag t) (length r.entries) 0)
    → ((t : List ℕ) → bytes_by (tag_entry t after)
    ≡ bytes_by (tag_entry t ready) + cond (bytes_eq r.tag t) (size_of r.entries) 0)
    → ((t : List ℕ) (e : TagEntry) → tag_entry t after ≡ Some e
    → ((d : TagEntry) × (tag_entry t ready ≡ Some d) × (d.held ≤ e.held))
    × (bytes_eq r.tag t ≡ true → length r.entries ≤ e.held))
    → AreCounted after (live_enters b r now).chunks
counted-entered old ready after b r now newest sound own held bytes only some put-held put-bytes each = record {
  held = λ t. put-held t
      ∙ (λ i. (held t ∙ own.held t ∙ held-weighs t b.chunks) i + cond (bytes_flip r.tag t i) (length r.entries) 0)
      ∙ sym (held-weighs t (live_enters b r now).chunks ∙ entered-weighs length (λ e. 1) length-adds t b r now sound);
  bytes = λ t. put-bytes t
      ∙ (λ i. (bytes t ∙ own.bytes t ∙ bytes-weigh t b.chunks) i + cond (bytes_flip r.tag t i) (size_of r.entries) 0)
      ∙ sym (bytes-weigh t (live_enters b r now).chunks ∙ entered-weighs size_of length size-adds t b r now sound);
  some = λ t e is. by t e (each t e is) (only t (each t e is).0.0 (each t e is).0.1);
}
  where
    by : (t : List ℕ) (e : TagEntry)
        → (w : ((d : TagEntry) × (tag_entry t ready ≡ Some d) × (d.held ≤ e.held))
        × (bytes_eq r.tag t ≡ true → length r.entries ≤ e.held))
        → (tag_entry t old ≡ Some w.0.0) ⊎ ((r.tag ≡ t) × IsSome newest) → 0 < e.held
    by t e w (inl kept) = omega (arith, own.some t w.0.0 kept, w.0.2)
    by t e w (inr new) = omega (arith, some new.1, w.1 ((bytes_eq-Decides r.tag t).1 new.0))

-- what is kept for a tag stays within what 64 bits count
pub held-fits : (es : List (List ℕ × TagEntry)) (b : LiveBuffer) (t : List ℕ) (n : ℕ)
    → IsSound b → AreCounted es b.chunks → b.accepted + n < 2 ^ 64
    → held_by (tag_entry t es) + n < 2 ^ 64
held-fits es b t n sound own fits = omega (arith, own.held t, held-among t b.chunks, sound.counted, fits)

-- a chunk that entries may join has its tag's number
pub joined-has : (es : List (List ℕ × TagEntry)) (items : List Chunk) (tag : List ℕ)
    (joins : Option ℕ) → AreNewest es items
    → joins ≡ option_map (λ c. c.number) (find (is_open_of tag) items) → (joins ≡ None → false ≡ true)
    → IsSome (tag_number tag es)
joined-has es items tag joins all at some = by (find (is_open_of tag) items) refl
  where
    differ : false ≡ true → ⊥
    differ e = cc

    by : (o : Option Chunk) → find (is_open_of tag) items ≡ o → IsSome (tag_number tag es)
    by None f = absurd (differ (some (at ∙ ap (option_map (λ c. c.number)) f)))
    by (Some c) f =
        subst IsSome
        (sym (open-number es tag c (found-all (HasNumber es) (is_open_of tag) items c f all)
        (found-passes (is_open_of tag) items c f)))
        refl

pub number-some : (o : Option TagEntry) → IsSome (option_map (λ e. e.newest) o) → IsSome o
number-some None h = h
number-some (Some e) h = refl

pub some-number : (o : Option TagEntry) → IsSome o → IsSome (option_map (λ e. e.newest) o)
some-number None h = h
some-number (Some e) h = refl

-- ---- the list of tags

of_tag-append : (t : List ℕ) (xs ys : List Tagged) → of_tag t (xs ++ ys) ≡ of_tag t xs ++ of_tag t ys
of_tag-append t [] ys = refl
of_tag-append t (x ∷ xs) ys = by (bytes_eq t x.tag) (of_tag-append t xs ys)
  where
    by : (b : Bool) → of_tag t (xs ++ ys) ≡ of_tag t xs ++ of_tag t ys
        → map (λ e. e.entry) (cond b (x ∷ filter (λ e. bytes_eq t e.tag) (xs ++ ys)) (filter (λ e. bytes_eq t e.tag) (xs ++ ys)))
        ≡ map (λ e. e.entry) (cond b (x ∷ filter (λ e. bytes_eq t e.tag) xs) (filter (λ e. bytes_eq t e.tag) xs)) ++ of_tag t ys
    by true e = ap (λ l. x.entry ∷ l) e
    by false e = e

of_tag-chunk : (t tag : List ℕ) (es : List (List ℕ))
    → of_tag t (map (λ e. record { tag = tag; entry = e }) es) ≡ cond (bytes_eq t tag) es []
of_tag-chunk t tag [] = by (bytes_eq t tag)
  where
    by : (b : Bool) → [] ≡ cond {A = List (List ℕ)} b [] []
    by true = refl
    by false = refl
of_tag-chunk t tag (e ∷ es) = by (bytes_eq t tag) (of_tag-chunk t tag es)
  where
    rest : List Tagged
    rest = filter (λ x. bytes_eq t x.tag) (map (λ x. record { tag = tag; entry = x }) es)

    by : (b : Bool) → map (λ x. x.entry) rest ≡ cond b es []
        → map (λ x. x.entry) (cond b (record { tag = tag; entry = e } ∷ rest) rest) ≡ cond b (e ∷ es) []
    by true f = ap (λ l. e ∷ l) f
    by false f = f

module _ (f : List (List ℕ) → ℕ) (joins : (xs ys : List (List ℕ)) → f (xs ++ ys) ≡ f xs + f ys) (none : f [] ≡ 0) where
  pub tagged-weighs : (t : List ℕ) (xs : List Chunk) → f (of_tag t (tagged_in xs)) ≡ total (weight f t) xs
  tagged-weighs t [] = none
  tagged-weighs t (x ∷ xs) =
      let front = map (λ e. record { tag = x.tag; entry = e }) x.entries in
      ap f (of_tag-append t front (tagged_in xs)) ∙ joins (of_tag t front) (of_tag t (tagged_in xs))
      ∙ (λ i. (ap f (of_tag-chunk t x.tag x.entries) ∙ by (bytes_eq t x.tag)) i + tagged-weighs t xs i)
    where
      by : (b : Bool) → f (cond b x.entries []) ≡ cond b (f x.entries) 0
      by true = refl
      by false = none

length-joins : (xs ys : List (List ℕ)) → length (xs ++ ys) ≡ length xs + length ys
length-joins [] ys = omega arith
length-joins (x ∷ xs) ys = omega (arith, length-joins xs ys)

size-joins : (xs ys : List (List ℕ)) → size_of (xs ++ ys) ≡ size_of xs + size_of ys
size-joins [] ys = omega arith
size-joins (x ∷ xs) ys = omega (arith, size-joins xs ys)

pub tagged-held : (t : List ℕ) (xs : List Chunk) → length (of_tag t (tagged_in xs)) ≡ tag_held t xs
tagged-held t xs = tagged-weighs length length-joins refl t xs ∙ sym (held-weighs t xs)

pub tagged-bytes : (t : List ℕ) (xs : List Chunk) → size_of (of_tag t (tagged_in xs)) ≡ tag_bytes t xs
tagged-bytes t xs = tagged-weighs size_of size-joins refl t xs ∙ sym (bytes-weigh t xs)

-- each entry's tag has entries
pub tagged-each : (all xs : List Tagged) → ((t : List ℕ) → length (of_tag t xs) ≤ length (of_tag t all))
    → AllByRecursion (λ e. 0 < length (of_tag e.tag all)) xs
tagged-each all [] sub = tt
tagged-each all (x ∷ xs) sub = (mine, tagged-each all xs (λ t. later t (bytes_eq t x.tag) (sub t)))
  where
    entries : Bool → List ℕ → List (List ℕ)
    entries b t = map (λ e. e.entry) (cond b (x ∷ filter (λ e. bytes_eq t e.tag) xs) (filter (λ e. bytes_eq t e.tag) xs))

    own : 0 < length (entries true x.tag)
    own = omega arith

    mine : 0 < length (of_tag x.tag all)
    mine =
        let is : length (entries (bytes_eq x.tag x.tag) x.tag) ≡ length (entries true x.tag) = ap (λ b. length (entries b x.tag)) (itself x.tag) in
        omega (arith, own, is, sub x.tag)

    later : (t : List ℕ) (b : Bool) → length (entries b t) ≤ length (of_tag t all)
        → length (of_tag t xs) ≤ length (of_tag t all)
    later t true le = omega (arith, le)
    later t false le = le

has-entry : (t : List ℕ) (es : List (List ℕ × TagEntry))
    → list_any (bytes_eq t) (map (λ e. e.0) es) ≡ is_some (tag_entry t es)
has-entry t [] = refl
has-entry t (e ∷ es) = by (bytes_eq t e.0) (has-entry t es)
  where
    by : (b : Bool) → list_any (bytes_eq t) (map (λ x. x.0) es) ≡ is_some (tag_entry t es)
        → (b || list_any (bytes_eq t) (map (λ x. x.0) es)) ≡ is_some (cond b (Some e.1) (tag_entry t es))
    by true f = refl
    by false f = f

own-entry : (es : List (List ℕ × TagEntry)) → IsDistinct bytes_eq (map (λ e. e.0) es)
    → AllByRecursion (λ e. tag_entry e.0 es ≡ Some e.1) es
unfolding IsDistinct
own-entry [] apart = tt
own-entry (x ∷ es) apart = (ap (λ b. cond b (Some x.1) (tag_entry x.0 es)) (itself x.0), behind es apart.0 (own-entry es apart.1))
  where
    behind : (ys : List (List ℕ × TagEntry))
        → AllByRecursion (λ y. bytes_eq x.0 y ≡ false) (map (λ e. e.0) ys)
        → AllByRecursion (λ e. tag_entry e.0 es ≡ Some e.1) ys
        → AllByRecursion (λ e. tag_entry e.0 (x ∷ es) ≡ Some e.1) ys
    behind [] off all = tt
    behind (y ∷ ys) off all =
        (ap (λ b. cond b (Some x.1) (tag_entry y.0 es)) (bytes_flip y.0 x.0 ∙ off.0) ∙ all.0, behind ys off.1 all.1)

tags-listed : (es : List (List ℕ × TagEntry)) → map (λ (t : TagCount). t.tag) (listed es) ≡ map (λ e. e.0) es
tags-listed [] = refl
tags-listed (e ∷ es) = ap (λ l. e.0 ∷ l) (tags-listed es)

-- the list of what is kept is the counts of all tags
pub listed-counts : (es : List (List ℕ × TagEntry)) (xs : List Chunk)
    → IsDistinct bytes_eq (map (λ e. e.0) es) → AreCounted es xs
    → AreTagCounts (tagged_in xs) (listed es)
listed-counts es xs apart own = record {
  told = told es (own-entry es apart);
  once = subst (IsDistinct bytes_eq) (sym (tags-listed es)) apart;
  all = all (tagged_in xs) (tagged-each (tagged_in xs) (tagged_in xs) (λ t. omega arith));
}
  where
    told : (ys : List (List ℕ × TagEntry)) → AllByRecursion (λ e. tag_entry e.0 es ≡ Some e.1) ys
        → AllByRecursion (λ t. (t ≡ tag_count (tagged_in xs) t.tag) × (0 < t.held)) (listed ys)
    told [] is = tt
    told (y ∷ ys) is =
        let held : y.1.held ≡ length (of_tag y.0 (tagged_in xs)) = ap held_by (sym is.0) ∙ own.held y.0 ∙ sym (tagged-held y.0 xs) in
        let bytes : y.1.bytes ≡ size_of (of_tag y.0 (tagged_in xs)) = ap bytes_by (sym is.0) ∙ own.bytes y.0 ∙ sym (tagged-bytes y.0 xs) in
        (((λ i. record { tag = y.0; held = held i; bytes = bytes i }), own.some y.0 y.1 is.0), told ys is.1)

    all : (zs : List Tagged) → AllByRecursion (λ e. 0 < length (of_tag e.tag (tagged_in xs))) zs
        → AllByRecursion (λ e. list_any (bytes_eq e.tag) (map (λ t. t.tag) (listed es)) ≡ true) zs
    all [] some = tt
    all (z ∷ zs) some = (
      ap (list_any (bytes_eq z.tag)) (tags-listed es) ∙ has-entry z.tag es
          ∙ kept-some (tag_entry z.tag es) (omega (arith, some.0, own.held z.tag, tagged-held z.tag xs)),
      all zs some.1,
    )
