-- What is held of each tag adds up to what is held, and is that of the history.
use Rattle.std.proofs.Common.{◌≡◌, ℕ, ◌+◌, ◌<◌, Bool, true, false, cond, ◌||◌, List, [], ◌∷◌, ◌++◌, length, map, refl, sym, ap, ◌∙◌, subst, arith}
use Rattle.std.specs.Prelude.{filter, ◌==◌, ◌&&◌, sum}
use Rattle.std.specs.List.{AllByRecursion, IsDistinct, list_any}
use Rattle.std.specs.Str.{bytes_eq}
use Rattle.std.proofs.lemmas.Bool.{ltb-true, lt-ltb}
use Rattle.std.proofs.lemmas.List.{length-append, length-map}
use Rattle.std.proofs.lemmas.List.Sums.{sum_by-cons}
use Rattle.std.proofs.lemmas.Slice.Eq.{bytes_eq-Decides}
use Rattle.fwd_base.specs.declared.tag_count.TagCount.{TagCount}
use Rattle.fwd_chunks.specs.declared.chunk.Chunk.{Chunk}
use Rattle.fwd_chunks.specs.Cells.{Cell, size_of, cells_at, contents, first_tag, has_number, has_entry}
use Rattle.fwd_chunks.specs.History.{BufferHistory, unsettled}
use Rattle.fwd_chunks.specs.Live.{live_chunk, live_buffer, held_in, bytes_in}
use Rattle.fwd_chunks.specs.Newest.{tag_held, tag_bytes}
use Rattle.fwd_chunks.specs.TagCounts.{Tagged, of_tag, tag_count, tags_of, tag_counts, tagged_cells, tagged_in, report, live_report, AreTagCounts}
use Rattle.fwd_chunks.proofs.Numbers.{sum_over, sum_over-same}
use Rattle.fwd_chunks.proofs.CellLemmas.{weigh, weigh_numbers, weigh-length, weigh-size, cells_at-unsettled}
use Rattle.fwd_chunks.proofs.Sane.{IsSane}
use Rattle.fwd_chunks.proofs.Follows.{live_numbers, in_live, counts-live}
use Rattle.fwd_chunks.proofs.TagOrder.{AreRising, has, rising-tags_of, has-tags_of, any-count, counts_alike, tags-map, rising-distinct}
use Rattle.fwd_chunks.proofs.Counted.{bytes_flip, tagged-held, tagged-bytes, tagged-each}

-- ---- the counts of all tags are counts of tags

pub counts-are : (held : List Tagged) → AreTagCounts held (tag_counts held)
unfolding tag_counts
counts-are held = record {
  told = told (tags_of held) (some (tags_of held) (λ t e. e));
  once = subst (IsDistinct bytes_eq) (sym (tags-map held (tags_of held))) (distinct (tags_of held) (rising-tags_of held));
  all = all held (tagged-each held held (λ t. omega arith));
}
  where
    own : (t : List ℕ) → bytes_eq t t ≡ true
    own t = (bytes_eq-Decides t t).1 refl

    -- each tag that stands there has entries
    some : (ts : List (List ℕ)) → ((t : List ℕ) → has t ts ≡ true → has t (tags_of held) ≡ true)
        → AllByRecursion (λ t. 0 < length (of_tag t held)) ts
    some [] h = tt
    some (t ∷ ts) h = (
      ltb-true 0 (length (of_tag t held)) (sym (has-tags_of t held ∙ any-count t held) ∙ h t (ap (λ b. b || has t ts) (own t))),
      some ts (λ u e. h u (or_right (bytes_eq u t) (has u ts) e)),
    )
      where
        or_right : (a b : Bool) → b ≡ true → (a || b) ≡ true
        or_right true b e = refl
        or_right false b e = e

    told : (ts : List (List ℕ)) → AllByRecursion (λ t. 0 < length (of_tag t held)) ts
        → AllByRecursion (λ t. (t ≡ tag_count held t.tag) × (0 < t.held)) (map (tag_count held) ts)
    told [] h = tt
    told (t ∷ ts) h = ((refl, h.0), told ts h.1)

    distinct : (ts : List (List ℕ)) → AreRising ts → IsDistinct bytes_eq ts
    distinct ts up = rising-distinct ts up

    all : (es : List Tagged) → AllByRecursion (λ e. 0 < length (of_tag e.tag held)) es
        → AllByRecursion (λ e. list_any (bytes_eq e.tag) (map (λ (t : TagCount). t.tag) (map (tag_count held) (tags_of held))) ≡ true) es
    all [] h = tt
    all (e ∷ es) h =
        (ap (list_any (bytes_eq e.tag)) (tags-map held (tags_of held)) ∙ has-tags_of e.tag held ∙ any-count e.tag held ∙ lt-ltb 0 (length (of_tag e.tag held)) h.0, all es h.1)

pub counts-some : (held : List Tagged) (listed : List TagCount)
    → AllByRecursion (λ t. (t ≡ tag_count held t.tag) × (0 < t.held)) listed
    → AllByRecursion (λ t. 0 < t.held) listed
counts-some held [] all = tt
counts-some held (t ∷ listed) all = (all.0.1, counts-some held listed all.1)

-- ---- sums

-- how often a tag stands among others
abbrev times : List ℕ → List (List ℕ) → ℕ → ℕ
times tag [] n = 0
times tag (t ∷ ts) n = cond (bytes_eq t tag) n 0 + times tag ts n

times-none : (tag : List ℕ) (ts : List (List ℕ)) (n : ℕ) → has tag ts ≡ false → times tag ts n ≡ 0
times-none tag [] n e = refl
times-none tag (t ∷ ts) n e = by (bytes_eq tag t) refl e (times-none tag ts n)
  where
    by : (b : Bool) → bytes_eq tag t ≡ b → (b || has tag ts) ≡ false
        → (has tag ts ≡ false → times tag ts n ≡ 0) → cond (bytes_eq t tag) n 0 + times tag ts n ≡ 0
    by true f g more = absurd cc
    by false f g more = omega (arith, more g, ap (λ b. cond b n 0) (bytes_flip t tag ∙ f))

times-once : (tag : List ℕ) (ts : List (List ℕ)) (n : ℕ) → IsDistinct bytes_eq ts → has tag ts ≡ true
    → times tag ts n ≡ n
unfolding IsDistinct
times-once tag [] n own e = absurd cc
times-once tag (t ∷ ts) n own e = by (bytes_eq tag t) refl e (times-once tag ts n own.1)
  where
    apart : (us : List (List ℕ)) → tag ≡ t → AllByRecursion (λ u. bytes_eq t u ≡ false) us → has tag us ≡ false
    apart [] is all = refl
    apart (u ∷ us) is all = ap (λ b. b || has tag us) (ap (λ l. bytes_eq l u) is ∙ all.0) ∙ apart us is all.1

    by : (b : Bool) → bytes_eq tag t ≡ b → (b || has tag ts) ≡ true
        → (has tag ts ≡ true → times tag ts n ≡ n) → cond (bytes_eq t tag) n 0 + times tag ts n ≡ n
    by true f g more =
        omega (arith, ap (λ b. cond b n 0) (bytes_flip t tag ∙ f), times-none tag ts n (apart ts ((bytes_eq-Decides tag t).0 f) own.0))
    by false f g more = omega (arith, more g, ap (λ b. cond b n 0) (bytes_flip t tag ∙ f))

-- what entries weigh, tag by tag
abbrev pub by_tag : (List (List ℕ) → ℕ) → List (List ℕ) → List Tagged → ℕ
by_tag f [] held = 0
by_tag f (t ∷ ts) held = f (of_tag t held) + by_tag f ts held

module _ (f : List (List ℕ) → ℕ) (g : List ℕ → ℕ) (first : (e : List ℕ) (es : List (List ℕ)) → f (e ∷ es) ≡ g e + f es) (none : f [] ≡ 0) where
  by_tag-none : (ts : List (List ℕ)) → by_tag f ts [] ≡ 0
  by_tag-none [] = refl
  by_tag-none (t ∷ ts) = omega (arith, none, by_tag-none ts)

  by_tag-more : (ts : List (List ℕ)) (e : Tagged) (held : List Tagged)
      → by_tag f ts (e ∷ held) ≡ times e.tag ts (g e.entry) + by_tag f ts held
  by_tag-more [] e held = omega arith
  by_tag-more (t ∷ ts) e held = omega (arith, by_tag-more ts e held, by (bytes_eq t e.tag))
    where
      by : (b : Bool) → f (map (λ x. x.entry) (cond b (e ∷ filter (λ x. bytes_eq t x.tag) held) (filter (λ x. bytes_eq t x.tag) held)))
          ≡ cond b (g e.entry) 0 + f (of_tag t held)
      by true = first e.entry (of_tag t held)
      by false = omega arith

  pub by_tag-all : (ts : List (List ℕ)) (held : List Tagged) → IsDistinct bytes_eq ts
      → AllByRecursion (λ e. has e.tag ts ≡ true) held
      → by_tag f ts held ≡ f (map (λ e. e.entry) held)
  by_tag-all ts [] own all = by_tag-none ts ∙ sym none
  by_tag-all ts (e ∷ held) own all =
      omega (arith, by_tag-more ts e held, times-once e.tag ts (g e.entry) own all.0, by_tag-all ts held own all.1, first e.entry (map (λ x. x.entry) held))

pub held-sum : (held : List Tagged) → sum (map (λ (t : TagCount). t.held) (tag_counts held)) ≡ length held
unfolding tag_counts
held-sum held =
    go (tags_of held) ∙ by_tag-all length (λ e. 1) (λ e es. omega arith) refl (tags_of held) held (rising-distinct (tags_of held) (rising-tags_of held)) (listed held (tagged-each held held (λ t. omega arith)))
    ∙ length-map held (λ e. e.entry)
  where
    go : (ts : List (List ℕ)) → sum (map (λ (t : TagCount). t.held) (map (tag_count held) ts)) ≡ by_tag length ts held
    go [] = refl
    go (t ∷ ts) = sum_by-cons (λ x. x) (length (of_tag t held)) (map (λ (u : TagCount). u.held) (map (tag_count held) ts)) ∙ ap (λ n. length (of_tag t held) + n) (go ts)

    listed : (es : List Tagged) → AllByRecursion (λ e. 0 < length (of_tag e.tag held)) es
        → AllByRecursion (λ e. has e.tag (tags_of held) ≡ true) es
    listed [] h = tt
    listed (e ∷ es) h = (has-tags_of e.tag held ∙ any-count e.tag held ∙ lt-ltb 0 (length (of_tag e.tag held)) h.0, listed es h.1)

pub bytes-sum : (held : List Tagged)
    → sum (map (λ (t : TagCount). t.bytes) (tag_counts held)) ≡ size_of (map (λ e. e.entry) held)
unfolding tag_counts
bytes-sum held =
    go (tags_of held) ∙ by_tag-all size_of length (λ e es. refl) refl (tags_of held) held (rising-distinct (tags_of held) (rising-tags_of held)) (listed held (tagged-each held held (λ t. omega arith)))
  where
    go : (ts : List (List ℕ)) → sum (map (λ (t : TagCount). t.bytes) (map (tag_count held) ts)) ≡ by_tag size_of ts held
    go [] = refl
    go (t ∷ ts) = sum_by-cons (λ x. x) (size_of (of_tag t held)) (map (λ (u : TagCount). u.bytes) (map (tag_count held) ts)) ∙ ap (λ n. size_of (of_tag t held) + n) (go ts)

    listed : (es : List Tagged) → AllByRecursion (λ e. 0 < length (of_tag e.tag held)) es
        → AllByRecursion (λ e. has e.tag (tags_of held) ≡ true) es
    listed [] h = tt
    listed (e ∷ es) h = (has-tags_of e.tag held ∙ any-count e.tag held ∙ lt-ltb 0 (length (of_tag e.tag held)) h.0, listed es h.1)

-- the entries of chunks are what they hold
pub tagged-length : (xs : List Chunk) → length (tagged_in xs) ≡ held_in xs
tagged-length [] = refl
tagged-length (x ∷ xs) =
    let front : List Tagged = map (λ e. record { tag = x.tag; entry = e }) x.entries in
    let same : length front ≡ length x.entries = length-map x.entries (λ e. record { tag = x.tag; entry = e }) in
    omega (arith, length-append front (tagged_in xs), same, tagged-length xs)

pub tagged-size : (xs : List Chunk) → size_of (map (λ e. e.entry) (tagged_in xs)) ≡ bytes_in xs
tagged-size [] = refl
tagged-size (x ∷ xs) = go (tagged-size xs) x.entries
  where
    go : size_of (map (λ e. e.entry) (tagged_in xs)) ≡ bytes_in xs → (es : List (List ℕ))
        → size_of (map (λ (e : Tagged). e.entry) (map (λ e. record { tag = x.tag; entry = e }) es ++ tagged_in xs)) ≡ size_of es + bytes_in xs
    go rest [] = omega (arith, rest)
    go rest (e ∷ es) = omega (arith, go rest es)

-- ---- the history

-- a cell weighs so much where it is of the tag
abbrev weighs : (Cell → ℕ) → List ℕ → Cell → ℕ
weighs w t c = cond (bytes_eq t c.tag) (w c) 0

cells-length : (t : List ℕ) (cells : List Cell)
    → length (of_tag t (tagged_cells cells)) ≡ weigh (weighs (λ c. 1) t) cells
cells-length t [] = refl
cells-length t (c ∷ cells) = by (bytes_eq t c.tag) (cells-length t cells)
  where
    rest : List Tagged
    rest = filter (λ e. bytes_eq t e.tag) (tagged_cells cells)

    by : (b : Bool) → length (of_tag t (tagged_cells cells)) ≡ weigh (weighs (λ c. 1) t) cells
        → length (map (λ e. e.entry) (cond b (record { tag = c.tag; entry = c.entry } ∷ rest) rest))
        ≡ cond b 1 0 + weigh (weighs (λ c. 1) t) cells
    by true e = omega (arith, e)
    by false e = omega (arith, e)

cells-size : (t : List ℕ) (cells : List Cell)
    → size_of (of_tag t (tagged_cells cells)) ≡ weigh (weighs (λ c. length c.entry) t) cells
cells-size t [] = refl
cells-size t (c ∷ cells) = by (bytes_eq t c.tag) (cells-size t cells)
  where
    rest : List Tagged
    rest = filter (λ e. bytes_eq t e.tag) (tagged_cells cells)

    by : (b : Bool) → size_of (of_tag t (tagged_cells cells)) ≡ weigh (weighs (λ c. length c.entry) t) cells
        → size_of (map (λ e. e.entry) (cond b (record { tag = c.tag; entry = c.entry } ∷ rest) rest))
        ≡ cond b (length c.entry) 0 + weigh (weighs (λ c. length c.entry) t) cells
    by true e = omega (arith, e)
    by false e = omega (arith, e)

-- the cells of a number have its tag
one_tag : (k : ℕ) (tag : List ℕ) (cells : List Cell)
    → ((t : List ℕ) → has_entry t k cells ≡ true → tag ≡ t)
    → AllByRecursion (λ c. c.tag ≡ tag) (cells_at k cells)
one_tag k tag [] own = tt
one_tag k tag (c ∷ cells) own = by (c.number == k) refl (one_tag k tag cells (λ t e. own t (or_right ((c.number == k) && bytes_eq c.tag t) (has_entry t k cells) e)))
  where
    or_right : (a b : Bool) → b ≡ true → (a || b) ≡ true
    or_right true b e = refl
    or_right false b e = e

    by : (b : Bool) → (c.number == k) ≡ b → AllByRecursion (λ d. d.tag ≡ tag) (cells_at k cells)
        → AllByRecursion (λ d. d.tag ≡ tag) (cond b (c ∷ cells_at k cells) (cells_at k cells))
    by true e more = (sym (own c.tag ((λ i. (e i && (bytes_eq-Decides c.tag c.tag).1 refl i) || has_entry c.tag k cells))), more)
    by false e more = more

weigh-tagged : (w : Cell → ℕ) (t tag : List ℕ) (cells : List Cell)
    → AllByRecursion (λ c. c.tag ≡ tag) cells
    → cond (bytes_eq t tag) (weigh w cells) 0 ≡ weigh (weighs w t) cells
weigh-tagged w t tag cells all = by (bytes_eq t tag) refl cells all
  where
    by : (b : Bool) → bytes_eq t tag ≡ b → (ds : List Cell) → AllByRecursion (λ c. c.tag ≡ tag) ds
        → cond b (weigh w ds) 0 ≡ weigh (weighs w t) ds
    by true e [] own = refl
    by true e (d ∷ ds) own = omega (arith, ap (λ b. cond b (w d) 0) (ap (bytes_eq t) own.0 ∙ e), by true e ds own.1)
    by false e [] own = refl
    by false e (d ∷ ds) own = omega (arith, ap (λ b. cond b (w d) 0) (ap (bytes_eq t) own.0 ∙ e), by false e ds own.1)

module _ (h : BufferHistory) (own : IsSane h) (t : List ℕ) where
  tag_at : ℕ → List ℕ
  tag_at k = first_tag (cells_at k h.cells)

  each-number : (w : Cell → ℕ) (k : ℕ) → has_number k (live_numbers h) ≡ true
      → cond (bytes_eq t (first_tag (cells_at k h.cells))) (weigh w (cells_at k h.cells)) 0
      ≡ weigh (weighs w t) (cells_at k (unsettled h))
  each-number w k e =
      weigh-tagged w t (first_tag (cells_at k h.cells)) (cells_at k h.cells) (one_tag k (first_tag (cells_at k h.cells)) h.cells (λ tag f. own.one_tag k tag f))
      ∙ ap (weigh (weighs w t)) (sym (cells_at-unsettled k h.acknowledged h.cells (in_live h k e).unacked))

  held-over : (ns : List ℕ) → tag_held t (map (live_chunk h) ns)
      ≡ sum_over (λ k. cond (bytes_eq t (first_tag (cells_at k h.cells))) (length (contents k h.cells)) 0) ns
  held-over [] = refl
  held-over (n ∷ ns) = ap (λ m. cond (bytes_eq t (first_tag (cells_at n h.cells))) (length (contents n h.cells)) 0 + m) (held-over ns)

  bytes-over : (ns : List ℕ) → tag_bytes t (map (live_chunk h) ns)
      ≡ sum_over (λ k. cond (bytes_eq t (first_tag (cells_at k h.cells))) (size_of (contents k h.cells)) 0) ns
  bytes-over [] = refl
  bytes-over (n ∷ ns) = ap (λ m. cond (bytes_eq t (first_tag (cells_at n h.cells))) (size_of (contents n h.cells)) 0 + m) (bytes-over ns)

  pub held-alike : length (of_tag t (tagged_cells (unsettled h))) ≡ length (of_tag t (tagged_in (live_buffer h).chunks))
  unfolding live_buffer
  held-alike =
      cells-length t (unsettled h) ∙ sym (weigh_numbers (weighs (λ c. 1) t) (unsettled h))
      ∙ sym (tagged-held t (map (live_chunk h) (live_numbers h)) ∙ held-over (live_numbers h)
      ∙ sum_over-same (λ k. cond (bytes_eq t (first_tag (cells_at k h.cells))) (length (contents k h.cells)) 0) (λ k. weigh (weighs (λ c. 1) t) (cells_at k (unsettled h))) (live_numbers h)
      (λ k e. ap (λ n. cond (bytes_eq t (first_tag (cells_at k h.cells))) n 0) (weigh-length (cells_at k h.cells)) ∙ each-number (λ c. 1) k e))

  pub bytes-alike : size_of (of_tag t (tagged_cells (unsettled h))) ≡ size_of (of_tag t (tagged_in (live_buffer h).chunks))
  unfolding live_buffer
  bytes-alike =
      cells-size t (unsettled h) ∙ sym (weigh_numbers (weighs (λ c. length c.entry) t) (unsettled h))
      ∙ sym (tagged-bytes t (map (live_chunk h) (live_numbers h)) ∙ bytes-over (live_numbers h)
      ∙ sum_over-same (λ k. cond (bytes_eq t (first_tag (cells_at k h.cells))) (size_of (contents k h.cells)) 0) (λ k. weigh (weighs (λ c. length c.entry) t) (cells_at k (unsettled h))) (live_numbers h)
      (λ k e. ap (λ n. cond (bytes_eq t (first_tag (cells_at k h.cells))) n 0) (weigh-size (cells_at k h.cells)) ∙ each-number (λ c. length c.entry) k e))

pub report-live : (h : BufferHistory) → IsSane h → report h ≡ live_report (live_buffer h)
report-live h own =
    let tags = counts_alike (tagged_cells (unsettled h)) (tagged_in (live_buffer h).chunks) (record { held = λ t. held-alike h own t; bytes = λ t. bytes-alike h own t }) in
    λ i. record { counts = counts-live h i; tags = tags i }
