-- What a request's runs are stands in the chunks, and stays there.
use Rattle.std.proofs.Common.{◌≡◌, ◌≢◌, ℕ, zero, suc, ◌+◌, ◌<◌, ◌≤◌, Bool, true, false, cond, List, [], ◌∷◌, ◌++◌, length, take, drop, Option, Some, None, refl, sym, ap, ◌∙◌, subst, max, inl, inr, arith}
use Rattle.std.specs.Prelude.{◌⊎◌, map, filter, find, not, ◌&&◌, ◌==◌, option_map, nat_le, slice_get}
use Rattle.std.specs.List.{AllByRecursion}
use Rattle.std.specs.Str.{bytes_eq}
use Rattle.std.proofs.lemmas.Bool.{and_parts}
use Rattle.std.proofs.lemmas.List.{append-nil}
use Rattle.std.proofs.lemmas.Slice.Eq.{bytes_eq-Decides}
use Rattle.fwd_modes.specs.Requests.{Request}
use Rattle.fwd_chunks.specs.declared.chunk.Chunk.{Chunk}
use Rattle.fwd_chunks.specs.declared.span.Span.{Span}
use Rattle.fwd_chunks.specs.declared.flush.FlushKind.{FlushKind}
use Rattle.fwd_chunks.specs.declared.chunk_state.ChunkState.{ChunkState}
use Rattle.fwd_chunks.specs.declared.chunk_state.ChunkState.TheVariants.{Closed, Taken}
use Rattle.fwd_chunks.specs.Cells.{size_of}
use Rattle.fwd_chunks.specs.History.{CarriedChunk, before_runs}
use Rattle.fwd_chunks.specs.declared.wanted.Wanted.{Wanted}
use Rattle.fwd_chunks.specs.Live.{LiveBuffer, is_open, staged, is_at, live_next_number, is_open_of, may_take, first_chunk, live_adds_to, live_adds, live_adds_all, live_looks, live_enters, live_place, live_runs, live_spans, live_closes, live_flushes, live_given_for, live_carries_more, live_takes, live_carried_chunk, live_carried, IsCarried, is_taken, live_frees, live_settles}
use Rattle.fwd_base.specs.Tallies.{tally_more}
use Rattle.fwd_chunks.specs.Soundness.{IsBefore, AreInOrder, IsSound}
use Rattle.fwd_chunks.specs.Spans.{run_in, AreRising, AreCutBy, IsHeld, AreHeld, IsGone}
use Rattle.fwd_chunks.proofs.Numbers.{true_false, not_from, eq_same}
use Rattle.fwd_chunks.proofs.Places.{none_some, found-number}
use Rattle.fwd_chunks.proofs.Sounding.{found-all, found-passes, IsSorted, with_entry, adds-sorted, sorted}
use Rattle.std.proofs.lemmas.Option.{same_Some}
use Rattle.std.proofs.lemmas.Bool.{eqb-true}

-- ---- finding a chunk

-- a change that leaves the numbers
pub find-map : (n : ℕ) (f : Chunk → Chunk) → ((c : Chunk) → (f c).number ≡ c.number)
    → (chunks : List Chunk)
    → find (is_at n) (map f chunks) ≡ option_map f (find (is_at n) chunks)
find-map n f number [] = refl
find-map n f number (c ∷ chunks) =
    ap (λ m. cond (m == n) (Some (f c)) (find (is_at n) (map f chunks))) (number c)
    ∙ by (c.number == n) (find-map n f number chunks)
  where
    by : (b : Bool) → find (is_at n) (map f chunks) ≡ option_map f (find (is_at n) chunks)
        → cond b (Some (f c)) (find (is_at n) (map f chunks))
        ≡ option_map f (cond b (Some c) (find (is_at n) chunks))
    by true rest = refl
    by false rest = rest

-- the first of two that is there
abbrev pub option_else : Option Chunk → Option Chunk → Option Chunk
option_else None o = o
option_else (Some c) o = Some c

-- one more chunk at the end
pub find-push : (n : ℕ) (chunks : List Chunk) (d : Chunk)
    → find (is_at n) (chunks ++ d ∷ [])
    ≡ option_else (find (is_at n) chunks) (cond (is_at n d) (Some d) None)
find-push n [] d = refl
find-push n (c ∷ chunks) d = by (is_at n c) (find-push n chunks d)
  where
    by : (b : Bool)
        → find (is_at n) (chunks ++ d ∷ [])
        ≡ option_else (find (is_at n) chunks) (cond (is_at n d) (Some d) None)
        → cond b (Some c) (find (is_at n) (chunks ++ d ∷ []))
        ≡ option_else (cond b (Some c) (find (is_at n) chunks)) (cond (is_at n d) (Some d) None)
    by true rest = refl
    by false rest = rest

-- no number as high is there
pub find-above : (n : ℕ) (chunks : List Chunk) → AllByRecursion (λ c. c.number < n) chunks
    → find (is_at n) chunks ≡ None
find-above n [] all = refl
find-above n (c ∷ chunks) all =
    let apart : (c.number == n) ≡ false = not_from (c.number == n) (λ e. absurd (omega (arith, all.0, eqb-true c.number n e))) in
    ap (λ b. cond b (Some c) (find (is_at n) chunks)) apart ∙ find-above n chunks all.1

-- what is found by another test is found by its number
pub found-at : (p : Chunk → Bool) (chunks : List Chunk) (c : Chunk) → AreInOrder chunks
    → find p chunks ≡ Some c → find (is_at c.number) chunks ≡ Some c
found-at p [] c h e = absurd (none_some e)
found-at p (x ∷ chunks) c h e = by (p x) (found-at p chunks c h.1) e
  where
    by : (b : Bool) → (find p chunks ≡ Some c → find (is_at c.number) chunks ≡ Some c)
        → cond b (Some x) (find p chunks) ≡ Some c → find (is_at c.number) (x ∷ chunks) ≡ Some c
    by true rest f =
        let same : x ≡ c = same_Some _ _ f in
        ap (λ b. cond b (Some x) (find (is_at c.number) chunks)) (ap (λ y. y.number == c.number) same ∙ eq_same c.number) ∙ ap (λ y. Some y) same
    by false rest f =
        let apart : (x.number == c.number) ≡ false = not_from (x.number == c.number) (λ g. absurd (omega (arith, (found-all (IsBefore x) p chunks c f h.0).lower, eqb-true x.number c.number g))) in
        ap (λ b. cond b (Some x) (find (is_at c.number) chunks)) apart ∙ rest f

-- ---- one entry more

-- the chunk of a number has at least the entries that it had
pub record Grown (chunks : List Chunk) (n : ℕ) (d : Chunk) : Type 0 where
  pub chunk : Chunk
  pub more : List (List ℕ)
  pub here : find (is_at n) chunks ≡ Some chunk
  pub tagged : chunk.tag ≡ d.tag
  pub entries : chunk.entries ≡ d.entries ++ more

-- an entry stands last in an open chunk of its tag
pub record Stands (b : LiveBuffer) (tag entry : List ℕ) (p : Span) : Type 0 where
  pub chunk : Chunk
  pub front : List (List ℕ)
  pub here : find (is_at p.number) b.chunks ≡ Some chunk
  pub opened : is_open_of tag chunk ≡ true
  pub entries : chunk.entries ≡ front ++ entry ∷ []
  pub from : length front ≡ p.from

abbrev joining : ℕ → List ℕ → Chunk → Chunk
joining n entry d = cond (is_at n d) (with_entry entry d) d

abbrev closing : List ℕ → Chunk → Chunk
closing tag d = cond (is_open_of tag d) (staged Closed d) d

joining-number : (n : ℕ) (entry : List ℕ) (d : Chunk) → (joining n entry d).number ≡ d.number
joining-number n entry d = by (is_at n d)
  where
    by : (t : Bool) → (cond t (with_entry entry d) d).number ≡ d.number
    by true = refl
    by false = refl

closing-number : (tag : List ℕ) (d : Chunk) → (closing tag d).number ≡ d.number
closing-number tag d = by (is_open_of tag d)
  where
    by : (t : Bool) → (cond t (staged Closed d) d).number ≡ d.number
    by true = refl
    by false = refl

numbers-below : (tag : List ℕ) (n : ℕ) (chunks : List Chunk)
    → AllByRecursion (λ c. c.number < n) chunks
    → AllByRecursion (λ c. c.number < n) (map (closing tag) chunks)
numbers-below tag n [] all = tt
numbers-below tag n (c ∷ chunks) all = (omega (arith, all.0, closing-number tag c), numbers-below tag n chunks all.1)

length-more : (xs ys : List (List ℕ)) → length (xs ++ ys) ≡ length xs + length ys
length-more [] ys = omega arith
length-more (x ∷ xs) ys = omega (arith, length-more xs ys)

module _ (b : LiveBuffer) (tag entry : List ℕ) (own : IsSorted b) where
  pub adds-grows : (n : ℕ) (d : Chunk) → find (is_at n) b.chunks ≡ Some d
      → Grown (live_adds b tag entry).chunks n d
  unfolding live_adds
  adds-grows n d e = by (find (may_take b tag entry) b.chunks)
    where
      by : (o : Option Chunk) → Grown (live_adds_to b tag entry o).chunks n d
      by None = record {
        chunk = closing tag d;
        more = [];
        here = find-push n (map (closing tag) b.chunks) (first_chunk b tag entry)
            ∙ ap (λ o. option_else o (cond (is_at n (first_chunk b tag entry)) (Some (first_chunk b tag entry)) None)) (find-map n (closing tag) (closing-number tag) b.chunks ∙ ap (option_map (closing tag)) e);
        tagged = tags (is_open_of tag d);
        entries = same (is_open_of tag d) ∙ sym (append-nil d.entries);
      }
        where
          tags : (t : Bool) → (cond t (staged Closed d) d).tag ≡ d.tag
          tags true = refl
          tags false = refl

          same : (t : Bool) → (cond t (staged Closed d) d).entries ≡ d.entries
          same true = refl
          same false = refl
      by (Some c) = at (is_at c.number d) (find-map n (joining c.number entry) (joining-number c.number entry) b.chunks ∙ ap (option_map (joining c.number entry)) e)
        where
          at : (t : Bool)
              → find (is_at n) (live_adds_to b tag entry (Some c)).chunks
              ≡ Some (cond t (with_entry entry d) d)
              → Grown (live_adds_to b tag entry (Some c)).chunks n d
          at true f = record { chunk = with_entry entry d; more = entry ∷ []; here = f; tagged = refl; entries = refl }
          at false f = record { chunk = d; more = []; here = f; tagged = refl; entries = sym (append-nil d.entries) }

  -- where a number was not there, and is not the next, it is not there
  pub adds-gone : (n : ℕ) → find (is_at n) b.chunks ≡ None → n < live_next_number b
      → (find (is_at n) (live_adds b tag entry).chunks ≡ None)
      × (n < live_next_number (live_adds b tag entry))
  unfolding live_adds
  adds-gone n e lt = by (find (may_take b tag entry) b.chunks)
    where
      by : (o : Option Chunk)
          → (find (is_at n) (live_adds_to b tag entry o).chunks ≡ None)
          × (n < live_next_number (live_adds_to b tag entry o))
      by None =
          let apart : (live_next_number b == n) ≡ false = not_from (live_next_number b == n) (λ f. absurd (omega (arith, lt, eqb-true (live_next_number b) n f))) in (
            find-push n (map (closing tag) b.chunks) (first_chunk b tag entry)
                ∙ (λ i. option_else ((find-map n (closing tag) (closing-number tag) b.chunks ∙ ap (option_map (closing tag)) e) i) (cond (apart i) (Some (first_chunk b tag entry)) None)),
            omega (arith, lt),
          )
      by (Some c) = (find-map n (joining c.number entry) (joining-number c.number entry) b.chunks ∙ ap (option_map (joining c.number entry)) e, lt)

  -- where the entry goes
  abbrev pub place : Span
  place = live_place b (find (may_take b tag entry) b.chunks)

  pub adds-stands : Stands (live_adds b tag entry) tag entry place
  unfolding live_adds
  adds-stands = by (find (may_take b tag entry) b.chunks) refl
    where
      by : (o : Option Chunk) → find (may_take b tag entry) b.chunks ≡ o
          → Stands (live_adds_to b tag entry o) tag entry (live_place b o)
      by None e = record {
        chunk = first_chunk b tag entry;
        front = [];
        here = find-push (live_next_number b) (map (closing tag) b.chunks) (first_chunk b tag entry)
            ∙ (λ i. option_else (find-above (live_next_number b) (map (closing tag) b.chunks) (numbers-below tag (live_next_number b) b.chunks own.below) i) (cond (eq_same (live_next_number b) i) (Some (first_chunk b tag entry)) None));
        opened = (bytes_eq-Decides tag tag).1 refl;
        entries = refl;
        from = refl;
      }
      by (Some c) e = record {
        chunk = with_entry entry c;
        front = c.entries;
        here = find-map c.number (joining c.number entry) (joining-number c.number entry) b.chunks
            ∙ ap (option_map (joining c.number entry)) (found-at (may_take b tag entry) b.chunks c own.in_order e)
            ∙ ap (λ t. Some (cond t (with_entry entry c) c)) (eq_same c.number);
        opened = (and_parts (is_open_of tag c) (nat_le (size_of c.entries + length entry) b.setting.limits.chunk) (found-passes (may_take b tag entry) b.chunks c e)).0;
        entries = refl;
        from = refl;
      }

  -- the place is below the next number
  pub place-below : place.number < live_next_number (live_adds b tag entry)
  unfolding live_adds
  place-below = by (find (may_take b tag entry) b.chunks) refl
    where
      by : (o : Option Chunk) → find (may_take b tag entry) b.chunks ≡ o
          → (live_place b o).number < live_next_number (live_adds_to b tag entry o)
      by None e = omega arith
      by (Some c) e = found-all (λ d. d.number < live_next_number b) (may_take b tag entry) b.chunks c e own.below

-- ---- the runs

-- a tag has one open chunk
open-one : (tag : List ℕ) (p r : Chunk → Bool) (chunks : List Chunk) (c d : Chunk)
    → AreInOrder chunks → find p chunks ≡ Some c → is_open_of tag c ≡ true
    → find r chunks ≡ Some d → is_open_of tag d ≡ true → c ≡ d
open-one tag p r [] c d h e opened f also = absurd (none_some e)
open-one tag p r (x ∷ chunks) c d h e opened f also = by (p x) (r x) e f (open-one tag p r chunks c d h.1)
  where
    opposed : (y z : Chunk) → IsBefore y z → is_open_of tag y ≡ true → is_open_of tag z ≡ true → ⊥
    opposed y z before one two =
        let first = and_parts (is_open y.stage) (bytes_eq y.tag tag) one in
        let second = and_parts (is_open z.stage) (bytes_eq z.tag tag) two in
        true_false (is_open y.stage) first.0 (before.shut ((bytes_eq-Decides y.tag z.tag).1 ((bytes_eq-Decides y.tag tag).0 first.1 ∙ sym ((bytes_eq-Decides z.tag tag).0 second.1))))

    by : (s t : Bool) → cond s (Some x) (find p chunks) ≡ Some c
        → cond t (Some x) (find r chunks) ≡ Some d
        → (find p chunks ≡ Some c → is_open_of tag c ≡ true → find r chunks ≡ Some d
        → is_open_of tag d ≡ true → c ≡ d) → c ≡ d
    by true true g k rest = sym (same_Some _ _ g) ∙ same_Some _ _ k
    by true false g k rest = absurd (opposed c d (subst (λ y. IsBefore y d) (same_Some _ _ g) (found-all (IsBefore x) r chunks d k h.0)) opened also)
    by false true g k rest = absurd (opposed d c (subst (λ y. IsBefore y c) (same_Some _ _ k) (found-all (IsBefore x) p chunks c g h.0)) also opened)
    by false false g k rest = rest g opened k also

-- a run that follows another: it goes on with it in the same chunk, or its chunk is a later one
abbrev Follows : (number from : ℕ) → Span → Type 0
Follows number from s = ((s.number ≡ number) × (s.from ≡ from + 1)) ⊎ (number < s.number)

next-place : (b : LiveBuffer) (tag entry then' : List ℕ) (own : IsSorted b)
    → Follows (place b tag entry own).number (place b tag entry own).from
    (place (live_adds b tag entry) tag then' (adds-sorted b tag entry own))
next-place b tag entry then' own = by (find (may_take c tag then') c.chunks) refl
  where
    c : LiveBuffer
    c = live_adds b tag entry

    is : Stands c tag entry (place b tag entry own)
    is = adds-stands b tag entry own

    by : (o : Option Chunk) → find (may_take c tag then') c.chunks ≡ o
        → Follows (place b tag entry own).number (place b tag entry own).from (live_place c o)
    by None e = inr (place-below b tag entry own)
    by (Some d) e =
        let one = (and_parts (is_open_of tag d) (nat_le (size_of d.entries + length then') c.setting.limits.chunk) (found-passes (may_take c tag then') c.chunks d e)).0 in
        let same : d ≡ is.chunk = open-one tag (may_take c tag then') (is_at (place b tag entry own).number) c.chunks d is.chunk (adds-sorted b tag entry own).in_order e one is.here is.opened in
        inl (
          ap (λ x. x.number) same ∙ found-number (place b tag entry own).number c.chunks is.chunk is.here,
          ap (λ x. length x.entries) same ∙ ap length is.entries ∙ length-more is.front (entry ∷ []) ∙ ap (λ n. n + 1) is.from,
        )

-- numbers rise from run to run
abbrev pub Rising : List Span → Type 0
Rising [] = Unit {0}
Rising (s ∷ runs) = AllByRecursion (λ t. s.number < t.number) runs × Rising runs

-- what is said of runs
pub record Ran (chunks : List Chunk) (tag : List ℕ) (runs : List Span) (own : List (List ℕ)) : Type 0 where
  pub held : AreHeld chunks tag runs own
  pub cut : AreCutBy runs own
  pub rising : Rising runs

-- where they begin
abbrev Begins : (number from : ℕ) → List Span → Type 0
Begins number from [] = Unit {0}
Begins number from (s ∷ runs) = Follows number from s

drop-front : (front more : List (List ℕ)) (entry : List ℕ)
    → drop (length front) ((front ++ entry ∷ []) ++ more) ≡ entry ∷ more
drop-front [] more entry = refl
drop-front (x ∷ front) more entry = drop-front front more entry

drop-more : (front more : List (List ℕ)) (entry : List ℕ)
    → drop (suc (length front)) ((front ++ entry ∷ []) ++ more) ≡ more
drop-more [] more entry = refl
drop-more (x ∷ front) more entry = drop-more front more entry

module _ (chunks : List Chunk) (tag entry : List ℕ) (es : List (List ℕ)) (n f : ℕ) (d : Chunk)
    (front : List (List ℕ)) (tagged : d.tag ≡ tag) (entries : d.entries ≡ front ++ entry ∷ [])
    (from : length front ≡ f) (g : Grown chunks n d) where
  whole : g.chunk.entries ≡ (front ++ entry ∷ []) ++ g.more
  whole = g.entries ∙ ap (λ xs. xs ++ g.more) entries

  behind : drop f g.chunk.entries ≡ entry ∷ g.more
  behind = (λ i. drop (sym from i) (whole i)) ∙ drop-front front g.more entry

  behind-more : drop (f + 1) g.chunk.entries ≡ g.more
  behind-more = (λ i. drop (suc-from i) (whole i)) ∙ drop-more front g.more entry
    where
      suc-from : f + 1 ≡ suc (length front)
      suc-from = omega (arith, from)

  whole-length : length g.chunk.entries ≡ f + 1 + length g.more
  whole-length = omega (arith, ap length whole, length-more (front ++ entry ∷ []) g.more, length-more front (entry ∷ []), from)

  -- a run of one entry and so many of what follows
  run-held : (k m : ℕ) → m ≡ suc k → f + 1 + k ≤ length g.chunk.entries → take k g.more ≡ take k es
      → IsHeld chunks tag (record { number = n; from = f; count = m }) (entry ∷ es)
  run-held k m is fits same = record {
    chunk = g.chunk;
    here = g.here;
    tagged = g.tagged ∙ tagged;
    within = omega (arith, is, fits);
    run = (λ i. take (is i) (behind i)) ∙ ap (λ xs. entry ∷ xs) same ∙ (λ i. take (sym is i) (entry ∷ es));
  }

  one-held : IsHeld chunks tag (record { number = n; from = f; count = 1 }) (entry ∷ es)
  one-held = run-held 0 1 refl (omega (arith, whole-length)) refl

  joined : (h : Span) (runs : List Span) → Ran chunks tag (h ∷ runs) es → h.number ≡ n
      → h.from ≡ f + 1
      → Ran chunks tag (record { number = n; from = f; count = 1 + h.count } ∷ runs) (entry ∷ es)
  joined h runs ran number at =
      let held = ran.held.0 in
      let same : held.chunk ≡ g.chunk = same_Some _ _ (sym held.here ∙ (λ i. find (is_at (number i)) chunks) ∙ g.here) in
      let is : 1 + h.count ≡ suc h.count = omega arith in
      record {
        held = (
          run-held h.count (1 + h.count) is (omega (arith, held.within, at, ap (λ (x : Chunk). length x.entries) same))
              (ap (take h.count) (sym behind-more) ∙ (λ i. take h.count (drop (sym at i) (sym same i).entries)) ∙ held.run),
          subst (λ m. AreHeld chunks tag runs (drop m (entry ∷ es))) (sym is) ran.held.1,
        );
        cut = (
          omega arith,
          omega (arith, ran.cut.1),
          subst (λ m. AreCutBy runs (drop m (entry ∷ es))) (sym is) ran.cut.2,
        );
        rising = (subst (λ k. AllByRecursion (λ t. k < t.number) runs) number ran.rising.0, ran.rising.1);
      }

  all-above : (h : ℕ) (runs : List Span) → n < h → AllByRecursion (λ t. h < t.number) runs
      → AllByRecursion (λ t. n < t.number) runs
  all-above h [] lt all = tt
  all-above h (t ∷ runs) lt all = (omega (arith, lt, all.0), all-above h runs lt all.1)

  pub one-more : (runs : List Span) → Ran chunks tag runs es → Begins n f runs
      → Ran chunks tag (before_runs (record { number = n; from = f; count = 1 }) runs) (entry ∷ es)
  one-more [] ran begins = record {
    held = (one-held, tt);
    cut = (omega arith, omega arith, ran.cut);
    rising = (tt, tt);
  }
  one-more (h ∷ runs) ran begins = by (n == h.number) refl begins
    where
      by : (t : Bool) → (n == h.number) ≡ t → Follows n f h
          → Ran chunks tag
          (cond t (record { number = n; from = f; count = 1 + h.count } ∷ runs)
          (record { number = n; from = f; count = 1 } ∷ h ∷ runs))
          (entry ∷ es)
      by true e (inl goes) = joined h runs ran goes.0 goes.1
      by true e (inr lt) = absurd (omega (arith, lt, eqb-true n h.number e))
      by false e (inl goes) = absurd (true_false (n == h.number) (ap (λ k. n == k) goes.0 ∙ eq_same n) e)
      by false e (inr lt) = record {
        held = (one-held, ran.held);
        cut = (omega arith, omega arith, ran.cut);
        rising = ((lt, all-above h.number runs lt ran.rising.0), ran.rising);
      }

-- ---- all entries

grown-again : (bs cs : List Chunk) (n : ℕ) (d : Chunk) (g : Grown bs n d) → Grown cs n g.chunk
    → Grown cs n d
grown-again bs cs n d g h = record {
  chunk = h.chunk;
  more = g.more ++ h.more;
  here = h.here;
  tagged = h.tagged ∙ g.tagged;
  entries = h.entries ∙ ap (λ xs. xs ++ h.more) g.entries ∙ append-assoc d.entries g.more h.more;
}
  where
    append-assoc : (xs ys zs : List (List ℕ)) → (xs ++ ys) ++ zs ≡ xs ++ (ys ++ zs)
    append-assoc [] ys zs = refl
    append-assoc (x ∷ xs) ys zs = ap (λ rest. x ∷ rest) (append-assoc xs ys zs)

adds_all-grows : (es : List (List ℕ)) (b : LiveBuffer) (tag : List ℕ) → IsSorted b → (n : ℕ)
    (d : Chunk) → find (is_at n) b.chunks ≡ Some d → Grown (live_adds_all b tag es).chunks n d
adds_all-grows [] b tag own n d e =
    record { chunk = d; more = []; here = e; tagged = refl; entries = sym (append-nil d.entries) }
adds_all-grows (entry ∷ es) b tag own n d e =
    let g = adds-grows b tag entry own n d e in
    grown-again (live_adds b tag entry).chunks (live_adds_all b tag (entry ∷ es)).chunks n d g
    (adds_all-grows es (live_adds b tag entry) tag (adds-sorted b tag entry own) n g.chunk g.here)

adds_all-gone : (es : List (List ℕ)) (b : LiveBuffer) (tag : List ℕ) → IsSorted b → (n : ℕ)
    → find (is_at n) b.chunks ≡ None → n < live_next_number b
    → (find (is_at n) (live_adds_all b tag es).chunks ≡ None)
    × (n < live_next_number (live_adds_all b tag es))
adds_all-gone [] b tag own n e lt = (e, lt)
adds_all-gone (entry ∷ es) b tag own n e lt =
    let still = adds-gone b tag entry own n e lt in
    adds_all-gone es (live_adds b tag entry) tag (adds-sorted b tag entry own) n still.0 still.1

-- runs begin with the place of the first entry
runs-begin : (b : LiveBuffer) (tag entry : List ℕ) (es : List (List ℕ)) (own : IsSorted b)
    → Begins (place b tag entry own).number (place b tag entry own).from
    (live_runs (live_adds b tag entry) tag es)
runs-begin b tag entry [] own = tt
runs-begin b tag entry (e ∷ es) own =
    headed (place c tag e more) (live_runs (live_adds c tag e) tag es) (next-place b tag entry e own)
  where
    c : LiveBuffer
    c = live_adds b tag entry

    more : IsSorted c
    more = adds-sorted b tag entry own

    headed : (p : Span) (runs : List Span)
        → Follows (place b tag entry own).number (place b tag entry own).from p
        → Begins (place b tag entry own).number (place b tag entry own).from (before_runs p runs)
    headed p [] h = h
    headed p (s ∷ runs) h = by (p.number == s.number)
      where
        by : (t : Bool)
            → Begins (place b tag entry own).number (place b tag entry own).from
            (cond t (record { number = p.number; from = p.from; count = p.count + s.count } ∷ runs)
            (p ∷ s ∷ runs))
        by true = h
        by false = h

runs-ran : (es : List (List ℕ)) (b : LiveBuffer) (tag : List ℕ) → IsSorted b
    → Ran (live_adds_all b tag es).chunks tag (live_runs b tag es) es
runs-ran [] b tag own = record { held = tt; cut = refl; rising = tt }
runs-ran (entry ∷ es) b tag own =
    let more = adds-sorted b tag entry own in
    let is = adds-stands b tag entry own in
    let grown = adds_all-grows es (live_adds b tag entry) tag more (place b tag entry own).number is.chunk is.here in
    subst (λ p. Ran (live_adds_all b tag (entry ∷ es)).chunks tag (before_runs p (live_runs (live_adds b tag entry) tag es)) (entry ∷ es))
    (sym (counted (find (may_take b tag entry) b.chunks)))
    (one-more (live_adds_all b tag (entry ∷ es)).chunks tag entry es (place b tag entry own).number (place b tag entry own).from is.chunk is.front
    (tag_is is.chunk is.opened) is.entries is.from grown (live_runs (live_adds b tag entry) tag es) (runs-ran es (live_adds b tag entry) tag more) (runs-begin b tag entry es own))
  where
    counted : (o : Option Chunk)
        → live_place b o ≡ record
        { number = (live_place b o).number; from = (live_place b o).from; count = 1 }
    counted None = refl
    counted (Some c) = refl

    tag_is : (c : Chunk) → is_open_of tag c ≡ true → c.tag ≡ tag
    tag_is c e = (bytes_eq-Decides c.tag tag).0 (and_parts (is_open c.stage) (bytes_eq c.tag tag) e).1

-- ---- numbers rise

above-at : (n : ℕ) (runs : List Span) (j m : ℕ) → AllByRecursion (λ t. n < t.number) runs
    → slice_get (map (λ s. s.number) runs) j ≡ Some m → n < m
above-at n [] j m all e = absurd cc
above-at n (s ∷ runs) zero m all e = subst (λ k. n < k) (same_Some _ _ e) all.0
above-at n (s ∷ runs) (suc j) m all e = above-at n runs j m all.1 e

pub rising-are : (runs : List Span) → Rising runs → AreRising (map (λ s. s.number) runs)
rising-are [] all i j m n lt e f = absurd cc
rising-are (s ∷ runs) all zero zero m n lt e f = absurd (omega (arith, lt))
rising-are (s ∷ runs) all zero (suc j) m n lt e f = subst (λ k. k < n) (same_Some _ _ e) (above-at s.number runs j n all.0 f)
rising-are (s ∷ runs) all (suc i) zero m n lt e f = absurd (omega (arith, lt))
rising-are (s ∷ runs) all (suc i) (suc j) m n lt e f = rising-are runs all.1 i j m n (omega (arith, lt)) e f

-- ---- a request is entered

-- its runs cut its entries, their numbers rise, and the chunks hold them
pub spans-held : (b : LiveBuffer) (r : Request) (now : ℕ) → IsSound b
    → AreHeld (live_enters b r now).chunks r.tag (live_spans b r now) r.entries
spans-held b r now own = (runs-ran r.entries (live_looks b now) r.tag (sorted b now own)).held

pub spans-cut : (b : LiveBuffer) (r : Request) (now : ℕ) → IsSound b
    → AreCutBy (live_spans b r now) r.entries
spans-cut b r now own = (runs-ran r.entries (live_looks b now) r.tag (sorted b now own)).cut

pub spans-rise : (b : LiveBuffer) (r : Request) (now : ℕ) → IsSound b
    → AreRising (map (λ s. s.number) (live_spans b r now))
spans-rise b r now own = rising-are (live_spans b r now) (runs-ran r.entries (live_looks b now) r.tag (sorted b now own)).rising

take-front : (m n : ℕ) (xs more : List (List ℕ)) → n + m ≤ length xs
    → take m (drop n (xs ++ more)) ≡ take m (drop n xs)
take-front zero n xs more h = refl
take-front (suc m) n [] more h = absurd (omega (arith, h))
take-front (suc m) zero (x ∷ xs) more h = ap (λ ys. x ∷ ys) (take-front m zero xs more (omega (arith, h)))
take-front (suc m) (suc n) (x ∷ xs) more h = take-front (suc m) n xs more (omega (arith, h))

-- a run stands where its chunk grew
pub held-grown : (chunks more : List Chunk) (tag : List ℕ) (s : Span) (own : List (List ℕ))
    (h : IsHeld chunks tag s own) → Grown more s.number h.chunk → IsHeld more tag s own
held-grown chunks more tag s own h g = record {
  chunk = g.chunk;
  here = g.here;
  tagged = g.tagged ∙ h.tagged;
  within = omega (arith, h.within, ap length g.entries, length-more h.chunk.entries g.more);
  run = (λ i. run_in (g.entries i) s) ∙ take-front s.count s.from h.chunk.entries g.more h.within ∙ h.run;
}

pub enters-held : (b : LiveBuffer) (r : Request) (now : ℕ) (tag : List ℕ) (s : Span)
    (own : List (List ℕ)) → IsSound b → IsHeld b.chunks tag s own
    → IsHeld (live_enters b r now).chunks tag s own
enters-held b r now tag s own sound h =
    held-grown b.chunks (live_enters b r now).chunks tag s own h
    (adds_all-grows r.entries (live_looks b now) r.tag (sorted b now sound) s.number h.chunk h.here)

pub enters-gone : (b : LiveBuffer) (r : Request) (now n : ℕ) → IsSound b → IsGone b n
    → IsGone (live_enters b r now) n
enters-gone b r now n sound h =
    let still = adds_all-gone r.entries (live_looks b now) r.tag (sorted b now sound) n h.none h.given in
    record { none = still.0; given = still.1 }

-- ---- the other events

-- a change of where a chunk stands, and of what was lost
pub record Restages (f : Chunk → Chunk) : Type 0 where
  pub number : (c : Chunk) → (f c).number ≡ c.number
  pub tag : (c : Chunk) → (f c).tag ≡ c.tag
  pub entries : (c : Chunk) → (f c).entries ≡ c.entries

restages-if : (test : Chunk → Bool) (f : Chunk → Chunk) → Restages f
    → Restages (λ c. cond (test c) (f c) c)
restages-if test f h = record {
  number = λ c. by-number c (test c);
  tag = λ c. by-tag c (test c);
  entries = λ c. by-entries c (test c);
}
  where
    by-number : (c : Chunk) (t : Bool) → (cond t (f c) c).number ≡ c.number
    by-number c true = h.number c
    by-number c false = refl

    by-tag : (c : Chunk) (t : Bool) → (cond t (f c) c).tag ≡ c.tag
    by-tag c true = h.tag c
    by-tag c false = refl

    by-entries : (c : Chunk) (t : Bool) → (cond t (f c) c).entries ≡ c.entries
    by-entries c true = h.entries c
    by-entries c false = refl

restaged : (stage : ChunkState) → Restages (staged stage)
restaged stage = record { number = λ c. refl; tag = λ c. refl; entries = λ c. refl }

map-held : (f : Chunk → Chunk) → Restages f → (chunks : List Chunk) (tag : List ℕ) (s : Span)
    (own : List (List ℕ)) → IsHeld chunks tag s own → IsHeld (map f chunks) tag s own
map-held f same chunks tag s own h = record {
  chunk = f h.chunk;
  here = find-map s.number f same.number chunks ∙ ap (option_map f) h.here;
  tagged = same.tag h.chunk ∙ h.tagged;
  within = omega (arith, h.within, ap length (same.entries h.chunk));
  run = ap (λ es. run_in es s) (same.entries h.chunk) ∙ h.run;
}

map-none : (f : Chunk → Chunk) → Restages f → (chunks : List Chunk) (n : ℕ)
    → find (is_at n) chunks ≡ None → find (is_at n) (map f chunks) ≡ None
map-none f same chunks n e = find-map n f same.number chunks ∙ ap (option_map f) e

-- what holds of a buffer once its chunks stand elsewhere
pub record Stays (b c : LiveBuffer) : Type 0 where
  pub held : (tag : List ℕ) (s : Span) (own : List (List ℕ)) → IsHeld b.chunks tag s own
      → IsHeld c.chunks tag s own
  pub gone : (n : ℕ) → IsGone b n → IsGone c n

map-stays : (b c : LiveBuffer) (f : Chunk → Chunk) → Restages f → c.chunks ≡ map f b.chunks
    → live_next_number c ≡ live_next_number b → Stays b c
map-stays b c f same e next = record {
  held = λ tag s own h. subst (λ cs. IsHeld cs tag s own) (sym e) (map-held f same b.chunks tag s own h);
  gone = λ n h. record {
    none = ap (find (is_at n)) e ∙ map-none f same b.chunks n h.none;
    given = omega (arith, h.given, next);
  };
}

pub flushes-stays : (b : LiveBuffer) (now : ℕ) (kind : FlushKind)
    → Stays b (live_flushes b now kind)
flushes-stays b now kind =
    map-stays b (live_flushes b now kind) (λ c. cond (live_closes (live_looks b now) kind c) (staged Closed c) c)
    (restages-if (live_closes (live_looks b now) kind) (staged Closed) (restaged Closed)) refl refl

pub takes-stays : (b : LiveBuffer) (worker : ℕ) (wanted : Wanted) (now : ℕ)
    → Stays b (live_takes b worker wanted now)
takes-stays b worker wanted now = by (live_given_for (live_looks b now) wanted)
  where
    by : (o : Option Chunk) → Stays b (live_carries_more worker o (live_looks b now))
    by None = record { held = λ tag s own h. h; gone = λ n h. record { none = h.none; given = h.given } }
    by (Some c) =
        map-stays b (live_carries_more worker (Some c) (live_looks b now)) (λ d. cond (is_at c.number d) (staged (Taken worker) d) d)
        (restages-if (is_at c.number) (staged (Taken worker)) (restaged (Taken worker))) refl refl

pub frees-stays : (b : LiveBuffer) (n : ℕ) (loss : Option ℕ) → Stays b (live_frees b n loss)
frees-stays b n None =
    map-stays b (live_frees b n None) (λ d. cond (is_at n d) (staged Closed d) d)
    (restages-if (is_at n) (staged Closed) (restaged Closed)) refl refl
frees-stays b n (Some now) =
    map-stays b (live_frees b n (Some now)) (λ d. cond (is_at n d) (lost d) d)
    (restages-if (is_at n) lost (record { number = λ c. refl; tag = λ c. refl; entries = λ c. refl })) refl refl
  where
    lost : Chunk → Chunk
    lost c = record c { stage = Closed; losses = Some (tally_more c.losses (max b.moment now)) }

find-other : (k n : ℕ) → n ≢ k → (chunks : List Chunk)
    → find (is_at n) (filter (λ c. not (is_at k c)) chunks) ≡ find (is_at n) chunks
find-other k n differ [] = refl
find-other k n differ (c ∷ chunks) = by (c.number == k) refl (find-other k n differ chunks)
  where
    rest : List Chunk
    rest = filter (λ d. not (is_at k d)) chunks

    by : (t : Bool) → (c.number == k) ≡ t → find (is_at n) rest ≡ find (is_at n) chunks
        → find (is_at n) (cond (not t) (c ∷ rest) rest)
        ≡ cond (is_at n c) (Some c) (find (is_at n) chunks)
    by true e same =
        let apart : (c.number == n) ≡ false = not_from (c.number == n) (λ f. absurd (differ (sym (eqb-true c.number n f) ∙ eqb-true c.number k e))) in
        same ∙ ap (λ t. cond t (Some c) (find (is_at n) chunks)) (sym apart)
    by false e same = ap (λ o. cond (is_at n c) (Some c) o) same

find-left : (k n : ℕ) (chunks : List Chunk) → find (is_at n) chunks ≡ None
    → find (is_at n) (filter (λ c. not (is_at k c)) chunks) ≡ None
find-left k n [] e = refl
find-left k n (c ∷ chunks) e = by (is_at n c) refl (not (is_at k c)) (find-left k n chunks)
  where
    rest : List Chunk
    rest = filter (λ d. not (is_at k d)) chunks

    by : (t : Bool) → is_at n c ≡ t → (u : Bool)
        → (find (is_at n) chunks ≡ None → find (is_at n) rest ≡ None)
        → find (is_at n) (cond u (c ∷ rest) rest) ≡ None
    by true f u more = absurd (none_some (sym (ap (λ t. cond t (Some c) (find (is_at n) chunks)) (sym f) ∙ e)))
    by false f true more = ap (λ t. cond t (Some c) (find (is_at n) rest)) f ∙ more (ap (λ t. cond t (Some c) (find (is_at n) chunks)) (sym f) ∙ e)
    by false f false more = more (ap (λ t. cond t (Some c) (find (is_at n) chunks)) (sym f) ∙ e)

find-without : (k : ℕ) (chunks : List Chunk)
    → find (is_at k) (filter (λ c. not (is_at k c)) chunks) ≡ None
find-without k [] = refl
find-without k (c ∷ chunks) = by (is_at k c) refl (find-without k chunks)
  where
    rest : List Chunk
    rest = filter (λ d. not (is_at k d)) chunks

    by : (t : Bool) → is_at k c ≡ t → find (is_at k) rest ≡ None
        → find (is_at k) (cond (not t) (c ∷ rest) rest) ≡ None
    by true e none = none
    by false e none = ap (λ t. cond t (Some c) (find (is_at k) rest)) e ∙ none

pub settles-held : (b : LiveBuffer) (n : ℕ) (tag : List ℕ) (s : Span) (own : List (List ℕ))
    → s.number ≢ n → IsHeld b.chunks tag s own → IsHeld (live_settles b n).chunks tag s own
settles-held b n tag s own differ h = record {
  chunk = h.chunk;
  here = find-other n s.number differ b.chunks ∙ h.here;
  tagged = h.tagged;
  within = h.within;
  run = h.run;
}

pub settles-gone : (b : LiveBuffer) (k n : ℕ) → IsGone b n → IsGone (live_settles b k) n
settles-gone b k n h = record { none = find-left k n b.chunks h.none; given = h.given }

-- a chunk that is here has a number that was given
found-below : (b : LiveBuffer) (n : ℕ) (c : Chunk) → IsSound b → find (is_at n) b.chunks ≡ Some c
    → n < live_next_number b
found-below b n c sound e =
    omega (arith, found-all (λ d. d.number < live_next_number b) (is_at n) b.chunks c e sound.below, found-number n b.chunks c e)

pub carried-found : (b : LiveBuffer) (n : ℕ) (load : CarriedChunk) → live_carried b n ≡ Some load
    → AreInOrder b.chunks
    → (c : Chunk) × (find (is_at n) b.chunks ≡ Some c) × (live_carried_chunk b c ≡ load)
carried-found b n load e order = by (find (λ c. is_at n c && is_taken c.stage) b.chunks) refl e
  where
    by : (o : Option Chunk) → find (λ c. is_at n c && is_taken c.stage) b.chunks ≡ o
        → option_map (live_carried_chunk b) o ≡ Some load
        → (c : Chunk) × (find (is_at n) b.chunks ≡ Some c) × (live_carried_chunk b c ≡ load)
    by None f g = absurd cc
    by (Some c) f g =
        let at : c.number ≡ n = eqb-true c.number n (and_parts (is_at n c) (is_taken c.stage) (found-passes (λ d. is_at n d && is_taken d.stage) b.chunks c f)).0 in
        (c, subst (λ k. find (is_at k) b.chunks ≡ Some c) at (found-at (λ d. is_at n d && is_taken d.stage) b.chunks c order f), same_Some _ _ g)

-- the chunk of what is settled is gone
pub settled-gone : (b : LiveBuffer) (load : CarriedChunk) → IsSound b → IsCarried b load
    → IsGone (live_settles b load.number) load.number
settled-gone b load sound e =
    let c = carried-found b load.number load e sound.in_order in
    record { none = find-without load.number b.chunks; given = found-below b load.number c.0 sound c.1 }

-- a run in a chunk that a worker has is a run in what the worker has
pub carried-run : (b : LiveBuffer) (load : CarriedChunk) (tag : List ℕ) (s : Span)
    (own : List (List ℕ)) → IsSound b → IsCarried b load → s.number ≡ load.number
    → IsHeld b.chunks tag s own
    → (load.tag ≡ tag) × (run_in load.entries s ≡ take s.count own)
carried-run b load tag s own sound e at h =
    let c = carried-found b load.number load e sound.in_order in
    let same : h.chunk ≡ c.0 = same_Some _ _ (sym h.here ∙ (λ i. find (is_at (at i)) b.chunks) ∙ c.1) in (
      sym (ap (λ l. l.tag) c.2) ∙ sym (ap (λ d. d.tag) same) ∙ h.tagged,
      ap (λ es. run_in es s) (sym (ap (λ l. l.entries) c.2) ∙ sym (ap (λ d. d.entries) same)) ∙ h.run,
    )
