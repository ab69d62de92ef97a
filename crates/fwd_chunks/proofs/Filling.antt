-- Entries that are added one by one make the chunks that the code cuts.
use Rattle.std.proofs.Common.{◌≡◌, ℕ, suc, ◌+◌, ◌<◌, ◌≤◌, Bool, true, false, cond, List, [], ◌∷◌, ◌++◌, length, take, drop, Some, None, refl, sym, ap, ◌∙◌, arith, append_assoc, length-append}
use Rattle.std.specs.Prelude.{map, find, ◌&&◌, ◌==◌, nat_le, option_map}
use Rattle.std.specs.List.{AllByRecursion}
use Rattle.std.specs.Str.{bytes_eq}
use Rattle.std.proofs.lemmas.Bool.{and_parts, leb-true, leb-false, le-leb, lt-leb}
use Rattle.std.proofs.lemmas.List.{append-nil}
use Rattle.std.proofs.lemmas.Slice.Eq.{bytes_eq-Decides}
use Rattle.fwd_chunks.specs.declared.chunk.Chunk.{Chunk}
use Rattle.fwd_chunks.specs.declared.span.Span.{Span}
use Rattle.fwd_chunks.specs.declared.chunk_state.ChunkState.TheVariants.{Closed}
use Rattle.fwd_chunks.specs.Cells.{size_of}
use Rattle.fwd_chunks.specs.History.{before_runs}
use Rattle.fwd_chunks.specs.Live.{LiveBuffer, is_open, staged, changed, is_at, is_open_of, may_take, live_next_number, live_adds_to, live_adds, live_adds_all, live_place, live_runs}
use Rattle.fwd_chunks.specs.Soundness.{IsBefore, AreInOrder}
use Rattle.fwd_chunks.specs.Filling.{fitting, open_chunk, fresh_from, fresh_of, stage_before, extra, span_of}
use Rattle.fwd_chunks.proofs.Numbers.{true_false, not_from, eq_same, find-map}
use Rattle.fwd_chunks.proofs.CellLemmas.{size_of-push}
use Rattle.fwd_chunks.proofs.Sounding.{order-map}
use Rattle.std.proofs.lemmas.Option.{same_Some}
use Rattle.std.proofs.lemmas.Bool.{eqb-true}

-- ---- behind chunks that the tag leaves alone

-- no entry of the tag goes to the chunk, and its number is lower
pub record IsPassed (tag : List ℕ) (n : ℕ) (c : Chunk) : Type 0 where
  pub shut : is_open_of tag c ≡ false
  pub lower : c.number < n

find-passed : (tag : List ℕ) (n : ℕ) (q : Chunk → Bool) (xs ys : List Chunk)
    → AllByRecursion (IsPassed tag n) xs
    → find (λ c. is_open_of tag c && q c) (xs ++ ys) ≡ find (λ c. is_open_of tag c && q c) ys
find-passed tag n q [] ys all = refl
find-passed tag n q (x ∷ xs) ys all = ap (λ b. cond (b && q x) (Some x) (find (λ c. is_open_of tag c && q c) (xs ++ ys))) all.0.shut ∙ find-passed tag n q xs ys all.1

changed-passed : (tag : List ℕ) (n : ℕ) (f : Chunk → Chunk) (xs ys : List Chunk)
    → AllByRecursion (IsPassed tag n) xs
    → changed (is_at n) f (xs ++ ys) ≡ xs ++ changed (is_at n) f ys
changed-passed tag n f [] ys all = refl
changed-passed tag n f (x ∷ xs) ys all =
    let apart : (x.number == n) ≡ false = not_from (x.number == n) (λ e. absurd (omega (arith, all.0.lower, eqb-true x.number n e))) in
    λ i. cond (apart i) (f x) x ∷ changed-passed tag n f xs ys all.1 i

closed-passed : (tag : List ℕ) (n : ℕ) (f : Chunk → Chunk) (xs ys : List Chunk)
    → AllByRecursion (IsPassed tag n) xs
    → changed (is_open_of tag) f (xs ++ ys) ≡ xs ++ changed (is_open_of tag) f ys
closed-passed tag n f [] ys all = refl
closed-passed tag n f (x ∷ xs) ys all = λ i. cond (all.0.shut i) (f x) x ∷ closed-passed tag n f xs ys all.1 i

passed-more : (tag : List ℕ) (n : ℕ) (xs : List Chunk) (c : Chunk)
    → AllByRecursion (IsPassed tag n) xs → IsPassed tag (n + 1) c
    → AllByRecursion (IsPassed tag (n + 1)) (xs ++ c ∷ [])
passed-more tag n [] c all last = (last, tt)
passed-more tag n (x ∷ xs) c all last = (record { shut = all.0.shut; lower = omega (arith, all.0.lower) }, passed-more tag n xs c all.1 last)

open_here : (tag : List ℕ) (since n : ℕ) (entries : List (List ℕ))
    → is_open_of tag (open_chunk tag since n entries) ≡ true
open_here tag since n entries = (bytes_eq-Decides tag tag).1 refl

-- ---- runs

pub runs-merge : (n from other i j : ℕ) (runs : List Span)
    → before_runs (record { number = n; from = from; count = i })
    (before_runs (record { number = n; from = other; count = j }) runs) ≡ before_runs
    (record { number = n; from = from; count = i + j }) runs
runs-merge n from other i j [] = ap (λ t. cond t (record { number = n; from = from; count = i + j } ∷ []) (record { number = n; from = from; count = i } ∷ record { number = n; from = other; count = j } ∷ [])) (eq_same n)
runs-merge n from other i j (s ∷ runs) = by (n == s.number)
  where
    by : (t : Bool)
        → before_runs (record { number = n; from = from; count = i })
        (cond t (record { number = n; from = other; count = j + s.count } ∷ runs)
        (record { number = n; from = other; count = j } ∷ s ∷ runs))
        ≡ cond t (record { number = n; from = from; count = (i + j) + s.count } ∷ runs)
        (record { number = n; from = from; count = i + j } ∷ s ∷ runs)
    by true =
        let sum : i + (j + s.count) ≡ (i + j) + s.count = omega arith in
        ap (λ t. cond t (record { number = n; from = from; count = i + (j + s.count) } ∷ runs) (record { number = n; from = from; count = i } ∷ record { number = n; from = other; count = j + s.count } ∷ runs)) (eq_same n)
        ∙ (λ k. record { number = n; from = from; count = sum k } ∷ runs)
    by false = ap (λ t. cond t (record { number = n; from = from; count = i + j } ∷ s ∷ runs) (record { number = n; from = from; count = i } ∷ record { number = n; from = other; count = j } ∷ s ∷ runs)) (eq_same n)

-- the runs of fresh chunks have other numbers
pub runs-fresh : (limit : ℕ) (tag : List ℕ) (since n : ℕ) (current entries : List (List ℕ))
    (s : Span) → s.number < n
    → before_runs s (map span_of (fresh_from limit tag since n current entries)) ≡ s ∷ map span_of
    (fresh_from limit tag since n current entries)
runs-fresh limit tag since n current [] s lt = ap (λ t. cond t (record { number = s.number; from = s.from; count = s.count + length current } ∷ []) (s ∷ record { number = n; from = 0; count = length current } ∷ [])) (not_from (s.number == n) (λ e. absurd (omega (arith, lt, eqb-true s.number n e))))
runs-fresh limit tag since n current (e ∷ entries) s lt = by (runs-fresh limit tag since n (current ++ e ∷ []) entries s lt) (nat_le (size_of current + length e) limit)
  where
    by : before_runs s
        (map span_of (fresh_from limit tag since n (current ++ e ∷ []) entries)) ≡ s ∷ map span_of
        (fresh_from limit tag since n (current ++ e ∷ []) entries)
        → (t : Bool)
        → before_runs s
        (map span_of (cond t (fresh_from limit tag since n (current ++ e ∷ []) entries)
        (staged Closed (open_chunk tag since n current)
        ∷ fresh_from limit tag since (n + 1) (e ∷ []) entries)))
        ≡ s ∷ map span_of
        (cond t (fresh_from limit tag since n (current ++ e ∷ []) entries)
        (staged Closed (open_chunk tag since n current)
        ∷ fresh_from limit tag since (n + 1) (e ∷ []) entries))
    by rest true = rest
    by rest false = ap (λ t. cond t (record { number = s.number; from = s.from; count = s.count + length current } ∷ map span_of (fresh_from limit tag since (n + 1) (e ∷ []) entries))
        (s ∷ record { number = n; from = 0; count = length current } ∷ map span_of (fresh_from limit tag since (n + 1) (e ∷ []) entries))) (not_from (s.number == n) (λ f. absurd (omega (arith, lt, eqb-true s.number n f))))

-- ---- entries behind the current chunk

-- a buffer whose last chunk is the tag's open one
abbrev pub at_tail : LiveBuffer → List ℕ → List Chunk → ℕ → List (List ℕ) → ℕ
    → LiveBuffer
at_tail b tag xs n current accepted = record b { chunks = xs ++ open_chunk tag b.moment n current ∷ []; greatest = Some n; accepted = accepted }

module _ (b : LiveBuffer) (tag : List ℕ) where
  tail_found : (xs : List Chunk) (n : ℕ) (current : List (List ℕ)) (a : ℕ) (e : List ℕ)
      → AllByRecursion (IsPassed tag n) xs → (t : Bool)
      → nat_le (size_of current + length e) b.setting.limits.chunk ≡ t
      → find (may_take (at_tail b tag xs n current a) tag e)
      (xs ++ open_chunk tag b.moment n current ∷ []) ≡ cond t
      (Some (open_chunk tag b.moment n current)) None
  tail_found xs n current a e all t h =
      find-passed tag n (λ c. nat_le (size_of c.entries + length e) b.setting.limits.chunk) xs (open_chunk tag b.moment n current ∷ []) all
      ∙ (λ i. cond (open_here tag b.moment n current i && h i) (Some (open_chunk tag b.moment n current)) None)

  tail_joins : (xs : List Chunk) (n : ℕ) (current : List (List ℕ)) (a : ℕ) (e : List ℕ)
      → AllByRecursion (IsPassed tag n) xs
      → live_adds_to (at_tail b tag xs n current a) tag e
      (Some (open_chunk tag b.moment n current)) ≡ at_tail b tag xs n (current ++ e ∷ []) (a + 1)
  tail_joins xs n current a e all =
      let c = open_chunk tag b.moment n current in
      let chunks : changed (is_at n) (λ d. record d { entries = d.entries ++ e ∷ [] }) (xs ++ open_chunk tag b.moment n current ∷ []) ≡ xs ++ open_chunk tag b.moment n (current ++ e ∷ []) ∷ [] =
      changed-passed tag n (λ d. record d { entries = d.entries ++ e ∷ [] }) xs (c ∷ []) all ∙ ap (λ t. xs ++ cond t (open_chunk tag b.moment n (current ++ e ∷ [])) c ∷ []) (eq_same n) in
      λ i. record b { chunks = chunks i; greatest = Some n; accepted = a + 1 }

  tail_begins : (xs : List Chunk) (n : ℕ) (current : List (List ℕ)) (a : ℕ) (e : List ℕ)
      → AllByRecursion (IsPassed tag n) xs
      → live_adds_to (at_tail b tag xs n current a) tag e None ≡ at_tail b tag
      (xs ++ staged Closed (open_chunk tag b.moment n current) ∷ []) (n + 1) (e ∷ []) (a + 1)
  tail_begins xs n current a e all =
      let c = open_chunk tag b.moment n current in
      let chunks : changed (is_open_of tag) (staged Closed) (xs ++ open_chunk tag b.moment n current ∷ []) ≡ xs ++ staged Closed (open_chunk tag b.moment n current) ∷ [] =
      closed-passed tag n (staged Closed) xs (c ∷ []) all ∙ ap (λ t. xs ++ cond t (staged Closed c) c ∷ []) (open_here tag b.moment n current) in
      λ i. record b { chunks = chunks i ++ open_chunk tag b.moment (n + 1) (e ∷ []) ∷ []; greatest = Some (n + 1); accepted = a + 1 }

  tail-adds : (xs : List Chunk) (n : ℕ) (current : List (List ℕ)) (a : ℕ) (e : List ℕ)
      → AllByRecursion (IsPassed tag n) xs → (t : Bool)
      → nat_le (size_of current + length e) b.setting.limits.chunk ≡ t
      → live_adds (at_tail b tag xs n current a) tag e ≡ cond t
      (at_tail b tag xs n (current ++ e ∷ []) (a + 1))
      (at_tail b tag (xs ++ staged Closed (open_chunk tag b.moment n current) ∷ []) (n + 1) (e ∷ [])
      (a + 1))
  unfolding live_adds
  tail-adds xs n current a e all true h = ap (live_adds_to (at_tail b tag xs n current a) tag e) (tail_found xs n current a e all true h) ∙ tail_joins xs n current a e all
  tail-adds xs n current a e all false h = ap (live_adds_to (at_tail b tag xs n current a) tag e) (tail_found xs n current a e all false h) ∙ tail_begins xs n current a e all

  passed-closed : (xs : List Chunk) (n : ℕ) (current : List (List ℕ))
      → AllByRecursion (IsPassed tag n) xs
      → AllByRecursion (IsPassed tag (n + 1))
      (xs ++ staged Closed (open_chunk tag b.moment n current) ∷ [])
  passed-closed xs n current all = passed-more tag n xs (staged Closed (open_chunk tag b.moment n current)) all (record { shut = refl; lower = omega arith })

  -- all entries, one after the other
  pub tail-all : (entries : List (List ℕ)) (xs : List Chunk) (n : ℕ) (current : List (List ℕ))
      (a : ℕ)
      → AllByRecursion (IsPassed tag n) xs
      → live_adds_all (at_tail b tag xs n current a) tag entries
      ≡ record b {
        chunks = xs
            ++ fresh_from b.setting.limits.chunk tag b.moment n current entries;
        greatest = Some
            (n + extra b.setting.limits.chunk (size_of current) entries);
        accepted = a + length entries;
      }
  tail-all [] xs n current a all = (let none : n ≡ n + 0 = omega arith in let same : a ≡ a + 0 = omega arith in λ i. record b { chunks = xs ++ open_chunk tag b.moment n current ∷ []; greatest = Some (none i); accepted = same i })
  tail-all (e ∷ entries) xs n current a all = by (λ ys m next k. tail-all entries ys m next k) (nat_le (size_of current + length e) b.setting.limits.chunk) refl
    where
      count : (a + 1) + length entries ≡ a + suc (length entries)
      count = omega arith

      by :
          ((ys : List Chunk) (m : ℕ) (next : List (List ℕ)) (k : ℕ)
          → AllByRecursion (IsPassed tag m) ys
          → live_adds_all (at_tail b tag ys m next k) tag entries
          ≡ record b {
            chunks = ys
                ++ fresh_from b.setting.limits.chunk tag b.moment m next entries;
            greatest = Some
                (m + extra b.setting.limits.chunk
                (size_of next) entries);
            accepted = k + length entries;
          })
          → (t : Bool) → nat_le (size_of current + length e) b.setting.limits.chunk ≡ t
          → live_adds_all (live_adds (at_tail b tag xs n current a) tag e) tag entries
          ≡ record b {
            chunks = xs ++ cond t
                (fresh_from b.setting.limits.chunk tag b.moment n (current ++ e ∷ []) entries)
                (staged Closed (open_chunk tag b.moment n current)
                ∷ fresh_from b.setting.limits.chunk tag b.moment (n + 1) (e ∷ []) entries);
            greatest = Some
                (n + cond t (extra b.setting.limits.chunk (size_of current + length e) entries)
                (suc (extra b.setting.limits.chunk (length e) entries)));
            accepted = a + suc (length entries);
          }
      by rest true h =
          ap (λ x. live_adds_all x tag entries) (tail-adds xs n current a e all true h)
          ∙ rest xs n (current ++ e ∷ []) (a + 1) all
          ∙ (λ i. record b {
            chunks = xs ++ fresh_from b.setting.limits.chunk tag b.moment n (current ++ e ∷ []) entries;
            greatest = Some (n + extra b.setting.limits.chunk (size_of-push current e i) entries);
            accepted = count i;
          })
      by rest false h =
          let one : length e + 0 ≡ length e = omega arith in
          let up : (k : ℕ) → (n + 1) + k ≡ n + suc k = λ k. omega arith in
          ap (λ x. live_adds_all x tag entries) (tail-adds xs n current a e all false h)
          ∙ rest (xs ++ staged Closed (open_chunk tag b.moment n current) ∷ []) (n + 1) (e ∷ []) (a + 1) (passed-closed xs n current all)
          ∙ (λ i. record b {
            chunks = append_assoc xs (staged Closed (open_chunk tag b.moment n current) ∷ []) (fresh_from b.setting.limits.chunk tag b.moment (n + 1) (e ∷ []) entries) i;
            greatest = Some ((ap (λ k. (n + 1) + extra b.setting.limits.chunk k entries) one ∙ up (extra b.setting.limits.chunk (length e) entries)) i);
            accepted = count i;
          })

  pub tail-runs : (entries : List (List ℕ)) (xs : List Chunk) (n : ℕ) (current : List (List ℕ))
      (a : ℕ)
      → AllByRecursion (IsPassed tag n) xs
      → before_runs (record { number = n; from = 0; count = length current })
      (live_runs (at_tail b tag xs n current a) tag entries) ≡ map span_of
      (fresh_from b.setting.limits.chunk tag b.moment n current entries)
  tail-runs [] xs n current a all = refl
  tail-runs (e ∷ entries) xs n current a all = by (λ ys m next k. tail-runs entries ys m next k) (nat_le (size_of current + length e) b.setting.limits.chunk) refl
    where
      by :
          ((ys : List Chunk) (m : ℕ) (next : List (List ℕ)) (k : ℕ)
          → AllByRecursion (IsPassed tag m) ys
          → before_runs (record { number = m; from = 0; count = length next })
          (live_runs (at_tail b tag ys m next k) tag entries) ≡ map span_of
          (fresh_from b.setting.limits.chunk tag b.moment m next entries))
          → (t : Bool) → nat_le (size_of current + length e) b.setting.limits.chunk ≡ t
          → before_runs (record { number = n; from = 0; count = length current })
          (before_runs (live_place (at_tail b tag xs n current a) (find
          (may_take (at_tail b tag xs n current a) tag e) (xs ++ open_chunk tag b.moment n current
          ∷ []))) (live_runs (live_adds (at_tail b tag xs n current a) tag e) tag entries))
          ≡ map span_of
          (cond t (fresh_from b.setting.limits.chunk tag b.moment n (current ++ e ∷ []) entries)
          (staged Closed (open_chunk tag b.moment n current)
          ∷ fresh_from b.setting.limits.chunk tag b.moment (n + 1) (e ∷ []) entries))
      by rest true h =
          (λ i. before_runs (record { number = n; from = 0; count = length current }) (before_runs (live_place (at_tail b tag xs n current a) (tail_found xs n current a e all true h i)) (live_runs (tail-adds xs n current a e all true h i) tag entries)))
          ∙ runs-merge n 0 (length current) (length current) 1 (live_runs (at_tail b tag xs n (current ++ e ∷ []) (a + 1)) tag entries)
          ∙ (λ i. before_runs (record { number = n; from = 0; count = sym (length-append current (e ∷ [])) i }) (live_runs (at_tail b tag xs n (current ++ e ∷ []) (a + 1)) tag entries))
          ∙ rest xs n (current ++ e ∷ []) (a + 1) all
      by rest false h =
          (λ i. before_runs (record { number = n; from = 0; count = length current }) (before_runs (live_place (at_tail b tag xs n current a) (tail_found xs n current a e all false h i)) (live_runs (tail-adds xs n current a e all false h i) tag entries)))
          ∙ ap (before_runs (record { number = n; from = 0; count = length current })) (rest (xs ++ staged Closed (open_chunk tag b.moment n current) ∷ []) (n + 1) (e ∷ []) (a + 1) (passed-closed xs n current all))
          ∙ runs-fresh b.setting.limits.chunk tag b.moment (n + 1) (e ∷ []) entries (record { number = n; from = 0; count = length current }) (omega arith)

-- ---- a new chunk begins

pub begun-passed : (b : LiveBuffer) (tag : List ℕ)
    → AllByRecursion (λ c. c.number < live_next_number b) b.chunks
    → AllByRecursion (IsPassed tag (live_next_number b))
    (changed (is_open_of tag) (staged Closed) b.chunks)
begun-passed b tag all = at b.chunks all
  where
    one : (c : Chunk) (t : Bool) → is_open_of tag c ≡ t → c.number < live_next_number b
        → IsPassed tag (live_next_number b) (cond t (staged Closed c) c)
    one c true e lt = record { shut = refl; lower = lt }
    one c false e lt = record { shut = e; lower = lt }

    at : (chunks : List Chunk) → AllByRecursion (λ c. c.number < live_next_number b) chunks
        → AllByRecursion (IsPassed tag (live_next_number b))
        (changed (is_open_of tag) (staged Closed) chunks)
    at [] h = tt
    at (c ∷ chunks) h = (one c (is_open_of tag c) refl h.0, at chunks h.1)

-- no chunk may take the first of these entries
pub begun-all : (b : LiveBuffer) (tag e : List ℕ) (entries : List (List ℕ))
    → AllByRecursion (λ c. c.number < live_next_number b) b.chunks
    → find (may_take b tag e) b.chunks ≡ None
    → live_adds_all b tag (e ∷ entries) ≡ record b {
      chunks = changed (is_open_of tag)
          (staged Closed) b.chunks ++ fresh_of b.setting.limits.chunk tag b.moment (live_next_number b)
          (e ∷ entries);
      greatest = Some (live_next_number b + extra b.setting.limits.chunk (length e) entries);
      accepted = b.accepted + suc (length entries);
    }
unfolding live_adds
begun-all b tag e entries below none =
    let one : length e + 0 ≡ length e = omega arith in
    let count : (b.accepted + 1) + length entries ≡ b.accepted + suc (length entries) = omega arith in
    ap (λ o. live_adds_all (live_adds_to b tag e o) tag entries) none
    ∙ tail-all b tag entries (changed (is_open_of tag) (staged Closed) b.chunks) (live_next_number b) (e ∷ []) (b.accepted + 1) (begun-passed b tag below)
    ∙ (λ i. record b {
      chunks = changed (is_open_of tag) (staged Closed) b.chunks ++ fresh_of b.setting.limits.chunk tag b.moment (live_next_number b) (e ∷ entries);
      greatest = Some (live_next_number b + extra b.setting.limits.chunk (one i) entries);
      accepted = count i;
    })

pub begun-runs : (b : LiveBuffer) (tag e : List ℕ) (entries : List (List ℕ))
    → AllByRecursion (λ c. c.number < live_next_number b) b.chunks
    → find (may_take b tag e) b.chunks ≡ None
    → live_runs b tag (e ∷ entries) ≡ map span_of
    (fresh_of b.setting.limits.chunk tag b.moment (live_next_number b) (e ∷ entries))
unfolding live_adds
begun-runs b tag e entries below none =
    ap (λ o. before_runs (live_place b o) (live_runs (live_adds_to b tag e o) tag entries)) none
    ∙ tail-runs b tag entries (changed (is_open_of tag) (staged Closed) b.chunks) (live_next_number b) (e ∷ []) (b.accepted + 1) (begun-passed b tag below)

-- ---- entries that go to the open chunk

none_chunk : {c : Chunk} → None ≡ Some c → ⊥
none_chunk e = cc

-- the tag's open chunk is the only one
pub find-open : (tag : List ℕ) (q : Chunk → Bool) (chunks : List Chunk) (c : Chunk)
    → AreInOrder chunks → find (is_open_of tag) chunks ≡ Some c
    → find (λ d. is_open_of tag d && q d) chunks ≡ cond (q c) (Some c) None
find-open tag q [] c h e = absurd (none_chunk e)
find-open tag q (d ∷ chunks) c h e = by (find-open tag q chunks c h.1) (is_open_of tag d) refl e
  where
    by :
        (find (is_open_of tag) chunks ≡ Some c → find (λ x. is_open_of tag x && q x) chunks
        ≡ cond (q c) (Some c) None)
        → (t : Bool) → is_open_of tag d ≡ t
        → cond t (Some d) (find (is_open_of tag) chunks) ≡ Some c
        → cond (t && q d) (Some d) (find (λ x. is_open_of tag x && q x) chunks) ≡ cond (q c)
        (Some c) None
    by rest true f g = at (q d) ∙ ap (λ x. cond (q x) (Some x) None) (same_Some _ _ g)
      where
        parts : (is_open d.stage ≡ true) × (bytes_eq d.tag tag ≡ true)
        parts = and_parts (is_open d.stage) (bytes_eq d.tag tag) f

        none : (xs : List Chunk) → AllByRecursion (IsBefore d) xs
            → find (λ x. is_open_of tag x && q x) xs ≡ None
        none [] all = refl
        none (x ∷ xs) all = ap (λ t. cond (t && q x) (Some x) (find (λ y. is_open_of tag y && q y) xs)) shut ∙ none xs all.1
          where
            shut : is_open_of tag x ≡ false
            shut = not_from (is_open_of tag x) (λ i.
                let same : d.tag ≡ x.tag = (bytes_eq-Decides d.tag tag).0 parts.1 ∙ sym ((bytes_eq-Decides x.tag tag).0 (and_parts (is_open x.stage) (bytes_eq x.tag tag) i).1) in
                true_false (is_open d.stage) parts.0 (all.0.shut ((bytes_eq-Decides d.tag x.tag).1 same)))

        at : (t : Bool)
            → cond t (Some d) (find (λ x. is_open_of tag x && q x) chunks) ≡ cond t (Some d) None
        at true = refl
        at false = none chunks h.0
    by rest false f g = rest g

-- and so there is none without one
pub find-no_open : (tag : List ℕ) (q : Chunk → Bool) (chunks : List Chunk)
    → find (is_open_of tag) chunks ≡ None
    → find (λ d. is_open_of tag d && q d) chunks ≡ None
find-no_open tag q [] e = refl
find-no_open tag q (d ∷ chunks) e = by (find-no_open tag q chunks) (is_open_of tag d) refl e
  where
    none_is : Some d ≡ None → ⊥
    none_is f = cc

    by : (find (is_open_of tag) chunks ≡ None → find (λ x. is_open_of tag x && q x) chunks ≡ None)
        → (t : Bool) → is_open_of tag d ≡ t → cond t (Some d) (find (is_open_of tag) chunks) ≡ None
        → cond (t && q d) (Some d) (find (λ x. is_open_of tag x && q x) chunks) ≡ None
    by rest true f g = absurd (none_is g)
    by rest false f g = rest g

abbrev pub with_entries : List (List ℕ) → Chunk → Chunk
with_entries entries c = record c { entries = c.entries ++ entries }

-- the entries stand in the chunk of the number
abbrev pub joined : LiveBuffer → ℕ → List (List ℕ) → LiveBuffer
joined b number entries = record b { chunks = changed (is_at number) (with_entries entries) b.chunks; accepted = b.accepted + length entries }

changed-twice : (n : ℕ) (e : List ℕ) (entries : List (List ℕ)) (chunks : List Chunk)
    → changed (is_at n) (with_entries entries)
    (changed (is_at n) (with_entries (e ∷ [])) chunks) ≡ changed (is_at n)
    (with_entries (e ∷ entries)) chunks
changed-twice n e entries [] = refl
changed-twice n e entries (c ∷ chunks) = λ i. one (c.number == n) refl i ∷ changed-twice n e entries chunks i
  where
    one : (t : Bool) → (c.number == n) ≡ t
        → cond (is_at n (cond t (with_entries (e ∷ []) c) c))
        (with_entries entries (cond t (with_entries (e ∷ []) c) c))
        (cond t (with_entries (e ∷ []) c) c) ≡ cond t (with_entries (e ∷ entries) c) c
    one true f = ap (λ t. cond t (with_entries entries (with_entries (e ∷ []) c)) (with_entries (e ∷ []) c)) f ∙ (λ i. record c { entries = append_assoc c.entries (e ∷ []) entries i })
    one false f = ap (λ t. cond t (with_entries entries c) c) f

changed-nothing : (n : ℕ) (chunks : List Chunk)
    → chunks ≡ changed (is_at n) (with_entries []) chunks
changed-nothing n [] = refl
changed-nothing n (c ∷ chunks) = λ i. one (c.number == n) i ∷ changed-nothing n chunks i
  where
    one : (t : Bool) → c ≡ cond t (with_entries [] c) c
    one true = λ i. record c { entries = sym (append-nil c.entries) i }
    one false = refl

-- what stays as entries go to a chunk
pub order-joined : (n : ℕ) (entries : List (List ℕ)) (chunks : List Chunk) → AreInOrder chunks
    → AreInOrder (changed (is_at n) (with_entries entries) chunks)
order-joined n entries chunks h = order-map (λ c. cond (is_at n c) (with_entries entries c) c) (λ c. number (is_at n c) c) (λ c. tag (is_at n c) c) (λ c s. shut (is_at n c) c s) chunks h
  where
    number : (t : Bool) (c : Chunk) → (cond t (with_entries entries c) c).number ≡ c.number
    number true c = refl
    number false c = refl

    tag : (t : Bool) (c : Chunk) → (cond t (with_entries entries c) c).tag ≡ c.tag
    tag true c = refl
    tag false c = refl

    shut : (t : Bool) (c : Chunk) → is_open c.stage ≡ false
        → is_open (cond t (with_entries entries c) c).stage ≡ false
    shut true c s = s
    shut false c s = s

pub open-joined : (tag : List ℕ) (entries : List (List ℕ)) (chunks : List Chunk) (c : Chunk)
    → find (is_open_of tag) chunks ≡ Some c
    → find (is_open_of tag) (changed (is_at c.number) (with_entries entries) chunks)
    ≡ Some (with_entries entries c)
open-joined tag entries chunks c e =
    find-map (is_open_of tag) (λ d. cond (is_at c.number d) (with_entries entries d) d) chunks
    ∙ ap (option_map (λ d. cond (is_at c.number d) (with_entries entries d) d)) (same chunks ∙ e)
    ∙ ap (λ t. Some (cond t (with_entries entries c) c)) (eq_same c.number)
  where
    test : (t : Bool) (d : Chunk)
        → is_open_of tag (cond t (with_entries entries d) d) ≡ is_open_of tag d
    test true d = refl
    test false d = refl

    same : (xs : List Chunk)
        → find (λ d. is_open_of tag (cond (is_at c.number d) (with_entries entries d) d)) xs ≡ find
        (is_open_of tag) xs
    same [] = refl
    same (d ∷ xs) = λ i. cond (test (is_at c.number d) d i) (Some d) (same xs i)

module _ (b : LiveBuffer) (tag : List ℕ) (c : Chunk) (order : AreInOrder b.chunks) (e : find (is_open_of tag) b.chunks ≡ Some c) where
  may_join : (entry : List ℕ) → size_of c.entries + length entry ≤ b.setting.limits.chunk
      → find (may_take b tag entry) b.chunks ≡ Some c
  may_join entry le =
      find-open tag (λ d. nat_le (size_of d.entries + length entry) b.setting.limits.chunk) b.chunks c order e
      ∙ ap (λ t. cond t (Some c) None) (le-leb (size_of c.entries + length entry) b.setting.limits.chunk le)

  pub may_not_join : (entry : List ℕ) → b.setting.limits.chunk < size_of c.entries + length entry
      → find (may_take b tag entry) b.chunks ≡ None
  may_not_join entry lt =
      find-open tag (λ d. nat_le (size_of d.entries + length entry) b.setting.limits.chunk) b.chunks c order e
      ∙ ap (λ t. cond t (Some c) None) (lt-leb (size_of c.entries + length entry) b.setting.limits.chunk lt)

  join-one : (entry : List ℕ) → size_of c.entries + length entry ≤ b.setting.limits.chunk
      → live_adds b tag entry ≡ joined b c.number (entry ∷ [])
  unfolding live_adds
  join-one entry le = ap (live_adds_to b tag entry) (may_join entry le)

pub join-all : (entries : List (List ℕ)) (b : LiveBuffer) (tag : List ℕ) (c : Chunk)
    → AreInOrder b.chunks → find (is_open_of tag) b.chunks ≡ Some c
    → size_of c.entries + size_of entries ≤ b.setting.limits.chunk
    → live_adds_all b tag entries ≡ joined b c.number entries
join-all [] b tag c order e le = (let same : b.accepted ≡ b.accepted + 0 = omega arith in λ i. record b { chunks = changed-nothing c.number b.chunks i; accepted = same i })
join-all (x ∷ entries) b tag c order e le =
    let one = join-one b tag c order e x (omega (arith, le)) in
    let count : (b.accepted + 1) + length entries ≡ b.accepted + suc (length entries) = omega arith in
    ap (λ y. live_adds_all y tag entries) one
    ∙ join-all entries (joined b c.number (x ∷ [])) tag (with_entries (x ∷ []) c) (order-joined c.number (x ∷ []) b.chunks order) (open-joined tag (x ∷ []) b.chunks c e) (omega (arith, le, size_of-push c.entries x))
    ∙ (λ i. record b { chunks = changed-twice c.number x entries b.chunks i; accepted = count i })

-- the run of the entries that join, before those of others
pub join-runs : (entries : List (List ℕ)) (x : List ℕ) (others : List (List ℕ))
    (b : LiveBuffer) (tag : List ℕ) (c : Chunk) → AreInOrder b.chunks
    → find (is_open_of tag) b.chunks ≡ Some c
    → size_of c.entries + (length x + size_of entries) ≤ b.setting.limits.chunk
    → live_runs b tag (x ∷ entries ++ others) ≡ before_runs
    (record { number = c.number; from = length c.entries; count = suc (length entries) })
    (live_runs (joined b c.number (x ∷ entries)) tag others)
join-runs [] x others b tag c order e le =
    let fits : size_of c.entries + length x ≤ b.setting.limits.chunk = omega (arith, le) in
    (λ i. before_runs (live_place b (may_join b tag c order e x fits i)) (live_runs (join-one b tag c order e x fits i) tag others))
join-runs (y ∷ entries) x others b tag c order e le =
    let fits : size_of c.entries + length x ≤ b.setting.limits.chunk = omega (arith, le) in
    let count : (b.accepted + 1) + suc (length entries) ≡ b.accepted + suc (suc (length entries)) = omega arith in
    let one_more : 1 + suc (length entries) ≡ suc (suc (length entries)) = omega arith in
    (λ i. before_runs (live_place b (may_join b tag c order e x fits i)) (live_runs (join-one b tag c order e x fits i) tag (y ∷ entries ++ others)))
    ∙ ap (before_runs (record { number = c.number; from = length c.entries; count = 1 })) (
    join-runs entries y others (joined b c.number (x ∷ [])) tag (with_entries (x ∷ []) c) (order-joined c.number (x ∷ []) b.chunks order) (open-joined tag (x ∷ []) b.chunks c e) (omega (arith, le, size_of-push c.entries x)))
    ∙ runs-merge c.number (length c.entries) (length (c.entries ++ x ∷ [])) 1 (suc (length entries)) (live_runs (joined (joined b c.number (x ∷ [])) c.number (y ∷ entries)) tag others)
    ∙ (λ i. before_runs (record { number = c.number; from = length c.entries; count = one_more i }) (live_runs (record b { chunks = changed-twice c.number x (y ∷ entries) b.chunks i; accepted = count i }) tag others))

pub adds_all-append : (front back : List (List ℕ)) (b : LiveBuffer) (tag : List ℕ)
    → live_adds_all b tag (front ++ back) ≡ live_adds_all (live_adds_all b tag front) tag back
adds_all-append [] back b tag = refl
adds_all-append (e ∷ front) back b tag = adds_all-append front back (live_adds b tag e) tag

-- ---- cutting

pub fitting-over : (limit used : ℕ) (entries : List (List ℕ)) → limit < used
    → 0 ≡ fitting limit used entries
fitting-over limit used [] lt = refl
fitting-over limit used (e ∷ entries) lt = sym (ap (λ t. cond t (suc (fitting limit (used + length e) entries)) 0) (lt-leb (used + length e) limit (omega (arith, lt))))

-- where all of them fit
pub fitting-all : (limit used : ℕ) (entries : List (List ℕ)) → used + size_of entries ≤ limit
    → fitting limit used entries ≡ length entries
fitting-all limit used [] le = refl
fitting-all limit used (e ∷ entries) le =
    ap (λ t. cond t (suc (fitting limit (used + length e) entries)) 0) (le-leb (used + length e) limit (omega (arith, le))) ∙ ap suc (fitting-all limit (used + length e) entries (omega (arith, le)))

pub fitting-within : (limit used : ℕ) (entries : List (List ℕ))
    → fitting limit used entries ≤ length entries
fitting-within limit used [] = omega arith
fitting-within limit used (e ∷ entries) = by (fitting-within limit (used + length e) entries) (nat_le (used + length e) limit)
  where
    by : fitting limit (used + length e) entries ≤ length entries → (t : Bool)
        → cond t (suc (fitting limit (used + length e) entries)) 0 ≤ suc (length entries)
    by rest true = omega (arith, rest)
    by rest false = omega arith

pub fitting-fits : (limit used : ℕ) (entries : List (List ℕ)) → used ≤ limit
    → used + size_of (take (fitting limit used entries) entries) ≤ limit
fitting-fits limit used [] le = omega (arith, le)
fitting-fits limit used (e ∷ entries) le = by (fitting-fits limit (used + length e) entries) (nat_le (used + length e) limit) refl
  where
    by :
        (used + length e ≤ limit → (used + length e) + size_of
        (take (fitting limit (used + length e) entries) entries) ≤ limit)
        → (t : Bool) → nat_le (used + length e) limit ≡ t
        → used + size_of
        (take (cond t (suc (fitting limit (used + length e) entries)) 0) (e ∷ entries)) ≤ limit
    by rest true h = omega (arith, rest (leb-true (used + length e) limit h))
    by rest false h = omega (arith, le)

-- what is left begins with an entry that does not fit
pub fitting-rest : (limit used : ℕ) (entries : List (List ℕ)) (e : List ℕ)
    (rest : List (List ℕ)) → drop (fitting limit used entries) entries ≡ e ∷ rest
    → limit < used + size_of (take (fitting limit used entries) entries) + length e
fitting-rest limit used [] e rest h = absurd (no_list h)
  where
    no_list : [] ≡ e ∷ rest → ⊥
    no_list g = cc
fitting-rest limit used (x ∷ entries) e rest h = by (fitting-rest limit (used + length x) entries e rest) (nat_le (used + length x) limit) refl h
  where
    by :
        (drop (fitting limit (used + length x) entries) entries ≡ e ∷ rest → limit <
        (used + length x) + size_of
        (take (fitting limit (used + length x) entries) entries) + length e)
        → (t : Bool) → nat_le (used + length x) limit ≡ t
        → drop (cond t (suc (fitting limit (used + length x) entries)) 0) (x ∷ entries) ≡ e ∷ rest
        → limit < used + size_of
        (take (cond t (suc (fitting limit (used + length x) entries)) 0) (x ∷ entries)) + length e
    by more true g i = omega (arith, more i)
    by more false g i = omega (arith, leb-false (used + length x) limit g, ap length (head i))
      where
        head : x ∷ entries ≡ e ∷ rest → x ≡ e
        head j = cc

-- the current chunk takes what fits, and the rest begins with a new one
pub fresh-cut : (limit : ℕ) (tag : List ℕ) (since n : ℕ) (current entries : List (List ℕ))
    → fresh_from limit tag since n current entries
    ≡ record
    (open_chunk tag since n (current ++ take (fitting limit (size_of current) entries) entries))
    { stage = stage_before (drop (fitting limit (size_of current) entries) entries) }
    ∷ fresh_of limit tag since (n + 1) (drop (fitting limit (size_of current) entries) entries)
fresh-cut limit tag since n current [] = (λ i. open_chunk tag since n (sym (append-nil current) i) ∷ [])
fresh-cut limit tag since n current (e ∷ entries) = by (fresh-cut limit tag since n (current ++ e ∷ []) entries) (nat_le (size_of current + length e) limit)
  where
    by : fresh_from limit tag since n (current ++ e ∷ []) entries
        ≡ record
        (open_chunk tag since n ((current ++ e ∷ [])
        ++ take (fitting limit (size_of (current ++ e ∷ [])) entries) entries)) {
          stage = stage_before
              (drop (fitting limit (size_of (current ++ e ∷ [])) entries) entries);
        }
        ∷ fresh_of limit tag since (n + 1)
        (drop (fitting limit (size_of (current ++ e ∷ [])) entries) entries)
        → (t : Bool)
        → cond t (fresh_from limit tag since n (current ++ e ∷ []) entries)
        (staged Closed (open_chunk tag since n current)
        ∷ fresh_from limit tag since (n + 1) (e ∷ []) entries)
        ≡ record
        (open_chunk tag since n (current ++ take
        (cond t (suc (fitting limit (size_of current + length e) entries)) 0) (e ∷ entries))) {
          stage = stage_before
              (drop (cond t (suc (fitting limit (size_of current + length e) entries)) 0) (e ∷ entries));
        }
        ∷ fresh_of limit tag since (n + 1)
        (drop (cond t (suc (fitting limit (size_of current + length e) entries)) 0) (e ∷ entries))
    by rest true =
        rest
        ∙ ap (λ k. record (open_chunk tag since n ((current ++ e ∷ []) ++ take (fitting limit k entries) entries)) { stage = stage_before (drop (fitting limit k entries) entries) } ∷ fresh_of limit tag since (n + 1) (drop (fitting limit k entries) entries)) (size_of-push current e)
        ∙ (λ i. record (open_chunk tag since n (append_assoc current (e ∷ []) (take (fitting limit (size_of current + length e) entries) entries) i)) { stage = stage_before (drop (fitting limit (size_of current + length e) entries) entries) }
        ∷ fresh_of limit tag since (n + 1) (drop (fitting limit (size_of current + length e) entries) entries))
    by rest false = (λ i. staged Closed (open_chunk tag since n (sym (append-nil current) i)) ∷ fresh_from limit tag since (n + 1) (e ∷ []) entries)

pub fresh-count : (limit : ℕ) (tag : List ℕ) (since n : ℕ) (current entries : List (List ℕ))
    → length (fresh_from limit tag since n current entries)
    ≡ suc (extra limit (size_of current) entries)
fresh-count limit tag since n current [] = refl
fresh-count limit tag since n current (e ∷ entries) = by (fresh-count limit tag since n (current ++ e ∷ []) entries) (fresh-count limit tag since (n + 1) (e ∷ []) entries) (nat_le (size_of current + length e) limit)
  where
    by : length (fresh_from limit tag since n (current ++ e ∷ []) entries) ≡ suc
        (extra limit (size_of (current ++ e ∷ [])) entries)
        → length (fresh_from limit tag since (n + 1) (e ∷ []) entries) ≡ suc
        (extra limit (length e + 0) entries)
        → (t : Bool)
        → length
        (cond t (fresh_from limit tag since n (current ++ e ∷ []) entries)
        (staged Closed (open_chunk tag since n current)
        ∷ fresh_from limit tag since (n + 1) (e ∷ []) entries))
        ≡ suc
        (cond t (extra limit (size_of current + length e) entries)
        (suc (extra limit (length e) entries)))
    by one two true = one ∙ ap (λ k. suc (extra limit k entries)) (size_of-push current e)
    by one two false = (let same : length e + 0 ≡ length e = omega arith in ap suc (two ∙ ap (λ k. suc (extra limit k entries)) same))
