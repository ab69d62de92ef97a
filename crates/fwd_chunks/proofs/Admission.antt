-- A request's entries, joined one by one, fill the tag's open chunk and then new ones.
use Rattle.std.proofs.Common.{◌≡◌, ℕ, zero, suc, ◌+◌, ◌<◌, ◌≤◌, Bool, true, false, cond, eqb, List, [], ◌∷◌, ◌++◌, length, take, drop, max, Option, Some, None, refl, sym, ap, ◌∙◌, subst, inl, inr, arith}
use Rattle.std.specs.Prelude.{◌-◌, ◌^◌, map, find, ◌==◌, nat_le, option_map, IfSome, IfNone, unwrap_or, nat_lt, ◌||◌}
use Rattle.std.specs.List.{AllByRecursion}
use Rattle.std.specs.Str.{bytes_eq}
use Rattle.std.proofs.lemmas.Bool.Decides.{nat_tests}
use Rattle.std.proofs.lemmas.Bool.{cases_lt, ltb-false, or_parts, and_parts, leb-false}
use Rattle.std.proofs.lemmas.List.{append-nil, take-append-drop, length-append}
use Rattle.std.proofs.lemmas.Slice.Eq.{bytes_eq-Decides}
use Rattle.fwd_modes.specs.declared.limits.TheConstants.{TAG_LIMIT}
use Rattle.fwd_chunks.specs.declared.chunk.Chunk.{Chunk}
use Rattle.fwd_chunks.specs.declared.span.Span.{Span}
use Rattle.fwd_chunks.specs.declared.chunk_state.ChunkState.TheVariants.{Open, Closed, Taken}
use Rattle.fwd_chunks.specs.declared.chunk_state.ChunkState.{ChunkState}
use Rattle.fwd_modes.specs.Requests.{Request}
use Rattle.fwd_chunks.specs.Cells.{size_of, number_after}
use Rattle.fwd_chunks.specs.Stored.{TagFits, IsStored}
use Rattle.fwd_chunks.specs.declared.plan.Plan.{Plan}
use Rattle.fwd_chunks.specs.declared.fault.AdmitError.TheVariants.{Full, NumbersSpent}
use Rattle.fwd_chunks.specs.Parts.{entries_in}
use Rattle.fwd_chunks.specs.Plans.{IsPlan}
use Rattle.fwd_chunks.specs.Slots.{last_of, AreAbove}
use Rattle.fwd_chunks.proofs.CellLemmas.{size_of-push}
use Rattle.fwd_chunks.specs.History.{before_runs}
use Rattle.fwd_chunks.specs.Live.{LiveBuffer, is_open, staged, changed, is_at, is_open_of, may_take, first_chunk, live_next_number, live_adds_to, live_adds, live_adds_all, live_runs, live_looks, live_enters, live_refusal, live_is_full, live_is_spent, live_spans, bytes_in}
use Rattle.fwd_chunks.specs.Soundness.{IsBefore, AreInOrder, IsSound}
use Rattle.fwd_chunks.specs.Filling.{fitting, open_chunk, fresh_from, fresh_of, extra, span_of, stage_before, stage_last, needed, cut_count, joining_to, joined_by, joined_chunks, joined_span, greatest_with, filled, filled_spans, filled_in}
use Rattle.fwd_chunks.proofs.Numbers.{true_false, not_from, eq_same}
use Rattle.fwd_chunks.proofs.Sounding.{all-push, enters-sound, adds_all-added, sorted, all-map, found-all}
use Rattle.fwd_chunks.proofs.Filling.{runs-fresh, begun-all, begun-runs, find-no_open, with_entries, joined, order-joined, open-joined, may_not_join, join-all, join-runs, adds_all-append, fitting-over, fitting-within, fitting-fits, fitting-rest, fresh-cut, fresh-count}
use Rattle.std.proofs.lemmas.Option.{same_Some}
use Rattle.std.proofs.lemmas.Bool.{eqb-true}

-- ---- cutting

pub size-append : (xs ys : List (List ℕ)) → size_of (xs ++ ys) ≡ size_of xs + size_of ys
size-append [] ys = omega arith
size-append (x ∷ xs) ys = omega (arith, size-append xs ys)

pub count-is : (limit : ℕ) (entries : List (List ℕ)) → 0 < length entries
    → max (fitting limit 0 entries) 1 ≡ cut_count limit entries
count-is limit [] lt = absurd (omega arith)
count-is limit (e ∷ entries) lt = by (nat_le (0 + length e) limit) refl
  where
    same : 0 + length e ≡ length e
    same = omega arith

    by : (t : Bool) → nat_le (0 + length e) limit ≡ t
        → max (cond t (suc (fitting limit (0 + length e) entries)) 0) 1 ≡ suc
        (fitting limit (length e) entries)
    by true h = omega (arith, ap (λ n. fitting limit n entries) same)
    by false h = omega (arith, fitting-over limit (length e) entries (omega (arith, leb-false (0 + length e) limit h)))

pub count-within : (limit : ℕ) (entries : List (List ℕ))
    → cut_count limit entries ≤ length entries
count-within limit [] = omega arith
count-within limit (e ∷ entries) = omega (arith, fitting-within limit (length e) entries)

pub count-some : (limit : ℕ) (entries : List (List ℕ)) → 0 < length entries
    → 0 < cut_count limit entries
count-some limit [] lt = absurd (omega arith)
count-some limit (e ∷ entries) lt = omega arith

pub needed-is : (limit : ℕ) (tag : List ℕ) (since n : ℕ) (entries : List (List ℕ))
    → length (fresh_of limit tag since n entries) ≡ needed limit entries
needed-is limit tag since n [] = refl
needed-is limit tag since n (e ∷ entries) = (let one : length e + 0 ≡ length e = omega arith in fresh-count limit tag since n (e ∷ []) entries ∙ ap (λ k. suc (extra limit k entries)) one)

-- the first chunk, and the others
pub fresh-first : (limit : ℕ) (tag : List ℕ) (since n : ℕ) (entries : List (List ℕ))
    → 0 < length entries
    → fresh_of limit tag since n entries
    ≡ record {
      number = n;
      tag = tag;
      entries = take
          (cut_count limit entries) entries;
      since = since;
      stage = stage_before
          (drop (cut_count limit entries) entries);
      losses = None;
    } ∷ fresh_of limit tag since
    (n + 1) (drop (cut_count limit entries) entries)
fresh-first limit tag since n [] lt = absurd (omega arith)
fresh-first limit tag since n (e ∷ entries) lt =
    let one : length e + 0 ≡ length e = omega arith in
    fresh-cut limit tag since n (e ∷ []) entries
    ∙ ap (λ k. record { number = n; tag = tag; entries = e ∷ take (fitting limit k entries) entries; since = since; stage = stage_before (drop (fitting limit k entries) entries); losses = None } ∷ fresh_of limit tag since (n + 1) (drop (fitting limit k entries) entries)) one

pub needed-first : (limit : ℕ) (entries : List (List ℕ)) → 0 < length entries
    → needed limit entries ≡ suc (needed limit (drop (cut_count limit entries) entries))
needed-first limit entries lt =
    sym (needed-is limit [] 0 0 entries) ∙ ap length (fresh-first limit [] 0 0 entries lt) ∙ ap suc (needed-is limit [] 0 1 (drop (cut_count limit entries) entries))

-- a chunk is within the limit, or has one entry
pub cut-size : (limit most : ℕ) (entries : List (List ℕ)) → size_of entries < most
    → size_of (take (cut_count limit entries) entries) < most
cut-size limit most entries lt = omega (arith, lt, size-take (cut_count limit entries) entries)
  where
    size-take : (n : ℕ) (xs : List (List ℕ)) → size_of (take n xs) ≤ size_of xs
    size-take zero xs = omega arith
    size-take (suc n) [] = omega arith
    size-take (suc n) (x ∷ xs) = omega (arith, size-take n xs)

pub size-drop : (n : ℕ) (entries : List (List ℕ))
    → size_of (drop n entries) ≤ size_of entries
size-drop zero entries = omega arith
size-drop (suc n) [] = omega arith
size-drop (suc n) (x ∷ entries) = omega (arith, size-drop n entries)

-- ---- without an open chunk

no_chunk : {c : Chunk} → Some c ≡ None → ⊥
no_chunk e = cc

unopened : (tag : List ℕ) (chunks : List Chunk) → find (is_open_of tag) chunks ≡ None
    → changed (is_open_of tag) (staged Closed) chunks ≡ chunks
unopened tag [] e = refl
unopened tag (c ∷ chunks) e = by (unopened tag chunks) (is_open_of tag c) e
  where
    by :
        (find (is_open_of tag) chunks ≡ None → changed (is_open_of tag) (staged Closed) chunks
        ≡ chunks)
        → (t : Bool) → cond t (Some c) (find (is_open_of tag) chunks) ≡ None
        → cond t (staged Closed c) c ∷ changed (is_open_of tag) (staged Closed) chunks ≡ c ∷ chunks
    by rest true f = absurd (no_chunk f)
    by rest false f = ap (λ l. c ∷ l) (rest f)

-- ---- with one

-- the chunk of the number is the tag's open one
open-number : (tag : List ℕ) (chunks : List Chunk) (c : Chunk) → AreInOrder chunks
    → find (is_open_of tag) chunks ≡ Some c
    → AllByRecursion (λ d. is_open_of tag d ≡ (d.number == c.number)) chunks
open-number tag [] c h e = tt
open-number tag (d ∷ chunks) c h e = by (open-number tag chunks c h.1) (is_open_of tag d) refl e
  where
    by :
        (find (is_open_of tag) chunks ≡ Some c
        → AllByRecursion (λ x. is_open_of tag x ≡ (x.number == c.number)) chunks)
        → (t : Bool) → is_open_of tag d ≡ t
        → cond t (Some d) (find (is_open_of tag) chunks) ≡ Some c
        → (is_open_of tag d ≡ (d.number == c.number)) × AllByRecursion
        (λ x. is_open_of tag x ≡ (x.number == c.number)) chunks
    by rest true f g = (f ∙ sym (ap (λ x. eqb d.number x.number) (sym (same_Some _ _ g)) ∙ eq_same d.number), later chunks h.0)
      where
        parts : (is_open d.stage ≡ true) × (bytes_eq d.tag tag ≡ true)
        parts = and_parts (is_open d.stage) (bytes_eq d.tag tag) f

        later : (xs : List Chunk) → AllByRecursion (IsBefore d) xs
            → AllByRecursion (λ x. is_open_of tag x ≡ (x.number == c.number)) xs
        later [] all = tt
        later (x ∷ xs) all = (shut ∙ sym (not_from (x.number == c.number) (λ i. absurd (omega (arith, all.0.lower, eqb-true x.number c.number i, ap (λ y. y.number) (same_Some _ _ g))))), later xs all.1)
          where
            shut : is_open_of tag x ≡ false
            shut = not_from (is_open_of tag x) (λ i.
                let same : d.tag ≡ x.tag = (bytes_eq-Decides d.tag tag).0 parts.1 ∙ sym ((bytes_eq-Decides x.tag tag).0 (and_parts (is_open x.stage) (bytes_eq x.tag tag) i).1) in
                true_false (is_open d.stage) parts.0 (all.0.shut ((bytes_eq-Decides d.tag x.tag).1 same)))
    by rest false f g = (f ∙ sym (not_from (d.number == c.number) (λ i. absurd (omega (arith, (found-all (IsBefore d) (is_open_of tag) chunks c g h.0).lower, eqb-true d.number c.number i)))), rest g)

-- joined, and closed where others follow
joined-open : (tag : List ℕ) (n : ℕ) (front : List (List ℕ)) (chunks : List Chunk)
    → AllByRecursion (λ d. is_open_of tag d ≡ (d.number == n)) chunks
    → changed (is_at n) (with_entries front) chunks ≡ changed (is_at n)
    (joined_by front Open) chunks
joined-open tag n front [] all = refl
joined-open tag n front (d ∷ chunks) all = λ i. one (d.number == n) refl i ∷ joined-open tag n front chunks all.1 i
  where
    stage-open : is_open_of tag d ≡ true → d.stage ≡ Open
    stage-open e = at d.stage (and_parts (is_open d.stage) (bytes_eq d.tag tag) e).0
      where
        at : (s : ChunkState) → is_open s ≡ true → s ≡ Open
        at Open f = refl
        at Closed f = absurd cc
        at (Taken w) f = absurd cc

    one : (t : Bool) → (d.number == n) ≡ t
        → cond t (with_entries front d) d ≡ cond t (joined_by front Open d) d
    one true e = λ i. record d { entries = d.entries ++ front; stage = stage-open (all.0 ∙ e) i }
    one false e = refl

joined-closed : (tag : List ℕ) (n : ℕ) (front : List (List ℕ)) (chunks : List Chunk)
    → AllByRecursion (λ d. is_open_of tag d ≡ (d.number == n)) chunks
    → changed (is_open_of tag) (staged Closed)
    (changed (is_at n) (with_entries front) chunks) ≡ changed (is_at n)
    (joined_by front Closed) chunks
joined-closed tag n front [] all = refl
joined-closed tag n front (d ∷ chunks) all = λ i. one (d.number == n) refl i ∷ joined-closed tag n front chunks all.1 i
  where
    one : (t : Bool) → (d.number == n) ≡ t
        → cond (is_open_of tag (cond t (with_entries front d) d))
        (staged Closed (cond t (with_entries front d) d)) (cond t (with_entries front d) d) ≡ cond t
        (joined_by front Closed d) d
    one true e = ap (λ t. cond t (staged Closed (with_entries front d)) (with_entries front d)) (all.0 ∙ e)
    one false e = ap (λ t. cond t (staged Closed d) d) (all.0 ∙ e)

module _ (b : LiveBuffer) (tag : List ℕ) (c : Chunk) (order : AreInOrder b.chunks) (below : AllByRecursion (λ d. d.number < live_next_number b) b.chunks) (e : find (is_open_of tag) b.chunks ≡ Some c) (entries : List (List ℕ)) where
  abbrev front : List (List ℕ)
  front = take (fitting b.setting.limits.chunk (size_of c.entries) entries) entries

  abbrev back : List (List ℕ)
  back = drop (fitting b.setting.limits.chunk (size_of c.entries) entries) entries

  lower : c.number < live_next_number b
  lower = found-all (λ d. d.number < live_next_number b) (is_open_of tag) b.chunks c e below

  fronts : live_adds_all b tag front ≡ joined b c.number front
  fronts = elim (cases_lt b.setting.limits.chunk (size_of c.entries)) [
    | inl lt ↦ nothing (sym (fitting-over b.setting.limits.chunk (size_of c.entries) entries lt))
    | inr le ↦ join-all front b tag c order e (fitting-fits b.setting.limits.chunk (size_of c.entries) entries le)
  ]
    where
      none : live_adds_all b tag [] ≡ joined b c.number []
      none = (let same : b.accepted ≡ b.accepted + 0 = omega arith in λ i. record b { chunks = unchanged b.chunks i; accepted = same i })
        where
          one : (d : Chunk) (t : Bool) → d ≡ cond t (with_entries [] d) d
          one d true = λ i. record d { entries = sym (append-nil d.entries) i }
          one d false = refl

          unchanged : (xs : List Chunk) → xs ≡ changed (is_at c.number) (with_entries []) xs
          unchanged [] = refl
          unchanged (d ∷ xs) = λ i. one d (is_at c.number d) i ∷ unchanged xs i

      nothing : fitting b.setting.limits.chunk (size_of c.entries) entries ≡ 0
          → live_adds_all b tag front ≡ joined b c.number front
      nothing f = ap (λ k. live_adds_all b tag (take k entries)) f ∙ none ∙ ap (λ k. joined b c.number (take k entries)) (sym f)

  below-joined : (xs : List (List ℕ))
      → AllByRecursion (λ d. d.number < live_next_number b) (joined b c.number xs).chunks
  below-joined xs = all-map (λ d. d.number < live_next_number b) (λ d. d.number < live_next_number b) (λ d. cond (is_at c.number d) (with_entries xs d) d) (λ d lt. one d (is_at c.number d) lt) b.chunks below
    where
      one : (d : Chunk) (t : Bool) → d.number < live_next_number b
          → (cond t (with_entries xs d) d).number < live_next_number b
      one d true lt = lt
      one d false lt = lt

  shut_out : (x : List ℕ) (others : List (List ℕ)) → back ≡ x ∷ others
      → find (may_take (joined b c.number front) tag x) (joined b c.number front).chunks ≡ None
  shut_out x others f =
      may_not_join (joined b c.number front) tag (with_entries front c) (order-joined c.number front b.chunks order) (open-joined tag front b.chunks c e) x
      (omega (arith, size-append c.entries front, fitting-rest b.setting.limits.chunk (size_of c.entries) entries x others f))

  backs : (xs : List (List ℕ)) → back ≡ xs → live_adds_all (joined b c.number front) tag xs
      ≡ record b {
        chunks = changed (is_at c.number) (joined_by front (stage_before xs)) b.chunks
            ++ fresh_of b.setting.limits.chunk tag b.moment
            (live_next_number b) xs;
        greatest = greatest_with b xs;
        accepted = b.accepted +
            (length front + length xs);
      }
  backs [] f =
      let count : b.accepted + length front ≡ b.accepted + (length front + 0) = omega arith in
      λ i. record b { chunks = (joined-open tag c.number front b.chunks (open-number tag b.chunks c order e) ∙ sym (append-nil (changed (is_at c.number) (joined_by front Open) b.chunks))) i; accepted = count i }
  backs (x ∷ others) f =
      let count : (b.accepted + length front) + suc (length others) ≡ b.accepted + (length front + suc (length others)) = omega arith in
      begun-all (joined b c.number front) tag x others (below-joined front) (shut_out x others f)
      ∙ (λ i. record b {
        chunks = joined-closed tag c.number front b.chunks (open-number tag b.chunks c order e) i ++ fresh_of b.setting.limits.chunk tag b.moment (live_next_number b) (x ∷ others);
        greatest = Some (live_next_number b + extra b.setting.limits.chunk (length x) others);
        accepted = count i;
      })

  pub open-filled : live_adds_all b tag entries ≡ record b {
    chunks = changed (is_at c.number) (joined_by front (stage_before back)) b.chunks
        ++ fresh_of b.setting.limits.chunk tag b.moment
        (live_next_number b) back;
    greatest = greatest_with b back;
    accepted = b.accepted +
        (length front + length back);
  }
  open-filled =
      ap (live_adds_all b tag) (sym (take-append-drop (fitting b.setting.limits.chunk (size_of c.entries) entries) entries))
      ∙ adds_all-append front back b tag
      ∙ ap (λ x. live_adds_all x tag back) fronts
      ∙ backs back refl

  back-runs : (xs : List (List ℕ)) → back ≡ xs
      → live_runs (joined b c.number front) tag xs ≡ map span_of
      (fresh_of b.setting.limits.chunk tag b.moment (live_next_number b) xs)
  back-runs [] f = refl
  back-runs (x ∷ others) f = begun-runs (joined b c.number front) tag x others (below-joined front) (shut_out x others f)

  before-fresh : (s : Span) (xs : List (List ℕ)) → s.number < live_next_number b
      → before_runs s
      (map span_of (fresh_of b.setting.limits.chunk tag b.moment (live_next_number b) xs)) ≡ s
      ∷ map span_of
      (fresh_of b.setting.limits.chunk tag b.moment (live_next_number b) xs)
  before-fresh s [] lt = refl
  before-fresh s (x ∷ others) lt = runs-fresh b.setting.limits.chunk tag b.moment (live_next_number b) (x ∷ []) others s lt

  front-runs : (xs : List (List ℕ)) → front ≡ xs
      → live_runs b tag (xs ++ back) ≡ joined_span (Some c) xs ++ map span_of
      (fresh_of b.setting.limits.chunk tag b.moment (live_next_number b) back)
  front-runs [] f = ap (λ x. live_runs x tag back) (ap (live_adds_all b tag) (sym f) ∙ fronts) ∙ back-runs back refl
  front-runs (x ∷ others) f =
      let fits : size_of c.entries + (length x + size_of others) ≤ b.setting.limits.chunk = fit f in
      join-runs others x back b tag c order e fits
      ∙ ap (λ xs. before_runs (record { number = c.number; from = length c.entries; count = suc (length others) }) (live_runs (joined b c.number xs) tag back)) (sym f)
      ∙ ap (before_runs (record { number = c.number; from = length c.entries; count = suc (length others) })) (back-runs back refl)
      ∙ before-fresh (record { number = c.number; from = length c.entries; count = suc (length others) }) back lower
    where
      fit : front ≡ x ∷ others
          → size_of c.entries + (length x + size_of others) ≤ b.setting.limits.chunk
      fit g = elim (cases_lt b.setting.limits.chunk (size_of c.entries)) [
        | inl lt ↦ absurd (no_list (sym (ap (λ k. take k entries) (sym (fitting-over b.setting.limits.chunk (size_of c.entries) entries lt))) ∙ g))
        | inr le ↦ omega (arith, ap size_of g, fitting-fits b.setting.limits.chunk (size_of c.entries) entries le)
      ]
        where
          no_list : [] ≡ x ∷ others → ⊥
          no_list h = cc

  pub open-spans : live_runs b tag entries ≡ joined_span (Some c) front ++ map span_of
      (fresh_of b.setting.limits.chunk tag b.moment (live_next_number b) back)
  open-spans = ap (live_runs b tag) (sym (take-append-drop (fitting b.setting.limits.chunk (size_of c.entries) entries) entries)) ∙ front-runs front refl

-- ---- a request

module _ (b : LiveBuffer) (tag : List ℕ) (order : AreInOrder b.chunks) (below : AllByRecursion (λ d. d.number < live_next_number b) b.chunks) (entries : List (List ℕ)) where
  abbrev joins_at : Option Chunk → ℕ
  joins_at o = joining_to b.setting.limits.chunk o entries

  no-filled : (xs : List (List ℕ)) → find (is_open_of tag) b.chunks ≡ None → live_adds_all b tag xs
      ≡ record b {
        chunks = b.chunks ++ fresh_of b.setting.limits.chunk tag b.moment
            (live_next_number b) xs;
        greatest = greatest_with b xs;
        accepted = b.accepted +
            (0 + length xs);
      }
  no-filled [] e = (let same : b.accepted ≡ b.accepted + (0 + 0) = omega arith in λ i. record b { chunks = sym (append-nil b.chunks) i; accepted = same i })
  no-filled (x ∷ others) e =
      let same : b.accepted + suc (length others) ≡ b.accepted + (0 + suc (length others)) = omega arith in
      begun-all b tag x others below (find-no_open tag (λ d. nat_le (size_of d.entries + length x) b.setting.limits.chunk) b.chunks e)
      ∙ (λ i. record b {
        chunks = unopened tag b.chunks e i ++ fresh_of b.setting.limits.chunk tag b.moment (live_next_number b) (x ∷ others);
        greatest = Some (live_next_number b + extra b.setting.limits.chunk (length x) others);
        accepted = same i;
      })

  no-spans : (xs : List (List ℕ)) → find (is_open_of tag) b.chunks ≡ None
      → live_runs b tag xs ≡ map span_of
      (fresh_of b.setting.limits.chunk tag b.moment (live_next_number b) xs)
  no-spans [] e = refl
  no-spans (x ∷ others) e = begun-runs b tag x others below (find-no_open tag (λ d. nat_le (size_of d.entries + length x) b.setting.limits.chunk) b.chunks e)

  pub adds-filled : live_adds_all b tag entries ≡ filled b tag
      (take (joining_to b.setting.limits.chunk (find (is_open_of tag) b.chunks) entries) entries)
      (drop (joining_to b.setting.limits.chunk (find (is_open_of tag) b.chunks) entries) entries)
  adds-filled = by (find (is_open_of tag) b.chunks) refl
    where
      by : (o : Option Chunk) → find (is_open_of tag) b.chunks ≡ o
          → live_adds_all b tag entries
          ≡ record b {
            chunks = joined_chunks o (take (joining_to b.setting.limits.chunk o entries) entries)
                (drop (joining_to b.setting.limits.chunk o entries) entries) b.chunks
                ++ fresh_of b.setting.limits.chunk tag b.moment
                (live_next_number b) (drop (joining_to b.setting.limits.chunk o entries) entries);
            greatest = greatest_with b (drop (joining_to b.setting.limits.chunk o entries) entries);
            accepted = b.accepted +
                (length (take (joining_to b.setting.limits.chunk o entries) entries) + length
                (drop (joining_to b.setting.limits.chunk o entries) entries));
          }
      by None e = no-filled entries e
      by (Some c) e = open-filled b tag c order below e entries

  pub runs-filled : live_runs b tag entries ≡ filled_spans b tag
      (take (joining_to b.setting.limits.chunk (find (is_open_of tag) b.chunks) entries) entries)
      (drop (joining_to b.setting.limits.chunk (find (is_open_of tag) b.chunks) entries) entries)
  runs-filled = by (find (is_open_of tag) b.chunks) refl
    where
      by : (o : Option Chunk) → find (is_open_of tag) b.chunks ≡ o
          → live_runs b tag entries ≡ joined_span o
          (take (joining_to b.setting.limits.chunk o entries) entries) ++ map span_of
          (fresh_of b.setting.limits.chunk tag b.moment (live_next_number b)
          (drop (joining_to b.setting.limits.chunk o entries) entries))
      by None e = no-spans entries e
      by (Some c) e = open-spans b tag c order below e entries

pub last-stage : (entries : List (List ℕ))
    → stage_last (length entries == 0) ≡ stage_before entries
last-stage [] = refl
last-stage (e ∷ entries) = (let some : eqb (suc (length entries)) 0 ≡ false = grind (arith, nat_tests) in ap stage_last some)

-- ---- by numbers

filled-joins : (o : Option Chunk) (chunks : List Chunk) (front back : List (List ℕ))
    → filled_in (option_map (λ c. c.number) o) front (stage_before back) chunks
    ≡ joined_chunks o front back chunks
filled-joins None chunks one two = refl
filled-joins (Some c) chunks one two = refl

pub joins-fit : (limit size : ℕ) (entries : List (List ℕ)) → limit < 2 ^ 32 → size < 2 ^ 32
    → size + size_of (take (fitting limit size entries) entries) < 2 ^ 32
joins-fit limit size entries small fits = elim (cases_lt limit size) [
  | inl lt ↦ (let none : size_of (take (fitting limit size entries) entries) ≡ 0 = ap (λ k. size_of (take k entries)) (sym (fitting-over limit size entries lt)) in omega (arith, none, fits))
  | inr le ↦ omega (arith, fitting-fits limit size entries le, small)
]

pub joining-fits : (limit : ℕ) (o : Option Chunk) (c : Chunk) (entries : List (List ℕ))
    → o ≡ Some c → limit < 2 ^ 32 → size_of c.entries < 2 ^ 32
    → size_of c.entries + size_of (take (joining_to limit o entries) entries) < 2 ^ 32
joining-fits limit o c entries e small fits = subst (λ x. size_of c.entries + size_of (take (joining_to limit x entries) entries) < 2 ^ 32) (sym e) (joins-fit limit (size_of c.entries) entries small fits)

pub joining-within : (limit : ℕ) (o : Option Chunk) (entries : List (List ℕ))
    → joining_to limit o entries ≤ length entries
joining-within limit None entries = omega arith
joining-within limit (Some c) entries = fitting-within limit (size_of c.entries) entries

pub length-cut : (n : ℕ) (entries : List (List ℕ))
    → length (take n entries) + length (drop n entries) ≡ length entries
length-cut n entries = sym (length-append (take n entries) (drop n entries)) ∙ ap length (take-append-drop n entries)

-- what is spent
pub spent-filled : (b : LiveBuffer) (back : List (List ℕ)) (first : ℕ)
    → number_after b.setting.limits.first (greatest_with b back)
    ≡ live_next_number b + needed b.setting.limits.chunk back
spent-filled b [] first = omega arith
spent-filled b (x ∷ back) first = omega arith

-- ---- what is stored

adds-tags : (b : LiveBuffer) (tag entry : List ℕ) → length tag ≤ TAG_LIMIT
    → AllByRecursion TagFits b.chunks → AllByRecursion TagFits (live_adds b tag entry).chunks
unfolding live_adds
adds-tags b tag entry fits all = by (find (may_take b tag entry) b.chunks)
  where
    same : (t : Bool) (c : Chunk) (f : Chunk → Chunk) → (f c).tag ≡ c.tag → TagFits c
        → TagFits (cond t (f c) c)
    same true c f e h = subst (λ x. length x ≤ TAG_LIMIT) (sym e) h
    same false c f e h = h

    by : (o : Option Chunk) → AllByRecursion TagFits (live_adds_to b tag entry o).chunks
    by (Some c) = all-map TagFits TagFits (λ d. cond (is_at c.number d) (record d { entries = d.entries ++ entry ∷ [] }) d) (λ d h. same (is_at c.number d) d (λ x. record x { entries = x.entries ++ entry ∷ [] }) refl h) b.chunks all
    by None = all-push TagFits (changed (is_open_of tag) (staged Closed) b.chunks) (first_chunk b tag entry) (all-map TagFits TagFits (λ d. cond (is_open_of tag d) (staged Closed d) d) (λ d h. same (is_open_of tag d) d (staged Closed) refl h) b.chunks all) fits

adds_all-tags : (entries : List (List ℕ)) (b : LiveBuffer) (tag : List ℕ)
    → length tag ≤ TAG_LIMIT → AllByRecursion TagFits b.chunks
    → AllByRecursion TagFits (live_adds_all b tag entries).chunks
adds_all-tags [] b tag fits all = all
adds_all-tags (e ∷ entries) b tag fits all = adds_all-tags entries (live_adds b tag e) tag fits (adds-tags b tag e fits all)

pub enters-stored : (b : LiveBuffer) (r : Request) (now size : ℕ) → IsStored b size
    → length r.tag ≤ TAG_LIMIT → live_refusal b r now ≡ None
    → IsStored (live_enters b r now) (size + size_of r.entries)
enters-stored b r now size own fits e =
    let is = adds_all-added r.entries (live_looks b now) r.tag (sorted b now own.sound) in
    record {
      sound = enters-sound b r now own.sound e;
      tags = adds_all-tags r.entries (live_looks b now) r.tag fits own.tags;
      bytes = omega (arith, own.bytes, is.bytes);
    }

-- ---- the numbers of the new chunks

-- the greatest number once the new chunks are there, and that they rise from the one before
last-fresh : (limit : ℕ) (tag : List ℕ) (since n : ℕ) (current entries : List (List ℕ))
    (last : Option ℕ) → last_of last (fresh_from limit tag since n current entries)
    ≡ Some (n + extra limit (size_of current) entries)
last-fresh limit tag since n current [] last = (let same : n ≡ n + 0 = omega arith in ap Some same)
last-fresh limit tag since n current (e ∷ entries) last =
    by (last-fresh limit tag since n (current ++ e ∷ []) entries last) (last-fresh limit tag since (n + 1) (e ∷ []) entries (Some n)) (nat_le (size_of current + length e) limit)
  where
    by : last_of last (fresh_from limit tag since n (current ++ e ∷ []) entries) ≡ Some
        (n + extra limit (size_of (current ++ e ∷ [])) entries)
        → last_of (Some n) (fresh_from limit tag since (n + 1) (e ∷ []) entries) ≡ Some
        (n + 1 + extra limit (size_of (e ∷ [])) entries)
        → (b : Bool)
        → last_of last
        (cond b (fresh_from limit tag since n (current ++ e ∷ []) entries)
        (staged Closed (open_chunk tag since n current)
        ∷ fresh_from limit tag since (n + 1) (e ∷ []) entries))
        ≡ Some
        (n + cond b (extra limit (size_of current + length e) entries)
        (suc (extra limit (length e) entries)))
    by one two true = one ∙ ap (λ k. Some (n + extra limit k entries)) (size_of-push current e)
    by one two false =
        let alone : size_of (e ∷ []) ≡ length e = omega arith in
        let next : n + 1 + extra limit (length e) entries ≡ n + suc (extra limit (length e) entries) = omega arith in
        two ∙ ap (λ k. Some (n + 1 + extra limit k entries)) alone ∙ ap Some next

above-from : (limit : ℕ) (tag : List ℕ) (since n : ℕ) (current entries : List (List ℕ))
    (last : Option ℕ) → number_after 0 last ≤ n
    → AreAbove last (fresh_from limit tag since n current entries)
above-from limit tag since n current [] last le = (le, tt)
above-from limit tag since n current (e ∷ entries) last le =
    by (above-from limit tag since n (current ++ e ∷ []) entries last le) (above-from limit tag since (n + 1) (e ∷ []) entries (Some n) (omega arith)) (nat_le (size_of current + length e) limit)
  where
    by : AreAbove last (fresh_from limit tag since n (current ++ e ∷ []) entries)
        → AreAbove (Some n) (fresh_from limit tag since (n + 1) (e ∷ []) entries)
        → (b : Bool)
        → AreAbove last
        (cond b (fresh_from limit tag since n (current ++ e ∷ []) entries)
        (staged Closed (open_chunk tag since n current)
        ∷ fresh_from limit tag since (n + 1) (e ∷ []) entries))
    by one two true = one
    by one two false = (le, two)

after-first : (first : ℕ) (o : Option ℕ) → number_after 0 o ≤ number_after first o
after-first first None = omega arith
after-first first (Some n) = omega arith

pub fresh-above : (b : LiveBuffer) (tag : List ℕ) (since first : ℕ) (back : List (List ℕ))
    → (0 < needed b.setting.limits.chunk back → first ≡ live_next_number b)
    → AreAbove b.greatest (fresh_of b.setting.limits.chunk tag since first back)
fresh-above b tag since first [] next = tt
fresh-above b tag since first (e ∷ back) next =
    above-from b.setting.limits.chunk tag since first (e ∷ []) back b.greatest
    (omega (arith, next (omega arith), after-first b.setting.limits.first b.greatest))

pub fresh-last_number : (b : LiveBuffer) (tag : List ℕ) (since first : ℕ)
    (back : List (List ℕ)) → (0 < needed b.setting.limits.chunk back → first ≡ live_next_number b)
    → last_of b.greatest
    (fresh_of b.setting.limits.chunk tag since first back) ≡ greatest_with b back
fresh-last_number b tag since first [] next = refl
fresh-last_number b tag since first (e ∷ back) next =
    let alone : size_of (e ∷ []) ≡ length e = omega arith in
    last-fresh b.setting.limits.chunk tag since first (e ∷ []) back b.greatest
    ∙ (λ i. Some (next (omega arith) i + extra b.setting.limits.chunk (alone i) back))

-- ---- the plan of a request

pub fresh-last : (limit : ℕ) (tag : List ℕ) (since n : ℕ) (back : List (List ℕ))
    → stage_last (length (fresh_of limit tag since n back) == 0) ≡ stage_before back
fresh-last limit tag since n [] = refl
fresh-last limit tag since n (e ∷ back) =
    let some : (length (fresh_of limit tag since n (e ∷ back)) == 0) ≡ false = grind (arith, nat_tests, needed-is limit tag since n (e ∷ back)) in
    ap stage_last some

fresh-next : (limit : ℕ) (tag : List ℕ) (since first next : ℕ) (back : List (List ℕ))
    → (0 < needed limit back → first ≡ next)
    → fresh_of limit tag since first back ≡ fresh_of limit tag since next back
fresh-next limit tag since first next [] e = refl
fresh-next limit tag since first next (x ∷ back) e = ap (λ n. fresh_of limit tag since n (x ∷ back)) (e (omega arith))

pub first-is : (o : Option ℕ) (next needs : ℕ) → IfSome o (λ n. n ≡ next)
    → IfNone o (next ≡ 2 ^ 64) → next + needs ≤ 2 ^ 64 → 0 < needs
    → unwrap_or o 0 ≡ next
first-is None next needs some none fits up = absurd (omega (arith, none, fits, up))
first-is (Some n) next needs some none fits up = some

no_fault : (a c : Bool) → cond a (Some Full) (cond c (Some NumbersSpent) None) ≡ None
    → (a ≡ false) × (c ≡ false)
no_fault true c f = absurd (some f)
  where
    some : Some Full ≡ None → ⊥
    some g = cc
no_fault false true f = absurd (some f)
  where
    some : Some NumbersSpent ≡ None → ⊥
    some g = cc
no_fault false false f = (refl, refl)

module _ (b : LiveBuffer) (r : Request) (now : ℕ) (p : Plan) (own : IsSound b) (is : IsPlan b r p) where
  enters-filled : live_enters b r now ≡ filled (live_looks b now) r.tag (entries_in p.front)
      (entries_in p.back)
  enters-filled = adds-filled (live_looks b now) r.tag own.in_order own.below r.entries ∙ (λ i. filled (live_looks b now) r.tag (sym is.front i) (sym is.back i))

  both-length : length (entries_in p.front) + length (entries_in p.back) ≡ length r.entries
  both-length = (λ i. length (is.front i) + length (is.back i)) ∙ length-cut (joining_to b.setting.limits.chunk (find (is_open_of r.tag) b.chunks) r.entries) r.entries

  pub spent-plan : live_is_spent (live_enters b r now) ≡
      (nat_lt (2 ^ 64) (live_next_number b + p.needed) || nat_le (2 ^ 64)
      (b.accepted + length r.entries))
  spent-plan =
      ap live_is_spent enters-filled
      ∙ (λ i. nat_lt (2 ^ 64) ((spent-filled (live_looks b now) (entries_in p.back) 0 ∙ ap (λ n. live_next_number b + n) (sym is.needs)) i) || nat_le (2 ^ 64) (b.accepted + both-length i))

  pub unrefused : live_is_full b r ≡ false
      →
      (nat_lt (2 ^ 64) (live_next_number b + p.needed) || nat_le (2 ^ 64)
      (b.accepted + length r.entries)) ≡ false
      → live_refusal b r now ≡ None
  unrefused e f = λ i. cond (e i) (Some Full) (cond ((spent-plan ∙ f) i) (Some NumbersSpent) None)

  pub refused-spent : live_is_full b r ≡ false
      →
      (nat_lt (2 ^ 64) (live_next_number b + p.needed) || nat_le (2 ^ 64)
      (b.accepted + length r.entries)) ≡ true
      → live_refusal b r now ≡ Some NumbersSpent
  refused-spent e f = λ i. cond (e i) (Some Full) (cond ((spent-plan ∙ f) i) (Some NumbersSpent) None)

  -- what a request that is not refused leaves room for
  pub room-left : live_refusal b r now ≡ None
      → (live_next_number b + p.needed ≤ 2 ^ 64) × (b.accepted + length r.entries < 2 ^ 64) ×
      (bytes_in b.chunks + size_of r.entries ≤ b.setting.limits.total)
  room-left e =
      let free = no_fault (live_is_full b r) (live_is_spent (live_enters b r now)) e in
      let parts = or_parts (nat_lt (2 ^ 64) (live_next_number b + p.needed)) (nat_le (2 ^ 64) (b.accepted + length r.entries)) (sym spent-plan ∙ free.1) in
      (ltb-false (2 ^ 64) (live_next_number b + p.needed) parts.0, leb-false (2 ^ 64) (b.accepted + length r.entries) parts.1, ltb-false b.setting.limits.total (bytes_in b.chunks + size_of r.entries) free.0)

  pub entered : (first : ℕ) (fresh : List Chunk) (count : ℕ)
      → fresh ≡ fresh_of b.setting.limits.chunk r.tag (max b.moment now) first (entries_in p.back)
      → (0 < p.needed → first ≡ live_next_number b) → count ≡ length r.entries
      → record b {
        chunks = filled_in p.joins (entries_in p.front) (stage_last (length fresh == 0)) b.chunks
            ++ fresh;
        greatest = last_of b.greatest fresh;
        accepted = b.accepted + count;
        moment = max b.moment now;
      }
      ≡ live_enters b r now
  entered first fresh count made next counted =
      let back = entries_in p.back in
      let front = entries_in p.front in
      let needs : 0 < needed b.setting.limits.chunk (entries_in p.back) → first ≡ live_next_number b = λ up. next (omega (arith, up, is.needs)) in
      let fresh_is : fresh ≡ fresh_of b.setting.limits.chunk r.tag (max b.moment now) (live_next_number b) (entries_in p.back) = made ∙ fresh-next b.setting.limits.chunk r.tag (max b.moment now) first (live_next_number b) back needs in
      let last : stage_last (length fresh == 0) ≡ stage_before (entries_in p.back) = ap (λ l. stage_last (length l == 0)) fresh_is ∙ fresh-last b.setting.limits.chunk r.tag (max b.moment now) (live_next_number b) back in
      let chunks : filled_in p.joins (entries_in p.front) (stage_last (length fresh == 0)) b.chunks ≡ joined_chunks (find (is_open_of r.tag) b.chunks) (entries_in p.front) (entries_in p.back) b.chunks =
      (λ i. filled_in (is.joins i) front (last i) b.chunks) ∙ filled-joins (find (is_open_of r.tag) b.chunks) b.chunks front back in
      (λ i. record b {
        chunks = chunks i ++ fresh_is i;
        greatest = (ap (last_of b.greatest) made ∙ fresh-last_number b r.tag (max b.moment now) first back needs) i;
        accepted = b.accepted + (counted ∙ sym both-length) i;
        moment = max b.moment now;
      })
      ∙ sym enters-filled

  pub entered-spans : (first : ℕ) (fresh : List Chunk) (spans : List Span)
      → fresh ≡ fresh_of b.setting.limits.chunk r.tag (max b.moment now) first (entries_in p.back)
      → (0 < p.needed → first ≡ live_next_number b)
      → spans ≡ joined_span (find (is_open_of r.tag) b.chunks)
      (entries_in p.front) ++ map span_of fresh
      → spans ≡ live_spans b r now
  entered-spans first fresh spans made next e =
      let needs : 0 < needed b.setting.limits.chunk (entries_in p.back) → first ≡ live_next_number b = λ up. next (omega (arith, up, is.needs)) in
      e
      ∙ (λ i. joined_span (find (is_open_of r.tag) b.chunks) (entries_in p.front) ++ map span_of ((made ∙ fresh-next b.setting.limits.chunk r.tag (max b.moment now) first (live_next_number b) (entries_in p.back) needs) i))
      ∙ (λ i. filled_spans (live_looks b now) r.tag (is.front i) (is.back i))
      ∙ sym (runs-filled (live_looks b now) r.tag own.in_order own.below r.entries)

pub full-by : (total bytes size : ℕ) → bytes ≤ total
    → nat_lt (total - bytes) size ≡ nat_lt total (bytes + size)
full-by total bytes size le = grind (arith, nat_tests)

pub numbers-fit : (first next needs : ℕ) → first < 2 ^ 64 → next + needs ≤ 2 ^ 64
    → (0 < needs → first ≡ next) → first + needs ≤ 2 ^ 64
numbers-fit first next zero small fits same = omega (arith, small)
numbers-fit first next (suc needs) small fits same = omega (arith, fits, same (omega arith))
