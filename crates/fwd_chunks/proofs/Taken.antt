-- What a worker has stays as it is, until it is settled or given back.
use Rattle.std.proofs.Common.{◌≡◌, ◌≢◌, ℕ, ◌+◌, length, true, false, Bool, cond, eqb, List, [], ◌∷◌, ◌++◌, Option, Some, None, refl, sym, ap, ◌∙◌, arith}
use Rattle.std.specs.Prelude.{filter, find, not, ◌&&◌, ◌==◌, max, nat_le, option_map}
use Rattle.std.specs.List.{AllByRecursion}
use Rattle.std.proofs.lemmas.Bool.{and_parts}
use Rattle.std.specs.Str.{bytes_eq}
use Rattle.fwd_modes.specs.Requests.{Request}
use Rattle.fwd_chunks.specs.declared.chunk.Chunk.{Chunk}
use Rattle.fwd_chunks.specs.declared.flush.FlushKind.{FlushKind}
use Rattle.fwd_chunks.specs.declared.flush.FlushKind.TheVariants.{Due, All}
use Rattle.fwd_chunks.specs.declared.chunk_state.ChunkState.{ChunkState}
use Rattle.fwd_chunks.specs.declared.chunk_state.ChunkState.TheVariants.{Open, Closed, Taken}
use Rattle.fwd_chunks.specs.Cells.{size_of}
use Rattle.fwd_chunks.specs.History.{CarriedChunk}
use Rattle.fwd_chunks.specs.declared.wanted.Wanted.{Wanted}
use Rattle.fwd_chunks.specs.Live.{LiveBuffer, is_open, is_closed, is_taken, staged, changed, is_at, is_open_of, may_take, first_chunk, live_adds_to, live_adds, live_adds_all, live_looks, live_enters, is_due, live_closes, live_flushes, live_is_free, live_given, live_asked_for, live_given_for, live_carries_more, live_takes, live_carried_chunk, live_carried, live_settles, live_frees}
use Rattle.fwd_base.specs.Tallies.{live_is_over, tally_more}
use Rattle.fwd_chunks.specs.Soundness.{IsBefore, AreInOrder, IsSound}
use Rattle.fwd_chunks.proofs.Numbers.{not_from, eq_same}
use Rattle.fwd_chunks.proofs.Sounding.{found-all, found-passes, found-only, IsSorted, with_entry, adds-sorted, sorted}
use Rattle.std.proofs.lemmas.Option.{same_Some}
use Rattle.std.proofs.lemmas.Bool.{eqb-true}

-- a worker has the chunk, which has the number
abbrev has : ℕ → Chunk → Bool
has n c = is_at n c && is_taken c.stage

-- ---- stages

and_false : (a : Bool) → (a && false) ≡ false
and_false true = refl
and_false false = refl

open-free : (s : ChunkState) → is_open s ≡ true → is_taken s ≡ false
open-free Open e = refl
open-free Closed e = refl
open-free (Taken worker) e = absurd cc

closed-free : (s : ChunkState) → is_closed s ≡ true → is_taken s ≡ false
closed-free Open e = refl
closed-free Closed e = refl
closed-free (Taken worker) e = absurd cc

free-not : (n : ℕ) (c : Chunk) → is_taken c.stage ≡ false → has n c ≡ false
free-not n c e = ap (λ t. is_at n c && t) e ∙ and_false (is_at n c)

-- ---- what is found

all-of : (P : Chunk → Type 0) → ((c : Chunk) → P c) → (chunks : List Chunk)
    → AllByRecursion P chunks
all-of P h [] = tt
all-of P h (c ∷ chunks) = (h c, all-of P h chunks)

all-mapped : (P Q : Chunk → Type 0) → ((c : Chunk) → P c → Q c) → (chunks : List Chunk)
    → AllByRecursion P chunks → AllByRecursion Q chunks
all-mapped P Q h [] all = tt
all-mapped P Q h (c ∷ chunks) all = (h c all.0, all-mapped P Q h chunks all.1)

-- a change leaves what is found, where it is of chunks that are not looked for, before and after
find-changed : (q test : Chunk → Bool) (f : Chunk → Chunk) (chunks : List Chunk)
    → AllByRecursion (λ c. test c ≡ true → (q c ≡ false) × (q (f c) ≡ false)) chunks
    → find q (changed test f chunks) ≡ find q chunks
find-changed q test f [] all = refl
find-changed q test f (c ∷ chunks) all = by (find-changed q test f chunks all.1) (test c) refl
  where
    by : find q (changed test f chunks) ≡ find q chunks → (t : Bool) → test c ≡ t
        → find q (cond t (f c) c ∷ changed test f chunks) ≡ find q (c ∷ chunks)
    by rest true e =
        let no = all.0 e in
        (λ i. cond (no.1 i) (Some (f c)) (rest i)) ∙ (λ i. cond (sym no.0 i) (Some c) (find q chunks))
    by rest false e = ap (cond (q c) (Some c)) rest

find-push : (q : Chunk → Bool) (chunks : List Chunk) (d : Chunk) → q d ≡ false
    → find q (chunks ++ d ∷ []) ≡ find q chunks
find-push q [] d e = λ i. cond (e i) (Some d) None
find-push q (c ∷ chunks) d e = ap (cond (q c) (Some c)) (find-push q chunks d e)

find-none : (q : Chunk → Bool) (chunks : List Chunk)
    → AllByRecursion (λ c. q c ≡ false) chunks → find q chunks ≡ None
find-none q [] all = refl
find-none q (c ∷ chunks) all = (λ i. cond (all.0 i) (Some c) (find q chunks)) ∙ find-none q chunks all.1

-- the chunk that a worker takes is the one of its number
find-taken : (p : Chunk → Bool) (worker : ℕ) (chunks : List Chunk) (c : Chunk)
    → AreInOrder chunks → find p chunks ≡ Some c
    → find (has c.number) (changed (is_at c.number) (staged (Taken worker)) chunks)
    ≡ Some (staged (Taken worker) c)
find-taken p worker [] c h e = absurd (none e)
  where
    none : None ≡ Some c → ⊥
    none f = cc
find-taken p worker (d ∷ chunks) c h e = by (find-taken p worker chunks c h.1) (p d) e
  where
    by :
        (find p chunks ≡ Some c
        → find (has c.number) (changed (is_at c.number) (staged (Taken worker)) chunks)
        ≡ Some (staged (Taken worker) c))
        → (t : Bool) → cond t (Some d) (find p chunks) ≡ Some c
        → find (has c.number)
        (cond (is_at c.number d) (staged (Taken worker) d) d
        ∷ changed (is_at c.number) (staged (Taken worker)) chunks) ≡ Some
        (staged (Taken worker) c)
    by rest true g =
        let here : (d.number == c.number) ≡ true = ap (λ x. eqb d.number x.number) (sym (same_Some _ _ g)) ∙ eq_same d.number in
        (λ i. find (has c.number) (cond (here i) (staged (Taken worker) d) d ∷ changed (is_at c.number) (staged (Taken worker)) chunks))
        ∙ (λ i. cond (here i && true) (Some (staged (Taken worker) (same_Some _ _ g i))) (find (has c.number) (changed (is_at c.number) (staged (Taken worker)) chunks)))
    by rest false g =
        let apart : (d.number == c.number) ≡ false = not_from (d.number == c.number) (λ i. absurd (omega (arith, (found-all (IsBefore d) p chunks c g h.0).lower, eqb-true d.number c.number i))) in
        (λ i. find (has c.number) (cond (apart i) (staged (Taken worker) d) d ∷ changed (is_at c.number) (staged (Taken worker)) chunks))
        ∙ (λ i. cond (apart i && is_taken d.stage) (Some d) (find (has c.number) (changed (is_at c.number) (staged (Taken worker)) chunks)))
        ∙ rest g

-- ---- entering

adds-carried : (b : LiveBuffer) (tag entry : List ℕ) (n : ℕ) → IsSorted b
    → live_carried (live_adds b tag entry) n ≡ live_carried b n
unfolding live_adds
adds-carried b tag entry n own = by (find (may_take b tag entry) b.chunks) refl
  where
    by : (o : Option Chunk) → find (may_take b tag entry) b.chunks ≡ o
        → live_carried (live_adds_to b tag entry o) n ≡ live_carried b n
    by (Some c) e =
        let may = found-passes (may_take b tag entry) b.chunks c e in
        let of = (and_parts (is_open_of tag c) (nat_le (size_of c.entries + length entry) b.setting.limits.chunk) may).0 in
        let free : is_taken c.stage ≡ false = open-free c.stage (and_parts (is_open c.stage) (bytes_eq c.tag tag) of).0 in
        ap (option_map (live_carried_chunk b)) (find-changed (has n) (is_at c.number) (with_entry entry) b.chunks
        (all-mapped (λ d. (d.number == c.number) ≡ true → d ≡ c) (λ d. is_at c.number d ≡ true → (has n d ≡ false) × (has n (with_entry entry d) ≡ false))
        (λ d only at. let no = free-not n d (ap (λ x. is_taken x.stage) (only at) ∙ free) in (no, no)) b.chunks (found-only (may_take b tag entry) b.chunks c own.in_order e)))
    by None e =
        ap (option_map (live_carried_chunk b)) (
        find-push (has n) (changed (is_open_of tag) (staged Closed) b.chunks) (first_chunk b tag entry) (free-not n (first_chunk b tag entry) refl)
        ∙ find-changed (has n) (is_open_of tag) (staged Closed) b.chunks
        (all-of (λ d. is_open_of tag d ≡ true → (has n d ≡ false) × (has n (staged Closed d) ≡ false))
        (λ d of. (free-not n d (open-free d.stage (and_parts (is_open d.stage) (bytes_eq d.tag tag) of).0), free-not n (staged Closed d) refl)) b.chunks))

adds_all-carried : (entries : List (List ℕ)) (b : LiveBuffer) (tag : List ℕ) (n : ℕ)
    → IsSorted b → live_carried (live_adds_all b tag entries) n ≡ live_carried b n
adds_all-carried [] b tag n own = refl
adds_all-carried (entry ∷ entries) b tag n own =
    adds_all-carried entries (live_adds b tag entry) tag n (adds-sorted b tag entry own) ∙ adds-carried b tag entry n own

pub carried-enters : (b : LiveBuffer) (r : Request) (now n : ℕ) (load : CarriedChunk) → IsSound b
    → live_carried b n ≡ Some load → live_carried (live_enters b r now) n ≡ Some load
carried-enters b r now n load own has =
    adds_all-carried r.entries (live_looks b now) r.tag n (sorted b now own) ∙ has

-- ---- flushing

due-open : (kind : FlushKind) (interval moment : ℕ) (c : Chunk)
    → is_due kind interval moment c ≡ true → is_open c.stage ≡ true
due-open All interval moment c e = e
due-open Due interval moment c e = (and_parts (is_open c.stage) (nat_le (c.since + interval) moment) e).0

pub carried-flushes : (b : LiveBuffer) (now : ℕ) (kind : FlushKind) (n : ℕ)
    → live_carried (live_flushes b now kind) n ≡ live_carried b n
carried-flushes b now kind n =
    ap (option_map (live_carried_chunk b)) (find-changed (has n) (live_closes (live_looks b now) kind) (staged Closed) b.chunks
    (all-of (λ c. live_closes (live_looks b now) kind c ≡ true → (has n c ≡ false) × (has n (staged Closed c) ≡ false))
    (λ c e. (free-not n c (open-free c.stage (due-open kind b.setting.limits.interval (live_looks b now).moment c e)), free-not n (staged Closed c) refl)) b.chunks))

-- ---- taking

-- the chunk that is given is closed, and the only one of its number
given-closed : (b : LiveBuffer) (c : Chunk) → live_given b ≡ Some c
    → is_taken c.stage ≡ false
given-closed b c e =
    closed-free c.stage (and_parts (is_closed c.stage) (live_is_over b.setting.limits.retry_wait b.setting.limits.retry_max c.losses b.moment) (found-passes (live_is_free b) b.chunks c e)).0

-- the buffer as it is asked at a moment for what is wanted
abbrev asked : LiveBuffer → Wanted → ℕ → LiveBuffer
asked b wanted now = live_asked_for (live_looks b now) wanted

pub given-free : (b : LiveBuffer) (wanted : Wanted) (now : ℕ) (c : Chunk) → IsSound b
    → live_given_for (live_looks b now) wanted ≡ Some c → live_carried b c.number ≡ None
given-free b wanted now c own given =
    ap (option_map (live_carried_chunk b)) (find-none (has c.number) b.chunks
    (all-mapped (λ d. (d.number == c.number) ≡ true → d ≡ c) (λ d. has c.number d ≡ false)
    (λ d only. at d only (is_at c.number d) refl) b.chunks (found-only (live_is_free (asked b wanted now)) b.chunks c own.in_order given)))
  where
    at : (d : Chunk) → ((d.number == c.number) ≡ true → d ≡ c) → (t : Bool) → is_at c.number d ≡ t
        → has c.number d ≡ false
    at d only true e = free-not c.number d (ap (λ x. is_taken x.stage) (only e) ∙ given-closed (asked b wanted now) c given)
    at d only false e = ap (λ t. t && is_taken d.stage) e

-- it is carried afterwards, and all else that was carried
pub carried-takes : (b : LiveBuffer) (worker : ℕ) (wanted : Wanted) (now n : ℕ)
    (load : CarriedChunk) → IsSound b
    → live_carried b n ≡ Some load → live_carried (live_takes b worker wanted now) n ≡ Some load
carried-takes b worker wanted now n load own carried = by (live_given_for (live_looks b now) wanted) refl
  where
    by : (o : Option Chunk) → live_given_for (live_looks b now) wanted ≡ o
        → live_carried (live_carries_more worker o (live_looks b now)) n ≡ Some load
    by None e = carried
    by (Some c) e =
        ap (option_map (live_carried_chunk b)) (find-changed (has n) (is_at c.number) (staged (Taken worker)) b.chunks
        (all-mapped (λ d. (d.number == c.number) ≡ true → d ≡ c) (λ d. is_at c.number d ≡ true → (has n d ≡ false) × (has n (staged (Taken worker) d) ≡ false))
        (λ d only at. (
          free-not n d (ap (λ x. is_taken x.stage) (only at) ∙ given-closed (asked b wanted now) c e),
          ap (λ t. t && true) (ap (λ x. is_at n x) (only at) ∙ apart),
        )) b.chunks (found-only (live_is_free (asked b wanted now)) b.chunks c own.in_order e)))
        ∙ carried
      where
        clash : None ≡ Some load → ⊥
        clash f = cc

        apart : is_at n c ≡ false
        apart = not_from (is_at n c) (λ f. clash (sym (given-free b wanted now c own e) ∙ ap (live_carried b) (eqb-true c.number n f) ∙ carried))

pub given-carried : (b : LiveBuffer) (worker : ℕ) (wanted : Wanted) (now : ℕ) (c : Chunk) → IsSound b
    → live_given_for (live_looks b now) wanted ≡ Some c
    → live_carried (live_takes b worker wanted now) c.number ≡ Some (live_carried_chunk b c)
given-carried b worker wanted now c own given =
    ap (λ o. live_carried (live_carries_more worker o (live_looks b now)) c.number) given
    ∙ ap (option_map (live_carried_chunk b)) (find-taken (live_is_free (asked b wanted now)) worker b.chunks c own.in_order given)

-- ---- settling

find-settled : (k n : ℕ) → k ≢ n → (chunks : List Chunk)
    → find (has n) (filter (λ c. not (is_at k c)) chunks) ≡ find (has n) chunks
find-settled k n differ [] = refl
find-settled k n differ (c ∷ chunks) = by (find-settled k n differ chunks) (is_at k c) refl
  where
    by : find (has n) (filter (λ d. not (is_at k d)) chunks) ≡ find (has n) chunks → (t : Bool)
        → is_at k c ≡ t
        → find (has n)
        (cond (not t) (c ∷ filter (λ d. not (is_at k d)) chunks)
        (filter (λ d. not (is_at k d)) chunks)) ≡ find
        (has n) (c ∷ chunks)
    by rest true e =
        let apart : is_at n c ≡ false = not_from (is_at n c) (λ f. differ (sym (eqb-true c.number k e) ∙ eqb-true c.number n f)) in
        rest ∙ (λ i. cond (sym apart i && is_taken c.stage) (Some c) (find (has n) chunks))
    by rest false e = ap (cond (has n c) (Some c)) rest

pub carried-settles : (b : LiveBuffer) (k n : ℕ) → k ≢ n
    → live_carried (live_settles b k) n ≡ live_carried b n
carried-settles b k n differ = ap (option_map (live_carried_chunk b)) (find-settled k n differ b.chunks)

-- ---- giving back

-- a chunk that is changed has another number, and is closed afterwards
find-freed : (b : LiveBuffer) (k n : ℕ) (f : Chunk → Chunk) → k ≢ n
    → ((c : Chunk) → is_taken (f c).stage ≡ false)
    → find (has n) (changed (is_at k) f b.chunks) ≡ find (has n) b.chunks
find-freed b k n f differ free = find-changed (has n) (is_at k) f b.chunks
    (all-of (λ c. is_at k c ≡ true → (has n c ≡ false) × (has n (f c) ≡ false))
    (λ c e. (
      ap (λ t. t && is_taken c.stage) (apart c e),
      free-not n (f c) (free c),
    )) b.chunks)
  where
    apart : (c : Chunk) → is_at k c ≡ true → is_at n c ≡ false
    apart c e = not_from (is_at n c) (λ g. differ (sym (eqb-true c.number k e) ∙ eqb-true c.number n g))

-- what another worker has stays where a number is given back
pub carried-frees : (b : LiveBuffer) (k n : ℕ) (loss : Option ℕ) → k ≢ n
    → live_carried (live_frees b k loss) n ≡ live_carried b n
carried-frees b k n None differ =
    ap (option_map (live_carried_chunk b)) (find-freed b k n (staged Closed) differ (λ c. refl))
carried-frees b k n (Some now) differ =
    let moment = max b.moment now in
    ap (option_map (live_carried_chunk b)) (find-freed b k n (λ c. record c { stage = Closed; losses = Some (tally_more c.losses moment) }) differ (λ c. refl))
