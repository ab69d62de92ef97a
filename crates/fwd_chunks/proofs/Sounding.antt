-- Each event leaves a live buffer sound.
use Rattle.std.proofs.Common.{◌≡◌, ℕ, ◌+◌, ◌<◌, ◌≤◌, ◌^◌, Bool, true, false, cond, eqb, List, [], ◌∷◌, ◌++◌, length, Option, Some, None, refl, sym, ap, ◌∙◌, subst, max, arith}
use Rattle.std.specs.Prelude.{map, filter, find, not, ◌&&◌, ◌||◌, ◌==◌, nat_le, nat_lt, is_some}
use Rattle.std.specs.List.{AllByRecursion}
use Rattle.std.specs.Str.{bytes_eq}
use Rattle.std.proofs.lemmas.Bool.{and_parts, or_parts, or_left, ltb-false, leb-false}
use Rattle.fwd_modes.specs.Requests.{Request}
use Rattle.fwd_chunks.specs.declared.chunk.Chunk.{Chunk}
use Rattle.fwd_chunks.specs.declared.flush.FlushKind.{FlushKind}
use Rattle.fwd_chunks.specs.declared.fault.AdmitError.{AdmitError}
use Rattle.fwd_chunks.specs.declared.fault.AdmitError.TheVariants.{Full, NumbersSpent}
use Rattle.fwd_chunks.specs.declared.chunk_state.ChunkState.TheVariants.{Closed, Taken}
use Rattle.fwd_chunks.specs.Cells.{size_of}
use Rattle.fwd_chunks.specs.History.{BufferSetting}
use Rattle.fwd_chunks.specs.Events.{BufferEvent, Enter, Flush, Take, Settle, Free, unless_refused}
use Rattle.fwd_chunks.specs.declared.wanted.Wanted.{Wanted}
use Rattle.fwd_chunks.specs.Live.{LiveBuffer, live_opening, is_open, staged, changed, is_at, held_in, bytes_in, live_next_number, is_open_of, may_take, first_chunk, live_adds_to, live_adds, live_adds_all, live_looks, live_enters, live_is_full, live_is_spent, live_refusal, live_closes, live_flushes, live_given_for, live_carries_more, live_takes, live_carried, live_settles, live_frees, live_next}
use Rattle.fwd_base.specs.Tallies.{tally_more}
use Rattle.fwd_chunks.specs.Soundness.{IsBefore, AreInOrder, IsFresh, IsWithin, IsSound}
use Rattle.fwd_chunks.proofs.Numbers.{not_from, eq_same}
use Rattle.fwd_chunks.proofs.CellLemmas.{size_of-push}
use Rattle.std.proofs.lemmas.Option.{same_Some}
use Rattle.std.proofs.lemmas.Bool.{eqb-true}

-- ---- what holds of each chunk

pub all-map : {X Y : Type 0} (P : X → Type 0) (Q : Y → Type 0) (f : X → Y)
    → ((x : X) → P x → Q (f x)) → (xs : List X) → AllByRecursion P xs
    → AllByRecursion Q (map f xs)
all-map P Q f h [] all = tt
all-map P Q f h (x ∷ xs) all = (h x all.0, all-map P Q f h xs all.1)

pub all-filter : {X : Type 0} (P : X → Type 0) (p : X → Bool) (xs : List X)
    → AllByRecursion P xs → AllByRecursion P (filter p xs)
all-filter P p [] all = tt
all-filter P p (x ∷ xs) all = by (all-filter P p xs all.1) (p x)
  where
    by : AllByRecursion P (filter p xs) → (b : Bool)
        → AllByRecursion P (cond b (x ∷ filter p xs) (filter p xs))
    by rest true = (all.0, rest)
    by rest false = rest

pub all-push : {X : Type 0} (P : X → Type 0) (xs : List X) (y : X) → AllByRecursion P xs → P y
    → AllByRecursion P (xs ++ y ∷ [])
all-push P [] y all last = (last, tt)
all-push P (x ∷ xs) y all last = (all.0, all-push P xs y all.1 last)

pub all-both : {X : Type 0} (P Q : X → Type 0) (xs : List X) → AllByRecursion P xs
    → AllByRecursion Q xs → AllByRecursion (λ x. P x × Q x) xs
all-both P Q [] one two = tt
all-both P Q (x ∷ xs) one two = ((one.0, two.0), all-both P Q xs one.1 two.1)

-- what is found passes, and what holds of all holds of it
pub found-all : {X : Type 0} (P : X → Type 0) (p : X → Bool) (xs : List X) (x : X)
    → find p xs ≡ Some x → AllByRecursion P xs → P x
found-all P p [] x e all = absurd (none e)
  where
    none : None ≡ Some x → ⊥
    none f = cc
found-all P p (y ∷ xs) x e all = by (λ f. found-all P p xs x f all.1) (p y) e
  where
    by : (find p xs ≡ Some x → P x) → (b : Bool) → cond b (Some y) (find p xs) ≡ Some x → P x
    by rest true f = subst P (same_Some _ _ f) all.0
    by rest false f = rest f

pub found-passes : {X : Type 0} (p : X → Bool) (xs : List X) (x : X) → find p xs ≡ Some x
    → p x ≡ true
found-passes p [] x e = absurd (none e)
  where
    none : None ≡ Some x → ⊥
    none f = cc
found-passes p (y ∷ xs) x e = by (found-passes p xs x) (p y) refl e
  where
    by : (find p xs ≡ Some x → p x ≡ true) → (b : Bool) → p y ≡ b
        → cond b (Some y) (find p xs) ≡ Some x → p x ≡ true
    by rest true g f = ap p (sym (same_Some _ _ f)) ∙ g
    by rest false g f = rest f

-- ---- the order

pub order-map : (f : Chunk → Chunk) → ((c : Chunk) → (f c).number ≡ c.number)
    → ((c : Chunk) → (f c).tag ≡ c.tag)
    → ((c : Chunk) → is_open c.stage ≡ false → is_open (f c).stage ≡ false)
    → (chunks : List Chunk) → AreInOrder chunks → AreInOrder (map f chunks)
order-map f number tag shut [] h = tt
order-map f number tag shut (c ∷ chunks) h = (
  all-map (IsBefore c) (IsBefore (f c)) f (λ d b. record {
    lower = omega (arith, number c, number d, b.lower);
    shut = λ e. shut c (b.shut ((λ i. bytes_eq (sym (tag c) i) (sym (tag d) i)) ∙ e));
  }) chunks h.0,
  order-map f number tag shut chunks h.1,
)

pub order-filter : (p : Chunk → Bool) (chunks : List Chunk) → AreInOrder chunks
    → AreInOrder (filter p chunks)
order-filter p [] h = tt
order-filter p (c ∷ chunks) h = by (order-filter p chunks h.1) (p c)
  where
    by : AreInOrder (filter p chunks) → (b : Bool)
        → AreInOrder (cond b (c ∷ filter p chunks) (filter p chunks))
    by rest true = (all-filter (IsBefore c) p chunks h.0, rest)
    by rest false = rest

pub order-push : (chunks : List Chunk) (d : Chunk) → AreInOrder chunks
    → AllByRecursion (λ c. IsBefore c d) chunks → AreInOrder (chunks ++ d ∷ [])
order-push [] d h all = (tt, tt)
order-push (c ∷ chunks) d h all = (all-push (IsBefore c) chunks d h.0 all.0, order-push chunks d h.1 all.1)

-- a chunk that is found is the only one of its number
pub found-only : (p : Chunk → Bool) (chunks : List Chunk) (c : Chunk) → AreInOrder chunks
    → find p chunks ≡ Some c
    → AllByRecursion (λ d. (d.number == c.number) ≡ true → d ≡ c) chunks
found-only p [] c h e = tt
found-only p (d ∷ chunks) c h e = by (found-only p chunks c h.1) (p d) e
  where
    by :
        (find p chunks ≡ Some c
        → AllByRecursion (λ x. (x.number == c.number) ≡ true → x ≡ c) chunks)
        → (b : Bool) → cond b (Some d) (find p chunks) ≡ Some c
        → ((d.number == c.number) ≡ true → d ≡ c) × AllByRecursion
        (λ x. (x.number == c.number) ≡ true → x ≡ c) chunks
    by rest true f = (λ g. same_Some _ _ f, later chunks h.0)
      where
        later : (xs : List Chunk) → AllByRecursion (IsBefore d) xs
            → AllByRecursion (λ x. (x.number == c.number) ≡ true → x ≡ c) xs
        later [] all = tt
        later (x ∷ xs) all = (λ g. absurd (omega (arith, all.0.lower, eqb-true x.number c.number g, ap (λ y. y.number) (same_Some _ _ f))), later xs all.1)
    by rest false f = (λ g. absurd (omega (arith, (found-all (IsBefore d) p chunks c f h.0).lower, eqb-true d.number c.number g)), rest f)

-- ---- sums

abbrev pub total : (Chunk → ℕ) → List Chunk → ℕ
total w [] = 0
total w (c ∷ chunks) = w c + total w chunks

pub held-total : (chunks : List Chunk) → held_in chunks ≡ total (λ c. length c.entries) chunks
held-total [] = refl
held-total (c ∷ chunks) = ap (λ n. length c.entries + n) (held-total chunks)

pub bytes-total : (chunks : List Chunk)
    → bytes_in chunks ≡ total (λ c. size_of c.entries) chunks
bytes-total [] = refl
bytes-total (c ∷ chunks) = ap (λ n. size_of c.entries + n) (bytes-total chunks)

pub total-push : (w : Chunk → ℕ) (chunks : List Chunk) (d : Chunk)
    → total w (chunks ++ d ∷ []) ≡ total w chunks + w d
total-push w [] d = omega arith
total-push w (c ∷ chunks) d = omega (arith, total-push w chunks d)

pub total-map : (w : Chunk → ℕ) (f : Chunk → Chunk) → ((c : Chunk) → w (f c) ≡ w c)
    → (chunks : List Chunk) → total w (map f chunks) ≡ total w chunks
total-map w f h [] = refl
total-map w f h (c ∷ chunks) = λ i. h c i + total-map w f h chunks i

pub total-filter : (w : Chunk → ℕ) (p : Chunk → Bool) (chunks : List Chunk)
    → total w (filter p chunks) + total w (filter (λ c. not (p c)) chunks) ≡ total w chunks
total-filter w p [] = refl
total-filter w p (c ∷ chunks) = by (total-filter w p chunks) (p c)
  where
    by : total w (filter p chunks) + total w (filter (λ d. not (p d)) chunks) ≡ total w chunks
        → (b : Bool)
        → total w (cond b (c ∷ filter p chunks) (filter p chunks)) + total w
        (cond (not b) (c ∷ filter (λ d. not (p d)) chunks) (filter (λ d. not (p d)) chunks))
        ≡ w c + total w chunks
    by rest true = omega (arith, rest)
    by rest false = omega (arith, rest)

-- no chunk has the number
changed_none : (k : ℕ) (f : Chunk → Chunk) (w : Chunk → ℕ) (chunks : List Chunk)
    → AllByRecursion (λ c. (c.number == k) ≡ false) chunks
    → total w (changed (is_at k) f chunks) ≡ total w chunks
changed_none k f w [] all = refl
changed_none k f w (c ∷ chunks) all = λ i. w (cond (all.0 i) (f c) c) + changed_none k f w chunks all.1 i

-- one chunk has it
pub total-changed : (p : Chunk → Bool) (f : Chunk → Chunk) (w : Chunk
    → ℕ) (chunks : List Chunk) (c : Chunk) → AreInOrder chunks → find p chunks ≡ Some c
    → total w (changed (is_at c.number) f chunks) + w c ≡ total w chunks + w (f c)
total-changed p f w [] c h e = absurd (none e)
  where
    none : None ≡ Some c → ⊥
    none g = cc
total-changed p f w (d ∷ chunks) c h e = by (total-changed p f w chunks c h.1) (p d) e
  where
    by :
        (find p chunks ≡ Some c → total w (changed (is_at c.number) f chunks) + w c
        ≡ total w chunks + w (f c))
        → (b : Bool) → cond b (Some d) (find p chunks) ≡ Some c
        →
        (w (cond (d.number == c.number) (f d) d) + total w
        (changed (is_at c.number) f chunks)) + w c ≡
        (w d + total w chunks) + w (f c)
    by rest true g =
        let same : d ≡ c = same_Some _ _ g in
        let here : w (cond (d.number == c.number) (f d) d) ≡ w (f c) = ap (λ b. w (cond b (f d) d)) (ap (λ x. eqb d.number x.number) (sym same) ∙ eq_same d.number) ∙ ap (λ x. w (f x)) same in
        omega (arith, here, ap w same, changed_none c.number f w chunks (later chunks h.0))
      where
        later : (xs : List Chunk) → AllByRecursion (IsBefore d) xs
            → AllByRecursion (λ x. (x.number == c.number) ≡ false) xs
        later [] all = tt
        later (x ∷ xs) all = (not_from (x.number == c.number) (λ i. absurd (omega (arith, all.0.lower, eqb-true x.number c.number i, ap (λ y. y.number) (same_Some _ _ g)))), later xs all.1)
    by rest false g =
        let apart : (d.number == c.number) ≡ false = not_from (d.number == c.number) (λ i. absurd (omega (arith, (found-all (IsBefore d) p chunks c g h.0).lower, eqb-true d.number c.number i))) in
        omega (arith, ap (λ b. w (cond b (f d) d)) apart, rest g)

-- ---- joining

-- what holds while entries are added
pub record IsSorted (b : LiveBuffer) : Type 0 where
  pub in_order : AreInOrder b.chunks
  pub below : AllByRecursion (λ c. c.number < live_next_number b) b.chunks
  pub within : AllByRecursion (IsWithin b.setting.limits.chunk) b.chunks
  pub fresh : AllByRecursion IsFresh b.chunks
  pub counted : b.accepted ≡ b.settled + held_in b.chunks

abbrev pub with_entry : List ℕ → Chunk → Chunk
with_entry entry d = record d { entries = d.entries ++ entry ∷ [] }

module _ (b : LiveBuffer) (tag entry : List ℕ) (own : IsSorted b) where
  room_of : (c : Chunk) → find (may_take b tag entry) b.chunks ≡ Some c
      → nat_le (size_of c.entries + length entry) b.setting.limits.chunk ≡ true
  room_of c e = (and_parts (is_open_of tag c) (nat_le (size_of c.entries + length entry) b.setting.limits.chunk) (found-passes (may_take b tag entry) b.chunks c e)).1

  length_one : (entries : List (List ℕ)) → length (entries ++ entry ∷ []) ≡ length entries + 1
  length_one [] = refl
  length_one (x ∷ entries) = omega (arith, length_one entries)

  within-more : (c : Chunk) → find (may_take b tag entry) b.chunks ≡ Some c → (d : Chunk)
      → IsWithin b.setting.limits.chunk d × ((d.number == c.number) ≡ true → d ≡ c)
      → IsWithin b.setting.limits.chunk (cond (is_at c.number d) (with_entry entry d) d)
  within-more c e d is = by (d.number == c.number) refl
    where
      by : (t : Bool) → (d.number == c.number) ≡ t
          → IsWithin b.setting.limits.chunk (cond t (with_entry entry d) d)
      by true f = record {
        some = omega (arith, length_one d.entries);
        within = or_left (nat_le (size_of (d.entries ++ entry ∷ [])) b.setting.limits.chunk) (length (d.entries ++ entry ∷ []) == 1)
            (ap (λ n. nat_le n b.setting.limits.chunk) (size_of-push d.entries entry ∙ ap (λ x. size_of x.entries + length entry) (is.1 f)) ∙ room_of c e);
      }
      by false f = is.0

  joins-sorted : (c : Chunk) → find (may_take b tag entry) b.chunks ≡ Some c
      → IsSorted (live_adds_to b tag entry (Some c))
  joins-sorted c e = record {
    in_order = order-map (λ d. cond (is_at c.number d) (with_entry entry d) d) (λ d. number (is_at c.number d) d) (λ d. tags (is_at c.number d) d) (λ d s. shut (is_at c.number d) d s) b.chunks own.in_order;
    below = all-map (λ d. d.number < live_next_number b) (λ d. d.number < live_next_number b) (λ d. cond (is_at c.number d) (with_entry entry d) d) (λ d lt. subst (λ n. n < live_next_number b) (sym (number (is_at c.number d) d)) lt) b.chunks own.below;
    within = all-map (λ d. IsWithin b.setting.limits.chunk d × ((d.number == c.number) ≡ true → d ≡ c)) (IsWithin b.setting.limits.chunk) (λ d. cond (is_at c.number d) (with_entry entry d) d) (λ d is. within-more c e d is) b.chunks
        (all-both (IsWithin b.setting.limits.chunk) (λ d. (d.number == c.number) ≡ true → d ≡ c) b.chunks own.within (found-only (may_take b tag entry) b.chunks c own.in_order e));
    fresh = all-map IsFresh IsFresh (λ d. cond (is_at c.number d) (with_entry entry d) d) (λ d is. fresh (is_at c.number d) d is) b.chunks own.fresh;
    counted = omega (
      arith,
      own.counted,
      held-total b.chunks,
      held-total (changed (is_at c.number) (with_entry entry) b.chunks),
      length_one c.entries,
      total-changed (may_take b tag entry) (with_entry entry) (λ d. length d.entries) b.chunks c own.in_order e,
    );
  }
    where
      number : (t : Bool) (d : Chunk) → (cond t (with_entry entry d) d).number ≡ d.number
      number true d = refl
      number false d = refl

      tags : (t : Bool) (d : Chunk) → (cond t (with_entry entry d) d).tag ≡ d.tag
      tags true d = refl
      tags false d = refl

      shut : (t : Bool) (d : Chunk) → is_open d.stage ≡ false
          → is_open (cond t (with_entry entry d) d).stage ≡ false
      shut true d s = s
      shut false d s = s

      fresh : (t : Bool) (d : Chunk) → IsFresh d → IsFresh (cond t (with_entry entry d) d)
      fresh true d is = is
      fresh false d is = is

  abbrev pub closing_one : Chunk → Chunk
  closing_one d = cond (is_open_of tag d) (staged Closed d) d

  closed-number : (d : Chunk) → (closing_one d).number ≡ d.number
  closed-number d = by (is_open_of tag d)
    where
      by : (t : Bool) → (cond t (staged Closed d) d).number ≡ d.number
      by true = refl
      by false = refl

  pub closed-tag : (d : Chunk) → (closing_one d).tag ≡ d.tag
  closed-tag d = by (is_open_of tag d)
    where
      by : (t : Bool) → (cond t (staged Closed d) d).tag ≡ d.tag
      by true = refl
      by false = refl

  pub closed-entries : (d : Chunk) → (closing_one d).entries ≡ d.entries
  closed-entries d = by (is_open_of tag d)
    where
      by : (t : Bool) → (cond t (staged Closed d) d).entries ≡ d.entries
      by true = refl
      by false = refl

  closed-shut : (d : Chunk) → is_open d.stage ≡ false → is_open (closing_one d).stage ≡ false
  closed-shut d s = by (is_open_of tag d)
    where
      by : (t : Bool) → is_open (cond t (staged Closed d) d).stage ≡ false
      by true = refl
      by false = s

  closed-fresh : (d : Chunk) → IsFresh d → IsFresh (closing_one d)
  closed-fresh d is = by (is_open_of tag d)
    where
      by : (t : Bool) → IsFresh (cond t (staged Closed d) d)
      by true = λ e. absurd cc
      by false = is

  closed-first : (d : Chunk) → bytes_eq d.tag tag ≡ true → is_open (closing_one d).stage ≡ false
  closed-first d e = by (is_open d.stage) refl
    where
      by : (t : Bool) → is_open d.stage ≡ t
          → is_open (cond (is_open d.stage && bytes_eq d.tag tag) (staged Closed d) d).stage ≡ false
      by true f = (λ i. is_open (cond (f i && e i) (staged Closed d) d).stage)
      by false f = (λ i. is_open (cond (f i && bytes_eq d.tag tag) (staged Closed d) d).stage) ∙ f

  begins-sorted : IsSorted (live_adds_to b tag entry None)
  begins-sorted = record {
    in_order = order-push (map closing_one b.chunks) (first_chunk b tag entry) (order-map closing_one closed-number closed-tag closed-shut b.chunks own.in_order)
        (all-map (λ d. d.number < live_next_number b) (λ d. IsBefore d (first_chunk b tag entry)) closing_one
        (λ d lt. record { lower = omega (arith, closed-number d, lt); shut = λ e. closed-first d (ap (λ t. bytes_eq t tag) (sym (closed-tag d)) ∙ e) }) b.chunks own.below);
    below = all-push (λ d. d.number < live_next_number b + 1) (map closing_one b.chunks) (first_chunk b tag entry)
        (all-map (λ d. d.number < live_next_number b) (λ d. d.number < live_next_number b + 1) closing_one (λ d lt. omega (arith, closed-number d, lt)) b.chunks own.below) (omega arith);
    within = all-push (IsWithin b.setting.limits.chunk) (map closing_one b.chunks) (first_chunk b tag entry)
        (all-map (IsWithin b.setting.limits.chunk) (IsWithin b.setting.limits.chunk) closing_one (λ d is. keeps (closing_one d) d (closed-entries d) is) b.chunks own.within)
        (record { some = omega arith; within = one (nat_le (length entry + 0) b.setting.limits.chunk) });
    fresh = all-push IsFresh (map closing_one b.chunks) (first_chunk b tag entry) (all-map IsFresh IsFresh closing_one closed-fresh b.chunks own.fresh) (λ e. refl);
    counted = omega (
      arith,
      own.counted,
      held-total b.chunks,
      held-total (map closing_one b.chunks ++ first_chunk b tag entry ∷ []),
      total-push (λ d. length d.entries) (map closing_one b.chunks) (first_chunk b tag entry),
      total-map (λ d. length d.entries) closing_one (λ d. ap length (closed-entries d)) b.chunks,
    );
  }
    where
      keeps : (c d : Chunk) → c.entries ≡ d.entries → IsWithin b.setting.limits.chunk d
          → IsWithin b.setting.limits.chunk c
      keeps c d e is = record {
        some = subst (λ es. 0 < length es) (sym e) is.some;
        within = ap (λ es. nat_le (size_of es) b.setting.limits.chunk || (length es == 1)) e ∙ is.within;
      }

      one : (t : Bool) → (t || (1 == 1)) ≡ true
      one true = refl
      one false = refl

  pub adds-sorted : IsSorted (live_adds b tag entry)
  unfolding live_adds
  adds-sorted = by (find (may_take b tag entry) b.chunks) refl
    where
      by : (o : Option Chunk) → find (may_take b tag entry) b.chunks ≡ o
          → IsSorted (live_adds_to b tag entry o)
      by None e = begins-sorted
      by (Some c) e = joins-sorted c e

  pub adds-bytes : bytes_in (live_adds b tag entry).chunks ≡ bytes_in b.chunks + length entry
  unfolding live_adds
  adds-bytes = by (find (may_take b tag entry) b.chunks) refl
    where
      by : (o : Option Chunk) → find (may_take b tag entry) b.chunks ≡ o
          → bytes_in (live_adds_to b tag entry o).chunks ≡ bytes_in b.chunks + length entry
      by None e = omega (
        arith,
        bytes-total b.chunks,
        bytes-total (map closing_one b.chunks ++ first_chunk b tag entry ∷ []),
        total-push (λ d. size_of d.entries) (map closing_one b.chunks) (first_chunk b tag entry),
        total-map (λ d. size_of d.entries) closing_one (λ d. ap size_of (closed-entries d)) b.chunks,
      )
      by (Some c) e = omega (
        arith,
        bytes-total b.chunks,
        bytes-total (changed (is_at c.number) (with_entry entry) b.chunks),
        size_of-push c.entries entry,
        total-changed (may_take b tag entry) (with_entry entry) (λ d. size_of d.entries) b.chunks c own.in_order e,
      )

adds-setting : (b : LiveBuffer) (tag entry : List ℕ)
    → (live_adds b tag entry).setting ≡ b.setting
unfolding live_adds
adds-setting b tag entry = by (find (may_take b tag entry) b.chunks)
  where
    by : (o : Option Chunk) → (live_adds_to b tag entry o).setting ≡ b.setting
    by None = refl
    by (Some c) = refl

-- what is left once all entries are added
pub record Added (b c : LiveBuffer) (entries : List (List ℕ)) : Type 0 where
  pub sorted : IsSorted c
  pub bytes : bytes_in c.chunks ≡ bytes_in b.chunks + size_of entries
  pub setting : c.setting ≡ b.setting

pub adds_all-added : (entries : List (List ℕ)) (b : LiveBuffer) (tag : List ℕ) → IsSorted b
    → Added b (live_adds_all b tag entries) entries
adds_all-added [] b tag own = record { sorted = own; bytes = omega arith; setting = refl }
adds_all-added (entry ∷ entries) b tag own =
    let rest = adds_all-added entries (live_adds b tag entry) tag (adds-sorted b tag entry own) in
    record { sorted = rest.sorted; bytes = omega (arith, rest.bytes, adds-bytes b tag entry own); setting = rest.setting ∙ adds-setting b tag entry }

pub sorted : (b : LiveBuffer) (now : ℕ) → IsSound b → IsSorted (live_looks b now)
sorted b now own = record { in_order = own.in_order; below = own.below; within = own.within; fresh = own.fresh; counted = own.counted }

-- a request that is not refused
pub enters-sound : (b : LiveBuffer) (r : Request) (now : ℕ) → IsSound b
    → live_refusal b r now ≡ None → IsSound (live_enters b r now)
enters-sound b r now own e =
    let after = live_enters b r now in
    let is = adds_all-added r.entries (live_looks b now) r.tag (sorted b now own) in
    let free = no_fault (live_is_full b r) (live_is_spent after) e in
    let unspent = or_parts (nat_lt (2 ^ 64) (live_next_number after)) (nat_le (2 ^ 64) after.accepted) free.1 in
    let fits : bytes_in b.chunks + size_of r.entries ≤ b.setting.limits.total = ltb-false b.setting.limits.total (bytes_in b.chunks + size_of r.entries) free.0 in
    record {
      in_order = is.sorted.in_order;
      below = is.sorted.below;
      within = is.sorted.within;
      fresh = is.sorted.fresh;
      total = omega (arith, is.bytes, ap (λ s. s.limits.total) is.setting, fits);
      counted = is.sorted.counted;
      accepted = leb-false (2 ^ 64) after.accepted unspent.1;
      numbers = ltb-false (2 ^ 64) (live_next_number after) unspent.0;
    }
  where
    no_fault : (a c : Bool) → cond a (Some Full) (cond c (Some NumbersSpent) None) ≡ None
        → (a ≡ false) × (c ≡ false)
    no_fault true c f = absurd (some f)
      where
        some : Some Full ≡ None → ⊥
        some g = cc
    no_fault false true f = absurd (some f)
      where
        some : Some NumbersSpent ≡ None → ⊥
        some g = cc
    no_fault false false f = (refl, refl)

-- ---- the other events

-- a change of stages and losses alone, which opens no chunk
pub restaged-sound : (b : LiveBuffer) (f : Chunk → Chunk) (moment : ℕ)
    → ((c : Chunk) → (f c).number ≡ c.number) → ((c : Chunk) → (f c).tag ≡ c.tag)
    → ((c : Chunk) → (f c).entries ≡ c.entries)
    → ((c : Chunk) → is_open c.stage ≡ false → is_open (f c).stage ≡ false)
    → ((c : Chunk) → IsFresh c → IsFresh (f c)) → IsSound b
    → IsSound (record b { chunks = map f b.chunks; moment = moment })
restaged-sound b f moment number tag entries shut fresh own = record {
  in_order = order-map f number tag shut b.chunks own.in_order;
  below = all-map (λ d. d.number < live_next_number b) (λ d. d.number < live_next_number b) f (λ d lt. subst (λ n. n < live_next_number b) (sym (number d)) lt) b.chunks own.below;
  within = all-map (IsWithin b.setting.limits.chunk) (IsWithin b.setting.limits.chunk) f (λ d is. record {
    some = subst (λ es. 0 < length es) (sym (entries d)) is.some;
    within = ap (λ es. nat_le (size_of es) b.setting.limits.chunk || (length es == 1)) (entries d) ∙ is.within;
  }) b.chunks own.within;
  fresh = all-map IsFresh IsFresh f fresh b.chunks own.fresh;
  total = omega (arith, own.total, bytes-total b.chunks, bytes-total (map f b.chunks), total-map (λ d. size_of d.entries) f (λ d. ap size_of (entries d)) b.chunks);
  counted = omega (arith, own.counted, held-total b.chunks, held-total (map f b.chunks), total-map (λ d. length d.entries) f (λ d. ap length (entries d)) b.chunks);
  accepted = own.accepted;
  numbers = own.numbers;
}

-- where the test holds, the stage is one that takes no entries
pub changed-sound : (b : LiveBuffer) (test : Chunk → Bool) (f : Chunk → Chunk) (moment : ℕ)
    → ((c : Chunk) → (f c).number ≡ c.number) → ((c : Chunk) → (f c).tag ≡ c.tag)
    → ((c : Chunk) → (f c).entries ≡ c.entries)
    → ((c : Chunk) → is_open (f c).stage ≡ false) → IsSound b
    → IsSound (record b { chunks = changed test f b.chunks; moment = moment })
changed-sound b test f moment number tag entries shut own =
    restaged-sound b (λ c. cond (test c) (f c) c) moment (λ c. numbers (test c) c) (λ c. tags (test c) c) (λ c. contents (test c) c) (λ c s. shuts (test c) c s) (λ c is. stays (test c) c is) own
  where
    numbers : (t : Bool) (c : Chunk) → (cond t (f c) c).number ≡ c.number
    numbers true c = number c
    numbers false c = refl

    tags : (t : Bool) (c : Chunk) → (cond t (f c) c).tag ≡ c.tag
    tags true c = tag c
    tags false c = refl

    contents : (t : Bool) (c : Chunk) → (cond t (f c) c).entries ≡ c.entries
    contents true c = entries c
    contents false c = refl

    shuts : (t : Bool) (c : Chunk) → is_open c.stage ≡ false
        → is_open (cond t (f c) c).stage ≡ false
    shuts true c s = shut c
    shuts false c s = s

    stays : (t : Bool) (c : Chunk) → IsFresh c → IsFresh (cond t (f c) c)
    stays true c is = λ e. absurd (no (is_open (f c).stage) (shut c) e)
      where
        no : (b : Bool) → b ≡ false → b ≡ true → ⊥
        no b g h = cc
    stays false c is = is

pub flushes-sound : (b : LiveBuffer) (now : ℕ) (kind : FlushKind) → IsSound b
    → IsSound (live_flushes b now kind)
flushes-sound b now kind own = changed-sound b (live_closes (live_looks b now) kind) (staged Closed) (max b.moment now) (λ c. refl) (λ c. refl) (λ c. refl) (λ c. refl) own

pub looks-sound : (b : LiveBuffer) (now : ℕ) → IsSound b → IsSound (live_looks b now)
looks-sound b now own = record {
  in_order = own.in_order;
  below = own.below;
  within = own.within;
  fresh = own.fresh;
  total = own.total;
  counted = own.counted;
  accepted = own.accepted;
  numbers = own.numbers;
}

pub carries_more-sound : (b : LiveBuffer) (worker : ℕ) (o : Option Chunk) → IsSound b
    → IsSound (live_carries_more worker o b)
carries_more-sound b worker None own = own
carries_more-sound b worker (Some c) own = changed-sound b (is_at c.number) (staged (Taken worker)) b.moment (λ c. refl) (λ c. refl) (λ c. refl) (λ c. refl) own

pub takes-sound : (b : LiveBuffer) (worker : ℕ) (wanted : Wanted) (now : ℕ) → IsSound b
    → IsSound (live_takes b worker wanted now)
takes-sound b worker wanted now own = carries_more-sound (live_looks b now) worker (live_given_for (live_looks b now) wanted) (looks-sound b now own)

pub settles-sound : (b : LiveBuffer) (n : ℕ) → IsSound b → IsSound (live_settles b n)
settles-sound b n own = record {
  in_order = order-filter (λ c. not (is_at n c)) b.chunks own.in_order;
  below = all-filter (λ c. c.number < live_next_number b) (λ c. not (is_at n c)) b.chunks own.below;
  within = all-filter (IsWithin b.setting.limits.chunk) (λ c. not (is_at n c)) b.chunks own.within;
  fresh = all-filter IsFresh (λ c. not (is_at n c)) b.chunks own.fresh;
  total = omega (arith, own.total, bytes-total b.chunks, bytes-total (filter (λ c. not (is_at n c)) b.chunks), total-filter (λ c. size_of c.entries) (is_at n) b.chunks);
  counted = omega (arith, own.counted, held-total b.chunks, held-total (filter (is_at n) b.chunks), held-total (filter (λ c. not (is_at n c)) b.chunks), total-filter (λ c. length c.entries) (is_at n) b.chunks);
  accepted = own.accepted;
  numbers = own.numbers;
}

pub frees-sound : (b : LiveBuffer) (n : ℕ) (loss : Option ℕ) → IsSound b
    → IsSound (live_frees b n loss)
frees-sound b n None own = changed-sound b (is_at n) (staged Closed) b.moment (λ c. refl) (λ c. refl) (λ c. refl) (λ c. refl) own
frees-sound b n (Some now) own =
    changed-sound b (is_at n) (λ c. record c { stage = Closed; losses = Some (tally_more c.losses (max b.moment now)) }) (max b.moment now) (λ c. refl) (λ c. refl) (λ c. refl) (λ c. refl) own

pub opening-sound : (setting : BufferSetting) → setting.limits.first < 2 ^ 64
    → IsSound (live_opening setting)
opening-sound setting fits = record { in_order = tt; below = tt; within = tt; fresh = tt; total = omega arith; counted = refl; accepted = omega arith; numbers = omega (arith, fits) }

pub next-sound : (b : LiveBuffer) (event : BufferEvent) → IsSound b
    → IsSound (live_next b event)
next-sound b (Enter origin r now) own = by (live_refusal b r now) refl
  where
    by : (o : Option AdmitError) → live_refusal b r now ≡ o
        → IsSound (unless_refused o (live_enters b r now) b)
    by None e = enters-sound b r now own e
    by (Some fault) e = own
next-sound b (Flush now kind) own = flushes-sound b now kind own
next-sound b (Take worker wanted now) own = takes-sound b worker wanted now own
next-sound b (Settle number) own = by (is_some (live_carried b number))
  where
    by : (t : Bool) → IsSound (cond t (live_settles b number) b)
    by true = settles-sound b number own
    by false = own
next-sound b (Free number loss) own = by (is_some (live_carried b number))
  where
    by : (t : Bool) → IsSound (cond t (live_frees b number loss) b)
    by true = frees-sound b number loss own
    by false = own
