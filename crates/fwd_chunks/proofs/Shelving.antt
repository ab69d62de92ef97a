-- What places and the slab behind them say of slots.
use Rattle.std.proofs.Common.{◌≡◌, ◌≢◌, ◌⊎◌, ℕ, zero, suc, ◌+◌, ◌-◌, ◌<◌, ◌≤◌, Bool, true, false, cond, List, [], ◌∷◌, ◌++◌, length, map, get_or, Option, Some, None, IsSome, is_some, count_by, refl, sym, ap, ◌∙◌, subst, inl, inr, arith}
use Rattle.std.proofs.Math.ListN.{set}
use Rattle.std.specs.Prelude.{◌==◌, filter, find, option_map, slice_get, option_to_list, position}
use Rattle.std.specs.List.{AllByRecursion}
use Rattle.std.proofs.lemmas.Bool.{cases_eq, cases_lt, eqb-true}
use Rattle.std.proofs.lemmas.Option.{same_Some}
use Rattle.std.proofs.lemmas.List.{length-append, map-append}
use Rattle.std.proofs.lemmas.List.Sums.{sum_by-cons}
use Rattle.slab.specs.Slab.{Slab, get, slab_len, Updates, with_value}
use Rattle.slab.proofs.SlabLemmas.{Updates-with_value}
use Rattle.fwd_chunks.specs.declared.chunk.Chunk.{Chunk}
use Rattle.fwd_chunks.specs.declared.chunk_slab.ChunkPlace.{ChunkPlace}
use Rattle.fwd_chunks.specs.declared.chunk_slab.KeptChunk.{KeptChunk}
use Rattle.fwd_chunks.specs.Live.{is_at}
use Rattle.fwd_chunks.specs.Slots.{Slot, slot_of, chunk_in, revised, present, is_full, is_slot, IsLower, IsOwn, NumbersRise}
use Rattle.fwd_chunks.specs.Slabs.{SlabShown, StandsAt, chunk_of, numbered, slot_by, slots_by, place_by, AreLinked, IsThere, IsSlab}
use Rattle.fwd_chunks.proofs.Numbers.{not_from, true_false, eq_same}
use Rattle.fwd_chunks.proofs.Places.{none_some, get-past}
use Rattle.fwd_chunks.proofs.Search.{number-place}
use Rattle.fwd_chunks.proofs.Slotting.{find-slot, all-imply, present-append, present-full}

-- ---- by place

pub get-map : {X Y : Type 0} (f : X → Y) (xs : List X) (i : ℕ)
    → slice_get (map f xs) i ≡ option_map f (slice_get xs i)
get-map f [] i = refl
get-map f (x ∷ xs) zero = refl
get-map f (x ∷ xs) (suc i) = get-map f xs i

pub slots-at : (kept : Slab KeptChunk) (places : List ChunkPlace) (i : ℕ) (p : ChunkPlace)
    → slice_get places i ≡ Some p → slice_get (slots_by kept places) i ≡ Some (slot_by kept p)
slots-at kept places i p e = get-map (slot_by kept) places i ∙ ap (option_map (slot_by kept)) e

pub numbered-self : (c : Chunk) → numbered c.number (Some c) ≡ Some c
numbered-self c = ap (λ b. cond b (Some c) None) (eq_same c.number)

pub numbered-same : (n : ℕ) (c : Chunk) → c.number ≡ n → numbered n (Some c) ≡ Some c
numbered-same n c e = ap (λ b. cond b (Some c) None) (ap (λ k. k == n) e ∙ eq_same n)

pub numbered-other : (n : ℕ) (c : Chunk) → c.number ≢ n → numbered n (Some c) ≡ None
numbered-other n c apart = ap (λ b. cond b (Some c) None) (not_from (c.number == n) (λ e. apart (eqb-true c.number n e)))

-- the slot of a number that is told
pub number-slot : (xs : List Slot) (i n : ℕ) → option_map (λ s. s.number) (slice_get xs i) ≡ Some n
    → (s : Slot) × (slice_get xs i ≡ Some s) × (s.number ≡ n)
number-slot xs i n e = by (slice_get xs i) refl e
  where
    by : (o : Option Slot) → slice_get xs i ≡ o → option_map (λ s. s.number) o ≡ Some n
        → (s : Slot) × (slice_get xs i ≡ Some s) × (s.number ≡ n)
    by None f g = absurd (none_some g)
    by (Some s) f g = (s, f, same_Some _ _ g)

-- the slot of a chunk that lies at a key
pub linked-at : (places : List ChunkPlace) (kept : Slab KeptChunk) → AreLinked places kept → (key : ℕ) (k : KeptChunk)
    → get kept key ≡ Some k → slice_get (slots_by kept places) k.place ≡ Some (slot_of k.chunk)
linked-at places kept linked key k e =
    slots-at kept places k.place (place_by key k) (linked key k e)
    ∙ ap (λ o. Some (record { number = k.chunk.number; chunk = o })) (ap (λ o. numbered k.chunk.number (chunk_of o)) e ∙ numbered-self k.chunk)

pub linked-place : (places : List ChunkPlace) (kept : Slab KeptChunk) → AreLinked places kept
    → NumbersRise (slots_by kept places) → (n key : ℕ) (k : KeptChunk) → get kept key ≡ Some k
    → k.chunk.number ≡ n → position (is_slot n) (slots_by kept places) ≡ Some k.place
linked-place places kept linked rise n key k e same =
    number-place (slots_by kept places) n k.place (slot_of k.chunk) rise (linked-at places kept linked key k e) same

-- ---- a write at a key

-- a key says nothing of other numbers
abbrev pub IsOf : ℕ → Option KeptChunk → Type 0
IsOf n o = (m : ℕ) → m ≢ n → numbered m (chunk_of o) ≡ None

pub none-of : (n : ℕ) → IsOf n None
none-of n m apart = refl

pub some-of : (n : ℕ) (k : KeptChunk) → k.chunk.number ≡ n → IsOf n (Some k)
some-of n k same m apart = numbered-other m k.chunk (λ e. apart (sym e ∙ same))

module _ (old new : Slab KeptChunk) (key n : ℕ) (slot : Option KeptChunk) (updates : Updates old new key slot) (was : IsOf n (get old key)) (is : IsOf n slot) where
  pub slot-other : (p : ChunkPlace) → p.number ≢ n → slot_by new p ≡ slot_by old p
  slot-other p apart = ap (λ o. record { number = p.number; chunk = o }) (elim (cases_eq p.key key) [
    | inl same ↦
        ap (λ k. numbered p.number (chunk_of (get new k))) same
        ∙ ap (λ o. numbered p.number (chunk_of o)) updates.changed
        ∙ is p.number apart
        ∙ sym (was p.number apart)
        ∙ ap (λ k. numbered p.number (chunk_of (get old k))) (sym same)
    | inr differs ↦ ap (λ o. numbered p.number (chunk_of o)) (updates.others p.key differs)
  ])

  pub slots-other : (places : List ChunkPlace) → AllByRecursion (λ s. s.number ≢ n) (slots_by old places)
      → slots_by new places ≡ slots_by old places
  slots-other [] apart = refl
  slots-other (p ∷ places) apart = λ j. slot-other p apart.0 j ∷ slots-other places apart.1 j

  above-apart : (m : ℕ) (slots : List Slot) (s : Slot) → s.number ≡ n → AllByRecursion (IsLower s) slots
      → AllByRecursion (λ t. t.number ≢ n) slots
  above-apart m [] s same all = tt
  above-apart m (t ∷ slots) s same all = ((λ e. omega (arith, all.0, same, e)), above-apart m slots s same all.1)

  below-apart : (s : Slot) (slots : List Slot) (i : ℕ) (t : Slot) → AllByRecursion (IsLower s) slots
      → slice_get slots i ≡ Some t → t.number ≡ n → s.number ≢ n
  below-apart s [] i t all e same = absurd (none_some e)
  below-apart s (u ∷ slots) zero t all e same = λ f. omega (arith, all.0, same, f, ap (λ v. v.number) (same_Some _ _ e))
  below-apart s (u ∷ slots) (suc i) t all e same = below-apart s slots i t all.1 e same

  -- the slot of the number changes, and no other
  pub slots-written : (f : Option Chunk → Option Chunk) (places : List ChunkPlace) (i : ℕ)
      → slice_get places i ≡ Some (record { number = n; key = key })
      → numbered n (chunk_of slot) ≡ f (numbered n (chunk_of (get old key)))
      → NumbersRise (slots_by old places)
      → slots_by new places ≡ revised i f (slots_by old places)
  slots-written f [] i at becomes rise = absurd (none_some at)
  slots-written f (p ∷ places) zero at becomes rise =
      let same : p ≡ record { number = n; key = key } = same_Some _ _ at in
      let number : p.number ≡ n = ap (λ q. q.number) same in
      let head : slot_by new p ≡ record { number = p.number; chunk = f (slot_by old p).chunk } =
      ap (λ o. record { number = p.number; chunk = o })
      (ap (λ q. numbered q.number (chunk_of (get new q.key))) same
      ∙ ap (λ o. numbered n (chunk_of o)) updates.changed ∙ becomes
      ∙ ap (λ q. f (numbered q.number (chunk_of (get old q.key)))) (sym same)) in
      λ j. head j ∷ slots-other places (above-apart n (slots_by old places) (slot_by old p) number rise.0) j
  slots-written f (p ∷ places) (suc i) at becomes rise =
      let apart = below-apart (slot_by old p) (slots_by old places) i (slot_by old (record { number = n; key = key })) rise.0 (slots-at old places i (record { number = n; key = key }) at) refl in
      λ j. slot-other p apart j ∷ slots-written f places i at becomes rise.1 j

-- ---- what stands at a place

-- no chunk stands there, so none changes
pub revised-none : (f : Chunk → Chunk) (xs : List Slot) (i : ℕ) → chunk_in (slice_get xs i) ≡ None
    → revised i (option_map f) xs ≡ xs
revised-none f [] i e = refl
revised-none f (x ∷ xs) zero e = λ j. record { number = x.number; chunk = (ap (option_map f) e ∙ sym e) j } ∷ xs
revised-none f (x ∷ xs) (suc i) e = ap (λ l. x ∷ l) (revised-none f xs i e)

pub emptied-none : (xs : List Slot) (i : ℕ) → chunk_in (slice_get xs i) ≡ None
    → revised i (λ o. None) xs ≡ xs
emptied-none [] i e = refl
emptied-none (x ∷ xs) zero e = λ j. record { number = x.number; chunk = sym e j } ∷ xs
emptied-none (x ∷ xs) (suc i) e = ap (λ l. x ∷ l) (emptied-none xs i e)

-- a chunk that changes is one still
count-revised : (f : Chunk → Chunk) (xs : List Slot) (i : ℕ)
    → length (present (revised i (option_map f) xs)) ≡ length (present xs)
count-revised f [] i = refl
count-revised f (x ∷ xs) zero = by x.chunk
  where
    by : (o : Option Chunk) → length (option_to_list (option_map f o) ++ present xs)
        ≡ length (option_to_list o ++ present xs)
    by None = refl
    by (Some c) = refl
count-revised f (x ∷ xs) (suc i) = by x.chunk (count-revised f xs i)
  where
    by : (o : Option Chunk) → length (present (revised i (option_map f) xs)) ≡ length (present xs)
        → length (option_to_list o ++ present (revised i (option_map f) xs))
        ≡ length (option_to_list o ++ present xs)
    by None rest = rest
    by (Some c) rest = ap suc rest

-- one that leaves is one less
count-emptied : (xs : List Slot) (i : ℕ) (c : Chunk) → chunk_in (slice_get xs i) ≡ Some c
    → length (present xs) ≡ suc (length (present (revised i (λ o. None) xs)))
count-emptied [] i c e = absurd (none_some e)
count-emptied (x ∷ xs) zero c e = ap (λ o. length (option_to_list o ++ present xs)) e
count-emptied (x ∷ xs) (suc i) c e = by x.chunk (count-emptied xs i c e)
  where
    by : (o : Option Chunk)
        → length (present xs) ≡ suc (length (present (revised i (λ o'. None) xs)))
        → length (option_to_list o ++ present xs)
        ≡ suc (length (option_to_list o ++ present (revised i (λ o'. None) xs)))
    by None rest = rest
    by (Some d) rest = ap suc rest

-- ---- another value at a key

len-set : {X : Type 0} (slots : List (Option X)) (key : ℕ) (x y : X) → get_or slots key None ≡ Some x
    → count_by is_some (set slots key (Some y)) ≡ count_by is_some slots
len-set [] key x y e = refl
len-set (None ∷ slots) zero x y e = absurd (none_some e)
len-set (Some z ∷ slots) zero x y e = omega (arith, sum_by-cons (λ o. cond (is_some o) 1 0) (Some y) slots, sum_by-cons (λ o. cond (is_some o) 1 0) (Some z) slots)
len-set (o ∷ slots) (suc key) x y e =
    omega (arith, len-set slots key x y e, sum_by-cons (λ p. cond (is_some p) 1 0) o slots, sum_by-cons (λ p. cond (is_some p) 1 0) o (set slots key (Some y)))

-- a chunk changes that lies at a key
module _ (places : List ChunkPlace) (kept : Slab KeptChunk) (own : IsSlab places kept) (rise : NumbersRise (slots_by kept places)) (i key : ℕ) (stands : StandsAt places kept i key) where
  abbrev k : KeptChunk
  k = stands.0

  abbrev p : ChunkPlace
  p = place_by key k

  at : slice_get places i ≡ Some p
  at = stands.2

  lies : get kept key ≡ Some k
  lies = stands.1

  pub lies-there : chunk_in (slice_get (slots_by kept places) i) ≡ Some k.chunk
  lies-there =
      ap chunk_in (slots-at kept places i p at)
      ∙ ap (λ o. numbered p.number (chunk_of o)) lies
      ∙ numbered-self k.chunk

  module _ (f : Chunk → Chunk) (d : Chunk) (is : d ≡ f k.chunk) (numbers : (f k.chunk).number ≡ k.chunk.number) where
    abbrev next : KeptChunk
    next = record { chunk = d; place = k.place }

    updates : Updates kept (with_value kept key next) key (Some next)
    updates = Updates-with_value kept key next (subst IsSome (sym lies) refl)

    number-is : d.number ≡ p.number
    number-is = ap (λ c. c.number) is ∙ numbers

    pub put-slots : slots_by (with_value kept key next) places
        ≡ revised i (option_map f) (slots_by kept places)
    put-slots =
        slots-written kept (with_value kept key next) key p.number (Some next) updates
        (subst (IsOf p.number) (sym lies) (some-of p.number k refl))
        (some-of p.number next number-is)
        (option_map f) places i at
        (numbered-same p.number d number-is ∙ ap Some is ∙ ap (option_map f) (sym (numbered-self k.chunk)) ∙ ap (λ o. option_map f (numbered p.number (chunk_of o))) (sym lies))
        rise

    pub put-len : slab_len (with_value kept key next) ≡ slab_len kept
    put-len = len-set kept.slots key k next lies

    pub put-shelved : IsSlab places (with_value kept key next)
    put-shelved = record {
      linked = λ other l e. elim (cases_eq other key) [
        | inl here ↦
            let is_next : l ≡ next = same_Some _ _ (sym e ∙ ap (get (with_value kept key next)) here ∙ updates.changed) in
            ap (λ m. slice_get places m.place) is_next
            ∙ own.linked key k lies
            ∙ (λ j. Some (record { number = (sym number-is ∙ ap (λ m. m.chunk.number) (sym is_next)) j; key = sym here j }))
        | inr differs ↦ own.linked other l (sym (updates.others other differs) ∙ e)
      ];
      counted = put-len ∙ own.counted ∙ sym (count-revised f (slots_by kept places) i) ∙ ap (λ l. length (present l)) (sym put-slots);
    }

-- ---- what is shown

-- what places and the slab show
abbrev pub seen : List ChunkPlace → ℕ → Slab KeptChunk → SlabShown
seen places cap kept = record {
  slots = slots_by kept places;
  cap = cap;
  spare = kept.capacity - slab_len kept;
}

-- no chunk stands at the place
module _ (places : List ChunkPlace) (kept : Slab KeptChunk) (i : ℕ) where
  pub no-place : slice_get places i ≡ None → chunk_in (slice_get (slots_by kept places) i) ≡ None
  no-place e = ap chunk_in (get-map (slot_by kept) places i ∙ ap (option_map (slot_by kept)) e)

  module _ (p : ChunkPlace) (at : slice_get places i ≡ Some p) where
    pub no-key : get kept p.key ≡ None → chunk_in (slice_get (slots_by kept places) i) ≡ None
    no-key e = ap chunk_in (slots-at kept places i p at) ∙ ap (λ o. numbered p.number (chunk_of o)) e

    pub no-number : (k : KeptChunk) → get kept p.key ≡ Some k → k.chunk.number ≢ p.number
        → chunk_in (slice_get (slots_by kept places) i) ≡ None
    no-number k e apart =
        ap chunk_in (slots-at kept places i p at)
        ∙ ap (λ o. numbered p.number (chunk_of o)) e
        ∙ numbered-other p.number k.chunk apart

-- the chunk at the place's key is the place's
pub stands-at : (places : List ChunkPlace) (kept : Slab KeptChunk) (i : ℕ) (p : ChunkPlace) (k : KeptChunk)
    → slice_get places i ≡ Some p → get kept p.key ≡ Some k → k.chunk.number ≡ p.number
    → StandsAt places kept i p.key
stands-at places kept i p k at lies same = (k, lies, at ∙ (λ j. Some (record { number = sym same j; key = p.key })))

-- so nothing changes
pub still-shown : (f : Chunk → Chunk) (places : List ChunkPlace) (cap : ℕ) (kept : Slab KeptChunk) (i : ℕ)
    → chunk_in (slice_get (slots_by kept places) i) ≡ None
    → seen places cap kept
    ≡ record (seen places cap kept) { slots = revised i (option_map f) (slots_by kept places) }
still-shown f places cap kept i none = λ j. record (seen places cap kept) { slots = sym (revised-none f (slots_by kept places) i none) j }

-- a chunk that changes is shown so
pub put-shown : (places : List ChunkPlace) (cap : ℕ) (kept : Slab KeptChunk) → IsSlab places kept
    → NumbersRise (slots_by kept places) → (i key : ℕ)
    → (stands : StandsAt places kept i key) → (f : Chunk → Chunk) → (d : Chunk)
    → d ≡ f stands.0.chunk → (f stands.0.chunk).number ≡ stands.0.chunk.number
    → seen places cap (with_value kept key (record { chunk = d; place = stands.0.place }))
    ≡ record (seen places cap kept) { slots = revised i (option_map f) (slots_by kept places) }
put-shown places cap kept own rise i key stands f d is numbers = λ j. record {
  slots = put-slots places kept own rise i key stands f d is numbers j;
  cap = cap;
  spare = kept.capacity - put-len places kept own rise i key stands f d is numbers j;
}

-- what is read at the key is what stands there
abbrev pub stands-with : (places : List ChunkPlace) (kept : Slab KeptChunk) (i key : ℕ) → StandsAt places kept i key
    → (k : KeptChunk) → get kept key ≡ Some k → StandsAt places kept i key
stands-with places kept i key stands k lies =
    (k, lies, stands.2 ∙ (λ j. Some (place_by key (same_Some stands.0 k (sym stands.1 ∙ lies) j))))

-- ---- by number

-- each chunk has its slot's number
pub own-slots : (kept : Slab KeptChunk) (places : List ChunkPlace) → AllByRecursion IsOwn (slots_by kept places)
own-slots kept [] = tt
own-slots kept (p ∷ places) = (by (chunk_of (get kept p.key)), own-slots kept places)
  where
    by : (o : Option Chunk)
        → AllByRecursion (λ c. c.number ≡ p.number) (option_to_list (numbered p.number o))
    by None = tt
    by (Some c) = at (c.number == p.number) refl
      where
        at : (b : Bool) → (c.number == p.number) ≡ b
            → AllByRecursion (λ d. d.number ≡ p.number) (option_to_list (cond b (Some c) None))
        at true e = (eqb-true c.number p.number e, tt)
        at false e = tt

-- the chunk that lies at a key is its number's
pub linked-found : (places : List ChunkPlace) (kept : Slab KeptChunk) → AreLinked places kept
    → NumbersRise (slots_by kept places) → (n key : ℕ) (k : KeptChunk) → get kept key ≡ Some k
    → k.chunk.number ≡ n → Some k.chunk ≡ find (is_at n) (present (slots_by kept places))
linked-found places kept linked rise n key k e same =
    sym (find-slot (slots_by kept places) k.place (slot_of k.chunk) rise (own-slots kept places) (linked-at places kept linked key k e))
    ∙ ap (λ m. find (is_at m) (present (slots_by kept places))) same

-- ---- a chunk that leaves

module _ (places : List ChunkPlace) (kept : Slab KeptChunk) (own : IsSlab places kept) (rise : NumbersRise (slots_by kept places)) (i key : ℕ) (stands : StandsAt places kept i key) (after : Slab KeptChunk) (updates : Updates kept after key None) (len : slab_len after + 1 ≡ slab_len kept) where
  pub taken-slots : slots_by after places ≡ revised i (λ o. None) (slots_by kept places)
  taken-slots =
      slots-written kept after key stands.0.chunk.number None updates
      (subst (IsOf stands.0.chunk.number) (sym stands.1) (some-of stands.0.chunk.number stands.0 refl))
      (none-of stands.0.chunk.number) (λ o. None) places i stands.2 refl rise

  pub taken-shelved : IsSlab places after
  taken-shelved = record {
    linked = λ other l e. elim (cases_eq other key) [
      | inl here ↦ absurd (none_some (sym updates.changed ∙ ap (get after) (sym here) ∙ e))
      | inr differs ↦ own.linked other l (sym (updates.others other differs) ∙ e)
    ];
    counted = omega (arith, len, own.counted, count-emptied (slots_by kept places) i stands.0.chunk (lies-there places kept own rise i key stands), ap (λ l. length (present l)) taken-slots);
  }

-- ---- a chunk that comes

get-front : {X : Type 0} (xs ys : List X) (i : ℕ) (x : X) → slice_get xs i ≡ Some x
    → slice_get (xs ++ ys) i ≡ Some x
get-front [] ys i x e = absurd (none_some e)
get-front (z ∷ xs) ys zero x e = e
get-front (z ∷ xs) ys (suc i) x e = get-front xs ys i x e

get-behind : {X : Type 0} (xs : List X) (x : X) → slice_get (xs ++ x ∷ []) (length xs) ≡ Some x
get-behind [] x = refl
get-behind (z ∷ xs) x = get-behind xs x

module _ (places : List ChunkPlace) (kept : Slab KeptChunk) (own : IsSlab places kept) (c : Chunk) (key : ℕ) (after : Slab KeptChunk) (vacant : get kept key ≡ None) (updates : Updates kept after key (Some (record { chunk = c; place = length places }))) (len : slab_len after ≡ slab_len kept + 1) (above : AllByRecursion (λ s. s.number < c.number) (slots_by kept places)) where
  abbrev fresh : ChunkPlace
  fresh = record { number = c.number; key = key }

  pub pushed-slots : slots_by after (places ++ fresh ∷ []) ≡ slots_by kept places ++ slot_of c ∷ []
  pushed-slots =
      let same : slots_by after places ≡ slots_by kept places =
      slots-other kept after key c.number (Some (record { chunk = c; place = length places })) updates
      (subst (IsOf c.number) (sym vacant) (none-of c.number))
      (some-of c.number (record { chunk = c; place = length places }) refl) places
      (all-imply (λ s. s.number < c.number) (λ s. s.number ≢ c.number) (λ s lt e. omega (arith, lt, e)) (slots_by kept places) above) in
      let new : slot_by after fresh ≡ slot_of c = ap (λ o. record { number = c.number; chunk = o }) (ap (λ o. numbered c.number (chunk_of o)) updates.changed ∙ numbered-self c) in
      map-append (slot_by after) places (fresh ∷ []) ∙ (λ j. same j ++ new j ∷ [])

  pub pushed-shelved : IsSlab (places ++ fresh ∷ []) after
  pushed-shelved = record {
    linked = λ other l e. elim (cases_eq other key) [
      | inl here ↦
          let is_new : l ≡ record { chunk = c; place = length places } = same_Some _ _ (sym e ∙ ap (get after) here ∙ updates.changed) in
          ap (λ m. slice_get (places ++ fresh ∷ []) m.place) is_new
          ∙ get-behind places fresh
          ∙ (λ j. Some (record { number = ap (λ m. m.chunk.number) (sym is_new) j; key = sym here j }))
      | inr differs ↦ get-front places (fresh ∷ []) l.place (place_by other l) (own.linked other l (sym (updates.others other differs) ∙ e))
    ];
    counted = omega (arith, len, own.counted, ap (λ l. length (present l)) pushed-slots, ap length (present-append (slots_by kept places) (slot_of c ∷ [])), length-append (present (slots_by kept places)) (c ∷ []));
  }

-- ---- chunks are told their places

all-at : {X : Type 0} (P : X → Type 0) (xs : List X) (i : ℕ) (x : X) → AllByRecursion P xs
    → slice_get xs i ≡ Some x → P x
all-at P [] i x all e = absurd (none_some e)
all-at P (y ∷ xs) zero x all e = subst P (same_Some _ _ e) all.0
all-at P (y ∷ xs) (suc i) x all e = all-at P xs i x all.1 e

-- a full slot's chunk lies at its key
full-there : (kept : Slab KeptChunk) (p : ChunkPlace) → is_full (slot_by kept p) ≡ true
    → (k : KeptChunk) × (get kept p.key ≡ Some k) × (k.chunk.number ≡ p.number)
full-there kept p = by (get kept p.key) refl
  where
    by : (o : Option KeptChunk) → get kept p.key ≡ o → is_some (numbered p.number (chunk_of o)) ≡ true
        → (k : KeptChunk) × (get kept p.key ≡ Some k) × (k.chunk.number ≡ p.number)
    by None e full = absurd (true_false false full refl)
    by (Some k) e full = at (k.chunk.number == p.number) refl full
      where
        at : (b : Bool) → (k.chunk.number == p.number) ≡ b
            → is_some (cond b (Some k.chunk) None) ≡ true
            → (l : KeptChunk) × (get kept p.key ≡ Some l) × (l.chunk.number ≡ p.number)
        at true f full = (k, e, eqb-true k.chunk.number p.number f)
        at false f full = absurd (true_false false full refl)

-- each chunk knows its place, or has one from this on
abbrev pub AreLinking : ℕ → List ChunkPlace → Slab KeptChunk → Type 0
AreLinking from places kept =
    (key : ℕ) (k : KeptChunk) → get kept key ≡ Some k
    → (slice_get places k.place ≡ Some (place_by key k))
    ⊎ ((i : ℕ) × (from ≤ i) × (slice_get places i ≡ Some (place_by key k)))

-- what holds of the slab while chunks are told their places
pub record Linking (from : ℕ) (places : List ChunkPlace) (old now : Slab KeptChunk) : Type 0 where
  pub linking : AreLinking from places now
  pub chunks : (key : ℕ) → chunk_of (get now key) ≡ chunk_of (get old key)
  pub count : slab_len now ≡ slab_len old
  pub capacity : now.capacity ≡ old.capacity

pub linking-start : (places : List ChunkPlace) (kept : Slab KeptChunk) → IsThere places kept
    → Linking 0 places kept kept
linking-start places kept there = record {
  linking = λ key k e. (let at = there key k e in inr (at.0, omega arith, at.1));
  chunks = λ key. refl;
  count = refl;
  capacity = refl;
}

pub linking-end : (from : ℕ) (places : List ChunkPlace) (old now : Slab KeptChunk) → length places ≤ from
    → Linking from places old now → AreLinked places now
linking-end from places old now past h = λ key k e. elim (h.linking key k e) [
  | inl done ↦ done
  | inr later ↦ absurd (none_some (sym (get-past places later.0 (omega (arith, past, later.1))) ∙ later.2))
]

-- the chunk at a key is told its place
module _ (i : ℕ) (places : List ChunkPlace) (old now : Slab KeptChunk) (h : Linking i places old now) (full : AllByRecursion (λ p. is_full (slot_by old p) ≡ true) places) (p : ChunkPlace) (at : slice_get places i ≡ Some p) where
  pub linking-there : (k : KeptChunk) × (get now p.key ≡ Some k) × (k.chunk.number ≡ p.number)
  linking-there =
      full-there now p (ap (λ o. is_some (numbered p.number o)) (h.chunks p.key) ∙ all-at (λ q. is_full (slot_by old q) ≡ true) places i p full at)

  module _ (k : KeptChunk) (lies : get now p.key ≡ Some k) where
    abbrev told : KeptChunk
    told = record { chunk = k.chunk; place = i }

    abbrev telling : Slab KeptChunk
    telling = with_value now p.key told

    told-updates : Updates now telling p.key (Some told)
    told-updates = Updates-with_value now p.key told (subst IsSome (sym lies) refl)

    told-number : p.number ≡ k.chunk.number
    told-number = (let there = linking-there in sym there.2 ∙ ap (λ m. m.chunk.number) (same_Some _ _ (sym there.1 ∙ lies)))

    pub linking-next : Linking (i + 1) places old (with_value now p.key (record { chunk = k.chunk; place = i }))
    linking-next = record {
      linking = λ other l e. elim (cases_eq other p.key) [
        | inl here ↦
            let is_next : l ≡ told = same_Some _ _ (sym e ∙ ap (get telling) here ∙ told-updates.changed) in
            inl (ap (λ m. slice_get places m.place) is_next ∙ at
            ∙ (λ j. Some (record { number = (told-number ∙ ap (λ m. m.chunk.number) (sym is_next)) j; key = sym here j })))
        | inr differs ↦ elim (h.linking other l (sym (told-updates.others other differs) ∙ e)) [
          | inl done ↦ inl done
          | inr later ↦ elim (cases_lt i later.0) [
            | inl past ↦ inr (later.0, omega (arith, past), later.2)
            | inr le ↦
                let same : later.0 ≡ i = omega (arith, le, later.1) in
                let is_p : p ≡ place_by other l = same_Some _ _ (sym at ∙ ap (slice_get places) (sym same) ∙ later.2) in
                absurd (differs (sym (ap (λ q. q.key) is_p)))
          ]
        ]
      ];
      chunks = λ other. elim (cases_eq other p.key) [
        | inl here ↦ ap (λ m. chunk_of (get telling m)) here ∙ ap chunk_of told-updates.changed ∙ ap chunk_of (sym lies) ∙ h.chunks p.key ∙ ap (λ m. chunk_of (get old m)) (sym here)
        | inr differs ↦ ap chunk_of (told-updates.others other differs) ∙ h.chunks other
      ];
      count = len-set now.slots p.key k told lies ∙ h.count;
      capacity = h.capacity;
    }

-- ---- the empty slots leave

-- whether a place's chunk is there
abbrev pub is_kept : Slab KeptChunk → ChunkPlace → Bool
is_kept kept p = is_full (slot_by kept p)

all-kept : {X : Type 0} (test : X → Bool) (xs : List X) → AllByRecursion (λ x. test x ≡ true) (filter test xs)
all-kept test [] = tt
all-kept test (x ∷ xs) = by (test x) refl (all-kept test xs)
  where
    by : (b : Bool) → test x ≡ b → AllByRecursion (λ y. test y ≡ true) (filter test xs)
        → AllByRecursion (λ y. test y ≡ true) (cond b (x ∷ filter test xs) (filter test xs))
    by true e rest = (e, rest)
    by false e rest = rest

kept-at : {X : Type 0} (test : X → Bool) (xs : List X) (i : ℕ) (x : X) → slice_get xs i ≡ Some x
    → test x ≡ true → (j : ℕ) × (slice_get (filter test xs) j ≡ Some x)
kept-at test [] i x e t = absurd (none_some e)
kept-at test (y ∷ xs) zero x e t =
    let same : y ≡ x = same_Some _ _ e in
    (0, ap (λ b. slice_get (cond b (y ∷ filter test xs) (filter test xs)) 0) (ap test same ∙ t) ∙ e)
kept-at test (y ∷ xs) (suc i) x e t = by (test y) (kept-at test xs i x e t)
  where
    by : (b : Bool) → (j : ℕ) × (slice_get (filter test xs) j ≡ Some x)
        → (j : ℕ) × (slice_get (cond b (y ∷ filter test xs) (filter test xs)) j ≡ Some x)
    by true rest = (suc rest.0, rest.1)
    by false rest = rest

map-filter : {X Y : Type 0} (f : X → Y) (test : Y → Bool) (xs : List X)
    → map f (filter (λ x. test (f x)) xs) ≡ filter test (map f xs)
map-filter f test [] = refl
map-filter f test (x ∷ xs) = by (test (f x)) (map-filter f test xs)
  where
    by : (b : Bool) → map f (filter (λ y. test (f y)) xs) ≡ filter test (map f xs)
        → map f (cond b (x ∷ filter (λ y. test (f y)) xs) (filter (λ y. test (f y)) xs))
        ≡ cond b (f x ∷ filter test (map f xs)) (filter test (map f xs))
    by true rest = ap (λ l. f x ∷ l) rest
    by false rest = rest

same-chunks : (old new : Slab KeptChunk) → ((key : ℕ) → chunk_of (get new key) ≡ chunk_of (get old key))
    → (places : List ChunkPlace) → slots_by new places ≡ slots_by old places
same-chunks old new same [] = refl
same-chunks old new same (p ∷ places) = λ j. record { number = p.number; chunk = numbered p.number (same p.key j) } ∷ same-chunks old new same places j

module _ (places : List ChunkPlace) (kept : Slab KeptChunk) (own : IsSlab places kept) where
  pub kept-full : AllByRecursion (λ p. is_kept kept p ≡ true) (filter (is_kept kept) places)
  kept-full = all-kept (is_kept kept) places

  pub kept-there : IsThere (filter (is_kept kept) places) kept
  kept-there = λ key k e.
      kept-at (is_kept kept) places k.place (place_by key k) (own.linked key k e)
      (ap (λ o. is_some (numbered k.chunk.number (chunk_of o))) e ∙ ap is_some (numbered-self k.chunk))

  module _ (after : Slab KeptChunk) (chunks : (key : ℕ) → chunk_of (get after key) ≡ chunk_of (get kept key)) where
    pub kept-slots : slots_by after (filter (is_kept kept) places) ≡ filter is_full (slots_by kept places)
    kept-slots =
        same-chunks kept after chunks (filter (is_kept kept) places)
        ∙ map-filter (slot_by kept) is_full places

    pub kept-shelved : AreLinked (filter (is_kept kept) places) after → slab_len after ≡ slab_len kept
        → IsSlab (filter (is_kept kept) places) after
    kept-shelved linked len = record {
      linked = linked;
      counted = len ∙ own.counted ∙ sym (ap length (present-full (slots_by kept places))) ∙ ap (λ l. length (present l)) (sym kept-slots);
    }
