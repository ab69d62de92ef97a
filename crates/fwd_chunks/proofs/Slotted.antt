-- What a write, a slot more and fewer empty slots leave.
use Rattle.std.proofs.Common.{◌≡◌, ℕ, zero, suc, ◌+◌, ◌-◌, ◌<◌, ◌≤◌, ◌^◌, cond, List, [], ◌∷◌, ◌++◌, length, map, Option, Some, None, refl, sym, ap, ◌∙◌, subst, arith}
use Rattle.std.proofs.Math.ListN.{set}
use Rattle.std.specs.List.{AllByRecursion}
use Rattle.std.specs.Prelude.{IsSomeAnd, min, option_map, filter, find, not, is_some, slice_get, option_to_list, position, replicate}
use Rattle.std.proofs.lemmas.List.{length-set, length-append, length-map, length-replicate}
use Rattle.fwd_chunks.specs.declared.chunk.Chunk.{Chunk}
use Rattle.fwd_base.specs.declared.retry.Retry.{Retry}
use Rattle.fwd_chunks.specs.Slots.{Slot}
use Rattle.fwd_chunks.specs.Cells.{number_after}
use Rattle.fwd_chunks.specs.Live.{is_at, changed}
use Rattle.fwd_chunks.specs.Slots.{Held, KeyLists, slot_of, keyed, noted, chunk_in, revised, present, is_slot, is_full, ready_key, due_key, key_by, padded, NumbersRise, IsOwn, IsTimed, IsSlotted}
use Rattle.fwd_chunks.proofs.Sounding.{all-filter}
use Rattle.fwd_chunks.proofs.Places.{none_some, place-within}
use Rattle.fwd_chunks.proofs.Search.{number-read}
use Rattle.fwd_chunks.proofs.Slotting.{present-append, find-slot, changed-slot, changed-empty, removed-slot, set-rising, set-own, own-at, set-timed, timed-at, set-below, keys-set, keys-same, keys-long, keys-push, keys-padded, rising-more, rising-full, all-more, all-imply}
use Rattle.std.proofs.lemmas.Option.{same_Some}

-- what slots show
abbrev pub shown : List Slot → KeyLists → Option ℕ → ℕ → Held
shown slots keys last spare = record {
  retry = keys.retry;
  chunks = present slots;
  last = last;
  room = min (length keys.ready - length slots) spare;
}

-- the keys once none does
abbrev pub cleared : KeyLists → ℕ → KeyLists
cleared keys i = record {
  retry = keys.retry;
  ready = set keys.ready i None;
  due = set keys.due i None;
}

set-at : {X : Type 0} (xs : List X) (i : ℕ) (x : X) → slice_get xs i ≡ Some x → set xs i x ≡ xs
set-at [] i x e = refl
set-at (y ∷ xs) zero x e = ap (λ z. z ∷ xs) (sym (same_Some _ _ e))
set-at (y ∷ xs) (suc i) x e = ap (λ l. y ∷ l) (set-at xs i x e)

-- a slot that changes is written
revised-set : (xs : List Slot) (i : ℕ) (f : Option Chunk → Option Chunk) (s : Slot)
    → slice_get xs i ≡ Some s → revised i f xs ≡ set xs i (record s { chunk = f s.chunk })
revised-set [] i f s e = refl
revised-set (x ∷ xs) zero f s e = λ j. record { number = (same_Some _ _ e j).number; chunk = f (same_Some _ _ e j).chunk } ∷ xs
revised-set (x ∷ xs) (suc i) f s e = ap (λ l. x ∷ l) (revised-set xs i f s e)

pub revised-get : (xs : List Slot) (i : ℕ) (f : Option Chunk → Option Chunk) (s : Slot)
    → slice_get xs i ≡ Some s → chunk_in (slice_get (revised i f xs) i) ≡ f s.chunk
revised-get [] i f s e = absurd (none_some e)
revised-get (x ∷ xs) zero f s e = ap (λ y. f y.chunk) (same_Some _ _ e)
revised-get (x ∷ xs) (suc i) f s e = revised-get xs i f s e

-- a place that a search answers has a slot
slot-there : (xs : List Slot) (i : ℕ) → i < length xs → (s : Slot) × (slice_get xs i ≡ Some s)
slot-there [] i lt = absurd (omega (arith, lt))
slot-there (x ∷ xs) zero lt = (x, refl)
slot-there (x ∷ xs) (suc i) lt = slot-there xs i (omega (arith, lt))

-- the chunk of a number, by its place
pub found-at : (xs : List Slot) (n i : ℕ) → NumbersRise xs → AllByRecursion IsOwn xs
    → position (is_slot n) xs ≡ Some i → find (is_at n) (present xs) ≡ chunk_in (slice_get xs i)
found-at xs n i rise own place =
    let there = slot-there xs i (place-within (is_slot n) xs i place) in
    ap (λ k. find (is_at k) (present xs)) (sym (number-read xs n i there.0 place there.1))
    ∙ find-slot xs i there.0 rise own there.1
    ∙ sym (ap chunk_in there.1)

-- the slot of a number, by its place
module _ (xs : List Slot) (cap : ℕ) (keys : KeyLists) (last : Option ℕ) (own : IsSlotted xs cap keys last) (n i : ℕ) (place : position (is_slot n) xs ≡ Some i) where
  slot-within : i < length xs
  slot-within = place-within (is_slot n) xs i place

  abbrev s : Slot
  s = (slot-there xs i slot-within).0

  slot-at : slice_get xs i ≡ Some s
  slot-at = (slot-there xs i slot-within).1

  slot-number : s.number ≡ n
  slot-number = number-read xs n i s place slot-at

  pub ready-within : i < length keys.ready
  ready-within = omega (arith, slot-within, keys-long (ready_key keys.retry) xs keys.ready own.ready)

  pub due-within : i < length keys.due
  due-within = omega (arith, ready-within, own.places)

  chunk-is : chunk_in (slice_get xs i) ≡ s.chunk
  chunk-is = ap chunk_in slot-at

  pub found-slot : find (is_at n) (present xs) ≡ chunk_in (slice_get xs i)
  found-slot = found-at xs n i own.rising own.own place

  changed-slotted : (c d : Chunk) → s.chunk ≡ Some c → d.number ≡ c.number → d.since ≡ c.since
      → IsSlotted (set xs i (record s { chunk = Some d })) cap (keyed keys i d) last
  changed-slotted c d full same began = record {
    rising = set-rising xs i s (Some d) own.rising slot-at;
    own = set-own xs i s (Some d) own.own (same ∙ own-at xs i s c own.own slot-at full, tt);
    timed = set-timed xs i s (Some d) own.timed (subst (λ m. m < 2 ^ 64) (sym began) (timed-at xs i s c own.timed slot-at full), tt);
    below = set-below xs i s (Some d) (number_after 0 last) own.below slot-at;
    ready = keys-set (ready_key keys.retry) xs keys.ready i s (Some d) own.ready slot-at;
    due = keys-set due_key xs keys.due i s (Some d) own.due slot-at;
    places = length-set keys.due i (due_key d) ∙ own.places ∙ sym (length-set keys.ready i (ready_key keys.retry d));
    enough = omega (arith, length-set keys.ready i (ready_key keys.retry d), own.enough);
  }

  changed-shown : (c d : Chunk) (f : Chunk → Chunk) (spare : ℕ) → s.chunk ≡ Some c → d ≡ f c
      → shown (set xs i (record s { chunk = Some d })) (keyed keys i d) last spare ≡ record
      (shown xs keys last spare) { chunks = changed (is_at n) f (present xs) }
  changed-shown c d f spare full e =
      let chunks : present (set xs i (record s { chunk = Some d })) ≡ changed (is_at n) f (present xs) =
      ap (λ b. present (set xs i (record s { chunk = Some b }))) e ∙ changed-slot xs i s c f own.rising own.own slot-at full ∙ ap (λ k. changed (is_at k) f (present xs)) slot-number in
      λ j. record {
        retry = keys.retry;
        chunks = chunks j;
        last = last;
        room = min (length-set keys.ready i (ready_key keys.retry d) j - length-set xs i (record s { chunk = Some d }) j) spare;
      }

  -- an empty slot is written as it was
  written : s.chunk ≡ None → set xs i (record s { chunk = None }) ≡ xs
  written empty = ap (λ o. set xs i (record s { chunk = o })) (sym empty) ∙ set-at xs i s slot-at

  changed-none : (f : Chunk → Chunk) → s.chunk ≡ None
      → changed (is_at n) f (present xs) ≡ present xs
  changed-none f empty = ap (λ k. changed (is_at k) f (present xs)) (sym slot-number) ∙ changed-empty xs i s f own.rising own.own slot-at empty

  -- a change of the chunk, if there is one
  module _ (f : Chunk → Chunk) (same : (c : Chunk) → (f c).number ≡ c.number) (began : (c : Chunk) → (f c).since ≡ c.since) where
    slotted-by : (o : Option Chunk) → s.chunk ≡ o
        → IsSlotted (set xs i (record s { chunk = option_map f o })) cap (noted i (option_map f o) keys) last
    slotted-by None e = subst (λ l. IsSlotted l cap keys last) (sym (written e)) own
    slotted-by (Some c) e = changed-slotted c (f c) e (same c) (began c)

    pub put-slotted : IsSlotted (revised i (option_map f) xs) cap
        (noted i (chunk_in (slice_get (revised i (option_map f) xs) i)) keys) last
    put-slotted =
        subst (λ o. IsSlotted (revised i (option_map f) xs) cap (noted i o keys) last) (sym (revised-get xs i (option_map f) s slot-at))
        (subst (λ l. IsSlotted l cap (noted i (option_map f s.chunk) keys) last) (sym (revised-set xs i (option_map f) s slot-at)) (slotted-by s.chunk refl))

    shown-by : (spare : ℕ) (o : Option Chunk) → s.chunk ≡ o
        → shown (set xs i (record s { chunk = option_map f o })) (noted i (option_map f o) keys) last spare
        ≡ record (shown xs keys last spare) { chunks = changed (is_at n) f (present xs) }
    shown-by spare None e =
        ap (λ l. shown l keys last spare) (written e)
        ∙ (λ j. record (shown xs keys last spare) { chunks = sym (changed-none f e) j })
    shown-by spare (Some c) e = changed-shown c (f c) f spare e refl

    pub put-shown : (spare : ℕ) → shown (revised i (option_map f) xs)
        (noted i (chunk_in (slice_get (revised i (option_map f) xs) i)) keys) last spare
        ≡ record (shown xs keys last spare) { chunks = changed (is_at n) f (present xs) }
    put-shown spare =
        (λ j. shown (revised-set xs i (option_map f) s slot-at j) (noted i (revised-get xs i (option_map f) s slot-at j) keys) last spare)
        ∙ shown-by spare s.chunk refl

    -- the keys of a chunk that stays open as long as it was
    kept-keys : (c : Chunk) → chunk_in (slice_get xs i) ≡ Some c
        → ready_key keys.retry (f c) ≡ ready_key keys.retry c → due_key (f c) ≡ due_key c
        → noted i (chunk_in (slice_get (revised i (option_map f) xs) i)) keys ≡ keys
    kept-keys c full ready due =
        let here : s.chunk ≡ Some c = sym chunk-is ∙ full in
        ap (λ o. noted i o keys) (revised-get xs i (option_map f) s slot-at ∙ ap (option_map f) here)
        ∙ (λ j. record {
          retry = keys.retry;
          ready = keys-same (ready_key keys.retry) xs keys.ready i s (ready_key keys.retry (f c)) own.ready slot-at (ready ∙ ap (key_by (ready_key keys.retry)) (sym here)) j;
          due = keys-same due_key xs keys.due i s (due_key (f c)) own.due slot-at (due ∙ ap (key_by due_key) (sym here)) j;
        })

    pub still-keys : IsSomeAnd (chunk_in (slice_get xs i)) (λ c. (ready_key keys.retry (f c) ≡ ready_key keys.retry c)
        × (due_key (f c) ≡ due_key c))
        → noted i (chunk_in (slice_get (revised i (option_map f) xs) i)) keys ≡ keys
    still-keys = by (chunk_in (slice_get xs i)) (λ c e ready due. kept-keys c e ready due) refl
      where
        by : (o : Option Chunk)
            → ((c : Chunk) → chunk_in (slice_get xs i) ≡ Some c
            → ready_key keys.retry (f c) ≡ ready_key keys.retry c → due_key (f c) ≡ due_key c
            → noted i (chunk_in (slice_get (revised i (option_map f) xs) i)) keys ≡ keys)
            → chunk_in (slice_get xs i) ≡ o
            → IsSomeAnd o (λ c. (ready_key keys.retry (f c) ≡ ready_key keys.retry c)
            × (due_key (f c) ≡ due_key c))
            → noted i (chunk_in (slice_get (revised i (option_map f) xs) i)) keys ≡ keys
        by None kept e h = absurd h
        by (Some c) kept e h = kept c e h.0 h.1

  emptied : revised i (λ o. None) xs ≡ set xs i (record s { chunk = None })
  emptied = revised-set xs i (λ o. None) s slot-at

  pub removed-slotted : IsSlotted (revised i (λ o. None) xs) cap (cleared keys i) last
  removed-slotted = subst (λ l. IsSlotted l cap (cleared keys i) last) (sym emptied) (record {
    rising = set-rising xs i s None own.rising slot-at;
    own = set-own xs i s None own.own tt;
    timed = set-timed xs i s None own.timed tt;
    below = set-below xs i s None (number_after 0 last) own.below slot-at;
    ready = keys-set (ready_key keys.retry) xs keys.ready i s None own.ready slot-at;
    due = keys-set due_key xs keys.due i s None own.due slot-at;
    places = length-set keys.due i None ∙ own.places ∙ sym (length-set keys.ready i None);
    enough = omega (arith, length-set keys.ready i None, own.enough);
  })

  pub removed-chunks : present (revised i (λ o. None) xs) ≡ filter (λ c. not (is_at n c)) (present xs)
  removed-chunks = ap present emptied ∙ removed-slot xs i s own.rising own.own slot-at ∙ ap (λ k. filter (λ c. not (is_at k c)) (present xs)) slot-number

  -- a slot that was empty stays so
  pub still-empty : chunk_in (slice_get xs i) ≡ None → revised i (λ o. None) xs ≡ xs
  still-empty none = emptied ∙ written (sym chunk-is ∙ none)

-- ---- a slot behind all others

module _ (xs : List Slot) (cap : ℕ) (keys : KeyLists) (last : Option ℕ) (own : IsSlotted xs cap keys last) (c : Chunk) (room : length xs < length keys.ready) (above : number_after 0 last ≤ c.number) (fits : c.since < 2 ^ 64) where
  pub pushed-slotted : IsSlotted (xs ++ slot_of c ∷ []) cap (keyed keys (length xs) c) (Some c.number)
  pushed-slotted = record {
    rising = rising-more xs (slot_of c) own.rising (all-imply (λ t. t.number < number_after 0 last) (λ t. t.number < c.number) (λ t lt. omega (arith, lt, above)) xs own.below);
    own = all-more IsOwn xs (slot_of c) own.own (refl, tt);
    timed = all-more IsTimed xs (slot_of c) own.timed (fits, tt);
    below = all-more (λ t. t.number < c.number + 1) xs (slot_of c) (all-imply (λ t. t.number < number_after 0 last) (λ t. t.number < c.number + 1) (λ t lt. omega (arith, lt, above)) xs own.below) (omega arith);
    ready = keys-push (ready_key keys.retry) xs keys.ready (slot_of c) own.ready room;
    due = keys-push due_key xs keys.due (slot_of c) own.due (omega (arith, room, own.places));
    places = length-set keys.due (length xs) (due_key c) ∙ own.places ∙ sym (length-set keys.ready (length xs) (ready_key keys.retry c));
    enough = omega (arith, length-set keys.ready (length xs) (ready_key keys.retry c), own.enough);
  }

  pub pushed-shown : (spare : ℕ)
      → shown (xs ++ slot_of c ∷ []) (keyed keys (length xs) c) (Some c.number) (spare - 1) ≡ record {
        retry = keys.retry;
        chunks = present xs ++ c ∷ [];
        last = Some c.number;
        room = min (length keys.ready - length xs) spare - 1;
      }
  pushed-shown spare =
      let left : min (length (set keys.ready (length xs) (ready_key keys.retry c)) - length (xs ++ slot_of c ∷ [])) (spare - 1) ≡ min (length keys.ready - length xs) spare - 1 =
      omega (arith, length-set keys.ready (length xs) (ready_key keys.retry c), length-append xs (slot_of c ∷ [])) in
      λ j. record {
        retry = keys.retry;
        chunks = present-append xs (slot_of c ∷ []) j;
        last = Some c.number;
        room = left j;
      }

-- ---- without the empty slots

full-count : (xs : List Slot) → length (filter is_full xs) ≡ length (present xs)
full-count [] = refl
full-count (x ∷ xs) = by x.chunk refl (full-count xs)
  where
    by : (o : Option Chunk) → x.chunk ≡ o → length (filter is_full xs) ≡ length (present xs)
        → length (cond (is_some x.chunk) (x ∷ filter is_full xs) (filter is_full xs)) ≡ length
        (option_to_list x.chunk ++ present xs)
    by None e rest = ap (λ o. length (cond (is_some o) (x ∷ filter is_full xs) (filter is_full xs))) e ∙ rest ∙ ap (λ o. length (option_to_list o ++ present xs)) (sym e)
    by (Some c) e rest = ap (λ o. length (cond (is_some o) (x ∷ filter is_full xs) (filter is_full xs))) e ∙ ap suc rest ∙ ap (λ o. length (option_to_list o ++ present xs)) (sym e)

padded-length : (places : ℕ) (ks : List (Option ℕ)) → length ks ≤ places
    → length (padded places ks) ≡ places
padded-length places ks le =
    let none : Option ℕ = None in
    omega (arith, length-append ks (replicate (places - length ks) none), length-replicate (places - length ks) none, le)

-- the keys of the chunks that are there, at so many places
abbrev pub fresh_keys : Retry → List Slot → ℕ → KeyLists
fresh_keys retry xs places = record {
  retry = retry;
  ready = padded places (map (ready_key retry) (present xs));
  due = padded places (map due_key (present xs));
}

module _ (xs : List Slot) (cap more : ℕ) (keys : KeyLists) (last : Option ℕ) (own : IsSlotted xs cap keys last) (places : ℕ) (few : length (present xs) ≤ places) (wide : places ≤ more) where
  ready-length : length (padded places (map (ready_key keys.retry) (present xs))) ≡ places
  ready-length = padded-length places (map (ready_key keys.retry) (present xs)) (omega (arith, length-map (present xs) (ready_key keys.retry), few))

  due-length : length (padded places (map due_key (present xs))) ≡ places
  due-length = padded-length places (map due_key (present xs)) (omega (arith, length-map (present xs) due_key, few))

  pub compact-slotted : IsSlotted (filter is_full xs) more (fresh_keys keys.retry xs places) last
  compact-slotted = record {
    rising = rising-full is_full xs own.rising;
    own = all-filter IsOwn is_full xs own.own;
    timed = all-filter IsTimed is_full xs own.timed;
    below = all-filter (λ t. t.number < number_after 0 last) is_full xs own.below;
    ready = keys-padded (ready_key keys.retry) xs places;
    due = keys-padded due_key xs places;
    places = due-length ∙ sym ready-length;
    enough = omega (arith, ready-length, wide);
  }

  pub compact-room : length (padded places (map (ready_key keys.retry) (present xs))) - length
      (filter is_full xs) ≡ places - length (present xs)
  compact-room = omega (arith, ready-length, full-count xs)
