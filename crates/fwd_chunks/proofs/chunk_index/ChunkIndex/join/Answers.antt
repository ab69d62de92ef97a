use Rattle.std.proofs.Common.{refl, ◌≡◌, ℕ, Bool, List, Option, option_map, position, find, Some, None, IsSomeAnd, sym, ap, ◌∙◌, subst, cond, true, false}
use Rattle.std.specs.Prelude.{slice_get}
use Rattle.fwd_chunks.specs.declared.chunk.Chunk.{Chunk}
use Rattle.fwd_chunks.specs.declared.chunk_state.ChunkState.{ChunkState}
use Rattle.fwd_chunks.specs.declared.chunk_state.ChunkState.TheVariants.{Open, Closed, Taken}
use Rattle.fwd_chunks.specs.Live.{is_at, changed, is_open, is_closed}
use Rattle.fwd_chunks.specs.Filling.{joined_by, stage_last}
use Rattle.fwd_chunks.specs.Parts.{entries_in}
use Rattle.fwd_chunks.specs.Slabs.{SlabShown}
use Rattle.fwd_chunks.specs.Slots.{Held, IsSlotted, chunk_in, is_slot, noted, revised, ready_key, due_key}
use Rattle.fwd_base.specs.declared.retry.Retry.{Retry}
use Rattle.fwd_base.specs.Tallies.{end_of_wait}
use Rattle.fwd_chunks.proofs.Numbers.{true_false}
use Rattle.fwd_chunks.proofs.Slotting.{changed-absent}
use Rattle.fwd_chunks.proofs.Slotted.{shown, ready-within, due-within, found-slot, put-slotted, put-shown, still-keys}
use Rattle.fwd_chunks.proofs.chunk_index.ChunkIndex.join.Goals as goal

pub returns-in_default-clause-ok : goal.returns-in_default-clause-ok
returns-in_default-clause-ok c =
    let nowhere : position (is_slot c.args.number) c.self.inside.slab.slots ≡ None = sym c.place_of.ensures ∙ c.in_default.is in
    sym c.self.view_is
    ∙ (λ j. record (shown c.self.inside.slab.slots c.self.inside.ready_index c.self.inside.last c.self.inside.slab.spare) { chunks = sym (changed-absent c.self.inside.slab.slots c.args.number (joined_by (entries_in c.args.front) (stage_last c.args.last)) c.self.invariant.own nowhere) j })
    ∙ ap (λ (h : Held). record h { chunks = changed (is_at c.args.number) (joined_by (entries_in c.args.front) (stage_last c.args.last)) h.chunks }) c.self.view_is

pub join-requires-clause-fits : goal.join-requires-clause-fits
join-requires-clause-fits c =
    let place : position (is_slot c.args.number) c.self.inside.slab.slots ≡ Some c.in-Some.place = sym c.place_of.ensures ∙ c.in-Some.is in
    λ d e. c.requires d (ap (λ (h : Held). find (is_at c.args.number) h.chunks) (sym c.self.view_is)
    ∙ found-slot c.self.inside.slab.slots c.self.inside.slab.cap c.self.inside.ready_index c.self.inside.last c.self.invariant c.args.number c.in-Some.place place ∙ e)

pub note-requires-clause-ready : goal.note-requires-clause-ready
note-requires-clause-ready c =
    let place : position (is_slot c.args.number) c.self.inside.slab.slots ≡ Some c.in-Some.place = sym c.place_of.ensures ∙ c.in-Some.is in
    ready-within c.self.inside.slab.slots c.self.inside.slab.cap c.self.inside.ready_index c.self.inside.last c.self.invariant c.args.number c.in-Some.place place

pub note-requires-clause-due : goal.note-requires-clause-due
note-requires-clause-due c =
    let place : position (is_slot c.args.number) c.self.inside.slab.slots ≡ Some c.in-Some.place = sym c.place_of.ensures ∙ c.in-Some.is in
    due-within c.self.inside.slab.slots c.self.inside.slab.cap c.self.inside.ready_index c.self.inside.last c.self.invariant c.args.number c.in-Some.place place

pub invariant_of-self-then-not-stays : goal.invariant_of-self-then-not-stays
invariant_of-self-then-not-stays c =
    let place : position (is_slot c.args.number) c.self.inside.slab.slots ≡ Some c.in-Some.place = sym c.place_of.ensures ∙ c.in-Some.is in
    rw (c.note.ensures, c.in_ok-join.ensures.ok)
    (put-slotted c.self.inside.slab.slots c.self.inside.slab.cap c.self.inside.ready_index c.self.inside.last c.self.invariant c.args.number c.in-Some.place place (joined_by (entries_in c.args.front) (stage_last c.args.last)) (λ d. refl) (λ d. refl))

pub returns-then-not-stays-clause-ok : goal.returns-then-not-stays-clause-ok
returns-then-not-stays-clause-ok c =
    let place : position (is_slot c.args.number) c.self.inside.slab.slots ≡ Some c.in-Some.place = sym c.place_of.ensures ∙ c.in-Some.is in
    ap (λ k. shown c.join.new.self.slots k c.self.inside.last c.join.new.self.spare) c.note.ensures
    ∙ ap (λ (h : SlabShown). shown h.slots (noted c.in-Some.place (chunk_in (slice_get h.slots c.in-Some.place)) c.self.inside.ready_index) c.self.inside.last h.spare) c.in_ok-join.ensures.ok
    ∙ put-shown c.self.inside.slab.slots c.self.inside.slab.cap c.self.inside.ready_index c.self.inside.last c.self.invariant c.args.number c.in-Some.place place (joined_by (entries_in c.args.front) (stage_last c.args.last)) (λ d. refl) (λ d. refl) c.self.inside.slab.spare
    ∙ ap (λ (h : Held). record h { chunks = changed (is_at c.args.number) (joined_by (entries_in c.args.front) (stage_last c.args.last)) h.chunks }) c.self.view_is

open-is : (s : ChunkState) → is_open s ≡ true → s ≡ Open
open-is Open e = refl
open-is Closed e = absurd (true_false false e refl)
open-is (Taken worker) e = absurd (true_false false e refl)

-- a chunk that stays open has the keys that it had
keeps : (retry : Retry) (entries : List (List ℕ)) (last : Bool) (o : Option Chunk)
    → IsSomeAnd o (λ c. is_open c.stage ≡ true) → last ≡ true
    → IsSomeAnd o (λ c.
    (ready_key retry (joined_by entries (stage_last last) c) ≡ ready_key retry c)
    × (due_key (joined_by entries (stage_last last) c) ≡ due_key c))
keeps retry entries last None opened shut = absurd opened
keeps retry entries last (Some c) opened shut =
    let stage : stage_last last ≡ c.stage = ap stage_last shut ∙ sym (open-is c.stage opened) in (
      λ j. cond (is_closed (stage j)) (end_of_wait retry c.losses) None,
      λ j. cond (is_open (stage j)) (Some c.since) None,
    )

pub invariant_of-self-else-not-stays : goal.invariant_of-self-else-not-stays
invariant_of-self-else-not-stays c =
    let place : position (is_slot c.args.number) c.self.inside.slab.slots ≡ Some c.in-Some.place = sym c.place_of.ensures ∙ c.in-Some.is in
    let stays = c.stays_open-stays.ensures c.if-not-stays.false in
    let opened : IsSomeAnd (chunk_in (slice_get c.self.inside.slab.slots c.in-Some.place)) (λ d. is_open d.stage ≡ true) = subst (λ o. IsSomeAnd o (λ d. is_open d.stage ≡ true)) c.get.ensures stays.0 in
    let kept = still-keys c.self.inside.slab.slots c.self.inside.slab.cap c.self.inside.ready_index c.self.inside.last c.self.invariant c.args.number c.in-Some.place place (joined_by (entries_in c.args.front) (stage_last c.args.last)) (λ d. refl) (λ d. refl) (keeps c.self.inside.ready_index.retry (entries_in c.args.front) c.args.last (chunk_in (slice_get c.self.inside.slab.slots c.in-Some.place)) opened stays.1) in
    rw c.in_ok-join.ensures.ok
    (subst (λ k. IsSlotted (revised c.in-Some.place (option_map (joined_by (entries_in c.args.front) (stage_last c.args.last))) c.self.inside.slab.slots) c.self.inside.slab.cap k c.self.inside.last) kept
    (put-slotted c.self.inside.slab.slots c.self.inside.slab.cap c.self.inside.ready_index c.self.inside.last c.self.invariant c.args.number c.in-Some.place place (joined_by (entries_in c.args.front) (stage_last c.args.last)) (λ d. refl) (λ d. refl)))

pub returns-else-not-stays-clause-ok : goal.returns-else-not-stays-clause-ok
returns-else-not-stays-clause-ok c =
    let place : position (is_slot c.args.number) c.self.inside.slab.slots ≡ Some c.in-Some.place = sym c.place_of.ensures ∙ c.in-Some.is in
    let stays = c.stays_open-stays.ensures c.if-not-stays.false in
    let opened : IsSomeAnd (chunk_in (slice_get c.self.inside.slab.slots c.in-Some.place)) (λ d. is_open d.stage ≡ true) = subst (λ o. IsSomeAnd o (λ d. is_open d.stage ≡ true)) c.get.ensures stays.0 in
    let kept = still-keys c.self.inside.slab.slots c.self.inside.slab.cap c.self.inside.ready_index c.self.inside.last c.self.invariant c.args.number c.in-Some.place place (joined_by (entries_in c.args.front) (stage_last c.args.last)) (λ d. refl) (λ d. refl) (keeps c.self.inside.ready_index.retry (entries_in c.args.front) c.args.last (chunk_in (slice_get c.self.inside.slab.slots c.in-Some.place)) opened stays.1) in
    ap (λ (h : SlabShown). shown h.slots c.self.inside.ready_index c.self.inside.last h.spare) c.in_ok-join.ensures.ok
    ∙ ap (λ k. shown (revised c.in-Some.place (option_map (joined_by (entries_in c.args.front) (stage_last c.args.last))) c.self.inside.slab.slots) k c.self.inside.last c.self.inside.slab.spare) (sym kept)
    ∙ put-shown c.self.inside.slab.slots c.self.inside.slab.cap c.self.inside.ready_index c.self.inside.last c.self.invariant c.args.number c.in-Some.place place (joined_by (entries_in c.args.front) (stage_last c.args.last)) (λ d. refl) (λ d. refl) c.self.inside.slab.spare
    ∙ ap (λ (h : Held). record h { chunks = changed (is_at c.args.number) (joined_by (entries_in c.args.front) (stage_last c.args.last)) h.chunks }) c.self.view_is
