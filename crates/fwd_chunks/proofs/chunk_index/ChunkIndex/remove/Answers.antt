use Rattle.std.proofs.Common.{◌≡◌, ◌-◌, length, position, filter, find, not, Some, None, sym, ap, ◌∙◌}
use Rattle.std.specs.Prelude.{min, slice_get}
use Rattle.fwd_chunks.specs.Live.{is_at}
use Rattle.fwd_chunks.specs.Slots.{Held, chunk_in, present, is_slot}
use Rattle.fwd_chunks.proofs.Slotting.{find-absent, removed-absent}
use Rattle.fwd_chunks.proofs.Slotted.{shown, ready-within, due-within, found-slot, removed-slotted, removed-chunks, still-empty}
use Rattle.fwd_chunks.proofs.chunk_index.ChunkIndex.remove.Goals as goal

pub returns-in_err-place-clause-result : goal.returns-in_err-place-clause-result
returns-in_err-place-clause-result c =
    let nowhere : position (is_slot c.args.number) c.self.inside.slab.slots ≡ None = sym c.place_of.ensures ∙ c.in_err-place.was in
    c.from_residual.ensures
    ∙ sym (find-absent c.self.inside.slab.slots c.args.number c.self.invariant.own nowhere)
    ∙ ap (λ (h : Held). find (is_at c.args.number) h.chunks) c.self.view_is

pub returns-in_err-place-clause-left : goal.returns-in_err-place-clause-left
returns-in_err-place-clause-left c =
    let nowhere : position (is_slot c.args.number) c.self.inside.slab.slots ≡ None = sym c.place_of.ensures ∙ c.in_err-place.was in
    sym c.self.view_is
    ∙ (λ j. record (shown c.self.inside.slab.slots c.self.inside.ready_index c.self.inside.last c.self.inside.slab.spare) { chunks = sym (removed-absent c.self.inside.slab.slots c.args.number c.self.invariant.own nowhere) j })
    ∙ ap (λ (h : Held). record h { chunks = filter (λ d. not (is_at c.args.number d)) h.chunks }) c.self.view_is

pub invariant_of-self : goal.invariant_of-self
invariant_of-self c =
    let place : position (is_slot c.args.number) c.self.inside.slab.slots ≡ Some c.in_ok-place.place = sym c.place_of.ensures ∙ c.in_ok-place.was in
    let empty : chunk_in (slice_get c.self.inside.slab.slots c.in_ok-place.place) ≡ None = sym c.in_err-chunk.ensures.result in
    rw (c.in_err-chunk.ensures.slots, c.in_err-chunk.ensures.cap, still-empty c.self.inside.slab.slots c.self.inside.slab.cap c.self.inside.ready_index c.self.inside.last c.self.invariant c.args.number c.in_ok-place.place place empty) c.self.invariant

pub returns-in_err-chunk-clause-result : goal.returns-in_err-chunk-clause-result
returns-in_err-chunk-clause-result c =
    let place : position (is_slot c.args.number) c.self.inside.slab.slots ≡ Some c.in_ok-place.place = sym c.place_of.ensures ∙ c.in_ok-place.was in
    let empty : chunk_in (slice_get c.self.inside.slab.slots c.in_ok-place.place) ≡ None = sym c.in_err-chunk.ensures.result in
    c.from_residual-in_err-chunk.ensures
    ∙ sym empty
    ∙ sym (found-slot c.self.inside.slab.slots c.self.inside.slab.cap c.self.inside.ready_index c.self.inside.last c.self.invariant c.args.number c.in_ok-place.place place)
    ∙ ap (λ (h : Held). find (is_at c.args.number) h.chunks) c.self.view_is

pub returns-in_err-chunk-clause-left : goal.returns-in_err-chunk-clause-left
returns-in_err-chunk-clause-left c =
    let place : position (is_slot c.args.number) c.self.inside.slab.slots ≡ Some c.in_ok-place.place = sym c.place_of.ensures ∙ c.in_ok-place.was in
    (λ j. record { retry = c.self.inside.ready_index.retry; chunks = (ap present c.in_err-chunk.ensures.slots ∙ removed-chunks c.self.inside.slab.slots c.self.inside.slab.cap c.self.inside.ready_index c.self.inside.last c.self.invariant c.args.number c.in_ok-place.place place) j; last = c.self.inside.last; room = min (length c.self.inside.ready_index.ready - length c.take.new.self.slots) c.take.new.self.spare })
    ∙ ap (λ (h : Held). record h { chunks = filter (λ d. not (is_at c.args.number d)) h.chunks; room = min (length c.self.inside.ready_index.ready - length c.take.new.self.slots) c.take.new.self.spare }) c.self.view_is

pub clear-requires-clause-ready : goal.clear-requires-clause-ready
clear-requires-clause-ready c =
    let place : position (is_slot c.args.number) c.self.inside.slab.slots ≡ Some c.in_ok-place.place = sym c.place_of.ensures ∙ c.in_ok-place.was in
    ready-within c.self.inside.slab.slots c.self.inside.slab.cap c.self.inside.ready_index c.self.inside.last c.self.invariant c.args.number c.in_ok-place.place place

pub clear-requires-clause-due : goal.clear-requires-clause-due
clear-requires-clause-due c =
    let place : position (is_slot c.args.number) c.self.inside.slab.slots ≡ Some c.in_ok-place.place = sym c.place_of.ensures ∙ c.in_ok-place.was in
    due-within c.self.inside.slab.slots c.self.inside.slab.cap c.self.inside.ready_index c.self.inside.last c.self.invariant c.args.number c.in_ok-place.place place

pub invariant_of-self-2 : goal.invariant_of-self-2
invariant_of-self-2 c =
    let place : position (is_slot c.args.number) c.self.inside.slab.slots ≡ Some c.in_ok-place.place = sym c.place_of.ensures ∙ c.in_ok-place.was in
    rw (c.in_ok-chunk.ensures.slots, c.in_ok-chunk.ensures.cap, c.clear.ensures)
    (removed-slotted c.self.inside.slab.slots c.self.inside.slab.cap c.self.inside.ready_index c.self.inside.last c.self.invariant c.args.number c.in_ok-place.place place)

pub returns-clause-result : goal.returns-clause-result
returns-clause-result c =
    let place : position (is_slot c.args.number) c.self.inside.slab.slots ≡ Some c.in_ok-place.place = sym c.place_of.ensures ∙ c.in_ok-place.was in
    c.in_ok-chunk.ensures.result
    ∙ sym (found-slot c.self.inside.slab.slots c.self.inside.slab.cap c.self.inside.ready_index c.self.inside.last c.self.invariant c.args.number c.in_ok-place.place place)
    ∙ ap (λ (h : Held). find (is_at c.args.number) h.chunks) c.self.view_is

pub returns-clause-left : goal.returns-clause-left
returns-clause-left c =
    let place : position (is_slot c.args.number) c.self.inside.slab.slots ≡ Some c.in_ok-place.place = sym c.place_of.ensures ∙ c.in_ok-place.was in
    (λ j. record { retry = ap (λ k. k.retry) c.clear.ensures j; chunks = (ap present c.in_ok-chunk.ensures.slots ∙ removed-chunks c.self.inside.slab.slots c.self.inside.slab.cap c.self.inside.ready_index c.self.inside.last c.self.invariant c.args.number c.in_ok-place.place place) j; last = c.self.inside.last; room = min (length c.clear.new.self.ready - length c.take.new.self.slots) c.take.new.self.spare })
    ∙ ap (λ (h : Held). record h { chunks = filter (λ d. not (is_at c.args.number d)) h.chunks; room = min (length c.clear.new.self.ready - length c.take.new.self.slots) c.take.new.self.spare }) c.self.view_is
