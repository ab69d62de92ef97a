use Rattle.std.proofs.Common.{◌≡◌, ℕ, Bool, true, false, position, Some, None, refl, sym, ap, ◌∙◌}
use Rattle.std.specs.Prelude.{slice_get}
use Rattle.fwd_chunks.specs.declared.chunk.Chunk.{Chunk}
use Rattle.fwd_chunks.specs.Stored.{put_back}
use Rattle.fwd_chunks.specs.Live.{is_at, changed}
use Rattle.fwd_chunks.specs.Slabs.{SlabShown}
use Rattle.fwd_chunks.specs.Slots.{Held, chunk_in, is_slot, noted}
use Rattle.fwd_chunks.proofs.Slotting.{changed-absent}
use Rattle.fwd_chunks.proofs.Slotted.{shown, ready-within, due-within, put-slotted, put-shown}
use Rattle.fwd_chunks.proofs.chunk_index.ChunkIndex.put_back.Goals as goal

same : (lost : Bool) (moment : ℕ) (c : Chunk) → (put_back lost moment c).number ≡ c.number
same true moment c = refl
same false moment c = refl

began : (lost : Bool) (moment : ℕ) (c : Chunk) → (put_back lost moment c).since ≡ c.since
began true moment c = refl
began false moment c = refl

pub returns-in_default : goal.returns-in_default
returns-in_default c =
    let nowhere : position (is_slot c.args.number) c.self.inside.slab.slots ≡ None = sym c.place_of.ensures ∙ c.in_default.is in
    sym c.self.view_is
    ∙ (λ j. record (shown c.self.inside.slab.slots c.self.inside.ready_index c.self.inside.last c.self.inside.slab.spare) { chunks = sym (changed-absent c.self.inside.slab.slots c.args.number (put_back c.args.lost c.args.moment) c.self.invariant.own nowhere) j })
    ∙ ap (λ (h : Held). record h { chunks = changed (is_at c.args.number) (put_back c.args.lost c.args.moment) h.chunks }) c.self.view_is

pub note-requires-clause-ready : goal.note-requires-clause-ready
note-requires-clause-ready c =
    let place : position (is_slot c.args.number) c.self.inside.slab.slots ≡ Some c.in-Some.place = sym c.place_of.ensures ∙ c.in-Some.is in
    ready-within c.self.inside.slab.slots c.self.inside.slab.cap c.self.inside.ready_index c.self.inside.last c.self.invariant c.args.number c.in-Some.place place

pub note-requires-clause-due : goal.note-requires-clause-due
note-requires-clause-due c =
    let place : position (is_slot c.args.number) c.self.inside.slab.slots ≡ Some c.in-Some.place = sym c.place_of.ensures ∙ c.in-Some.is in
    due-within c.self.inside.slab.slots c.self.inside.slab.cap c.self.inside.ready_index c.self.inside.last c.self.invariant c.args.number c.in-Some.place place

pub invariant_of-self : goal.invariant_of-self
invariant_of-self c =
    let place : position (is_slot c.args.number) c.self.inside.slab.slots ≡ Some c.in-Some.place = sym c.place_of.ensures ∙ c.in-Some.is in
    rw (c.note.ensures, c.put_back.ensures)
    (put-slotted c.self.inside.slab.slots c.self.inside.slab.cap c.self.inside.ready_index c.self.inside.last c.self.invariant c.args.number c.in-Some.place place (put_back c.args.lost c.args.moment) (same c.args.lost c.args.moment) (began c.args.lost c.args.moment))

pub returns : goal.returns
returns c =
    let place : position (is_slot c.args.number) c.self.inside.slab.slots ≡ Some c.in-Some.place = sym c.place_of.ensures ∙ c.in-Some.is in
    ap (λ k. shown c.put_back.new.self.slots k c.self.inside.last c.put_back.new.self.spare) c.note.ensures
    ∙ ap (λ (h : SlabShown). shown h.slots (noted c.in-Some.place (chunk_in (slice_get h.slots c.in-Some.place)) c.self.inside.ready_index) c.self.inside.last h.spare) c.put_back.ensures
    ∙ put-shown c.self.inside.slab.slots c.self.inside.slab.cap c.self.inside.ready_index c.self.inside.last c.self.invariant c.args.number c.in-Some.place place (put_back c.args.lost c.args.moment) (same c.args.lost c.args.moment) (began c.args.lost c.args.moment) c.self.inside.slab.spare
    ∙ ap (λ (h : Held). record h { chunks = changed (is_at c.args.number) (put_back c.args.lost c.args.moment) h.chunks }) c.self.view_is
