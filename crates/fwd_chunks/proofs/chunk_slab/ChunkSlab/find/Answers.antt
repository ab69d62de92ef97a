use Rattle.std.proofs.Common.{◌≡◌, Some, None, rules, sym, ap, ◌∙◌, find, option_copied, position}
use Rattle.std.specs.Prelude.{slice_get}
use Rattle.slab.specs.Slab.{get}
use Rattle.fwd_chunks.specs.Live.{is_at}
use Rattle.fwd_chunks.specs.Slots.{NumbersRise, chunk_in, present, is_slot}
use Rattle.fwd_chunks.specs.Slabs.{SlabShown, slots_by}
use Rattle.fwd_chunks.proofs.Slotting.{find-absent}
use Rattle.fwd_chunks.proofs.Slotted.{found-at}
use Rattle.fwd_chunks.proofs.Shelving.{linked-found, own-slots}
use Rattle.fwd_chunks.proofs.chunk_slab.ChunkSlab.find.Goals as goal

pub returns-in_err-search-in_default : goal.returns-in_err-search-in_default
returns-in_err-search-in_default c =
    let nowhere : position (is_slot c.args.number) (slots_by c.self.inside.kept c.self.inside.places.items) ≡ None = search rules in
    ap option_copied c.from_residual.ensures
    ∙ sym (find-absent (slots_by c.self.inside.kept c.self.inside.places.items) c.args.number (own-slots c.self.inside.kept c.self.inside.places.items) nowhere)
    ∙ ap (λ (h : SlabShown). find (is_at c.args.number) (present h.slots)) c.self.view_is

pub returns-in-Some : goal.returns-in-Some
returns-in-Some c =
    let rise : NumbersRise (slots_by c.self.inside.kept c.self.inside.places.items) = search rules in
    let lies : get c.self.inside.kept c.args.key ≡ Some c.in-Some.kept.now = search rules in
    linked-found c.self.inside.places.items c.self.inside.kept c.self.invariant.linked rise c.args.number c.args.key c.in-Some.kept.now lies c.if-kept-number.true
    ∙ ap (λ (h : SlabShown). find (is_at c.args.number) (present h.slots)) c.self.view_is

pub returns-in_ok-search-in_default : goal.returns-in_ok-search-in_default
returns-in_ok-search-in_default c =
    let rise : NumbersRise (slots_by c.self.inside.kept c.self.inside.places.items) = search rules in
    let place : position (is_slot c.args.number) (slots_by c.self.inside.kept c.self.inside.places.items) ≡ Some c.in_ok-search-in_default.field-0 = search rules in
    c.get-in_default.ensures
    ∙ ap (λ (h : SlabShown). chunk_in (slice_get h.slots c.in_ok-search-in_default.field-0)) (sym c.self.view_is)
    ∙ sym (found-at (slots_by c.self.inside.kept c.self.inside.places.items) c.args.number c.in_ok-search-in_default.field-0 rise (own-slots c.self.inside.kept c.self.inside.places.items) place)
    ∙ ap (λ (h : SlabShown). find (is_at c.args.number) (present h.slots)) c.self.view_is
