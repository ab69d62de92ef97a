use Rattle.std.proofs.Common.{◌≡◌, Some, rules, sym, ap, ◌∙◌, position}
use Rattle.slab.specs.Slab.{get}
use Rattle.fwd_chunks.specs.Slots.{NumbersRise, is_slot}
use Rattle.fwd_chunks.specs.Slabs.{SlabShown, slots_by}
use Rattle.fwd_chunks.proofs.Shelving.{linked-place}
use Rattle.fwd_chunks.proofs.chunk_slab.ChunkSlab.place_of.Goals as goal

pub returns-in-Some : goal.returns-in-Some
returns-in-Some c =
    let rise : NumbersRise (slots_by c.self.inside.kept c.self.inside.places.items) = search rules in
    let lies : get c.self.inside.kept c.args.key ≡ Some c.in-Some.kept.now = search rules in
    sym (linked-place c.self.inside.places.items c.self.inside.kept c.self.invariant.linked rise c.args.number c.args.key c.in-Some.kept.now lies c.if-kept-number.true)
    ∙ ap (λ (h : SlabShown). position (is_slot c.args.number) h.slots) c.self.view_is
