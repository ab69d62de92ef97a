use Rattle.std.proofs.Common.{◌≡◌, ◌+◌, Some, None, rules, sym, ap, ◌∙◌}
use Rattle.std.specs.Prelude.{slice_get}
use Rattle.slab.specs.Slab.{get, slab_len}
use Rattle.fwd_chunks.specs.Slots.{NumbersRise, chunk_in, revised}
use Rattle.fwd_chunks.specs.Slabs.{SlabShown, StandsAt, slots_by}
use Rattle.fwd_chunks.proofs.Shelving.{emptied-none, lies-there, stands-with, taken-slots, taken-shelved}
use Rattle.fwd_chunks.proofs.chunk_slab.ChunkSlab.take.Goals as goal

pub returns-in_err-key-clause-slots : goal.returns-in_err-key-clause-slots
returns-in_err-key-clause-slots c =
    let none : chunk_in (slice_get (slots_by c.self.inside.kept c.self.inside.places.items) c.args.place) ≡ None = search rules in
    ap (λ (h : SlabShown). h.slots) (sym c.self.view_is)
    ∙ sym (emptied-none (slots_by c.self.inside.kept c.self.inside.places.items) c.args.place none)
    ∙ ap (λ (h : SlabShown). revised c.args.place (λ o. None) h.slots) c.self.view_is

pub invariant_of-self-2 : goal.invariant_of-self-2
invariant_of-self-2 c =
    let rise : NumbersRise (slots_by c.self.inside.kept c.self.inside.places.items) = search rules in
    let stands : StandsAt c.self.inside.places.items c.self.inside.kept c.args.place c.in_ok-key.key = search rules in
    let len : slab_len c.try_remove.new.self + 1 ≡ slab_len c.self.inside.kept = search rules in
    taken-shelved c.self.inside.places.items c.self.inside.kept c.self.invariant rise c.args.place c.in_ok-key.key stands c.try_remove.new.self c.in_ok-kept.ensures.updates len

pub returns-clause-result : goal.returns-clause-result
returns-clause-result c =
    let rise : NumbersRise (slots_by c.self.inside.kept c.self.inside.places.items) = search rules in
    let stands : StandsAt c.self.inside.places.items c.self.inside.kept c.args.place c.in_ok-key.key = search rules in
    let lies : get c.self.inside.kept c.in_ok-key.key ≡ Some c.in_ok-kept.kept = search rules in
    sym (lies-there c.self.inside.places.items c.self.inside.kept c.self.invariant rise c.args.place c.in_ok-key.key
    (stands-with c.self.inside.places.items c.self.inside.kept c.args.place c.in_ok-key.key stands c.in_ok-kept.kept lies))
    ∙ ap (λ (h : SlabShown). chunk_in (slice_get h.slots c.args.place)) c.self.view_is

pub returns-clause-slots : goal.returns-clause-slots
returns-clause-slots c =
    let rise : NumbersRise (slots_by c.self.inside.kept c.self.inside.places.items) = search rules in
    let stands : StandsAt c.self.inside.places.items c.self.inside.kept c.args.place c.in_ok-key.key = search rules in
    let len : slab_len c.try_remove.new.self + 1 ≡ slab_len c.self.inside.kept = search rules in
    taken-slots c.self.inside.places.items c.self.inside.kept c.self.invariant rise c.args.place c.in_ok-key.key stands c.try_remove.new.self c.in_ok-kept.ensures.updates len
    ∙ ap (λ (h : SlabShown). revised c.args.place (λ o. None) h.slots) c.self.view_is
