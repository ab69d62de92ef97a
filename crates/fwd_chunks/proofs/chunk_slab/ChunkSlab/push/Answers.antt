use Rattle.std.proofs.Common.{◌≡◌, ◌+◌, ◌-◌, ◌<◌, ◌++◌, ◌∷◌, [], length, Some, rules, sym, ap, ◌∙◌, subst, arith}
use Rattle.std.specs.List.{AllByRecursion}
use Rattle.slab.specs.Slab.{slab_len, Updates}
use Rattle.fwd_chunks.specs.Slots.{slot_of}
use Rattle.fwd_chunks.specs.Slabs.{SlabShown, slots_by}
use Rattle.fwd_chunks.proofs.Shelving.{pushed-slots, pushed-shelved}
use Rattle.fwd_chunks.proofs.chunk_slab.ChunkSlab.push.Goals as goal

pub invariant_of-self : goal.invariant_of-self
invariant_of-self c =
    let above : AllByRecursion (λ s. s.number < c.args.chunk.number) (slots_by c.self.inside.kept c.self.inside.places.items) = subst (λ (h : SlabShown). AllByRecursion (λ s. s.number < c.args.chunk.number) h.slots) (sym c.self.view_is) c.requires.above in
    let updates : Updates c.self.inside.kept c.insert_reserved-key.new.self c.insert_reserved-key.result (Some (record { chunk = c.args.chunk; place = length c.self.inside.places.items })) = search rules in
    rw c.push_reserved.ensures.items
    (pushed-shelved c.self.inside.places.items c.self.inside.kept c.self.invariant c.args.chunk c.insert_reserved-key.result c.insert_reserved-key.new.self c.insert_reserved-key.ensures.was_vacant updates c.insert_reserved-key.ensures.len above)

pub returns : goal.returns
returns c =
    let above : AllByRecursion (λ s. s.number < c.args.chunk.number) (slots_by c.self.inside.kept c.self.inside.places.items) = subst (λ (h : SlabShown). AllByRecursion (λ s. s.number < c.args.chunk.number) h.slots) (sym c.self.view_is) c.requires.above in
    let updates : Updates c.self.inside.kept c.insert_reserved-key.new.self c.insert_reserved-key.result (Some (record { chunk = c.args.chunk; place = length c.self.inside.places.items })) = search rules in
    let slots = pushed-slots c.self.inside.places.items c.self.inside.kept c.self.invariant c.args.chunk c.insert_reserved-key.result c.insert_reserved-key.new.self c.insert_reserved-key.ensures.was_vacant updates c.insert_reserved-key.ensures.len above in
    let spare : c.insert_reserved-key.new.self.capacity - slab_len c.insert_reserved-key.new.self ≡ c.self.inside.kept.capacity - slab_len c.self.inside.kept - 1 = omega (arith, c.insert_reserved-key.ensures.len, c.insert_reserved-key.ensures.capacity) in
    (λ j. record { slots = slots_by c.insert_reserved-key.new.self (c.push_reserved.ensures.items j); cap = c.push_reserved.ensures.capacity j; spare = spare j })
    ∙ (λ j. record { slots = slots j; cap = c.self.inside.places.cap; spare = c.self.inside.kept.capacity - slab_len c.self.inside.kept - 1 })
    ∙ ap (λ (h : SlabShown). record { slots = h.slots ++ slot_of c.args.chunk ∷ []; cap = h.cap; spare = h.spare - 1 }) c.self.view_is
