use Rattle.std.proofs.Common.{◌≡◌, true, rules, filter, sym, ap, ◌∙◌, subst}
use Rattle.std.specs.List.{AllByRecursion}
use Rattle.fwd_chunks.specs.Slots.{is_full}
use Rattle.fwd_chunks.specs.Slabs.{SlabShown, IsThere, AreLinked, IsSlab, slots_by, slot_by}
use Rattle.fwd_chunks.proofs.Shelving.{is_kept, kept-full, kept-there, kept-slots, kept-shelved}
use Rattle.fwd_chunks.proofs.chunk_slab.ChunkSlab.compact.Goals as goal

pub link-requires-clause-full : goal.link-requires-clause-full
link-requires-clause-full c =
    let items : c.deref.result.now ≡ filter (is_kept c.self.inside.kept) c.self.inside.places.items = search rules in
    subst (AllByRecursion (λ p. is_full (slot_by c.self.inside.kept p) ≡ true)) (sym items) (kept-full c.self.inside.places.items c.self.inside.kept c.self.invariant)

pub link-requires-clause-there : goal.link-requires-clause-there
link-requires-clause-there c =
    let items : c.deref.result.now ≡ filter (is_kept c.self.inside.kept) c.self.inside.places.items = search rules in
    subst (λ l. IsThere l c.self.inside.kept) (sym items) (kept-there c.self.inside.places.items c.self.inside.kept c.self.invariant)

pub invariant_of-self-2 : goal.invariant_of-self-2
invariant_of-self-2 c =
    let items : c.compact.new.places.items ≡ filter (is_kept c.self.inside.kept) c.self.inside.places.items = search rules in
    let linked : AreLinked c.compact.new.places.items c.link.new.kept = search rules in
    subst (λ l. IsSlab l c.link.new.kept) (sym items)
    (kept-shelved c.self.inside.places.items c.self.inside.kept c.self.invariant c.link.new.kept c.link.ensures.chunks (subst (λ l. AreLinked l c.link.new.kept) items linked) c.link.ensures.count)

pub returns-clause-ok : goal.returns-clause-ok
returns-clause-ok c =
    let items : c.compact.new.places.items ≡ filter (is_kept c.self.inside.kept) c.self.inside.places.items = search rules in
    ap (slots_by c.link.new.kept) items
    ∙ kept-slots c.self.inside.places.items c.self.inside.kept c.self.invariant c.link.new.kept c.link.ensures.chunks
    ∙ ap (λ (h : SlabShown). filter is_full h.slots) c.self.view_is
