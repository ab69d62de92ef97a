use Rattle.std.proofs.Common.{arith, ◌≡◌, ◌+◌, ◌<◌, ◌^◌, Some, None, cond, refl, sym, ap, subst, ◌∙◌}
use Rattle.std.specs.Prelude.{IsSome, option_map, ◌==◌}
use Rattle.std.specs.Arc.{arc_value}
use Rattle.fwd_book.specs.ChunkRefs.{ChunkRef, ChunkRefsShown, note_at, uses_in, used_more}
use Rattle.fwd_book.specs.contracts.chunk_refs.ChunkRef as view
use Rattle.fwd_book.proofs.chunk_refs.ChunkRefs.more.Goals as goal

pub overflow_add-note : goal.overflow_add-note
overflow_add-note c =
    let old : note_at c.args.number c.args.self.now.notes ≡ Some (view.the_view c.note.inside) = ap (λ (s : ChunkRefsShown). note_at c.args.number s.notes) (sym c.self.view_is) ∙ sym c.in-Some.ensures.value ∙ ap Some (sym c.note.view_is) in
    let few : c.note.inside.uses + 1 < 2 ^ 64 = subst (λ o. uses_in o + 1 < 2 ^ 64) old c.requires.few in
    omega (arith, few)

pub returns-in-Some-clause-noted : goal.returns-in-Some-clause-noted
returns-in-Some-clause-noted c = λ n.
    let new : ChunkRef = record { uses = c.note.inside.uses + 1; found = option_map arc_value c.note.inside.acked } in
    let old : note_at c.args.number c.args.self.now.notes ≡ Some (view.the_view c.note.inside) = ap (λ (s : ChunkRefsShown). note_at c.args.number s.notes) (sym c.self.view_is) ∙ sym c.in-Some.ensures.value ∙ ap Some (sym c.note.view_is) in
    ((c.get_mut.follows.holds new).3 (subst IsSome c.in-Some.ensures.value refl)).0 n
    ∙ (λ i. cond (c.args.number == n) (Some (used_more (sym old i))) (note_at n (c.self.view_is i).notes))

pub returns-clause-noted : goal.returns-clause-noted
returns-clause-noted c = λ n.
    let old : note_at c.args.number c.args.self.now.notes ≡ None = ap (λ (s : ChunkRefsShown). note_at c.args.number s.notes) (sym c.self.view_is) ∙ sym c.in_default.ensures.value in
    let same : c.get_mut.follows.lender-at-none ≡ c.self.inside.notes = c.get_mut.follows.holds-at-none in
    c.in-Ok.ensures.updates.0 n
    ∙ (λ i. cond (c.args.number == n) (Some (used_more (sym old i))) (note_at n (same i).entries))
    ∙ (λ i. cond (c.args.number == n) (Some (used_more (note_at c.args.number c.args.self.now.notes))) (note_at n (c.self.view_is i).notes))
