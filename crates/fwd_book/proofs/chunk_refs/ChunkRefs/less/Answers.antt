use Rattle.std.proofs.Common.{arith, ◌≡◌, ◌≤◌, ◌-◌, Some, None, cond, refl, sym, ap, subst, ◌∙◌}
use Rattle.std.specs.Prelude.{IsSome, option_map, ◌==◌}
use Rattle.std.specs.Arc.{arc_value}
use Rattle.fwd_book.specs.ChunkRefs.{ChunkRef, ChunkRefsShown, note_at, uses_in, used_less}
use Rattle.fwd_book.specs.contracts.chunk_refs.ChunkRef as note
use Rattle.fwd_book.specs.contracts.chunk_refs.ChunkRefs as numbers
use Rattle.fwd_book.proofs.Noting.{less_of, none-few}
use Rattle.fwd_book.proofs.chunk_refs.ChunkRefs.less.Goals as goal
use Rattle.fwd_book.proofs.chunk_refs.ChunkRefs.less.Goals.{in-Some, in_default}

pub overflow_sub-note : goal.overflow_sub-note
overflow_sub-note c =
    let old : note_at c.args.number c.args.self.now.notes ≡ Some (note.the_view c.note.inside) = ap (λ (s : ChunkRefsShown). note_at c.args.number s.notes) (sym c.self.view_is) ∙ sym c.in-Some.ensures.value ∙ ap Some (sym c.note.view_is) in
    let uses : c.uses.result ≡ c.note.inside.uses = c.uses.ensures ∙ ap uses_in old in
    omega (arith, uses, c.if-uses-lt2.false)

pub returns-clause-noted : goal.returns-clause-noted
returns-clause-noted c = λ n. elim c.match-get_mut.branch [
  | in-Some w ↦
      let new : ChunkRef = record { uses = w.note.inside.uses - 1; found = option_map arc_value w.note.inside.acked } in
      let old : note_at c.args.number c.args.self.now.notes ≡ Some (note.the_view w.note.inside) = ap (λ (s : ChunkRefsShown). note_at c.args.number s.notes) (sym c.self.view_is) ∙ sym w.in-Some.ensures.value ∙ ap Some (sym w.note.view_is) in
      let one : used_less (note_at c.args.number c.args.self.now.notes) ≡ Some new = ap used_less old ∙ less_of (note.the_view w.note.inside) (subst (λ k. 2 ≤ k) (c.uses.ensures ∙ ap uses_in old) c.if-uses-lt2.false) in
      ap (λ x. note_at n (numbers.the_view x).notes) w.self-inside-is
      ∙ ((c.get_mut.follows.holds new).3 (subst IsSome w.in-Some.ensures.value refl)).0 n
      ∙ (λ i. cond (c.args.number == n) (sym one i) (note_at n (c.self.view_is i).notes))
  | in_default w ↦
      let old : note_at c.args.number c.args.self.now.notes ≡ None = ap (λ (s : ChunkRefsShown). note_at c.args.number s.notes) (sym c.self.view_is) ∙ sym w.in_default.ensures.value in
      absurd (none-few (subst (λ k. 2 ≤ k) (c.uses.ensures ∙ ap uses_in old) c.if-uses-lt2.false))
]
