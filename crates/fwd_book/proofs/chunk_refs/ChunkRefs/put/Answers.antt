use Rattle.std.proofs.Common.{◌≡◌, false, Some, None, cond, refl, sym, ap, subst, ◌∙◌}
use Rattle.std.specs.Prelude.{IsSome, is_some, ◌==◌}
use Rattle.std.specs.Arc.{arc_value}
use Rattle.fwd_session.specs.ServerAcks.{ServerAck}
use Rattle.fwd_book.specs.ChunkRefs.{ChunkRef, ChunkRefsShown, note_at, found_in, found_at, put_in}
use Rattle.fwd_book.specs.contracts.chunk_refs.ChunkRef as note
use Rattle.fwd_book.specs.contracts.chunk_refs.ChunkRefs as numbers
use Rattle.fwd_book.proofs.Noting.{put_first, put_nowhere, copied_some}
use Rattle.fwd_book.proofs.chunk_refs.ChunkRefs.put.Goals as goal
use Rattle.fwd_book.proofs.chunk_refs.ChunkRefs.put.Goals.{in-Some+in-Some-1, in-Some+in-None-1, in_default}

pub returns-clause-noted : goal.returns-clause-noted
returns-clause-noted c = λ n.
    let e : ServerAck = arc_value c.args.acked in
    let number : c.number-number.result ≡ e.number = c.number-number.ensures ∙ ap (λ (x : ServerAck). x.number) c.deref.ensures in
    let none : is_some (found_at c.args.self.now.notes c.number-number.result) ≡ false = ap is_some (sym c.get.ensures) ∙ copied_some arc_value c.get.result ∙ sym c.if-is_some.ensures in
    elim c.match-get_mut.branch [
      | in-Some+in-Some-1 w ↦
          let new : ChunkRef = record { uses = w.note.inside.uses; found = Some e } in
          let old : note_at c.number-number.result c.args.self.now.notes ≡ Some (note.the_view w.note.inside) = ap (λ (s : ChunkRefsShown). note_at c.number-number.result s.notes) (sym c.self.view_is) ∙ sym w.in-Some.ensures.value ∙ ap Some (sym w.note.view_is) in
          let one : put_in e (note_at c.number-number.result c.args.self.now.notes) ≡ Some new = ap (put_in e) old ∙ put_first e (note.the_view w.note.inside) (ap (λ o. is_some (found_in o)) (sym old) ∙ none) in
          let put : Some new ≡ put_in e (note_at e.number c.args.self.now.notes) = sym one ∙ ap (λ k. put_in e (note_at k c.args.self.now.notes)) number in
          ap (λ x. note_at n (numbers.the_view x).notes) w.self-inside-is
          ∙ ((c.get_mut.follows.holds new).3 (subst IsSome w.in-Some.ensures.value refl)).0 n
          ∙ (λ i. cond (number i == n) (put i) (note_at n (c.self.view_is i).notes))
      | in-Some+in-None-1 w ↦
          let new : ChunkRef = record { uses = w.note.inside.uses; found = Some e } in
          let old : note_at c.number-number.result c.args.self.now.notes ≡ Some (note.the_view w.note.inside) = ap (λ (s : ChunkRefsShown). note_at c.number-number.result s.notes) (sym c.self.view_is) ∙ sym w.in-Some.ensures.value ∙ ap Some (sym w.note.view_is) in
          let one : put_in e (note_at c.number-number.result c.args.self.now.notes) ≡ Some new = ap (put_in e) old ∙ put_first e (note.the_view w.note.inside) (ap (λ o. is_some (found_in o)) (sym old) ∙ none) in
          let put : Some new ≡ put_in e (note_at e.number c.args.self.now.notes) = sym one ∙ ap (λ k. put_in e (note_at k c.args.self.now.notes)) number in
          ap (λ x. note_at n (numbers.the_view x).notes) w.self-inside-is
          ∙ ((c.get_mut.follows.holds new).3 (subst IsSome w.in-Some.ensures.value refl)).0 n
          ∙ (λ i. cond (number i == n) (put i) (note_at n (c.self.view_is i).notes))
      | in_default w ↦
          let old : note_at e.number c.args.self.now.notes ≡ None = ap (λ k. note_at k c.args.self.now.notes) (sym number) ∙ ap (λ (s : ChunkRefsShown). note_at c.number-number.result s.notes) (sym c.self.view_is) ∙ sym w.in_default.ensures.value in
          let same : c.get_mut.follows.lender-at-none ≡ c.self.inside.notes = c.get_mut.follows.holds-at-none in
          ap (λ x. note_at n (numbers.the_view x).notes) w.self-inside-is ∙ (λ i. note_at n (same i).entries) ∙ ap (λ (s : ChunkRefsShown). note_at n s.notes) c.self.view_is ∙ put_nowhere e c.args.self.now.notes n old
    ]
