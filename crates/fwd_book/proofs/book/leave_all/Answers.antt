use Rattle.std.proofs.Common.{arith, cond, refl, ap, ◌∙◌}
use Rattle.std.specs.Prelude.{◌==◌}
use Rattle.std.specs.List.{list_any}
use Rattle.std.proofs.lemmas.List.{take_all}
use Rattle.fwd_chunks.specs.declared.span.Span.{Span}
use Rattle.fwd_book.specs.ChunkRefs.{note_at, used_less}
use Rattle.fwd_book.proofs.Stepping.{stepped}
use Rattle.fwd_book.proofs.book.leave_all.Goals as goal

pub loop-span-init : goal.loop-span-init
loop-span-init c = record { noted = λ n. refl; room = omega arith }

pub loop-span-preserved : goal.loop-span-preserved
loop-span-preserved c =
    let d : Span = record { number = 0; from = 0; count = 0 } in
    record {
      noted = stepped used_less (λ n. note_at n c.args.chunk_refs.now.notes) (λ n. note_at n c.loop-span.chunk_refs.notes) (λ n. note_at n c.less.new.self.notes) c.args.spans.now c.loop-span.span-index d c.loop-span-test.true c.requires.rising c.loop-span.invariant.noted c.less.ensures.noted;
      room = let kept = c.loop-span.invariant.room in let left = c.less.ensures.room in omega (arith, kept, left);
    }

pub returns-clause-noted : goal.returns-clause-noted
returns-clause-noted c = λ n.
    c.loop-span.invariant.noted n
    ∙ ap (λ ss. cond (list_any (λ s. s.number == n) ss) (used_less (note_at n c.args.chunk_refs.now.notes)) (note_at n c.args.chunk_refs.now.notes)) (take_all c.loop-span.span-index c.args.spans.now c.loop-span-test.false)

pub returns-clause-room : goal.returns-clause-room
returns-clause-room c = c.loop-span.invariant.room
