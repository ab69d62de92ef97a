use Rattle.std.proofs.Common.{arith, ◌≡◌, ◌<◌, ◌+◌, ◌^◌, ℕ, Some, cond, take, refl, sym, ap, subst, ◌∙◌}
use Rattle.std.specs.Prelude.{◌==◌, slice_index_or}
use Rattle.std.specs.List.{list_any}
use Rattle.std.proofs.lemmas.List.{take_all}
use Rattle.fwd_chunks.specs.declared.span.Span.{Span}
use Rattle.fwd_book.specs.ChunkRefs.{note_at, uses_in, used_more}
use Rattle.fwd_book.proofs.Stepping.{stepped, unchanged}
use Rattle.fwd_book.proofs.book.use_all.Goals as goal

pub loop-span-init : goal.loop-span-init
loop-span-init c = record { noted = λ n. refl; room = let fits = c.requires.room in omega (arith, fits) }

pub more-requires-clause-room : goal.more-requires-clause-room
more-requires-clause-room c = let fits = c.loop-span.invariant.room in omega (arith, fits, c.loop-span-test.true)

pub more-requires-clause-few : goal.more-requires-clause-few
more-requires-clause-few c =
    let d : Span = record { number = 0; from = 0; count = 0 } in
    let number : ℕ = (slice_index_or c.args.spans.now c.loop-span.span-index d).number in
    let same = unchanged (λ o. Some (used_more o)) (λ n. note_at n c.args.chunk_refs.now.notes) (λ n. note_at n c.loop-span.chunk_refs.notes) c.args.spans.now c.loop-span.span-index d c.loop-span-test.true c.requires.rising c.loop-span.invariant.noted in
    subst (λ o. uses_in o + 1 < 2 ^ 64) (sym same) (c.requires.few number)

pub loop-span-preserved : goal.loop-span-preserved
loop-span-preserved c =
    let d : Span = record { number = 0; from = 0; count = 0 } in
    record {
      noted = stepped (λ o. Some (used_more o)) (λ n. note_at n c.args.chunk_refs.now.notes) (λ n. note_at n c.loop-span.chunk_refs.notes) (λ n. note_at n c.more.new.self.notes) c.args.spans.now c.loop-span.span-index d c.loop-span-test.true c.requires.rising c.loop-span.invariant.noted c.more.ensures.noted;
      room = let fits = c.loop-span.invariant.room in let left = c.more.ensures.room in omega (arith, fits, left);
    }

pub returns : goal.returns
returns c = λ n.
    let all : take c.loop-span.span-index c.args.spans.now ≡ c.args.spans.now = take_all c.loop-span.span-index c.args.spans.now c.loop-span-test.false in
    c.loop-span.invariant.noted n
    ∙ ap (λ ss. cond (list_any (λ s. s.number == n) ss) (Some (used_more (note_at n c.args.chunk_refs.now.notes))) (note_at n c.args.chunk_refs.now.notes)) all
