use Rattle.std.proofs.Common.{◌≡◌, ◌+◌, suc, take, ◌++◌, ◌∷◌, [], sym, ap, ◌∙◌, arith}
use Rattle.std.specs.Prelude.{slice_index_or}
use Rattle.std.proofs.Math.Seq.{take-suc}
use Rattle.fwd_modes.specs.declared.origin.Origin.{Origin}
use Rattle.fwd_model.specs.Books.{ack_asked}
use Rattle.fwd_output.specs.HandedBack.{chunk_at}
use Rattle.fwd_core.proofs.CollectLemmas.{concat-more}
use Rattle.fwd_output.proofs.Basics.{map-more}
use Rattle.fwd_core.proofs.due_answers.DueAnswers.of.Goals as goal

pub loop-origin-preserved : goal.loop-origin-preserved
loop-origin-preserved c =
    let os = c.args.origins.now in
    let qs = c.args.output.now.book.requests in
    let i = c.loop-origin.origin-index in
    let d : Origin = record { conn = 0; request = 0 } in
    let o : Origin = slice_index_or os i d in
    let one_more : i + 1 ≡ suc i = omega arith in
    let next : take (i + 1) os ≡ take i os ++ o ∷ [] = ap (λ k. take k os) one_more ∙ take-suc os i d c.loop-origin-test.true in
    record {
      requests = c.in_ok-push.ensures.ok ∙ ap (λ xs. xs ++ o.request ∷ []) c.loop-origin.invariant.requests
          ∙ sym (map-more (λ x. x.request) (take i os) (take (i + 1) os) o next);
      out = c.in_ok-push_ack.ensures ∙ (λ j. c.loop-origin.invariant.out j ++ ack_asked (c.chunk.ensures j))
          ∙ sym (concat-more (λ x. ack_asked (chunk_at qs x)) (take i os) (take (i + 1) os) o next);
    }
