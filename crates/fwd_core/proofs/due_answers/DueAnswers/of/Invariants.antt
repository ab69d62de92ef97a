use Rattle.std.proofs.Common.{◌≡◌, take}
use Rattle.std.specs.Prelude.{map}
use Rattle.std.specs.List.{concat}
use Rattle.fwd_model.specs.Books.{ack_asked}
use Rattle.fwd_output.specs.HandedBack.{chunk_at}
use Rattle.fwd_core.proofs.due_answers.DueAnswers.of.Given as goal

-- the origins so far are told
abbrev pub invariant-loop-origin : goal.invariant-loop-origin
invariant-loop-origin l = record {
  requests : l.requests ≡ map (λ o. o.request) (take l.origin-index l.origins);
  out : l.out ≡ concat (map (λ o. ack_asked (chunk_at l.output.book.requests o)) (take l.origin-index l.origins));
}
