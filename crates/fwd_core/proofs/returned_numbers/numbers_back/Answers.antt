use Rattle.std.proofs.Common.{ap, ◌∙◌}
use Rattle.fwd_model.specs.Outputs as outputs
use Rattle.fwd_core.proofs.ReturnLemmas.{numbers-none, numbers-some}
use Rattle.fwd_core.proofs.returned_numbers.numbers_back.Goals as goal

pub returns-in-Some : goal.returns-in-Some
returns-in-Some c =
    c.insert.ensures
    ∙ ap (λ n. outputs.in_order n c.rising-numbers.result) c.number.ensures
    ∙ ap (outputs.in_order c.in-Some.chunk.number) c.rising-numbers.ensures.order
    ∙ numbers-some c.args.taken.now c.in-Some.chunk c.args.loaded.now c.in-Some.is

pub returns-in_default : goal.returns-in_default
returns-in_default c =
    c.rising-numbers.ensures.order ∙ numbers-none c.args.taken.now c.args.loaded.now c.in_default.is
