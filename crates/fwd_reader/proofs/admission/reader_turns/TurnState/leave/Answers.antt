use Rattle.std.proofs.Common.{rules}
use Rattle.std.specs.Prelude.{◌==◌, not}
use Rattle.std.proofs.lemmas.Fn.{filter_same}
use Rattle.fwd_reader.proofs.admission.reader_turns.TurnState.leave.Goals as goal

pub returns-then-had_turn-clause-left : goal.returns-then-had_turn-clause-left
returns-then-had_turn-clause-left c =
    filter_same _ (λ other. not (other == c.args.reader)) _ (λ x b f' k. search rules) _ _ c.retain.ensures.filtered

pub returns-else-had_turn-clause-left : goal.returns-else-had_turn-clause-left
returns-else-had_turn-clause-left c =
    filter_same _ (λ other. not (other == c.args.reader)) _ (λ x b f' k. search rules) _ _ c.retain.ensures.filtered
