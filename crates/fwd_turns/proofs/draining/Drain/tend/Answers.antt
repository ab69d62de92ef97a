use Rattle.std.proofs.Common.{inl, ap, ◌∙◌}
use Rattle.fwd_turns.specs.declared.draining.Drain.{Drain}
use Rattle.fwd_turns.proofs.draining.Drain.tend.Goals as goal
use Rattle.fwd_turns.proofs.draining.Drain.tend.Goals.{in-Some, in_default}

pub returns-in_default-deadline : goal.returns-in_default-deadline
returns-in_default-deadline g c = record {
  over = inl (elim c.match-asked.branch [
    | in-Some w ↦ ap (λ (d : Drain). d.last) w.self-is ∙ w.ask.ensures
    | in_default w ↦ ap (λ (d : Drain). d.last) w.self-is
  ]);
}
