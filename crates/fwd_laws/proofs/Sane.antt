-- What holds of each history that a run reaches.
use Rattle.std.proofs.Common.{[], ◌∷◌}
use Rattle.fwd_model.specs.declared.event.Event.{Event}
use Rattle.fwd_model.specs.Step.{after}
use Rattle.fwd_model.specs.History.{History, histories}
use Rattle.fwd_model.proofs.Reached.{IsSane}
use Rattle.fwd_model.proofs.Follows.{run_agrees}

-- it holds after one more event
pub next-sane : (h : History) (e : Event) → IsSane h → IsSane (after histories h (e ∷ []))
next-sane h e sane = (run_agrees (e ∷ []) h sane).sane
