use Rattle.std.proofs.Common.{◌≡◌, Some, sym, subst, ◌∙◌}
use Rattle.std.proofs.lemmas.Option.{same_Some}
use Rattle.fwd_session.specs.Live.{LiveSession}
use Rattle.fwd_core.specs.declared.worker.Worker.TheInside.{Inside}
use Rattle.fwd_core.specs.Lanes.{IsRoomy}
use Rattle.fwd_core.proofs.WorkerLemmas.{unloads-roomy}
use Rattle.fwd_core.proofs.worker.Worker.acked.Goals as goal
use Rattle.fwd_core.proofs.worker.Worker.acked.Goals.{in-None, in-Some}

pub invariant_of-self : goal.invariant_of-self
invariant_of-self c =
    elim c.match-self.branch [
      | in-None w ↦ subst (λ (i : Inside). (s : LiveSession) → i.session ≡ Some s → IsRoomy i.taken s) (sym w.self-inside-is) c.self.invariant
      | in-Some w ↦ subst (λ (i : Inside). (s : LiveSession) → i.session ≡ Some s → IsRoomy i.taken s) (sym w.self-inside-is)
          (λ s e. subst (IsRoomy c.self.inside.taken) (sym w.acked.ensures.next ∙ same_Some _ _ e) (unloads-roomy c.self.inside.taken w.in-Some.session (c.self.invariant w.in-Some.session w.in-Some.is)))
    ]
