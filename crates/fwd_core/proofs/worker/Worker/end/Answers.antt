use Rattle.std.proofs.Common.{◌≤◌, length, sym, subst, ◌∙◌}
use Rattle.std.specs.Prelude.{◌++◌, option_to_list}
use Rattle.fwd_session.specs.declared.limits.TheConstants.{WINDOW_LIMIT}
use Rattle.fwd_core.proofs.WorkerLemmas.{ends-few}
use Rattle.fwd_core.proofs.worker.Worker.end.Goals as goal

pub returns-clause-few : goal.returns-clause-few
returns-clause-few c =
    let loaded = c.leave.result.loaded.items in
    let own = c.self.invariant c.in-Some.session (sym c.take.ensures.value ∙ c.in-Some.is) in
    subst (λ o. length (option_to_list o ++ loaded) ≤ WINDOW_LIMIT) (sym (c.leave.ensures.taken ∙ c.take-taken.ensures.value))
    (ends-few c.self.inside.taken c.in-Some.session loaded own c.leave.ensures.loaded c.leave.ensures.limit)
