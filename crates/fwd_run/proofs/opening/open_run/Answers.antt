use Rattle.std.proofs.Common.{◌≡◌, [], ◌∷◌, List, Some, refl, sym, subst, ap, ◌∙◌}
use Rattle.std.specs.Prelude.{slice_get}
use Rattle.fwd_model.specs.declared.config.Config.{Config}
use Rattle.fwd_model.specs.History.{opening}
use Rattle.fwd_model.specs.Live.{live}
use Rattle.fwd_history.specs.Histories.{IsOf, Went}
use Rattle.fwd_run.specs.Pages.{IsNew, IsSeenAs, with_trial}
use Rattle.fwd_run.specs.Runs.{Opens, RunEvent, begun, config_of, id_key, moved, run_after, seen, touches}
use Rattle.fwd_run.proofs.Beginning.{begins}
use Rattle.fwd_run.proofs.Starting.{is_new, opened_last, opened_limits, opened_routes, opened_security, seen_as, trial_at}
use Rattle.fwd_run.proofs.opening.open_run.Goals as goal

pub add-requires : goal.add-requires
add-requires g c =
    let s = seen_as c.args.config.now in
    let e : RunEvent = Opens s.0 in
    (e, subst (λ k. IsOf touches k e) (sym c.requires.0) (λ k. refl), λ past went. (tt, (s.0, refl, s.1)))

pub returns-clause-begun : goal.returns-clause-begun
returns-clause-begun g c =
    let a = c.add.ensures.added in
    let s = a.4 in
    let went : Went touches id_key [] a.0 = subst (λ l. Went touches id_key l a.0) c.requires.1 (subst (λ k. Went touches k c.args.page.now.1 a.0) c.requires.0 a.3) in (
      s.0,
      s.2,
      ap config_of (c.reached.ensures ∙ a.5) ∙ (ap (λ f. config_of (f ∷ a.0)) s.1 ∙ ap (λ x. begun x (Opens s.0)) (begins a.0 went).1),
      ap run_after (c.reached.ensures ∙ a.5) ∙ (ap (λ f. run_after (f ∷ a.0)) s.1 ∙ ap (λ x. moved x (Opens s.0)) (begins a.0 went).0),
    )

pub returns-clause-outputs : goal.returns-clause-outputs
returns-clause-outputs g c o x here =
    let b = returns-clause-begun g c in
    subst (λ run. IsNew c.reached.result run o (with_trial x)) b.1.run
    (is_new b.0 c.reached.result o (with_trial x) b.3 (ap (λ l. slice_get l o) b.1.outputs ∙ trial_at c.args.config.now.outputs o x here))

pub returns-clause-routes : goal.returns-clause-routes
returns-clause-routes g c =
    let b = returns-clause-begun g c in
    ap (seen (λ r. Some r.routes)) b.3 ∙ ap Some (opened_routes b.0 ∙ b.1.routes)

pub returns-clause-security : goal.returns-clause-security
returns-clause-security g c =
    let b = returns-clause-begun g c in
    ap (seen (λ r. Some r.security)) b.3 ∙ ap Some (opened_security b.0 ∙ b.1.security)

pub returns-clause-limits : goal.returns-clause-limits
returns-clause-limits g c =
    let b = returns-clause-begun g c in
    ap (seen (λ r. Some r.limits)) b.3 ∙ ap Some (opened_limits b.0 ∙ b.1.limits)

pub returns-clause-ids : goal.returns-clause-ids
returns-clause-ids g c =
    let b = returns-clause-begun g c in
    ap (seen (λ r. r.last)) b.3 ∙ opened_last b.0
