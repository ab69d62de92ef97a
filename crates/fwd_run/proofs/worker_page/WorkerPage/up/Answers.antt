use Rattle.std.proofs.Common.{◌≡◌, ℕ, None, Some, true, false, refl, sym, subst, ap, ◌∙◌}
use Rattle.fwd_session.specs.Live.{session_begins}
use Rattle.fwd_model.specs.Setups.{session_setup}
use Rattle.fwd_model.specs.declared.event.Event.TheVariants as event
use Rattle.fwd_model.specs.Names.{Session}
use Rattle.fwd_model.specs.Step as steps
use Rattle.fwd_history.specs.Histories.{IsOf}
use Rattle.fwd_run.specs.Runs.{Relay, RunEvent, key_of, touches}
use Rattle.fwd_run.proofs.Acting as acting
use Rattle.fwd_run.proofs.Adding.{one_part, worker_adds}
use Rattle.fwd_run.proofs.worker_page.WorkerPage.up.Goals as goal

pub add-requires : goal.add-requires
add-requires g c =
    let v = c.self.inside in
    let e : RunEvent = Relay (event.Up v.output v.worker c.args.server c.args.salt.now c.args.now) in
    (e, subst (λ k. IsOf touches k e) (sym c.self.invariant) (λ k. one_part k (key_of (Session v.output v.worker))), λ past went. (refl, refl))

pub returns : goal.returns
returns g c x config has set known free =
    let v = c.self.inside in
    worker_adds v.output v.worker v.page.0 v.page.1 c.add.new.self.1 (Relay (event.Up v.output v.worker c.args.server c.args.salt.now c.args.now)) x (steps.with_session x (session_begins (session_setup config c.args.server c.args.salt.now c.args.now))) c.args.self.now c.self.invariant c.self.view_is has c.add.ensures.added
    (λ r his settings. acting.up_acts r v.output v.worker x his config c.args.server c.args.salt.now c.args.now (settings ∙ set) known free)
