use Rattle.std.proofs.Common.{[], refl, sym, subst}
use Rattle.fwd_model.specs.declared.event.Event.TheVariants as event
use Rattle.fwd_model.specs.Names.{Session}
use Rattle.fwd_history.specs.Histories.{IsOf}
use Rattle.fwd_run.specs.Runs.{Relay, RunEvent, key_of, touches}
use Rattle.fwd_run.proofs.Adding.{one_part}
use Rattle.fwd_run.proofs.Beginning.{worker_begins}
use Rattle.fwd_run.proofs.worker_page.WorkerPage.new.Goals as goal

pub add_after-requires : goal.add_after-requires
add_after-requires g c =
    let e : RunEvent = Relay (event.Late c.args.output c.args.worker 0) in
    (e, subst (λ k. IsOf touches k e) (sym c.requires.page.0) (λ k. one_part k (key_of (Session c.args.output c.args.worker))), λ past went comes. (refl, refl))

pub returns : goal.returns
returns g c =
    worker_begins c.args.output c.args.worker c.args.page.0 c.args.page.1 c.args.reached.now c.add_after.new.self.1 c.requires.page.0 c.requires.page.1 c.requires.begun c.add_after.ensures.added
