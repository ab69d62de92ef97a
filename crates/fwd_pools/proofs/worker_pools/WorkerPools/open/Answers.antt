use Rattle.std.proofs.Common.{◌≡◌, length, refl, sym, ap, subst, ◌∙◌}
use Rattle.fwd_run.specs.Pages.{IsNew, WorkerKnown, with_trial}
use Rattle.fwd_pools.specs.declared.worker_pools.RunOrigin.{RunOrigin}
use Rattle.fwd_pools.proofs.worker_pools.WorkerPools.open.Goals as goal

pub locked_of-requires-clause-begun : goal.locked_of-requires-clause-begun
locked_of-requires-clause-begun g c =
    let new =
    subst (λ (run : RunOrigin _). IsNew run.reached run.id c.args.number (with_trial c.args.config))
    (sym c.in_ok-wakers.ensures.run) c.requires.begun in
    (c.args.config, sym c.as_slice.ensures, refl, new)

pub locked_of-requires-clause-trial : goal.locked_of-requires-clause-trial
locked_of-requires-clause-trial g c =
    let new =
    subst (λ (run : RunOrigin _). IsNew run.reached run.id c.args.number (with_trial c.args.config))
    (sym c.in_ok-wakers.ensures.run) c.requires.begun in record {
      here = ap (λ (k : WorkerKnown). k.output) c.new-2.ensures;
      has = ap (λ (k : WorkerKnown). k.has) c.new-2.ensures;
      config = with_trial c.args.config;
      set = ap (λ (k : WorkerKnown). k.settings) c.new-2.ensures ∙ new.settings;
      count = ap length (sym c.as_slice.ensures);
    }
