use Rattle.std.proofs.Common.{rules, ◌≡◌, sym, ap, ◌∙◌}
use Rattle.fwd_run.specs.Pages.{WorkerKnown, with_trial}
use Rattle.fwd_run.specs.Runs.{settings_at}
use Rattle.fwd_pools.specs.declared.worker_pools.RunOrigin.{RunOrigin}
use Rattle.fwd_pools.proofs.worker_pools.WorkerPools.add_workers.Goals as goal

pub new-worker-requires : goal.new-worker-requires
new-worker-requires g c =
    let b = c.requires.begun in
    let reached = ap (λ (r : RunOrigin _). settings_at r.reached c.args.pool.now.number) c.loop-number.invariant.run in record {
      has = ap (λ (k : WorkerKnown). k.has) c.new-page.ensures;
      config = with_trial b.0;
      set = ap (λ (k : WorkerKnown). k.settings) c.new-page.ensures ∙ reached ∙ b.1.settings;
      login = search rules;
      acks = sym b.2.acks;
      servers = sym b.2.servers;
    }
