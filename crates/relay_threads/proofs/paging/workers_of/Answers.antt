use Rattle.std.proofs.Common.{rules, ◌≡◌, sym, ap, ◌∙◌}
use Rattle.fwd_run.specs.Pages.{WorkerKnown, with_trial}
use Rattle.relay_threads.proofs.paging.workers_of.Goals as goal

pub new-requires : goal.new-requires
new-requires g c =
    let b = c.requires.begun in record {
      has = ap (λ (k : WorkerKnown). k.has) c.new-page.ensures;
      config = with_trial b.0;
      set = ap (λ (k : WorkerKnown). k.settings) c.new-page.ensures ∙ b.1.settings;
      login = search rules;
      acks = sym b.5;
      servers = sym b.3;
    }
