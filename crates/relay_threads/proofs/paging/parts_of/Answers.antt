use Rattle.std.proofs.Common.{arith, ◌≡◌, ◌<◌, ◌∙◌, length, ap, sym, subst, false}
use Rattle.std.specs.Prelude.{Contains}
use Rattle.fwd_model.specs.declared.config.OutputConfig.{OutputConfig}
use Rattle.fwd_output.proofs.Basics.{has-false}
use Rattle.fwd_run.specs.Pages.{WorkerKnown, with_trial}
use Rattle.relay_threads.proofs.paging.parts_of.Goals as goal

pub new-requires-clause-has_primary : goal.new-requires-clause-has_primary
new-requires-clause-has_primary g c =
    subst (λ bs. Contains bs false) (sym c.as_slice.ensures) (has-false c.args.config.standby c.args.config.has_primary)

pub new-requires-clause-workers : goal.new-requires-clause-workers
new-requires-clause-workers g c =
    let config : OutputConfig = with_trial c.args.config in
    let some : 0 < config.workers = omega arith in (config, c.requires.begun.settings, some)

pub new-requires-clause-trial : goal.new-requires-clause-trial
new-requires-clause-trial g c = record {
  here = ap (λ (k : WorkerKnown). k.output) c.new-trial.ensures;
  has = ap (λ (k : WorkerKnown). k.has) c.new-trial.ensures;
  config = with_trial c.args.config;
  set = ap (λ (k : WorkerKnown). k.settings) c.new-trial.ensures ∙ c.requires.begun.settings;
  count = ap length (sym c.as_slice.ensures);
}
