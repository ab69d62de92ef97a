use Rattle.std.proofs.Common.{arith, ◌≡◌, ◌<◌}
use Rattle.fwd_model.specs.declared.config.OutputConfig.{OutputConfig}
use Rattle.fwd_output.proofs.Basics.{has-false}
use Rattle.fwd_run.specs.Pages.{with_trial}
use Rattle.fwd_pools.proofs.worker_pools.locked_of.Goals as goal

pub new-requires-clause-workers : goal.new-requires-clause-workers
new-requires-clause-workers g c =
    let b = c.requires.begun in
    let config : OutputConfig = with_trial b.0 in
    let some : 0 < config.workers = omega arith in (config, b.3.settings, some)

pub new-requires-clause-has_primary : goal.new-requires-clause-has_primary
new-requires-clause-has_primary g c = has-false c.args.standby.now c.requires.has_primary
