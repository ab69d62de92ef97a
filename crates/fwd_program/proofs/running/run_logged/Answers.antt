use Rattle.fwd_program.proofs.Unwritten.{ended_runs}
use Rattle.fwd_program.proofs.running.run_logged.Goals as goal

pub returns : goal.returns
returns g c =
    let found = c.settings_at-found.ensures.found in
    (found.0, ended_runs c.run_told-ran.result c.ended.result found.0 _ _ c.ended.ensures (c.run_told-ran.ensures found.0 found.1))
