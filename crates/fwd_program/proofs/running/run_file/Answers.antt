use Rattle.fwd_program.proofs.Flushed.{flushed_runs, left_runs}
use Rattle.fwd_program.proofs.running.run_file.Goals as goal

pub returns-in-Ran : goal.returns-in-Ran
returns-in-Ran g c =
    let ran = c.in-Ran.ensures in
    (ran.0, flushed_runs c.flush.result c.in-Ran.status c.flushed.result ran.0 _ _ _ c.flushed.ensures.ok c.flushed.ensures.err ran.1 c.flush.ensures)

pub returns-in-Left : goal.returns-in-Left
returns-in-Left g c =
    let ran = c.in-Left.ensures in
    (ran.0, left_runs c.flush-in-Left.result c.in-Left.left c.left_flushed.result ran.0 _ _ _ c.left_flushed.ensures ran.1 c.flush-in-Left.ensures)
