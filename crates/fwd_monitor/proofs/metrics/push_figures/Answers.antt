use Rattle.fwd_monitor.proofs.TextLemmas.{added}
use Rattle.fwd_monitor.proofs.metrics.push_figures.Goals as goal

pub returns : goal.returns
returns c =
    added _ _ _ _ _ (added _ _ _ _ _
    (added _ _ _ _ _ c.in_ok-push_build.ensures c.in_ok-push_known.ensures)
    c.in_ok-push_counter.ensures)
    c.in_ok-push_process.ensures
