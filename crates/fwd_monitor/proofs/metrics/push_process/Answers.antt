use Rattle.fwd_monitor.proofs.TextLemmas.{added}
use Rattle.fwd_monitor.specs.Metrics.{process_text}
use Rattle.fwd_monitor.proofs.metrics.push_process.Goals as goal

pub returns : goal.returns
unfolding process_text
returns c =
    added _ _ _ _ _ (added _ _ _ _ _ (added _ _ _ _ _
    (added _ _ _ _ _ c.in_ok-push_gauge_if.ensures c.in_ok-push_gauge_if-2.ensures)
    c.in_ok-push_gauge_if-3.ensures)
    c.in_ok-push_seconds_if.ensures)
    c.in_ok-push_seconds_if-2.ensures
