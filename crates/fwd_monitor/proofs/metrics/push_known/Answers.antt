use Rattle.fwd_monitor.proofs.TextLemmas.{added}
use Rattle.fwd_monitor.specs.Metrics.{known_text}
use Rattle.fwd_monitor.proofs.metrics.push_known.Goals as goal

pub returns : goal.returns
unfolding known_text
returns c =
    added _ _ _ _ _ (added _ _ _ _ _ (added _ _ _ _ _
    (added _ _ _ _ _ c.in_ok-push_start.ensures c.in_ok-push_gauge.ensures)
    c.in_ok-push_gauge-2.ensures)
    c.in_ok-push_gauge-3.ensures)
    (rw c.flag_value.ensures at c.in_ok-push_gauge-4.ensures)
