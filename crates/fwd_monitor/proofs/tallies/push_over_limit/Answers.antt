use Rattle.fwd_monitor.proofs.TextLemmas.{added}
use Rattle.fwd_monitor.proofs.tallies.push_over_limit.Goals as goal

pub returns : goal.returns
returns c =
    added _ _ _ _ _ c.in_ok-push_head.ensures c.in_ok-push_over_limit_lines.ensures
