use Rattle.fwd_monitor.proofs.TextLemmas.{added}
use Rattle.fwd_monitor.proofs.metrics.push_infos.Goals as goal

pub returns : goal.returns
returns c = added _ _ _ _ _ c.in_ok-push_info_head.ensures c.in_ok-push_info_lines.ensures
