use Rattle.fwd_monitor.proofs.TextLemmas.{added}
use Rattle.fwd_monitor.specs.Metrics.{build_text}
use Rattle.fwd_monitor.proofs.metrics.push_build.Goals as goal

pub returns : goal.returns
unfolding build_text
returns c = added _ _ _ _ _ c.in_ok-push_head.ensures c.in_ok-push_word.ensures
