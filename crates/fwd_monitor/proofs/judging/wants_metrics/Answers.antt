use Rattle.std.proofs.Common.{subst, sym}
use Rattle.std.specs.Prelude.{IsTrue}
use Rattle.fwd_monitor.specs.Requests.{WantsMetrics}
use Rattle.fwd_monitor.proofs.ReplyLemmas.{metrics-wants}
use Rattle.fwd_monitor.proofs.judging.wants_metrics.Goals as goal

pub returns : goal.returns
returns c =
    subst (λ b. (IsTrue b → WantsMetrics c.args.heard.now)
    × (WantsMetrics c.args.heard.now → IsTrue b)) (sym c.is_metrics.ensures)
    (metrics-wants c.args.heard.now c.judge.result c.judge.ensures)
