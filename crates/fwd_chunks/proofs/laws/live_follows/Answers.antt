use Rattle.std.proofs.Common.{◌<◌, ◌^◌, sym, subst}
use Rattle.fwd_chunks.proofs.Sane.{reached-sane}
use Rattle.fwd_chunks.proofs.Runs.{opening-live, next-live, reached-setting}
use Rattle.fwd_chunks.proofs.laws.live_follows.Goals as goal

pub returns-clause-opening : goal.returns-clause-opening
returns-clause-opening c setting = opening-live setting

pub returns-clause-next : goal.returns-clause-next
returns-clause-next c setting h event fits r =
    next-live h event (subst (λ s. s.limits.retry_max < 2 ^ 64) (sym (reached-setting setting h r)) fits) (reached-sane setting h r)
