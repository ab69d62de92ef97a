use Rattle.std.proofs.Common.{◌<◌, ◌^◌, sym, subst}
use Rattle.fwd_chunks.proofs.Sane.{reached-sane}
use Rattle.fwd_chunks.proofs.Follows.{refusal-live, spans-live, closing-live, carried-live, counts-live}
use Rattle.fwd_chunks.proofs.Runs.{load-live, reached-setting}
use Rattle.fwd_chunks.proofs.laws.live_answers.Goals as goal

pub returns-clause-refusal : goal.returns-clause-refusal
returns-clause-refusal c setting h origin r now is = refusal-live h origin r now (reached-sane setting h is)

pub returns-clause-spans : goal.returns-clause-spans
returns-clause-spans c setting h origin r now is = spans-live h origin r now (reached-sane setting h is)

pub returns-clause-closing : goal.returns-clause-closing
returns-clause-closing c setting h now kind is = closing-live h now kind (reached-sane setting h is)

pub returns-clause-given : goal.returns-clause-given
returns-clause-given c setting h wanted fits is =
    load-live h wanted (subst (λ s. s.limits.retry_max < 2 ^ 64) (sym (reached-setting setting h is)) fits) (reached-sane setting h is)

pub returns-clause-carried : goal.returns-clause-carried
returns-clause-carried c setting h number is = carried-live h number (reached-sane setting h is)

pub returns-clause-counts : goal.returns-clause-counts
returns-clause-counts c h = counts-live h
