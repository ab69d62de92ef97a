use Rattle.fwd_model.proofs.Follows.{event_agrees, reached_sane, counts_follow, reports_follow}
use Rattle.fwd_model.proofs.laws.live_follows.Goals as goal

pub returns-clause-step : goal.returns-clause-step
returns-clause-step c config h e r = (event_agrees h e (reached_sane config h r)).same

pub returns-clause-counts : goal.returns-clause-counts
returns-clause-counts c h = counts_follow h

pub returns-clause-reports : goal.returns-clause-reports
returns-clause-reports c config h r = reports_follow h (reached_sane config h r)
