use Rattle.fwd_model.proofs.Follows.{run_agrees, reached_sane}
use Rattle.fwd_model.proofs.laws.live_run_follows.Goals as goal

pub returns-clause-answers : goal.returns-clause-answers
returns-clause-answers c config h es r = (run_agrees es h (reached_sane config h r)).answers

pub returns-clause-after : goal.returns-clause-after
returns-clause-after c config h es r = (run_agrees es h (reached_sane config h r)).after
