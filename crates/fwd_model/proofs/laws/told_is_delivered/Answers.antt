use Rattle.fwd_model.proofs.Deliver.{told_delivered}
use Rattle.fwd_model.proofs.laws.told_is_delivered.Goals as goal

pub returns : goal.returns
returns c config es id r o t = told_delivered config es id r o t
