use Rattle.fwd_model.proofs.Deliver.{told_among-delivered}
use Rattle.fwd_model.proofs.laws.told_among_is_delivered.Goals as goal

pub returns : goal.returns
returns c config es events id r o t = told_among-delivered config es events id r o t
