use Rattle.fwd_model.proofs.Standing.{none_begins}
use Rattle.fwd_model.proofs.laws.session_begins_once.Goals as goal

pub returns : goal.returns
returns c config es o w b = none_begins config o w {es = es} b
