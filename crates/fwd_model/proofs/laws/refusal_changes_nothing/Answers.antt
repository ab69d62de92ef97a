use Rattle.fwd_model.specs.History.{histories}
use Rattle.fwd_model.specs.Live.{lives}
use Rattle.fwd_model.proofs.Refusals.{refused_stays}
use Rattle.fwd_model.proofs.laws.refusal_changes_nothing.Goals as goal

pub returns-clause-history : goal.returns-clause-history
returns-clause-history c h e refused = refused_stays histories h e refused

pub returns-clause-live : goal.returns-clause-live
returns-clause-live c r e refused = refused_stays lives r e refused
