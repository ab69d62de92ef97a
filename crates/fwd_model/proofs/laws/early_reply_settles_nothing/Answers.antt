use Rattle.fwd_model.proofs.WayBack.{early-each, early-nothing}
use Rattle.fwd_model.proofs.laws.early_reply_settles_nothing.Goals as goal

pub returns-clause-each : goal.returns-clause-each
returns-clause-each c h o w i bytes l s t a here at next has = early-each h o w i bytes l s t a here at next has

pub returns-clause-nothing : goal.returns-clause-nothing
returns-clause-nothing c h o w bytes l s here at none early = early-nothing h o w bytes l s here at none early
