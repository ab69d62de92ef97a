use Rattle.fwd_model.proofs.Waiting.{first-new, first-new-live}
use Rattle.fwd_model.proofs.laws.waiting_is_new.Goals as goal

pub returns-clause-history : goal.returns-clause-history
returns-clause-history c config h id o s l is stands here = first-new config h id o s l is stands here

pub returns-clause-live : goal.returns-clause-live
returns-clause-live c config h id o s l is stands here = first-new-live config h id o s l is stands here
