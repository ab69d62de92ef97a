use Rattle.fwd_run.proofs.Since.{output_since, worker_since, source_since, last_since}
use Rattle.fwd_run.proofs.laws.parts_stay.Goals as goal

pub returns-clause-output : goal.returns-clause-output
returns-clause-output c o old past r begun went = output_since o old past r begun went

pub returns-clause-worker : goal.returns-clause-worker
returns-clause-worker c o w old past r begun went = worker_since o w old past r begun went

pub returns-clause-source : goal.returns-clause-source
returns-clause-source c id old past r begun went = source_since id old past r begun went

pub returns-clause-last : goal.returns-clause-last
returns-clause-last c old past r begun went = last_since old past r begun went
