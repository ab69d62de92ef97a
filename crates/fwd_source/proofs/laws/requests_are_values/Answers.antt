use Rattle.fwd_source.proofs.Asking.{judged_requests, judged_fault}
use Rattle.fwd_source.proofs.laws.requests_are_values.Goals as goal

pub returns-clause-requests : goal.returns-clause-requests
returns-clause-requests c limits n bytes lt = judged_requests limits n bytes lt

pub returns-clause-fault : goal.returns-clause-fault
returns-clause-fault c limits n bytes lt = judged_fault limits n bytes lt
