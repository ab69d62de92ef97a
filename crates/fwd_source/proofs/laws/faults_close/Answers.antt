use Rattle.fwd_source.proofs.Pieces.{fault_closes, closed_refuses, closed_stays}
use Rattle.fwd_source.proofs.laws.faults_close.Goals as goal

pub returns-clause-closes : goal.returns-clause-closes
returns-clause-closes c s bytes fault e = fault_closes s bytes fault e

pub returns-clause-refused : goal.returns-clause-refused
returns-clause-refused c s bytes e = closed_refuses s bytes e

pub returns-clause-unchanged : goal.returns-clause-unchanged
returns-clause-unchanged c s bytes e = closed_stays s bytes e
