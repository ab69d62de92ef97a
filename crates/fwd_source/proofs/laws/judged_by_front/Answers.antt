use Rattle.fwd_source.proofs.Judging.{judged_of-whole, judged_of-short, judged_of-bad}
use Rattle.fwd_source.proofs.laws.judged_by_front.Goals as goal

pub returns-clause-whole : goal.returns-clause-whole
returns-clause-whole c limits awaited n bytes used e = judged_of-whole limits awaited n bytes used e

pub returns-clause-short : goal.returns-clause-short
returns-clause-short c limits awaited n bytes e = judged_of-short limits awaited n bytes e

pub returns-clause-bad : goal.returns-clause-bad
returns-clause-bad c limits awaited n bytes fault e = judged_of-bad limits awaited n bytes fault e
