use Rattle.fwd_chunks.proofs.Given.{closed-given}
use Rattle.fwd_chunks.proofs.laws.closed_is_given.Goals as goal

pub returns : goal.returns
returns c = λ b wanted now kind sound none. closed-given b wanted now kind sound none
