use Rattle.fwd_chunks.proofs.Runs.{given-is, given-only}
use Rattle.fwd_chunks.proofs.laws.given_is_least.Goals as goal

pub returns-clause-is : goal.returns-clause-is
returns-clause-is c h = given-is h

pub returns-clause-only : goal.returns-clause-only
returns-clause-only c h answer is = given-only h answer is
