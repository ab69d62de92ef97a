use Rattle.fwd_chunks.proofs.Freedom.{live-wanted, live-wanted_only}
use Rattle.fwd_chunks.proofs.laws.live_given_is_wanted.Goals as goal

pub returns-clause-is : goal.returns-clause-is
returns-clause-is c b wanted now sound = live-wanted b wanted now sound

pub returns-clause-only : goal.returns-clause-only
returns-clause-only c b wanted now answer sound is = live-wanted_only b wanted now answer sound is
