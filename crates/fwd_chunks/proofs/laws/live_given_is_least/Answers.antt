use Rattle.fwd_chunks.proofs.Freedom.{live-least, live-only}
use Rattle.fwd_chunks.proofs.laws.live_given_is_least.Goals as goal

pub returns-clause-is : goal.returns-clause-is
returns-clause-is c b now sound = live-least b now sound

pub returns-clause-only : goal.returns-clause-only
returns-clause-only c b now answer sound is = live-only b now answer sound is
