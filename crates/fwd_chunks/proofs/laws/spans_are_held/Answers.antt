use Rattle.fwd_chunks.proofs.Holding.{spans-held, spans-cut, spans-rise, carried-run}
use Rattle.fwd_chunks.proofs.laws.spans_are_held.Goals as goal

pub returns-clause-cut : goal.returns-clause-cut
returns-clause-cut c b r now sound = spans-cut b r now sound

pub returns-clause-rising : goal.returns-clause-rising
returns-clause-rising c b r now sound = spans-rise b r now sound

pub returns-clause-held : goal.returns-clause-held
returns-clause-held c b r now sound = spans-held b r now sound

pub returns-clause-carried : goal.returns-clause-carried
returns-clause-carried c b load tag s own sound is at h = carried-run b load tag s own sound is at h
