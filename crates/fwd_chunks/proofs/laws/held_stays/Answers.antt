use Rattle.fwd_chunks.proofs.Holding.{enters-held, enters-gone, flushes-stays, takes-stays, frees-stays, settles-held, settles-gone, settled-gone}
use Rattle.fwd_chunks.proofs.laws.held_stays.Goals as goal

pub returns-clause-enters : goal.returns-clause-enters
returns-clause-enters c b r now tag s own sound h = enters-held b r now tag s own sound h

pub returns-clause-flushes : goal.returns-clause-flushes
returns-clause-flushes c b now kind tag s own h = (flushes-stays b now kind).held tag s own h

pub returns-clause-takes : goal.returns-clause-takes
returns-clause-takes c b worker wanted now tag s own h = (takes-stays b worker wanted now).held tag s own h

pub returns-clause-frees : goal.returns-clause-frees
returns-clause-frees c b number loss tag s own h = (frees-stays b number loss).held tag s own h

pub returns-clause-settles : goal.returns-clause-settles
returns-clause-settles c b number tag s own differ h = settles-held b number tag s own differ h

pub returns-clause-gone : goal.returns-clause-gone
returns-clause-gone c b load sound is = settled-gone b load sound is

pub returns-clause-gone_enters : goal.returns-clause-gone_enters
returns-clause-gone_enters c b r now n sound h = enters-gone b r now n sound h

pub returns-clause-gone_flushes : goal.returns-clause-gone_flushes
returns-clause-gone_flushes c b now kind n h = (flushes-stays b now kind).gone n h

pub returns-clause-gone_takes : goal.returns-clause-gone_takes
returns-clause-gone_takes c b worker wanted now n h = (takes-stays b worker wanted now).gone n h

pub returns-clause-gone_frees : goal.returns-clause-gone_frees
returns-clause-gone_frees c b number loss n h = (frees-stays b number loss).gone n h

pub returns-clause-gone_settles : goal.returns-clause-gone_settles
returns-clause-gone_settles c b number n h = settles-gone b number n h
