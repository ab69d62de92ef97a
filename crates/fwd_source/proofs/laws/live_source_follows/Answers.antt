use Rattle.fwd_source.proofs.Following.{opened-live, hears-live, piece-live, answer-live, pong-live, gives-live, appends-live, drains-live, shuts-live}
use Rattle.fwd_source.proofs.laws.live_source_follows.Goals as goal

pub returns-clause-opened : goal.returns-clause-opened
returns-clause-opened c setup = opened-live setup

pub returns-clause-hears : goal.returns-clause-hears
returns-clause-hears c s bytes sane e = hears-live s bytes sane e

pub returns-clause-piece : goal.returns-clause-piece
returns-clause-piece c s bytes sane = piece-live s bytes sane

pub returns-clause-answer : goal.returns-clause-answer
returns-clause-answer c s bytes sane = answer-live s bytes sane

pub returns-clause-pong : goal.returns-clause-pong
returns-clause-pong c s bytes sane e = pong-live s bytes sane e

pub returns-clause-gives : goal.returns-clause-gives
returns-clause-gives c s = gives-live s

pub returns-clause-appends : goal.returns-clause-appends
returns-clause-appends c s bytes sane e = appends-live s bytes sane e

pub returns-clause-drains : goal.returns-clause-drains
returns-clause-drains c s count = drains-live s count

pub returns-clause-shuts : goal.returns-clause-shuts
returns-clause-shuts c s = shuts-live s
