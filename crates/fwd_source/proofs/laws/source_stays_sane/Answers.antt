use Rattle.fwd_source.proofs.Following.{opened-sane, hears-sane, piece-sane, gives-sane, appends-sane, drains-sane, shuts-sane}
use Rattle.fwd_source.proofs.laws.source_stays_sane.Goals as goal

pub returns-clause-opened : goal.returns-clause-opened
returns-clause-opened c setup = opened-sane setup

pub returns-clause-hears : goal.returns-clause-hears
returns-clause-hears c s bytes sane e = hears-sane s bytes sane e

pub returns-clause-piece : goal.returns-clause-piece
returns-clause-piece c s bytes sane = piece-sane s bytes sane

pub returns-clause-gives : goal.returns-clause-gives
returns-clause-gives c s r rs sane e = gives-sane s r rs sane e

pub returns-clause-appends : goal.returns-clause-appends
returns-clause-appends c s bytes sane = appends-sane s bytes sane

pub returns-clause-drains : goal.returns-clause-drains
returns-clause-drains c s count sane e le = drains-sane s count sane e le

pub returns-clause-shuts : goal.returns-clause-shuts
returns-clause-shuts c s sane = shuts-sane s sane
