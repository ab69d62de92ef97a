use Rattle.std.proofs.Common.{ap}
use Rattle.fwd_session.specs.Said.{said_in, rest_of}
use Rattle.fwd_session.proofs.Saying.{said-whole, rest-whole, stream-short, stream-bad}
use Rattle.fwd_session.proofs.laws.said_by_front.Goals as goal

pub returns-clause-whole : goal.returns-clause-whole
returns-clause-whole c login salt at awaited bytes used e = said-whole login salt at awaited bytes used e

pub returns-clause-behind : goal.returns-clause-behind
returns-clause-behind c bytes used e = rest-whole bytes used e

pub returns-clause-short : goal.returns-clause-short
returns-clause-short c login salt at awaited bytes e = ap (said_in login salt at awaited) (stream-short bytes e)

pub returns-clause-rest : goal.returns-clause-rest
returns-clause-rest c bytes e = ap rest_of (stream-short bytes e)

pub returns-clause-bad : goal.returns-clause-bad
returns-clause-bad c login salt at awaited bytes fault e = ap (said_in login salt at awaited) (stream-bad bytes fault e)
