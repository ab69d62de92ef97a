use Rattle.fwd_session.proofs.Framing.{begins-framed, loads-framed, sends-framed, hears-framed, unloads-framed, looks-framed}
use Rattle.fwd_session.proofs.laws.stays_framed.Goals as goal

pub returns-clause-begins : goal.returns-clause-begins
returns-clause-begins c setup = begins-framed setup

pub returns-clause-loads : goal.returns-clause-loads
returns-clause-loads c s chunk now own ready = loads-framed s chunk now own ready

pub returns-clause-sends : goal.returns-clause-sends
returns-clause-sends c s count own = sends-framed s count own

pub returns-clause-hears : goal.returns-clause-hears
returns-clause-hears c s bytes sane own = hears-framed s bytes sane own

pub returns-clause-unloads : goal.returns-clause-unloads
returns-clause-unloads c s own = unloads-framed s own

pub returns-clause-looks : goal.returns-clause-looks
returns-clause-looks c s now own = looks-framed s now own
