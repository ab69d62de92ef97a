use Rattle.fwd_session.proofs.Following.{begins-live, ready-live, room-live, late-live, acked-live, told-live, out-live, loads-live, sends-live, hears-live, unloads-live, looks-live}
use Rattle.fwd_session.proofs.laws.live_follows.Goals as goal

pub returns-clause-begins : goal.returns-clause-begins
returns-clause-begins c setup = begins-live setup

pub returns-clause-ready : goal.returns-clause-ready
returns-clause-ready c s = ready-live s

pub returns-clause-room : goal.returns-clause-room
returns-clause-room c s = room-live s

pub returns-clause-late : goal.returns-clause-late
returns-clause-late c s now = late-live s now

pub returns-clause-acked : goal.returns-clause-acked
returns-clause-acked c s = acked-live s

pub returns-clause-told : goal.returns-clause-told
returns-clause-told c s bytes sane = told-live s bytes sane

pub returns-clause-out : goal.returns-clause-out
returns-clause-out c s bytes sane = out-live s bytes sane

pub returns-clause-loads : goal.returns-clause-loads
returns-clause-loads c s chunk now sane up = loads-live s chunk now sane up

pub returns-clause-sends : goal.returns-clause-sends
returns-clause-sends c s count = sends-live s count

pub returns-clause-hears : goal.returns-clause-hears
returns-clause-hears c s bytes sane = hears-live s bytes sane

pub returns-clause-unloads : goal.returns-clause-unloads
returns-clause-unloads c s = unloads-live s

pub returns-clause-looks : goal.returns-clause-looks
returns-clause-looks c s now up = looks-live s now up
