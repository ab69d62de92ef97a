use Rattle.std.proofs.Common.{subst}
use Rattle.std.proofs.lemmas.Option.{same_Some}
use Rattle.fwd_session.specs.Live.{session_hears}
use Rattle.fwd_core.specs.Lanes.{IsRoomy}
use Rattle.fwd_core.proofs.WorkerLemmas.{hears-roomy, hears-same, same_work}
use Rattle.fwd_core.proofs.worker.Worker.heard.Goals as goal

pub invariant_of-self-2 : goal.invariant_of-self-2
invariant_of-self-2 c = λ s e.
    subst (IsRoomy c.self.inside.taken) (same_Some _ _ e)
    (hears-roomy c.self.inside.taken c.in-Some.session c.heard.new.self c.args.bytes.now c.in_ok-told.ensures.next c.in_ok-told.ensures.room (c.self.invariant c.in-Some.session c.in-Some.is))

pub returns-clause-chunks : goal.returns-clause-chunks
returns-clause-chunks c =
    same_work c.args.self.now c.self.inside.taken c.self.inside.session c.in-Some.session c.heard.new.self (session_hears c.in-Some.session c.args.bytes.now) c.self.view_is c.in-Some.is c.in_ok-told.ensures.next
    (hears-same c.self.inside.taken c.in-Some.session c.args.bytes.now)
