use Rattle.std.proofs.Common.{◌≡◌, List, ◌∷◌, sym, ap, subst, ◌∙◌}
use Rattle.std.specs.Vec.Iter.{into_iter_items}
use Rattle.fwd_session.specs.declared.hearing.Ack.{Ack}
use Rattle.fwd_session.specs.Flights.{live_pending}
use Rattle.fwd_session.specs.Hearing.{AreAcksOf}
use Rattle.fwd_session.specs.Live.{LiveSession}
use Rattle.fwd_session.proofs.Taking.{accepts_all, accepts-first, acks-left}
use Rattle.fwd_session.proofs.session.Session.accept_all.Goals as goal

pub loop-ack-preserved : goal.loop-ack-preserved
loop-ack-preserved c =
    let s : LiveSession = c.loop-ack.self in
    let t : LiveSession = c.accept.new.self in
    let a : Ack = c.in-Some.ack in
    let rest : List Ack = into_iter_items c.next.new.self in
    let items : into_iter_items c.loop-ack.ack-iterator ≡ a ∷ rest = c.in-Some.ensures.steps.0 in
    let acks : AreAcksOf s.setup.server (live_pending s.carried) (a ∷ rest) = subst (AreAcksOf s.setup.server (live_pending s.carried)) items c.loop-ack.invariant.acks in
    let done = c.accept.ensures in
    record {
      acks = acks-left s t a rest done.0 acks.1 done.2;
      goes = accepts-first s t a rest done.0 s.setup.server acks.0 done.1 done.2
          ∙ ap (λ more. accepts_all more s) (sym items) ∙ c.loop-ack.invariant.goes;
    }
