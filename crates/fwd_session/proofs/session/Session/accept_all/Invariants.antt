use Rattle.std.proofs.Common.{◌≡◌}
use Rattle.std.specs.Vec.Iter.{into_iter_items}
use Rattle.fwd_session.specs.Flights.{live_pending}
use Rattle.fwd_session.specs.Hearing.{AreAcksOf}
use Rattle.fwd_session.proofs.Taking.{accepts_all}
use Rattle.fwd_session.proofs.session.Session.accept_all.Given as goal

-- the chunks that are still to be acknowledged are there, and with them all are acknowledged
abbrev pub invariant-loop-ack : goal.invariant-loop-ack
invariant-loop-ack l = record {
  acks : AreAcksOf l.self.setup.server (live_pending l.self.carried) (into_iter_items l.ack-iterator);
  goes : accepts_all (into_iter_items l.ack-iterator) l.self ≡ accepts_all l.fn.acks.items l.fn.self;
}
