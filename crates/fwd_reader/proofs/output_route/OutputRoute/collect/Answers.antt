use Rattle.std.proofs.Common.{arith, ◌≡◌, ◌+◌, suc, inl, inr, ap, subst}
use Rattle.fwd_peers.specs.Costs.{bounded}
use Rattle.fwd_reader.specs.OpenConnections.{sources_in}
use Rattle.fwd_reader.specs.OpenTickets.{AreQuiet}
use Rattle.fwd_reader.specs.Owing.{upkeep_of}
use Rattle.fwd_reader.specs.Tellings.{AreTold}
use Rattle.fwd_reader.proofs.Answering as answering
use Rattle.fwd_reader.proofs.Told.{CollectsIn, a_round, collected, further, no_further, no_round, nothing, on, on_err, one_told, whole}
use Rattle.fwd_reader.proofs.Routed.{AreDelivered, open_tickets_handed, open_tickets_refused}
use Rattle.fwd_reader.proofs.output_route.OutputRoute.collect.Goals as goal

pub loop-init : goal.loop-init
loop-init g c = (
  λ routes held. (held, nothing routes c.args.reached.now (sources_in c.args.connections.now)),
  λ more t told some.
      subst
      (λ n. CollectsIn n c.args.self.now.open_tickets (sources_in c.args.connections.now) t told)
      (omega arith) some,
  answering.none_more c.args.self.now.open_tickets (sources_in c.args.connections.now)
      c.args.answered.now,
  no_further c.args.reached.now,
)

pub loop-preserved : goal.loop-preserved
loop-preserved g c = (
  λ routes held.
      let before = c.loop.invariant.0 routes held in
      let given = c.in_ok-handed.ensures.given in (
        open_tickets_handed routes c.loop.self.open_tickets c.hand_in.new.self c.in_ok-handed.handed.0.items given before.0,
        on routes c.loop.reached c.tell_all.new.reached (sources_in c.args.connections.now)
            (sources_in c.loop.connections) (sources_in c.tell_all.new.self) before.1
            c.tell_all.ensures.onward
            (one_told routes c.tell_all.new.reached c.in_ok-handed.handed.1 (sources_in c.loop.connections)
            (sources_in c.tell_all.new.self) c.in_ok-handed.handed.0.items c.loop.self.open_tickets
            c.hand_in.new.self delivered given c.in_ok-handed.ensures.reached before.0 told),
      ),
  λ more t then_told others.
      subst
      (λ n. CollectsIn n c.args.self.now.open_tickets (sources_in c.args.connections.now) t then_told)
      (omega arith)
      (c.loop.invariant.1 (suc more) t then_told
      (a_round c.loop.self.open_tickets c.hand_in.new.self t
      (sources_in c.loop.connections) (sources_in c.tell_all.new.self) then_told
      c.in_ok-handed.handed.0.items more c.in_ok-handed.ensures.given due told others)),
  answering.then_more c.args.self.now.open_tickets c.loop.self.open_tickets c.hand_in.new.self
      (sources_in c.args.connections.now) (sources_in c.loop.connections)
      (sources_in c.tell_all.new.self) c.args.answered.now c.loop.answered
      c.saturating_add.result c.loop.invariant.2
      (answering.one_round c.loop.self.open_tickets c.hand_in.new.self
      (sources_in c.loop.connections) (sources_in c.tell_all.new.self)
      c.in_ok-handed.handed.0.items c.loop.answered c.saturating_add.result
      c.in_ok-handed.ensures.given told sum),
  further c.args.reached.now c.loop.reached c.tell_all.new.reached c.loop.invariant.3 c.tell_all.ensures.onward,
)
  where
    told : AreTold (sources_in c.loop.connections) c.in_ok-handed.handed.0.items
        (sources_in c.tell_all.new.self)
    told = subst (λ rs. AreTold (sources_in c.loop.connections) rs (sources_in c.tell_all.new.self))
        c.deref.ensures.value c.tell_all.ensures.told

    delivered : AreDelivered c.tell_all.new.reached c.in_ok-handed.handed.1 (sources_in c.loop.connections) c.in_ok-handed.handed.0.items
    delivered = subst (λ rs. AreDelivered c.tell_all.new.reached c.in_ok-handed.handed.1 (sources_in c.loop.connections) rs)
        c.deref.ensures.value c.tell_all.ensures.delivered

    due : ¬ (AreQuiet c.loop.self.open_tickets)
    due = c.is_due.ensures.due c.if-not-is_due.false

    sum : c.saturating_add.result
        ≡ bounded (c.loop.answered + upkeep_of c.in_ok-handed.handed.0.items)
    sum = omega (
      arith,
      c.saturating_add.ensures,
      c.upkeep_of.ensures,
      ap upkeep_of c.deref-in-loop.ensures.value,
    )

pub returns-in_err-handed-clause-routed : goal.returns-in_err-handed-clause-routed
returns-in_err-handed-clause-routed g c = λ routes held.
    open_tickets_refused routes c.loop.self.open_tickets c.hand_in.new.self c.in_err-handed.ensures.kept
    (c.loop.invariant.0 routes held).0

pub returns-after-loop-clause-routed : goal.returns-after-loop-clause-routed
returns-after-loop-clause-routed g c = λ routes held. (c.loop.invariant.0 routes held).0

pub returns-then-not-is_due-clause-routed : goal.returns-then-not-is_due-clause-routed
returns-then-not-is_due-clause-routed g c = λ routes held. (c.loop.invariant.0 routes held).0

pub returns-in_err-handed-clause-part : goal.returns-in_err-handed-clause-part
returns-in_err-handed-clause-part g c =
    on_err c.from_residual.result (
      c.loop.self.open_tickets,
      (
        collected (c.loop.counter + 0) c.args.self.now.open_tickets c.loop.self.open_tickets
            (sources_in c.args.connections.now) (sources_in c.loop.connections)
            (c.loop.invariant.1 0 c.loop.self.open_tickets (sources_in c.loop.connections)
            (no_round c.loop.self.open_tickets (sources_in c.loop.connections))),
        c.in_err-handed.ensures.kept,
      ),
    )

pub returns-after-loop-clause-each : goal.returns-after-loop-clause-each
returns-after-loop-clause-each g c =
    collected (c.loop.counter + 0) c.args.self.now.open_tickets c.loop.self.open_tickets
    (sources_in c.args.connections.now) (sources_in c.loop.connections)
    (c.loop.invariant.1 0 c.loop.self.open_tickets (sources_in c.loop.connections)
    (no_round c.loop.self.open_tickets (sources_in c.loop.connections)))

pub returns-after-loop-clause-whole : goal.returns-after-loop-clause-whole
returns-after-loop-clause-whole g c =
    whole 16 (c.loop.counter + 0) c.args.self.now.open_tickets c.loop.self.open_tickets
    (sources_in c.args.connections.now) (sources_in c.loop.connections)
    (c.loop.invariant.1 0 c.loop.self.open_tickets (sources_in c.loop.connections)
    (no_round c.loop.self.open_tickets (sources_in c.loop.connections)))
    (omega arith) (inr (omega arith))

pub returns-then-not-is_due-clause-each : goal.returns-then-not-is_due-clause-each
returns-then-not-is_due-clause-each g c =
    collected (c.loop.counter + 0) c.args.self.now.open_tickets c.loop.self.open_tickets
    (sources_in c.args.connections.now) (sources_in c.loop.connections)
    (c.loop.invariant.1 0 c.loop.self.open_tickets (sources_in c.loop.connections)
    (no_round c.loop.self.open_tickets (sources_in c.loop.connections)))

pub returns-then-not-is_due-clause-whole : goal.returns-then-not-is_due-clause-whole
returns-then-not-is_due-clause-whole g c =
    whole 16 (c.loop.counter + 0) c.args.self.now.open_tickets c.loop.self.open_tickets
    (sources_in c.args.connections.now) (sources_in c.loop.connections)
    (c.loop.invariant.1 0 c.loop.self.open_tickets (sources_in c.loop.connections)
    (no_round c.loop.self.open_tickets (sources_in c.loop.connections)))
    (omega arith) (inl (c.is_due.ensures.quiet c.if-not-is_due.true))

pub returns-in_err-handed-clause-answers : goal.returns-in_err-handed-clause-answers
returns-in_err-handed-clause-answers g c =
    answering.then_more c.args.self.now.open_tickets c.loop.self.open_tickets c.hand_in.new.self
    (sources_in c.args.connections.now) (sources_in c.loop.connections)
    (sources_in c.loop.connections) c.args.answered.now c.loop.answered c.loop.answered
    c.loop.invariant.2
    (answering.no_round c.loop.self.open_tickets c.hand_in.new.self
    (sources_in c.loop.connections) c.loop.answered c.in_err-handed.ensures.kept)
