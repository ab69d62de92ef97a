use Rattle.std.proofs.Common.{arith, ◌∙◌}
use Rattle.fwd_reader.proofs.Queueing.{no_key, none_retried, one_fewer, retried}
use Rattle.fwd_reader.proofs.connections.Connections.retry_waiting.Goals as goal

pub loop-preserved : goal.loop-preserved
loop-preserved g c = (
  c.retry_next.ensures.stand ∙ c.loop.invariant.0,
  c.retry_next.ensures.sources ∙ c.loop.invariant.1,
  omega (
    arith,
    c.loop.invariant.2,
    one_fewer c.loop.self c.retry_next.new.self c.retry_next.ensures.retried
        (omega (arith, c.loop.invariant.2)),
  ),
  λ t others. c.loop.invariant.3 t
      (retried c.loop.self c.retry_next.new.self t c.retry_next.ensures.retried others),
)

pub returns-clause-none : goal.returns-clause-none
returns-clause-none g c = no_key c.loop.self.waiting.items (omega (arith, c.loop.invariant.2))

pub returns-clause-each : goal.returns-clause-each
returns-clause-each g c =
    c.loop.invariant.3 c.loop.self
    (none_retried c.loop.self
    (no_key c.loop.self.waiting.items (omega (arith, c.loop.invariant.2))))
