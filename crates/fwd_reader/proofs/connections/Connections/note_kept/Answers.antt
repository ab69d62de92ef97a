use Rattle.std.proofs.Common.{sym, subst, ◌∙◌}
use Rattle.std.specs.VecDeque.{deque_capacity}
use Rattle.fwd_reader.specs.Queues.{Queues, is_queued_at, kept_at}
use Rattle.fwd_reader.proofs.connections.Connections.note_kept.Goals as goal

pub returns-clause-stand : goal.returns-clause-stand
returns-clause-stand g c = c.keep.ensures.stand ∙ c.note_waiting.ensures.stand

pub returns-clause-sources : goal.returns-clause-sources
returns-clause-sources g c = c.keep.ensures.sources ∙ c.note_waiting.ensures.sources

pub returns-clause-flags : goal.returns-clause-flags
returns-clause-flags g c =
    c.keep.ensures.flags
    ∙ (λ i. kept_at (c.note_waiting.ensures.kept.0 i) (c.note_waiting.ensures.kept.1 i) c.args.key
    (c.note_waiting.ensures.flags i))

pub returns-clause-queued : goal.returns-clause-queued
returns-clause-queued g c =
    subst
    (λ q. Queues (is_queued_at c.args.self.now c.args.key) c.args.key
    (deque_capacity c.args.self.now.waiting) c.args.self.now.waiting.items q.items)
    (sym c.keep.ensures.waiting) c.note_waiting.ensures.queued
