use Rattle.std.proofs.Common.{sym, subst}
use Rattle.fwd_turns.specs.Keeping.{IsNoted}
use Rattle.fwd_turns.proofs.Keeping.{noted_again, noted_kept, noted_waits}
use Rattle.fwd_turns.proofs.event_loop.EventLoop.follow.Goals as goal

pub returns-in-Again-clause-noted : goal.returns-in-Again-clause-noted
returns-in-Again-clause-noted g c =
    subst (λ after. IsNoted after c.note_admitted.new.self c.args.key) (sym c.in-Again.is)
    (noted_again c.args.self.now.connections c.note_ready.new.self c.note_admitted.new.self
    c.args.key c.note_ready.ensures.flags c.note_admitted.ensures.flags)

pub returns-in-Waits-clause-noted : goal.returns-in-Waits-clause-noted
returns-in-Waits-clause-noted g c =
    subst (λ after. IsNoted after c.note_waiting.new.self c.args.key) (sym c.in-Waits.is)
    (noted_waits c.args.self.now.connections c.note_waiting.new.self c.args.key c.args.now
    c.note_waiting.ensures.flags)

pub returns-in-Kept-clause-noted : goal.returns-in-Kept-clause-noted
returns-in-Kept-clause-noted g c =
    subst (λ after. IsNoted after c.note_kept.new.self c.args.key) (sym c.in-Kept.is)
    (noted_kept c.args.self.now.connections c.note_kept.new.self
    c.args.self.now.connections.kept c.args.self.now.connections.kept_limit c.args.key
    c.args.now c.note_kept.ensures.flags)
