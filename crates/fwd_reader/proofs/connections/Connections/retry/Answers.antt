use Rattle.std.proofs.Common.{refl, sym, ap, ◌∙◌}
use Rattle.slab.specs.Slab as slots
use Rattle.fwd_reader.proofs.Queueing.{asked_again}
use Rattle.fwd_reader.proofs.Standing.{all_stay, flags_change}
use Rattle.fwd_reader.proofs.connections.Connections.retry.Goals as goal

pub returns-then-replace-clause-stand : goal.returns-then-replace-clause-stand
returns-then-replace-clause-stand g c =
    c.note_ready.ensures.stand
    ∙ all_stay c.args.self.now.opened c.args.key c.in-Some.opened.now
    (record c.in-Some.opened.now { is_queued = c.replace.new.dest })
    (sym c.in-Some.ensures.value) refl

pub returns-then-replace-clause-sources : goal.returns-then-replace-clause-sources
returns-then-replace-clause-sources g c =
    c.note_ready.ensures.sources
    ∙ flags_change c.args.self.now.sources c.args.self.now.opened c.args.key c.in-Some.opened.now
    (record c.in-Some.opened.now { is_queued = c.replace.new.dest })
    (sym c.in-Some.ensures.value) refl

pub returns-then-replace-clause-waiting : goal.returns-then-replace-clause-waiting
returns-then-replace-clause-waiting g c = c.note_ready.ensures.waiting

pub returns-then-replace-clause-retried : goal.returns-then-replace-clause-retried
returns-then-replace-clause-retried g c =
    asked_again c.args.self.now
    (record c.args.self.now {
      opened = slots.with_value c.args.self.now.opened c.args.key
          (record c.in-Some.opened.now { is_queued = c.replace.new.dest });
    })
    c.note_ready.new.self c.args.key c.in-Some.opened.now (sym c.in-Some.ensures.value)
    (sym c.replace.ensures.value ∙ c.if-replace.true)
    (ap
    (λ b. slots.with_value c.args.self.now.opened c.args.key
    (record c.in-Some.opened.now { is_queued = b }))
    c.replace.ensures.after)
    refl c.note_ready.ensures.flags c.note_ready.ensures.queued
