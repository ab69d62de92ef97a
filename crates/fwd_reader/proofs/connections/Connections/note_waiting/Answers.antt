use Rattle.std.proofs.Common.{sym, ap}
use Rattle.fwd_reader.proofs.Standing.{all_stay, flags_change}
use Rattle.fwd_reader.proofs.connections.Connections.note_waiting.Goals as goal

pub returns-then-not-is_queued-clause-stand : goal.returns-then-not-is_queued-clause-stand
returns-then-not-is_queued-clause-stand g c =
    all_stay c.args.self.now.opened c.args.key c.in-Some.opened.now c.wait_from-is_more.new.self
    (sym c.in-Some.ensures.value) (ap (λ o. o.connection) c.wait_from-is_more.ensures.waits)

pub returns-then-not-is_queued-clause-sources : goal.returns-then-not-is_queued-clause-sources
returns-then-not-is_queued-clause-sources g c =
    flags_change c.args.self.now.sources c.args.self.now.opened c.args.key c.in-Some.opened.now
    c.wait_from-is_more.new.self (sym c.in-Some.ensures.value)
    (ap (λ o. o.connection) c.wait_from-is_more.ensures.waits)

pub returns-else-not-is_queued-clause-stand : goal.returns-else-not-is_queued-clause-stand
returns-else-not-is_queued-clause-stand g c =
    all_stay c.args.self.now.opened c.args.key c.in-Some.opened.now c.wait_from-is_more.new.self
    (sym c.in-Some.ensures.value) (ap (λ o. o.connection) c.wait_from-is_more.ensures.waits)

pub returns-else-not-is_queued-clause-sources : goal.returns-else-not-is_queued-clause-sources
returns-else-not-is_queued-clause-sources g c =
    flags_change c.args.self.now.sources c.args.self.now.opened c.args.key c.in-Some.opened.now
    c.wait_from-is_more.new.self (sym c.in-Some.ensures.value)
    (ap (λ o. o.connection) c.wait_from-is_more.ensures.waits)
