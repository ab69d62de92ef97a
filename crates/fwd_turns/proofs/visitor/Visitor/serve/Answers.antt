use Rattle.fwd_peers.specs.Peers.{stands}
use Rattle.fwd_turns.proofs.Keeping.{reads_and_serves}
use Rattle.fwd_turns.proofs.visitor.Visitor.serve.Goals as goal

pub returns : goal.returns
returns g c =
    reads_and_serves c.args.context.now.router.now c.admit_all-waits.new.self
    c.args.source.now c.read_leaving-again.new.source c.admit_all-waits.new.source
    c.tell_end-is_starved.new.source c.after_visit.new.source c.admit_all-waits.result
    c.read_leaving-again.result c.args.to_end
    (stands c.after_visit.new.source.stage c.after_visit.new.source.live.unsent)
    c.after_visit.result c.read_leaving-again.ensures.waiting
    c.read_leaving-again.ensures.none c.admit_all-waits.ensures.waits
    c.admit_all-waits.ensures.done c.tell_end-is_starved.ensures.once c.after_visit.ensures.written c.after_visit.ensures.leaves
    c.after_visit.ensures.becomes
