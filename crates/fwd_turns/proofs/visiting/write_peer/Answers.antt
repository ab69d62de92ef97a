use Rattle.fwd_turns.proofs.Keeping.{stands_with}
use Rattle.fwd_turns.proofs.visiting.write_peer.Goals as goal

pub returns-in-Source-clause-stands : goal.returns-in-Source-clause-stands
returns-in-Source-clause-stands g c = λ source it.
    stands_with c.args.connection.now c.in-Source.source c.tell_end.new.source
    c.write_source.new.source source c.in-Source.is c.tell_end.ensures.once
    c.write_source.ensures.waiting it
