use Rattle.std.proofs.Common.{None}
use Rattle.std.specs.Prelude.{map}
use Rattle.fwd_output.specs.HandedBack.{lost_back}
use Rattle.fwd_output.proofs.CouplingLemmas.{frees-coupled}
use Rattle.fwd_output.proofs.HandingBack.{hand_taken}
use Rattle.fwd_output.proofs.output.hand_back.Goals as goal

pub returns-in-Some-clause-back : goal.returns-in-Some-clause-back
returns-in-Some-clause-back c =
    hand_taken c.args.buffer.now c.put_back.new.buffer c.put_all_back-in-Some.new.buffer c.args.taken c.in-Some.chunk (map lost_back c.args.loaded.items) c.args.now c.in-Some.is c.put_back.ensures.here c.put_back.ensures.elsewhere c.put_all_back-in-Some.ensures.back

pub returns-in-Some-clause-coupled : goal.returns-in-Some-clause-coupled
returns-in-Some-clause-coupled c = λ k own.
    c.put_all_back-in-Some.ensures.coupled k (frees-coupled c.args.buffer.now k c.put_back.new.buffer c.in-Some.chunk.number None c.put_back.ensures.either own)
