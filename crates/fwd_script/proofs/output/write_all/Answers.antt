use Rattle.std.proofs.lemmas.List.{take_rest}
use Rattle.fwd_script.proofs.Results.{write-more}
use Rattle.fwd_script.proofs.output.write_all.Goals as goal

pub loop-rest-preserved : goal.loop-rest-preserved
loop-rest-preserved g c =
    let wrote = c.in_ok-count.ensures {u = tt} in
    rw (take_rest c.loop-rest.rest.now c.in_ok-count.count) (write-more _ _ _ _ _ _ _ c.loop-rest.invariant.1 c.loop-rest.invariant.2 wrote.2)
