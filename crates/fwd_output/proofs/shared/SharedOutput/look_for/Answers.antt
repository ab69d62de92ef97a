use Rattle.fwd_output.specs.Looks.{locked_looks}
use Rattle.fwd_output.proofs.Looking.{for-use}
use Rattle.fwd_output.proofs.shared.SharedOutput.look_for.Goals as goal

pub returns-clause-fits : goal.returns-clause-fits
returns-clause-fits g c =
    for-use (locked_looks c.deref_mut.result.now c.args.now) c.look_for.new.self c.look_for.result.view
    c.args.search c.args.now c.look_for.result.found c.look_for.ensures.found
    (λ e. (c.look_for.ensures.leaves e).0)
