use Rattle.fwd_output.proofs.Settling.{settles-most}
use Rattle.fwd_output.proofs.locked.Locked.settle.Goals as goal

pub returns-clause-most : goal.returns-clause-most
returns-clause-most g c =
    let e = c.settle-count.ensures in
    settles-most c.self.inside.state.buffer c.args.carried c.settle-count.result
    c.is_sound.ensures.chunks (λ is. e.count) (λ not. absurd (not e.held))
