use Rattle.fwd_run.proofs.Delivering as delivering
use Rattle.fwd_run.proofs.laws.run_delivers.Goals as goal

pub returns : goal.returns
returns c old past config o i p s origins receipt legal comes begun at given known stands =
    delivering.run_delivers old past config o i p s origins receipt legal comes begun at given known stands
