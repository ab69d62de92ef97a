use Rattle.fwd_run.proofs.Delivering as delivering
use Rattle.fwd_run.proofs.laws.run_is_the_relays.Goals as goal

pub returns : goal.returns
returns c past config r legal begun after = delivering.run_is_the_relays past config r legal begun after
