use Rattle.fwd_run.proofs.Entering as entering
use Rattle.fwd_run.proofs.laws.empty_output_has_delivered.Goals as goal

pub returns : goal.returns
returns c past config o p id r legal begun at none entered =
    entering.empty_output_has_delivered past config o p id r legal begun at none entered
