use Rattle.fwd_model.proofs.Follows.{reached_sane}
use Rattle.fwd_laws.proofs.Parting.{one-after, one-answers}
use Rattle.fwd_laws.proofs.laws.parts_have_one_history.Goals as goal

pub returns-clause-after : goal.returns-clause-after
returns-clause-after c config h es fs r one = one-after es fs h (reached_sane config h r) one

pub returns-clause-answers : goal.returns-clause-answers
returns-clause-answers c config h es fs part r one =
    one-answers es fs h part (reached_sane config h r) one
