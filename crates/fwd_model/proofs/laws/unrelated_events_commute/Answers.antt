use Rattle.fwd_model.proofs.Follows.{reached_sane}
use Rattle.fwd_model.proofs.Orders.Commuting.{unrelated_commute}
use Rattle.fwd_model.proofs.laws.unrelated_events_commute.Goals as goal

pub returns : goal.returns
returns c config h e f r unrelated one =
    unrelated_commute h e f (reached_sane config h r) unrelated one
