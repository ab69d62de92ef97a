use Rattle.fwd_model.proofs.Marks.{marked-told}
use Rattle.fwd_model.proofs.laws.marked_is_told.Goals as goal

pub returns : goal.returns
returns c config es o i l a here at told = marked-told config es o i l a here at told
