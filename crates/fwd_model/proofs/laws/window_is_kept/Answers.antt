use Rattle.fwd_model.proofs.Windows.{few_chunks, has_room, has_room-live}
use Rattle.fwd_model.proofs.laws.window_is_kept.Goals as goal

pub returns-clause-few : goal.returns-clause-few
returns-clause-few c config h o w l x is here at = few_chunks config h o w l x is here at

pub returns-clause-room : goal.returns-clause-room
returns-clause-room _ config h o w l x s c is here at session taken = has_room config h o w l x s c is here at session taken

pub returns-clause-live : goal.returns-clause-live
returns-clause-live _ config h o w l x s c is here at session taken = has_room-live config h o w l x s c is here at session taken
