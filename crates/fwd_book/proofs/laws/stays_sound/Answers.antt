use Rattle.fwd_book.proofs.Sound.{sound-opening, sound-enters, sound-settles, sound-leaves, sound-drops}
use Rattle.fwd_book.proofs.laws.stays_sound.Goals as goal

pub returns-clause-opening : goal.returns-clause-opening
returns-clause-opening c = λ setting. sound-opening setting

pub returns-clause-enters : goal.returns-clause-enters
returns-clause-enters c = λ b q sound new cut rising fresh. sound-enters b q sound new cut rising fresh

pub returns-clause-settles : goal.returns-clause-settles
returns-clause-settles c = λ b e sound names of. sound-settles b e sound names of

pub returns-clause-leaves : goal.returns-clause-leaves
returns-clause-leaves c = λ b origins sound. sound-leaves b origins sound

pub returns-clause-drops : goal.returns-clause-drops
returns-clause-drops c = λ b gone sound. sound-drops b gone sound
