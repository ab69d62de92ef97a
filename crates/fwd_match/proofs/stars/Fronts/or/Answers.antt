use Rattle.fwd_match.proofs.Asterisks.{either}
use Rattle.fwd_match.proofs.stars.Fronts.or.Goals as goal

pub returns : goal.returns
returns c = λ test. either c.args.self c.args.other test
