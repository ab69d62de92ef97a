use Rattle.fwd_msgpack.proofs.Uniques.{one_verdict}
use Rattle.fwd_msgpack.proofs.laws.one_verdict.Goals as goal

pub returns : goal.returns
returns c = λ limit deep bytes v w are a b. one_verdict limit deep bytes are v w a b
