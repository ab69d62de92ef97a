use Rattle.fwd_handshake.proofs.Answered.{helo_answered}
use Rattle.fwd_handshake.proofs.laws.written_helo_is_answered.Goals as goal

pub returns : goal.returns
returns c = λ login users nonce auth salt key has sized. helo_answered users nonce auth sized login salt key has
