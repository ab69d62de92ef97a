use Rattle.fwd_handshake.proofs.Agreeing.{ping_passes, pong_passes}
use Rattle.fwd_handshake.proofs.laws.agreed_sides_pass.Goals as goal

pub returns-clause-ping : goal.returns-clause-ping
returns-clause-ping c = λ login security nonces salt key agreed lt. ping_passes login security nonces salt key agreed lt

pub returns-clause-pong : goal.returns-clause-pong
returns-clause-pong c = λ login security nonce salt key agreed. pong_passes login security nonce salt key agreed
