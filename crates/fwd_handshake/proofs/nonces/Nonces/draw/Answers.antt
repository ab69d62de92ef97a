use Rattle.fwd_handshake.proofs.DrawLemmas.{one_fill, second_fill}
use Rattle.fwd_handshake.proofs.nonces.Nonces.draw.Goals as goal

pub returns-clause-nonce : goal.returns-clause-nonce
returns-clause-nonce c = (one_fill _ _ _ c.fill_bytes_via_u32.ensures).0

pub returns-clause-auth : goal.returns-clause-auth
returns-clause-auth c = (second_fill _ _ _ _ _ c.fill_bytes_via_u32.ensures c.fill_bytes_via_u32-2.ensures).0

pub returns-clause-moved : goal.returns-clause-moved
returns-clause-moved c = (second_fill _ _ _ _ _ c.fill_bytes_via_u32.ensures c.fill_bytes_via_u32-2.ensures).1
