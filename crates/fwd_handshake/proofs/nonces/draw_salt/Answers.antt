use Rattle.std.proofs.Common.{List, ℕ, ap, ◌∙◌}
use Rattle.hex.specs.Hex.{encode_lower}
use Rattle.fwd_handshake.proofs.DrawLemmas.{one_fill}
use Rattle.fwd_handshake.proofs.nonces.draw_salt.Goals as goal

pub returns-clause-salt : goal.returns-clause-salt
returns-clause-salt c =
    (rw c.unwrap.ensures at c.encode_to_slice.ensures.written)
    ∙ ap (λ (bytes : List ℕ). encode_lower bytes) (one_fill _ _ _ c.fill_bytes_via_u32.ensures).0

pub returns-clause-moved : goal.returns-clause-moved
returns-clause-moved c = (one_fill _ _ _ c.fill_bytes_via_u32.ensures).1
