-- The bytes of an acknowledgement.
use Rattle.std.proofs.Common.{◌≡◌, ◌+◌, ℕ, List, ◌++◌, length, refl, ap, sym, append_assoc, length-append, ◌∙◌}
use Rattle.fwd_modes.specs.Heads.{head_bytes}
use Rattle.fwd_modes.specs.Acks.{ack_text}
use Rattle.fwd_source.specs.Live.{LiveSource, source_appends}
use Rattle.fwd_peers.specs.declared.limits.TheConstants.{ACK_FRONT}

-- the acknowledgement of a chunk is what stands in front of each, and the chunk's value
pub ack_parts : (chunk : List ℕ) → ack_text chunk ≡ ACK_FRONT ++ chunk
unfolding ack_text head_bytes
ack_parts chunk = refl

-- how many bytes it has
pub ack_length : (chunk : List ℕ) → length (ack_text chunk) ≡ 5 + length chunk
ack_length chunk = ap length (ack_parts chunk) ∙ length-append ACK_FRONT chunk

-- its two parts are appended one after the other
pub ack_appended : (s : LiveSource) (chunk : List ℕ)
    → source_appends (source_appends s ACK_FRONT) chunk ≡ source_appends s (ack_text chunk)
ack_appended s chunk = λ i. record s { unsent = (append_assoc s.unsent ACK_FRONT chunk ∙ ap (λ b. s.unsent ++ b) (sym (ack_parts chunk))) i }
