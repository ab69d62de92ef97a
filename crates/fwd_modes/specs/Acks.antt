-- Acknowledgements (Forward Protocol Specification v1, "Response"): what is written to a source,
-- and what is read from the next hop.
use Rattle.std.specs.Prelude.{ℕ, List, ◌++◌, Option, codes, option_and_then}
use Rattle.fwd_msgpack.specs.declared.head.Head.TheVariants.{Map}
use Rattle.fwd_msgpack.specs.Heads.{head_bytes}
use Rattle.fwd_msgpack.specs.Scans.{pairs_of, text_of}
use Rattle.fwd_msgpack.specs.Texts.{last_under, text}

-- the acknowledgement of a chunk, whose value stands in it by its own bytes: {"ack": chunk}
unfoldable pub ack_text : List ℕ → List ℕ
ack_text chunk = head_bytes (Map 1) ++ text (codes "ack") ++ chunk

-- the name that a value acknowledges: the payload of the
-- last `ack` of a map, if that is a str or a bin
unfoldable pub ack_name : List ℕ → Option (List ℕ)
ack_name bytes =
    option_and_then text_of (option_and_then (last_under (codes "ack")) (pairs_of bytes))
