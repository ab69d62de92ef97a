-- The option of a request (Forward Protocol Specification v1,
-- "Option"): its chunk, and its faults. Other keys say nothing.
use Rattle.std.specs.Prelude.{ℕ, Bool, true, false, ◌||◌, List, [], Option, Some, None, is_none, codes, option_and_then, if◌then◌else◌}
use Rattle.fwd_msgpack.specs.Scans.{pairs_of, is_nil}
use Rattle.fwd_msgpack.specs.Texts.{is_text, last_under}
use Rattle.fwd_modes.specs.declared.limits.TheConstants.{CHUNK_LIMIT}
use Rattle.fwd_modes.specs.Kinds.{text_within}

-- The pairs of an option. One that is left out or nil has
-- none, and what is neither a map nor nil is no option.
abbrev pub option_pairs : Option (List ℕ) → Option (List (List ℕ × List ℕ))
option_pairs None = Some []
option_pairs (Some bytes) = if is_nil bytes then Some [] else pairs_of bytes

-- nil stands for no value
abbrev pub unless_nil : List ℕ → Option (List ℕ)
unless_nil bytes = if is_nil bytes then None else Some bytes

-- the value of the last `chunk`
abbrev pub chunk_under : List (List ℕ × List ℕ) → Option (List ℕ)
chunk_under pairs = option_and_then unless_nil (last_under (codes "chunk") pairs)

-- the value that the acknowledgement is to carry, as its own bytes
abbrev pub chunk_of : Option (List ℕ) → Option (List ℕ)
chunk_of option = option_and_then chunk_under (option_pairs option)

-- a chunk is a str or a bin within the limit
abbrev pub is_bad_chunk : Option (List ℕ) → Bool
is_bad_chunk None = false
is_bad_chunk (Some bytes) = is_none (text_within CHUNK_LIMIT bytes)

-- there are no pairs, or their chunk is a bad one
abbrev pub are_bad_pairs : Option (List (List ℕ × List ℕ)) → Bool
are_bad_pairs None = true
are_bad_pairs (Some pairs) = is_bad_chunk (chunk_under pairs)

-- neither a map nor nil, or a map with a bad chunk
abbrev pub is_bad_option : Option (List ℕ) → Bool
is_bad_option option = are_bad_pairs (option_pairs option)

-- the compressions of the standard
abbrev pub is_compression : Option (List ℕ) → Bool
is_compression None = false
is_compression (Some bytes) = is_text (codes "gzip") bytes || is_text (codes "zstd") bytes

-- the last `compressed` names a compression
abbrev pub is_compressed : Option (List ℕ) → Bool
is_compressed option =
    is_compression (option_and_then (last_under (codes "compressed")) (option_pairs option))
