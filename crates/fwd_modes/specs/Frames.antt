-- What the relay writes to the next hop, byte for byte.
use Rattle.std.specs.Prelude.{◌≡◌, ℕ, Some, false, List, ◌++◌, ◌<◌, ◌≤◌, ◌^◌, length, codes}
use Rattle.std.specs.List.{AllByRecursion, concat}
use Rattle.std.specs.Int.{w16, w64, to_be_bytes}
use Rattle.base64.specs.GeneralPurpose.{encode_of}
use Rattle.base64.specs.Engines.{standard}
-- for examples that compute a name
unfoldable pub use Rattle.base64.specs.Rfc4648.{encode_symbols}
use Rattle.fwd_msgpack.specs.declared.head.Head.TheVariants.{Int, Bin, Arr, Map}
use Rattle.fwd_msgpack.specs.Heads.{head_bytes}
use Rattle.fwd_msgpack.specs.Texts.{text}
use Rattle.fwd_msgpack.specs.Values.{IsValue}
use Rattle.fwd_modes.specs.declared.limits.TheConstants.{CHUNK_LIMIT, TAG_LIMIT}
use Rattle.fwd_modes.specs.Entries.{entry_of}

-- the name of a chunk: the Base64 of six bytes for the run,
-- two for the output, eight for the number
unfoldable pub chunk_name : List ℕ → ℕ → ℕ → List ℕ
chunk_name run output number =
    encode_of standard (run ++ to_be_bytes w16 output ++ to_be_bytes w64 number)

-- how many entries a frame has, and its name: {"size": count, "chunk": name}
abbrev pub frame_option : ℕ → List ℕ → List ℕ
frame_option count name =
    head_bytes (Map 2) ++ text (codes "size") ++ head_bytes (Int false count)
    ++ text (codes "chunk") ++ text name

-- what stands before the packed entries, which have so many bytes
abbrev pub frame_head : List ℕ → ℕ → List ℕ
frame_head tag length = head_bytes (Arr 3) ++ text tag ++ head_bytes (Bin length)

-- a frame: [tag, packed entries, option]
abbrev pub packed_frame : List ℕ → List ℕ → ℕ → List ℕ → List ℕ
packed_frame tag packed count name =
    head_bytes (Arr 3) ++ text tag ++ head_bytes (Bin (length packed)) ++ packed
    ++ frame_option count name

-- the frame of a chunk: its entries one after the other
unfoldable pub chunk_frame : List ℕ → List (List ℕ) → List ℕ → List ℕ
chunk_frame tag entries name = packed_frame tag (concat entries) (length entries) name

-- bytes that are an entry just as it is kept, at most deep deep
pub record IsKept (deep : ℕ) (entry : List ℕ) : Type 0 where
  pub kept : entry_of entry ≡ Some entry
  pub value : IsValue deep entry

-- what a frame is written from
pub record Frame : Type 0 where
  pub tag : List ℕ
  pub entries : List (List ℕ)
  pub name : List ℕ

-- The frame of a chunk within the limits of a request: those of its tag and its name, kept entries,
-- and less than 2^32 bytes in all.
pub record IsFrame (deep : ℕ) (frame : Frame) : Type 0 where
  pub tag : length frame.tag ≤ TAG_LIMIT
  pub name : length frame.name ≤ CHUNK_LIMIT
  pub entries : AllByRecursion (IsKept deep) frame.entries
  pub size : length (chunk_frame frame.tag frame.entries frame.name) < 2 ^ 32
