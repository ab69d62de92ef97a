-- The definitions at work on a few bytes.
use Rattle.std.proofs.Common.{◌≡◌, ℕ, List, [], ◌∷◌, ◌++◌, Option, Some, None, refl}
use Rattle.std.specs.Prelude.{codes}
use Rattle.fwd_msgpack.specs.Heads.{row_of, named_rows, reading_of, head_bytes}
use Rattle.fwd_msgpack.specs.Scans.{first_of, fault_at, item_begun, payload_ended, split_of, row_of_values, parts_of}
use Rattle.fwd_modes.specs.declared.fault.InputFault.TheVariants.{BadShape, BadTag, BadEntry, BadOption, Compressed}
use Rattle.fwd_modes.specs.Requests.{Reading, Heartbeat, Asks, Fails, request_of}
use Rattle.fwd_modes.specs.Times.{event_time_of}
use Rattle.fwd_modes.specs.Entries.{entry_of, listed_entries, packed_entries}
use Rattle.fwd_modes.specs.Frames.{chunk_frame}
use Rattle.fwd_modes.specs.Acks.{ack_text, ack_name}

-- the one entry [1, {}] under the tag "a", with this chunk
abbrev one : Option (List ℕ) → Reading
one chunk =
    Asks (record {
      tag = 0x61 ∷ [];
      entries = (0x92 ∷ 0x01 ∷ 0x80 ∷ []) ∷ [];
      chunk = chunk;
    })

-- ["a", 1, {}] with this option, as four
abbrev with_option : List ℕ → List ℕ
with_option option = 0x94 ∷ 0xa1 ∷ 0x61 ∷ 0x01 ∷ 0x80 ∷ option

abbrev chunk_key : List ℕ
chunk_key = 0xa5 ∷ codes "chunk"

abbrev compressed_key : List ℕ
compressed_key = 0xaa ∷ codes "compressed"

abbrev ack_key : List ℕ
ack_key = 0xa3 ∷ codes "ack"

-- the text "x"
abbrev x_text : List ℕ
x_text = 0xa1 ∷ 0x78 ∷ []

three : request_of 64 (0x93 ∷ 0xa1 ∷ 0x61 ∷ 0x01 ∷ 0x80 ∷ []) ≡ one None
unfolding request_of parts_of row_of_values split_of first_of fault_at item_begun payload_ended reading_of row_of named_rows
three = refl

heartbeat : request_of 64 (0xc0 ∷ []) ≡ Heartbeat
unfolding request_of parts_of row_of_values split_of first_of fault_at item_begun payload_ended reading_of row_of named_rows
heartbeat = refl

no_time : request_of 64 (0x93 ∷ 0xa1 ∷ 0x61 ∷ 0xc3 ∷ 0x80 ∷ []) ≡ Fails BadShape
unfolding request_of parts_of row_of_values split_of first_of fault_at item_begun payload_ended reading_of row_of named_rows
no_time = refl

no_tag : request_of 64 (0x93 ∷ 0x05 ∷ 0x01 ∷ 0xc0 ∷ []) ≡ Fails BadTag
unfolding request_of parts_of row_of_values split_of first_of fault_at item_begun payload_ended reading_of row_of named_rows
no_tag = refl

no_fields : request_of 64 (0x93 ∷ 0xa1 ∷ 0x61 ∷ 0x01 ∷ 0xc0 ∷ []) ≡ Fails BadEntry
unfolding request_of parts_of row_of_values split_of first_of fault_at item_begun payload_ended reading_of row_of named_rows
no_fields = refl

-- five are too many
five : request_of 64 (0x95 ∷ 0xa1 ∷ 0x61 ∷ 0x01 ∷ 0x80 ∷ 0x80 ∷ 0x80 ∷ [])
    ≡ Fails BadShape
unfolding request_of parts_of row_of_values split_of first_of fault_at item_begun payload_ended reading_of row_of named_rows
five = refl

-- nil is no option
nil_option : request_of 64 (with_option (0xc0 ∷ [])) ≡ one None
unfolding request_of parts_of row_of_values split_of first_of fault_at item_begun payload_ended reading_of row_of named_rows
nil_option = refl

-- a chunk is kept by its own bytes
chunk : request_of 64 (with_option (0x81 ∷ chunk_key ++ x_text)) ≡ one (Some x_text)
unfolding request_of parts_of row_of_values split_of first_of fault_at item_begun payload_ended reading_of row_of named_rows
chunk = refl

-- key and chunk may be bin
bin_chunk :
    request_of 64
    (with_option (0x81 ∷ 0xc4 ∷ 0x05 ∷ codes "chunk" ++ 0xc4 ∷ 0x01 ∷ 0x78 ∷ []))
    ≡ one (Some (0xc4 ∷ 0x01 ∷ 0x78 ∷ []))
unfolding request_of parts_of row_of_values split_of first_of fault_at item_begun payload_ended reading_of row_of named_rows
bin_chunk = refl

-- the last chunk counts, and nil stands for none
nil_chunk_last :
    request_of 64 (with_option (0x82 ∷ chunk_key ++ x_text ++ chunk_key ++ 0xc0 ∷ []))
    ≡ one None
unfolding request_of parts_of row_of_values split_of first_of fault_at item_begun payload_ended reading_of row_of named_rows
nil_chunk_last = refl

-- a chunk of another kind before the last is no fault
bad_chunk_first : request_of 64 (with_option (0x82 ∷ chunk_key ++ 0x01 ∷ chunk_key ++ x_text))
    ≡ one (Some x_text)
unfolding request_of parts_of row_of_values split_of first_of fault_at item_begun payload_ended reading_of row_of named_rows
bad_chunk_first = refl

bad_chunk_last :
    request_of 64 (with_option (0x82 ∷ chunk_key ++ x_text ++ chunk_key ++ 0x01 ∷ []))
    ≡ Fails BadOption
unfolding request_of parts_of row_of_values split_of first_of fault_at item_begun payload_ended reading_of row_of named_rows
bad_chunk_last = refl

-- other keys say nothing, also those that are no text
other_keys :
    request_of 64 (with_option (0x82 ∷ 0xa4 ∷ codes "size" ++ 0xc3 ∷ 0x01 ∷ x_text))
    ≡ one None
unfolding request_of parts_of row_of_values split_of first_of fault_at item_begun payload_ended reading_of row_of named_rows
other_keys = refl

no_option : request_of 64 (with_option (0x01 ∷ [])) ≡ Fails BadOption
unfolding request_of parts_of row_of_values split_of first_of fault_at item_begun payload_ended reading_of row_of named_rows
no_option = refl

gzip : request_of 64 (with_option (0x81 ∷ compressed_key ++ 0xa4 ∷ codes "gzip"))
    ≡ Fails Compressed
unfolding request_of parts_of row_of_values split_of first_of fault_at item_begun payload_ended reading_of row_of named_rows
gzip = refl

gzip_as_bin :
    request_of 64 (with_option (0x81 ∷ compressed_key ++ 0xc4 ∷ 0x04 ∷ codes "gzip"))
    ≡ Fails Compressed
unfolding request_of parts_of row_of_values split_of first_of fault_at item_begun payload_ended reading_of row_of named_rows
gzip_as_bin = refl

zstd : request_of 64 (with_option (0x81 ∷ compressed_key ++ 0xa4 ∷ codes "zstd"))
    ≡ Fails Compressed
unfolding request_of parts_of row_of_values split_of first_of fault_at item_begun payload_ended reading_of row_of named_rows
zstd = refl

-- another value names no compression
plain_text : request_of 64 (with_option (0x81 ∷ compressed_key ++ 0xa4 ∷ codes "text"))
    ≡ one None
unfolding request_of parts_of row_of_values split_of first_of fault_at item_begun payload_ended reading_of row_of named_rows
plain_text = refl

-- here too the last counts
plain_last :
    request_of 64
    (with_option
    (0x82 ∷ compressed_key ++ 0xa4 ∷ codes "gzip" ++ compressed_key ++ 0xc0 ∷ []))
    ≡ one None
unfolding request_of parts_of row_of_values split_of first_of fault_at item_begun payload_ended reading_of row_of named_rows
plain_last = refl

option_before_compression :
    request_of 64
    (with_option (0x82 ∷ compressed_key ++ 0xa4 ∷ codes "gzip" ++ chunk_key ++ 0x01 ∷ []))
    ≡ Fails BadOption
unfolding request_of parts_of row_of_values split_of first_of fault_at item_begun payload_ended reading_of row_of named_rows
option_before_compression = refl

compression_before_entry :
    request_of 64
    (0x94 ∷ 0xa1 ∷ 0x61 ∷ 0x01 ∷ 0xc0 ∷ 0x81 ∷ compressed_key
    ++ 0xa4 ∷ codes "gzip")
    ≡ Fails Compressed
unfolding request_of parts_of row_of_values split_of first_of fault_at item_begun payload_ended reading_of row_of named_rows
compression_before_entry = refl

tag_before_option : request_of 64 (0x94 ∷ 0xc0 ∷ 0x01 ∷ 0xc0 ∷ 0x01 ∷ []) ≡ Fails BadTag
unfolding request_of parts_of row_of_values split_of first_of fault_at item_begun payload_ended reading_of row_of named_rows
tag_before_option = refl

option_before_entry : request_of 64 (0x94 ∷ 0xa1 ∷ 0x61 ∷ 0x01 ∷ 0xc0 ∷ 0x01 ∷ [])
    ≡ Fails BadOption
unfolding request_of parts_of row_of_values split_of first_of fault_at item_begun payload_ended reading_of row_of named_rows
option_before_entry = refl

-- two entries, whose arrays, times and fields keep or lose
-- their spelling as the rules say: the array is written anew
abbrev two_entries : List ℕ
two_entries = 0x92 ∷ 0x01 ∷ 0x80 ∷ 0xdc ∷ 0x00 ∷ 0x02 ∷ 0xcc ∷ 0x02 ∷ 0x80 ∷ []

abbrev two : Reading
two =
    Asks (record {
      tag = 0x61 ∷ [];
      entries = (0x92 ∷ 0x01 ∷ 0x80 ∷ []) ∷ (0x92 ∷ 0xcc ∷ 0x02 ∷ 0x80 ∷ []) ∷ [];
      chunk = None;
    })

forward : request_of 64 (0x92 ∷ 0xa1 ∷ 0x61 ∷ 0x92 ∷ two_entries) ≡ two
unfolding request_of listed_entries entry_of parts_of row_of_values split_of first_of fault_at item_begun payload_ended reading_of row_of named_rows
forward = refl

packed_in_str : request_of 64 (0x92 ∷ 0xa1 ∷ 0x61 ∷ 0xa9 ∷ two_entries) ≡ two
unfolding request_of packed_entries entry_of parts_of row_of_values split_of first_of fault_at item_begun payload_ended reading_of row_of named_rows
packed_in_str = refl

packed_in_bin : request_of 64 (0x92 ∷ 0xa1 ∷ 0x61 ∷ 0xc4 ∷ 0x09 ∷ two_entries) ≡ two
unfolding request_of packed_entries entry_of parts_of row_of_values split_of first_of fault_at item_begun payload_ended reading_of row_of named_rows
packed_in_bin = refl

-- a byte too many behind the last entry
packed_and_more : request_of 64 (0x92 ∷ 0xa1 ∷ 0x61 ∷ 0xaa ∷ two_entries ++ 0x92 ∷ [])
    ≡ Fails BadEntry
unfolding request_of packed_entries entry_of parts_of row_of_values split_of first_of fault_at item_begun payload_ended reading_of row_of named_rows
packed_and_more = refl

-- where packed entries may be one container deep, a map in one is too deep
packed_too_deep : request_of 1 (0x92 ∷ 0xa1 ∷ 0x61 ∷ 0xa9 ∷ two_entries) ≡ Fails BadEntry
unfolding request_of packed_entries entry_of parts_of row_of_values split_of first_of fault_at item_begun payload_ended reading_of row_of named_rows
packed_too_deep = refl

no_entries : request_of 64 (0x92 ∷ 0xa1 ∷ 0x61 ∷ 0x90 ∷ [])
    ≡ Asks (record { tag = 0x61 ∷ []; entries = []; chunk = None })
unfolding request_of listed_entries entry_of parts_of row_of_values split_of first_of fault_at item_begun payload_ended reading_of row_of named_rows
no_entries = refl

-- an EventTime of one second and two nanoseconds, in a fixed and in a sized extension
event_time :
    event_time_of
    (0xd7 ∷ 0x00 ∷ 0x00 ∷ 0x00 ∷ 0x00 ∷ 0x01 ∷ 0x00 ∷ 0x00 ∷ 0x00 ∷ 0x02 ∷ [])
    ≡ Some (record { sec = 1; nanos = 2 })
unfolding parts_of reading_of row_of named_rows
event_time = refl

sized_event_time :
    event_time_of
    (0xc7 ∷ 0x08 ∷ 0x00 ∷ 0x00 ∷ 0x00 ∷ 0x00 ∷ 0x01 ∷ 0x00 ∷ 0x00 ∷ 0x00
    ∷ 0x02 ∷ [])
    ≡ Some (record { sec = 1; nanos = 2 })
unfolding parts_of reading_of row_of named_rows
sized_event_time = refl

-- an extension of another type is no time, and tells Message mode
other_ext : request_of 64 (0x93 ∷ 0xa1 ∷ 0x61 ∷ 0xd4 ∷ 0x01 ∷ 0x00 ∷ 0x80 ∷ [])
    ≡ Fails BadEntry
unfolding request_of parts_of row_of_values split_of first_of fault_at item_begun payload_ended reading_of row_of named_rows
other_ext = refl

-- a float in the second place tells no mode
float_second :
    request_of 64
    (0x93 ∷ 0xa1 ∷ 0x61 ∷ 0xca ∷ 0x00 ∷ 0x00 ∷ 0x00 ∷ 0x00 ∷ 0x80 ∷ [])
    ≡ Fails BadShape
unfolding request_of parts_of row_of_values split_of first_of fault_at item_begun payload_ended reading_of row_of named_rows
float_second = refl

acknowledgement : ack_text x_text ≡ 0x81 ∷ ack_key ++ x_text
unfolding ack_text head_bytes
acknowledgement = refl

acknowledged : ack_name (0x81 ∷ ack_key ++ x_text) ≡ Some (0x78 ∷ [])
unfolding ack_name parts_of row_of_values split_of first_of fault_at item_begun payload_ended reading_of row_of named_rows
acknowledged = refl

-- the last ack counts, and other keys do not
last_acknowledged :
    ack_name
    (0x83 ∷ ack_key ++ x_text ++ 0xa3 ∷ codes "seq" ++ 0x01 ∷ ack_key
    ++ 0xc4 ∷ 0x01 ∷ 0x79 ∷ [])
    ≡ Some (0x79 ∷ [])
unfolding ack_name parts_of row_of_values split_of first_of fault_at item_begun payload_ended reading_of row_of named_rows
last_acknowledged = refl

nil_acknowledged_last : ack_name (0x82 ∷ ack_key ++ x_text ++ ack_key ++ 0xc0 ∷ []) ≡ None
unfolding ack_name parts_of row_of_values split_of first_of fault_at item_begun payload_ended reading_of row_of named_rows
nil_acknowledged_last = refl

nil_acknowledged : ack_name (0x81 ∷ ack_key ++ 0xc0 ∷ []) ≡ None
unfolding ack_name parts_of row_of_values split_of first_of fault_at item_begun payload_ended reading_of row_of named_rows
nil_acknowledged = refl

nothing_acknowledged : ack_name (0x80 ∷ []) ≡ None
unfolding ack_name parts_of row_of_values split_of first_of fault_at item_begun payload_ended reading_of row_of named_rows
nothing_acknowledged = refl

no_map : ack_name (0xc3 ∷ []) ≡ None
unfolding ack_name parts_of row_of_values split_of first_of fault_at item_begun payload_ended reading_of row_of named_rows
no_map = refl

frame : chunk_frame (0x61 ∷ []) ((0x92 ∷ 0x01 ∷ 0x80 ∷ []) ∷ [])
    (codes "AAAAAAAAAAAAAAAAAAAAAQ==")
    ≡ 0x93 ∷ 0xa1 ∷ 0x61 ∷ 0xc4 ∷ 0x03 ∷ 0x92 ∷ 0x01 ∷ 0x80 ∷ 0x82 ∷ 0xa4
    ∷ codes "size"
    ++ 0x01 ∷ 0xa5 ∷ codes "chunk" ++ 0xb8 ∷ codes "AAAAAAAAAAAAAAAAAAAAAQ=="
unfolding chunk_frame head_bytes
frame = refl
