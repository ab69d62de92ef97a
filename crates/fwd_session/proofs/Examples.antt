-- The definitions at work: a session with two chunks at once.
use Rattle.std.proofs.Common.{◌≡◌, ℕ, ◌+◌, true, false, List, [], ◌∷◌, ◌++◌, length, Some, None, refl, arith}
use Rattle.std.specs.Prelude.{replicate, map}
use Rattle.fwd_msgpack.specs.Heads.{row_of, named_rows, reading_of, head_bytes}
use Rattle.fwd_msgpack.specs.Scans.{first_of, fault_at, item_begun, payload_ended, split_of, row_of_values, parts_of}
use Rattle.fwd_modes.specs.Frames.{chunk_frame}
use Rattle.fwd_modes.specs.Acks.{ack_text, ack_name}
use Rattle.fwd_chunks.specs.History.{CarriedChunk}
use Rattle.fwd_session.specs.declared.fault.SessionFault.TheVariants.{BadReply, WrongAck, EarlyAck}
use Rattle.fwd_session.specs.declared.told.SessionHeard.TheVariants.{Acked, Fault, NotUp}
use Rattle.fwd_session.specs.Said.{reply_stream, word_of}
use Rattle.fwd_session.specs.History.{Setup, SessionHistory, acked, begins, chunks_of, hears, is_late, is_ready, loads, looks, piece_told, room, sends, unloads}

-- nothing is proved to the server, which is waited for a second
abbrev setup : (window : ℕ) → Setup
setup window = record {
  server = 0;
  login = record { hostname = []; shared_key = None; username = []; password = []; hostname_fits = omega arith; username_fits = omega arith };
  salt = [];
  ack_wait = 1000;
  window = window;
  start = 0;
}

-- a chunk of one entry of three bytes, whose frame has 46
abbrev chunk : ℕ → CarriedChunk
chunk number = record { number = number; tag = 0x61 ∷ []; entries = (0x92 ∷ 0x01 ∷ 0x80 ∷ []) ∷ []; name = replicate 24 (64 + number) }

-- its acknowledgement
abbrev reply : ℕ → List ℕ
reply number = 0x81 ∷ 0xa3 ∷ 0x61 ∷ 0x63 ∷ 0x6b ∷ 0xb8 ∷ replicate 24 (64 + number)

-- the numbers of the chunks that are not acknowledged, and of those that are
abbrev carries : SessionHistory → List ℕ
carries s = map (λ c. c.number) (chunks_of s.carried)

abbrev accepts : SessionHistory → List ℕ
accepts s = map (λ a. a.chunk.number) s.accepted

-- two chunks are loaded, a tenth of a second apart
abbrev both : SessionHistory
both = loads (loads (begins (setup 2)) (chunk 1) 0) (chunk 2) 100

frames : (length both.appended ≡ 92) × (room both ≡ 0) × (carries both ≡ 1 ∷ 2 ∷ [])
unfolding chunk_frame head_bytes
frames = (refl, refl, refl)

-- both are handed on: they are acknowledged in the order of the values
pub in_turn : (piece_told (sends both 92) (reply 2 ++ reply 1) ≡ Acked)
    × (accepts (hears (sends both 92) (reply 2 ++ reply 1)) ≡ 2 ∷ 1 ∷ [])
    × (carries (hears (sends both 92) (reply 2 ++ reply 1)) ≡ [])
unfolding chunk_frame ack_text ack_name head_bytes reply_stream word_of parts_of row_of_values split_of first_of fault_at item_begun payload_ended reading_of row_of named_rows
in_turn = (refl, refl, refl)

-- the last byte of the second is not taken
second_early : (piece_told (sends both 91) (reply 2) ≡ Fault EarlyAck)
    × (piece_told (sends both 46) (reply 2) ≡ Fault EarlyAck)
    × (carries (hears (sends both 91) (reply 2)) ≡ 1 ∷ 2 ∷ [])
unfolding chunk_frame ack_text ack_name head_bytes reply_stream word_of parts_of row_of_values split_of first_of fault_at item_begun payload_ended reading_of row_of named_rows
second_early = (refl, refl, refl)

-- the first counts by itself
first_alone : (piece_told (sends both 46) (reply 1) ≡ Acked)
    × (accepts (hears (sends both 46) (reply 1)) ≡ 1 ∷ [])
    × (carries (hears (sends both 46) (reply 1)) ≡ 2 ∷ [])
unfolding chunk_frame ack_text ack_name head_bytes reply_stream word_of parts_of row_of_values split_of first_of fault_at item_begun payload_ended reading_of row_of named_rows
first_alone = (refl, refl, refl)

-- a third name is wrong once a frame is handed on, and every name is early before that
third_name : (piece_told (sends both 92) (reply 3) ≡ Fault WrongAck)
    × (piece_told (sends both 46) (reply 3) ≡ Fault WrongAck)
    × (piece_told (sends both 45) (reply 3) ≡ Fault EarlyAck)
    × (piece_told (sends both 45) (reply 1) ≡ Fault EarlyAck)
    × (piece_told (sends both 45) (0xc3 ∷ []) ≡ Fault BadReply)
unfolding chunk_frame ack_text ack_name head_bytes reply_stream word_of parts_of row_of_values split_of first_of fault_at item_begun payload_ended reading_of row_of named_rows
third_name = (refl, refl, refl, refl, refl)

-- what is acknowledged is so once; the acknowledgement before the fault stands, and a chunk that
-- is not acknowledged stays
abbrev twice : SessionHistory
twice = hears (sends both 92) (reply 1 ++ reply 1)

acknowledged_twice : (piece_told (sends both 92) (reply 1 ++ reply 1) ≡ Fault WrongAck)
    × (accepts twice ≡ 1 ∷ []) × (carries twice ≡ 2 ∷ []) × (is_ready twice ≡ false)
    × (piece_told twice (reply 2) ≡ NotUp)
    × (accepts (unloads twice) ≡ []) × (room (unloads twice) ≡ 1)
unfolding chunk_frame ack_text ack_name head_bytes reply_stream word_of parts_of row_of_values split_of first_of fault_at item_begun payload_ended reading_of row_of named_rows
acknowledged_twice = (refl, refl, refl, refl, refl, refl, refl)

-- with one chunk at a time the second acknowledgement is early
abbrev alone : SessionHistory
alone = loads (begins (setup 1)) (chunk 1) 0

once : (piece_told (sends alone 46) (reply 1 ++ reply 1) ≡ Fault EarlyAck)
    × (piece_told (sends alone 45) (reply 1) ≡ Fault EarlyAck)
    × (piece_told (sends alone 46) (reply 2) ≡ Fault WrongAck)
    × (acked (hears (sends alone 46) (reply 1)) ≡ Some (chunk 1))
unfolding chunk_frame ack_text ack_name head_bytes reply_stream word_of parts_of row_of_values split_of first_of fault_at item_begun payload_ended reading_of row_of named_rows
once = (refl, refl, refl, refl)

-- it is late by the chunk that was loaded first of those that are not acknowledged
abbrev second_left : SessionHistory
second_left = hears (sends both 92) (reply 1)

late : (is_late both 999 ≡ false) × (is_late both 1000 ≡ true)
    × (is_late second_left 1099 ≡ false) × (is_late second_left 1100 ≡ true)
    × ((looks second_left 1100).down ≡ true)
unfolding chunk_frame ack_text ack_name head_bytes reply_stream word_of parts_of row_of_values split_of first_of fault_at item_begun payload_ended reading_of row_of named_rows
late = (refl, refl, refl, refl, refl)
