-- The abstract relay at work: from the five bytes of a Message to the chunk that a worker has.
use Rattle.std.proofs.Common.{◌≡◌, ℕ, true, false, List, [], ◌∷◌, ◌++◌, Some, None, refl, arith}
use Rattle.std.specs.Prelude.{replicate, codes}
use Rattle.fwd_msgpack.specs.Heads.{row_of, named_rows, reading_of, head_bytes}
use Rattle.fwd_msgpack.specs.Scans.{first_of, fault_at, item_begun, payload_ended, split_of, row_of_values, parts_of}
use Rattle.fwd_modes.specs.Entries.{listed_entries, entry_of}
use Rattle.fwd_modes.specs.Requests.{request_of}
use Rattle.fwd_modes.specs.Frames.{chunk_frame, chunk_name, encode_symbols}
use Rattle.fwd_modes.specs.Acks.{ack_text, ack_name}
use Rattle.fwd_match.specs.Patterns.{route, pattern_matches, matches}
use Rattle.fwd_model.specs.declared.answer.Answer.{Answer}
use Rattle.fwd_model.specs.declared.answer.Answer.TheVariants as answer
use Rattle.fwd_model.specs.declared.event.Event.{Event}
use Rattle.fwd_model.specs.declared.event.Event.TheVariants as event
use Rattle.fwd_chunks.specs.declared.flush.FlushKind.TheVariants.{All, Due}
use Rattle.fwd_chunks.specs.declared.wanted.Wanted.TheVariants.{Any}
use Rattle.fwd_chunks.specs.declared.limits.BufferLimits.{BufferLimits}
use Rattle.fwd_chunks.specs.History.{adds}
use Rattle.fwd_chunks.specs.Waits.{wait_after}
use Rattle.fwd_model.specs.declared.fault.Refusal.TheVariants.{NoSuch, NotNow, NotUp, Closed}
use Rattle.fwd_session.specs.declared.fault.SessionFault.TheVariants.{BadReply, WrongAck, EarlyAck}
use Rattle.fwd_session.specs.Said.{reply_stream, word_of}
use Rattle.fwd_model.specs.declared.event.EndKind.TheVariants.{Kept, Lost}
use Rattle.fwd_handshake.specs.declared.credentials.Login.{Login}
use Rattle.fwd_session.specs.declared.terms.AckTerms.{AckTerms}
use Rattle.fwd_model.specs.declared.config.OutputConfig.{OutputConfig}
use Rattle.fwd_model.specs.declared.config.Config.{Config}
use Rattle.fwd_handshake.specs.declared.credentials.Security.{Security}
use Rattle.fwd_msgpack.specs.declared.fault.ScanFault.TheVariants.{Reserved}
use Rattle.fwd_msgpack.specs.declared.limits.Limits.{Limits}
use Rattle.fwd_source.specs.declared.fault.SourceFault.TheVariants.{Scan}
use Rattle.fwd_source.specs.Judged.{judged_of}
use Rattle.fwd_model.specs.Step.{answers, after}
use Rattle.fwd_book.specs.History.{leaves}
use Rattle.fwd_model.specs.History.{opening, histories}
use Rattle.fwd_model.specs.Names.{are_unrelated}

-- no shared key is set
abbrev nobody : Security
nobody = record { hostname = []; shared_key = None; users = []; hostname_fits = omega arith }

-- values of at most 16,777,216 bytes, at most 64 deep
abbrev usual : Limits
usual = record { bytes = 16777216; depth = 64; shallow = omega arith }

-- chunks of so many bytes, and so many bytes in all
abbrev limits : (chunk total : ℕ) → BufferLimits
limits chunk total = record {
  chunk = chunk;
  total = total;
  interval = 1000;
  retry_wait = 500;
  retry_max = 4000;
  bounded = omega arith;
  first = 1;
}

-- sessions prove nothing
abbrev no_login : Login
no_login = record { hostname = []; shared_key = None; username = []; password = []; hostname_fits = omega arith; username_fits = omega arith }

-- one chunk at once, and two
abbrev one_at_once : AckTerms
one_at_once = record { window = 1; ack_wait = 10000; some = omega arith; few = omega arith }

abbrev two_at_once : AckTerms
two_at_once = record { window = 2; ack_wait = 10000; some = omega arith; few = omega arith }

-- an output with two servers, the second of which is a standby
abbrev output_with : AckTerms → (workers chunk total : ℕ) → OutputConfig
output_with acks workers chunk total = record {
  workers = workers;
  standby = false ∷ true ∷ [];
  limits = limits chunk total;
  acks = acks;
  login = no_login;
  few = omega arith;
  has_primary = refl;
}

-- one output that every tag matches
abbrev waiting_so : AckTerms → (chunk total : ℕ) → Config
waiting_so acks chunk total = record {
  run = replicate 6 0;
  routes = ((42 ∷ 42 ∷ []) ∷ []) ∷ [];
  security = nobody;
  limits = usual;
  outputs = output_with acks 2 chunk total ∷ [];
  few = omega arith;
}

abbrev limited : (chunk total : ℕ) → Config
limited chunk total = waiting_so one_at_once chunk total

abbrev settings : Config
settings = limited 1000 100000

abbrev events : List Event
events =
    event.Accept 1 (replicate 16 0) (replicate 16 0) ∷
    event.Piece 1 (0x93 ∷ 0xa1 ∷ []) ∷
    event.Piece 1 (0x61 ∷ 0x01 ∷ 0x80 ∷ []) ∷
    event.Admit 1 0 0 ∷
    event.Flush 0 999 Due ∷
    event.Flush 0 1000 Due ∷
    event.Up 0 0 0 [] 1000 ∷
    event.Take 0 0 1000 Any ∷
    event.Take 0 0 1000 Any ∷
    event.Take 0 1 1000 Any ∷
    event.Load 0 1 1000 ∷
    event.Take 0 2 1000 Any ∷
    event.Accept 1 (replicate 16 0) (replicate 16 0) ∷
    event.Admit 1 0 0 ∷ []

answered : answers histories (opening settings) events ≡
    answer.Accepted [] ∷
    answer.Requests 0 [] ∷
    answer.Requests 1 [] ∷
    answer.Admitted 1 1 ∷
    answer.Closed 0 ∷
    answer.Closed 1 ∷
    answer.Done ∷
    answer.Took 1 1 ∷
    answer.Refused NotNow ∷
    answer.TookNothing ∷
    answer.Refused NotNow ∷
    answer.Refused NoSuch ∷
    answer.Refused NotNow ∷
    answer.Refused NotNow ∷ []
unfolding opening route pattern_matches matches adds judged_of request_of parts_of row_of_values split_of first_of fault_at item_begun payload_ended reading_of row_of named_rows
answered = refl

-- ---- the way back: the source is told once the server acknowledged its chunk

-- the first chunk's name
abbrev name : List ℕ
name = codes "AAAAAAAAAAAAAAAAAAAAAQ=="

-- the first half of an acknowledgement, and the rest of it
abbrev reply_front : List ℕ
reply_front = 0x81 ∷ 0xa3 ∷ 0x61 ∷ 0x63 ∷ []

abbrev reply_rest : List ℕ
reply_rest = 0x6b ∷ 0xb8 ∷ name

-- a Message with the chunk `a1 78`
abbrev message : List ℕ
message = 0x94 ∷ 0xa1 ∷ 0x61 ∷ 0x01 ∷ 0x80 ∷ 0x81 ∷ 0xa5 ∷ 0x63 ∷ 0x68 ∷ 0x75 ∷ 0x6e ∷ 0x6b ∷ 0xa1 ∷ 0x78 ∷ []

abbrev whole_way : List Event
whole_way =
    event.Accept 1 (replicate 16 0) (replicate 16 0) ∷
    event.Piece 1 message ∷
    event.Admit 1 0 0 ∷
    event.Flush 0 0 All ∷
    event.Up 0 0 0 [] 0 ∷
    event.Take 0 0 0 Any ∷
    event.Load 0 0 0 ∷
    event.Wrote 0 0 47 ∷
    event.Wrote 0 0 46 ∷
    event.Heard 0 0 reply_front ∷
    event.Settle 0 0 ∷
    event.Heard 0 0 reply_rest ∷
    event.Collect 1 0 ∷
    event.Settle 0 0 ∷
    event.Collect 1 0 ∷
    event.Collect 1 0 ∷
    event.Heard 0 0 (reply_front ++ reply_rest) ∷
    event.Load 0 0 0 ∷
    event.Heard 0 0 [] ∷ []

-- the first events, up to a chunk that was sent whole
abbrev until_sent : List Event
until_sent =
    event.Accept 1 (replicate 16 0) (replicate 16 0) ∷
    event.Piece 1 message ∷
    event.Admit 1 0 0 ∷
    event.Flush 0 0 All ∷
    event.Up 0 0 0 [] 0 ∷
    event.Take 0 0 0 Any ∷
    event.Load 0 0 0 ∷
    event.Wrote 0 0 46 ∷ []

abbrev frame : List ℕ
frame = 0x93 ∷ 0xa1 ∷ 0x61 ∷ 0xc4 ∷ 0x03 ∷ 0x92 ∷ 0x01 ∷ 0x80 ∷ 0x82 ∷ 0xa4 ∷ 0x73 ∷ 0x69 ∷ 0x7a ∷ 0x65 ∷ 0x01 ∷ 0xa5 ∷ 0x63 ∷ 0x68 ∷ 0x75 ∷ 0x6e ∷ 0x6b ∷ 0xb8 ∷ name

brought_back : answers histories (opening settings) whole_way ≡
    answer.Accepted [] ∷
    answer.Requests 1 [] ∷
    answer.Admitted 1 1 ∷
    answer.Closed 1 ∷
    answer.Done ∷
    answer.Took 1 1 ∷
    answer.Frame frame ∷
    answer.Refused NotNow ∷
    answer.Done ∷
    answer.Quiet [] ∷
    answer.Refused NotNow ∷
    answer.Acked [] ∷
    answer.Told [] [] ∷
    answer.Settled 1 ∷
    answer.Told (1 ∷ []) (0x81 ∷ 0xa3 ∷ 0x61 ∷ 0x63 ∷ 0x6b ∷ 0xa1 ∷ 0x78 ∷ []) ∷
    answer.Told [] [] ∷
    answer.SessionFaulted EarlyAck ∷
    answer.Refused NotNow ∷
    answer.Refused NotUp ∷ []
unfolding opening route pattern_matches matches adds leaves chunk_frame chunk_name encode_symbols ack_text ack_name head_bytes reply_stream word_of judged_of request_of parts_of row_of_values split_of first_of fault_at item_begun payload_ended reading_of row_of named_rows
brought_back = refl

-- a second acknowledgement is early, and the first one stands
acknowledged_twice : answers histories (after histories (opening settings) until_sent) (
    event.Heard 0 0 (reply_front ++ reply_rest ++ reply_front ++ reply_rest) ∷
    event.Settle 0 0 ∷
    event.Collect 1 0 ∷ []
    ) ≡
    answer.SessionFaulted EarlyAck ∷
    answer.Settled 1 ∷
    answer.Told (1 ∷ []) (0x81 ∷ 0xa3 ∷ 0x61 ∷ 0x63 ∷ 0x6b ∷ 0xa1 ∷ 0x78 ∷ []) ∷ []
unfolding opening route pattern_matches matches adds leaves chunk_frame chunk_name encode_symbols ack_text ack_name head_bytes reply_stream word_of judged_of request_of parts_of row_of_values split_of first_of fault_at item_begun payload_ended reading_of row_of named_rows
acknowledged_twice = refl

-- another name, and a value that is no acknowledgement
wrong_name : answers histories (after histories (opening settings) until_sent)
    (event.Heard 0 0 (0x81 ∷ 0xa3 ∷ 0x61 ∷ 0x63 ∷ 0x6b ∷ 0xa1 ∷ 0x41 ∷ [])
    ∷ event.Settle 0 0 ∷ []) ≡ answer.SessionFaulted WrongAck ∷ answer.Refused NotNow ∷ []
unfolding opening route pattern_matches matches adds leaves chunk_frame chunk_name encode_symbols ack_text ack_name head_bytes reply_stream word_of judged_of request_of parts_of row_of_values split_of first_of fault_at item_begun payload_ended reading_of row_of named_rows
wrong_name = refl

no_acknowledgement : answers histories (after histories (opening settings) until_sent)
    (event.Heard 0 0 (0xc0 ∷ []) ∷ event.Heard 0 0 (0xc3 ∷ []) ∷ event.Settle 0 0 ∷ [])
    ≡ answer.Quiet [] ∷ answer.SessionFaulted BadReply ∷ answer.Refused NotNow ∷ []
unfolding opening route pattern_matches matches adds leaves chunk_frame chunk_name encode_symbols ack_text ack_name head_bytes reply_stream word_of judged_of request_of parts_of row_of_values split_of first_of fault_at item_begun payload_ended reading_of row_of named_rows
no_acknowledgement = refl

-- ---- which output an event goes to

-- the patterns `b` and `*` of two outputs: `a` goes to the second, `b` to the first, `a.b` to none
abbrev two_outputs : Config
two_outputs = record {
  run = replicate 6 0;
  routes = ((98 ∷ []) ∷ []) ∷ ((42 ∷ []) ∷ []) ∷ [];
  security = nobody;
  limits = usual;
  outputs = output_with one_at_once 1 1000 100000 ∷ output_with one_at_once 1 1000 100000 ∷ [];
  few = omega arith;
}

routed : answers histories (opening two_outputs) (
    event.Accept 1 (replicate 16 0) (replicate 16 0) ∷
    event.Piece 1
    (0x93 ∷ 0xa1 ∷ 0x61 ∷ 0x01 ∷ 0x80 ∷ 0x93 ∷ 0xa1 ∷ 0x62 ∷ 0x01 ∷ 0x80 ∷ 0x93 ∷ 0xa3 ∷ 0x61 ∷ 0x2e
    ∷ 0x62 ∷ 0x01 ∷ 0x80 ∷ 0x93 ∷ 0xa1 ∷ 0x61 ∷ 0x01 ∷ 0x80 ∷ []) ∷
    event.Admit 1 0 0 ∷
    event.Admit 1 1 0 ∷
    event.Admit 1 1 0 ∷
    event.Admit 1 0 0 ∷
    event.Admit 1 2 0 ∷
    event.Admit 1 1 0 ∷
    event.Admit 1 1 0 ∷
    event.Piece 1 [] ∷ []
    ) ≡
    answer.Accepted [] ∷
    answer.Requests 4 [] ∷
    answer.Refused NotNow ∷
    answer.Admitted 1 1 ∷
    answer.Refused NotNow ∷
    answer.Admitted 2 1 ∷
    answer.Refused NoSuch ∷
    answer.NoRoute ∷
    answer.Refused NotNow ∷
    answer.Refused Closed ∷ []
unfolding opening route pattern_matches matches adds judged_of request_of parts_of row_of_values split_of first_of fault_at item_begun payload_ended reading_of row_of named_rows
routed = refl

-- ---- a connection's end

-- a fault behind a good request closes the connection; once it is shut it is known no more, and
-- its id stays used
ended : answers histories (opening settings) (
    event.Accept 1 (replicate 16 0) (replicate 16 0) ∷
    event.Piece 1 (0x93 ∷ 0xa1 ∷ 0x61 ∷ 0x01 ∷ 0x80 ∷ 0xc1 ∷ []) ∷
    event.Admit 1 0 0 ∷
    event.Piece 1 (0xc0 ∷ []) ∷
    event.Drained 1 1 ∷
    event.Drained 1 0 ∷
    event.Shut 1 ∷
    event.Shut 1 ∷
    event.Piece 1 [] ∷
    event.Accept 1 (replicate 16 0) (replicate 16 0) ∷
    event.Accept 2 (replicate 16 0) (replicate 16 0) ∷ []
    ) ≡
    answer.Accepted [] ∷
    answer.Faulted (Scan Reserved) 1 [] ∷
    answer.Admitted 1 1 ∷
    answer.Refused Closed ∷
    answer.Refused NotNow ∷
    answer.Done ∷
    answer.Done ∷
    answer.Refused NoSuch ∷
    answer.Refused NoSuch ∷
    answer.Refused NotNow ∷
    answer.Accepted [] ∷ []
unfolding opening route pattern_matches matches adds judged_of request_of parts_of row_of_values split_of first_of fault_at item_begun payload_ended reading_of row_of named_rows
ended = refl

-- ---- chunks by tag

abbrev ack_x : List ℕ
ack_x = 0x81 ∷ 0xa3 ∷ 0x61 ∷ 0x63 ∷ 0x6b ∷ 0xa1 ∷ 0x78 ∷ []

-- what a server answers to the chunk of the last symbol
abbrev reply_to : ℕ → List ℕ
reply_to symbol = 0x81 ∷ 0xa3 ∷ 0x61 ∷ 0x63 ∷ 0x6b ∷ 0xb8 ∷ (codes "AAAAAAAAAAAAAAAAAAAAA" ++ symbol ∷ codes "==")

-- three entries of three bytes each, where a chunk has six, under the chunk `a1 78`
abbrev three_entries : List ℕ
three_entries =
    0x93 ∷ 0xa1 ∷ 0x61 ∷ 0x93 ∷ 0x92 ∷ 0x01 ∷ 0x80 ∷ 0x92 ∷ 0x01 ∷ 0x80 ∷ 0x92 ∷ 0x01 ∷ 0x80 ∷
    0x81 ∷ 0xa5 ∷ 0x63 ∷ 0x68 ∷ 0x75 ∷ 0x6e ∷ 0x6b ∷ 0xa1 ∷ 0x78 ∷ []

-- a large request goes into two chunks
abbrev until_taken : List Event
until_taken =
    event.Accept 1 (replicate 16 0) (replicate 16 0) ∷
    event.Piece 1 three_entries ∷
    event.Admit 1 0 0 ∷
    event.Flush 0 0 All ∷
    event.Take 0 0 0 Any ∷
    event.Take 0 1 0 Any ∷ []

split_in_two : answers histories (opening (limited 6 100000)) until_taken ≡
    answer.Accepted [] ∷
    answer.Requests 1 [] ∷
    answer.Admitted 1 3 ∷
    answer.Closed 1 ∷
    answer.Took 1 2 ∷
    answer.Took 2 1 ∷ []
unfolding opening route pattern_matches matches adds wait_after leaves chunk_frame chunk_name encode_symbols ack_text ack_name head_bytes reply_stream word_of judged_of listed_entries entry_of request_of parts_of row_of_values split_of first_of fault_at item_begun payload_ended reading_of row_of named_rows
split_in_two = refl

-- it is told once both are settled
told_after_both : answers histories (after histories (opening (limited 6 100000)) until_taken) (
    event.Up 0 0 0 [] 0 ∷
    event.Up 0 1 0 [] 0 ∷
    event.Load 0 0 0 ∷
    event.Load 0 1 0 ∷
    event.Wrote 0 0 49 ∷
    event.Wrote 0 1 46 ∷
    event.Heard 0 1 (reply_to 103) ∷
    event.Settle 0 1 ∷
    event.Collect 1 0 ∷
    event.Heard 0 0 (reply_to 81) ∷
    event.Settle 0 0 ∷
    event.Collect 1 0 ∷ []
    ) ≡
    answer.Done ∷
    answer.Done ∷
    answer.Frame
    (0x93 ∷ 0xa1 ∷ 0x61 ∷ 0xc4 ∷ 0x06 ∷ 0x92 ∷ 0x01 ∷ 0x80 ∷ 0x92 ∷ 0x01 ∷ 0x80 ∷ 0x82 ∷ 0xa4 ∷ 0x73
    ∷ 0x69 ∷ 0x7a ∷ 0x65 ∷ 0x02 ∷ 0xa5 ∷ 0x63 ∷ 0x68 ∷ 0x75 ∷ 0x6e ∷ 0x6b ∷ 0xb8
    ∷ codes "AAAAAAAAAAAAAAAAAAAAAQ==") ∷
    answer.Frame
    (0x93 ∷ 0xa1 ∷ 0x61 ∷ 0xc4 ∷ 0x03 ∷ 0x92 ∷ 0x01 ∷ 0x80 ∷ 0x82 ∷ 0xa4 ∷ 0x73 ∷ 0x69 ∷ 0x7a ∷ 0x65
    ∷ 0x01 ∷ 0xa5 ∷ 0x63 ∷ 0x68 ∷ 0x75 ∷ 0x6e ∷ 0x6b ∷ 0xb8 ∷ codes "AAAAAAAAAAAAAAAAAAAAAg==") ∷
    answer.Done ∷
    answer.Done ∷
    answer.Acked [] ∷
    answer.Settled 1 ∷
    answer.Told [] [] ∷
    answer.Acked [] ∷
    answer.Settled 2 ∷
    answer.Told (1 ∷ []) ack_x ∷ []
unfolding opening route pattern_matches matches adds wait_after leaves chunk_frame chunk_name encode_symbols ack_text ack_name head_bytes reply_stream word_of judged_of listed_entries entry_of request_of parts_of row_of_values split_of first_of fault_at item_begun payload_ended reading_of row_of named_rows
told_after_both = refl

-- small requests of one tag leave as one chunk, and each source is told
joined_in_one : answers histories (opening settings) (
    event.Accept 1 (replicate 16 0) (replicate 16 0) ∷
    event.Accept 2 (replicate 16 0) (replicate 16 0) ∷
    event.Piece 1 message ∷
    event.Piece 2 message ∷
    event.Admit 1 0 0 ∷
    event.Admit 2 0 0 ∷
    event.Flush 0 0 All ∷
    event.Take 0 0 0 Any ∷
    event.Up 0 0 0 [] 0 ∷
    event.Load 0 0 0 ∷
    event.Wrote 0 0 49 ∷
    event.Heard 0 0 (reply_to 81) ∷
    event.Settle 0 0 ∷
    event.Collect 1 0 ∷
    event.Collect 2 0 ∷ []
    ) ≡
    answer.Accepted [] ∷
    answer.Accepted [] ∷
    answer.Requests 1 [] ∷
    answer.Requests 1 [] ∷
    answer.Admitted 1 1 ∷
    answer.Admitted 1 1 ∷
    answer.Closed 1 ∷
    answer.Took 1 2 ∷
    answer.Done ∷
    answer.Frame
    (0x93 ∷ 0xa1 ∷ 0x61 ∷ 0xc4 ∷ 0x06 ∷ 0x92 ∷ 0x01 ∷ 0x80 ∷ 0x92 ∷ 0x01 ∷ 0x80 ∷ 0x82 ∷ 0xa4 ∷ 0x73
    ∷ 0x69 ∷ 0x7a ∷ 0x65 ∷ 0x02 ∷ 0xa5 ∷ 0x63 ∷ 0x68 ∷ 0x75 ∷ 0x6e ∷ 0x6b ∷ 0xb8
    ∷ codes "AAAAAAAAAAAAAAAAAAAAAQ==") ∷
    answer.Done ∷
    answer.Acked [] ∷
    answer.Settled 2 ∷
    answer.Told (1 ∷ []) ack_x ∷
    answer.Told (1 ∷ []) ack_x ∷ []
unfolding opening route pattern_matches matches adds wait_after leaves chunk_frame chunk_name encode_symbols ack_text ack_name head_bytes reply_stream word_of judged_of request_of parts_of row_of_values split_of first_of fault_at item_begun payload_ended reading_of row_of named_rows
joined_in_one = refl

-- a request that would take the output past its total limit closes its connection, and leaves the
-- output as it was
filled_up : answers histories (opening (limited 1000 6)) (
    event.Accept 1 (replicate 16 0) (replicate 16 0) ∷
    event.Piece 1 (0x93 ∷ 0xa1 ∷ 0x61 ∷ 0x01 ∷ 0x80 ∷ []) ∷
    event.Admit 1 0 0 ∷
    event.Accept 2 (replicate 16 0) (replicate 16 0) ∷
    event.Piece 2 (0x93 ∷ 0xa1 ∷ 0x61 ∷ 0xcc ∷ 0x80 ∷ 0x80 ∷ []) ∷
    event.Admit 2 0 0 ∷
    event.Piece 2 (0xc0 ∷ []) ∷
    event.Accept 3 (replicate 16 0) (replicate 16 0) ∷
    event.Piece 3 (0x93 ∷ 0xa1 ∷ 0x61 ∷ 0x01 ∷ 0x80 ∷ []) ∷
    event.Admit 3 0 0 ∷ []
    ) ≡
    answer.Accepted [] ∷
    answer.Requests 1 [] ∷
    answer.Admitted 1 1 ∷
    answer.Accepted [] ∷
    answer.Requests 1 [] ∷
    answer.Full ∷
    answer.Refused Closed ∷
    answer.Accepted [] ∷
    answer.Requests 1 [] ∷
    answer.Admitted 1 1 ∷ []
unfolding opening route pattern_matches matches adds judged_of request_of parts_of row_of_values split_of first_of fault_at item_begun payload_ended reading_of row_of named_rows
filled_up = refl

-- a source leaves: its entries stay, and nobody is told
forgotten : answers histories (after histories (opening settings) until_sent) (
    event.Shut 1 ∷
    event.Forget 1 0 ∷
    event.Forget 1 0 ∷
    event.Forget 1 1 ∷
    event.Heard 0 0 (reply_front ++ reply_rest) ∷
    event.Settle 0 0 ∷
    event.Collect 1 0 ∷ []
    ) ≡
    answer.Done ∷
    answer.Forgot 1 ∷
    answer.Forgot 0 ∷
    answer.Refused NoSuch ∷
    answer.Acked [] ∷
    answer.Settled 1 ∷
    answer.Refused NoSuch ∷ []
unfolding opening route pattern_matches matches adds wait_after leaves chunk_frame chunk_name encode_symbols ack_text ack_name head_bytes reply_stream word_of judged_of request_of parts_of row_of_values split_of first_of fault_at item_begun payload_ended reading_of row_of named_rows
forgotten = refl

-- ---- a server that lies or leaves

-- another chunk's name is a fault, and its session takes nothing more; at the end the chunk goes
-- back with a loss, and the standby is tried until the server's wait is over
lying_server : answers histories (after histories (opening settings) until_sent) (
    event.Heard 0 0 (0x81 ∷ 0xa3 ∷ 0x61 ∷ 0x63 ∷ 0x6b ∷ 0xa1 ∷ 0x41 ∷ []) ∷
    event.Heard 0 0 (reply_front ++ reply_rest) ∷
    event.End 0 0 Kept 2000 ∷
    event.End 0 0 Kept 2000 ∷
    event.Choose 0 0 2499 ∷
    event.Up 0 0 1 [] 2499 ∷
    event.Take 0 0 2499 Any ∷
    event.Choose 0 0 2500 ∷
    event.Take 0 0 2500 Any ∷ []
    ) ≡
    answer.SessionFaulted WrongAck ∷
    answer.Refused NotUp ∷
    answer.Ended (1 ∷ []) ∷
    answer.Refused NotNow ∷
    answer.Chose (Some 1) ∷
    answer.Done ∷
    answer.TookNothing ∷
    answer.Chose (Some 0) ∷
    answer.Took 1 1 ∷ []
unfolding opening route pattern_matches matches adds wait_after leaves chunk_frame chunk_name encode_symbols ack_text ack_name head_bytes reply_stream word_of judged_of request_of parts_of row_of_values split_of first_of fault_at item_begun payload_ended reading_of row_of named_rows
lying_server = refl

-- a session that waited too long is late and down; a chunk that was only taken goes back without a
-- loss
late_server : answers histories (after histories (opening settings) until_sent) (
    event.Late 0 0 9999 ∷
    event.Late 0 0 10000 ∷
    event.Late 0 0 10000 ∷
    event.End 0 0 Lost 10000 ∷
    event.Take 0 1 10500 Any ∷
    event.End 0 1 Kept 10500 ∷
    event.Take 0 1 10500 Any ∷ []
    ) ≡
    answer.Late false ∷
    answer.Late true ∷
    answer.Refused NotUp ∷
    answer.Ended (1 ∷ []) ∷
    answer.Took 1 1 ∷
    answer.Ended (1 ∷ []) ∷
    answer.Took 1 1 ∷ []
unfolding opening route pattern_matches matches adds wait_after leaves chunk_frame chunk_name encode_symbols ack_text ack_name head_bytes reply_stream word_of judged_of request_of parts_of row_of_values split_of first_of fault_at item_begun payload_ended reading_of row_of named_rows
late_server = refl

-- ---- more chunks at once

-- a session with two chunks, of an entry each
abbrev until_both_sent : List Event
until_both_sent =
    event.Accept 1 (replicate 16 0) (replicate 16 0) ∷
    event.Piece 1 three_entries ∷
    event.Admit 1 0 0 ∷
    event.Flush 0 0 All ∷
    event.Up 0 0 0 [] 0 ∷
    event.Load 0 0 0 ∷
    event.Take 0 0 0 Any ∷
    event.Take 0 0 0 Any ∷
    event.Load 0 0 0 ∷
    event.Take 0 0 0 Any ∷
    event.Load 0 0 0 ∷
    event.Take 0 0 0 Any ∷
    event.Load 0 0 0 ∷
    event.Wrote 0 0 91 ∷ []

both_sent : answers histories (opening (waiting_so two_at_once 2 100000)) until_both_sent ≡
    answer.Accepted [] ∷
    answer.Requests 1 [] ∷
    answer.Admitted 1 3 ∷
    answer.Closed 1 ∷
    answer.Done ∷
    answer.Refused NotNow ∷
    answer.Took 1 1 ∷
    answer.Refused NotNow ∷
    answer.Frame frame ∷
    answer.Took 2 1 ∷
    answer.Frame
    (0x93 ∷ 0xa1 ∷ 0x61 ∷ 0xc4 ∷ 0x03 ∷ 0x92 ∷ 0x01 ∷ 0x80 ∷ 0x82 ∷ 0xa4 ∷ 0x73 ∷ 0x69 ∷ 0x7a ∷ 0x65
    ∷ 0x01 ∷ 0xa5 ∷ 0x63 ∷ 0x68 ∷ 0x75 ∷ 0x6e ∷ 0x6b ∷ 0xb8 ∷ codes "AAAAAAAAAAAAAAAAAAAAAg==") ∷
    answer.Refused NotNow ∷
    answer.Refused NotNow ∷
    answer.Done ∷ []
unfolding opening route pattern_matches matches adds wait_after leaves chunk_frame chunk_name encode_symbols ack_text ack_name head_bytes reply_stream word_of judged_of listed_entries entry_of request_of parts_of row_of_values split_of first_of fault_at item_begun payload_ended reading_of row_of named_rows
both_sent = refl

-- acknowledgements come in any order, and the chunks are settled in theirs; while one is not, the
-- session cannot end. A chunk that was only taken goes back without a loss
in_any_order : answers histories (after histories (opening (waiting_so two_at_once 2 100000)) until_both_sent) (
    event.Wrote 0 0 1 ∷
    event.Heard 0 0 (reply_to 103) ∷
    event.End 0 0 Kept 0 ∷
    event.Take 0 0 0 Any ∷
    event.Settle 0 0 ∷
    event.Settle 0 0 ∷
    event.Take 0 0 0 Any ∷
    event.Heard 0 0 (reply_to 81) ∷
    event.Settle 0 0 ∷
    event.Collect 1 0 ∷
    event.End 0 0 Kept 0 ∷
    event.Choose 0 0 0 ∷
    event.Take 0 1 0 Any ∷ []
    ) ≡
    answer.Done ∷
    answer.Acked [] ∷
    answer.Refused NotNow ∷
    answer.Refused NotNow ∷
    answer.Settled 1 ∷
    answer.Refused NotNow ∷
    answer.Took 3 1 ∷
    answer.Acked [] ∷
    answer.Settled 1 ∷
    answer.Told [] [] ∷
    answer.Ended (3 ∷ []) ∷
    answer.Chose (Some 0) ∷
    answer.Took 3 1 ∷ []
unfolding opening route pattern_matches matches adds wait_after leaves chunk_frame chunk_name encode_symbols ack_text ack_name head_bytes reply_stream word_of judged_of listed_entries entry_of request_of parts_of row_of_values split_of first_of fault_at item_begun payload_ended reading_of row_of named_rows
in_any_order = refl

-- one piece may acknowledge both
both_at_once : answers histories (after histories (opening (waiting_so two_at_once 2 100000)) until_both_sent) (
    event.Wrote 0 0 1 ∷
    event.Heard 0 0 (reply_to 103 ++ reply_to 81) ∷
    event.Settle 0 0 ∷
    event.Settle 0 0 ∷
    event.Settle 0 0 ∷ []
    ) ≡
    answer.Done ∷
    answer.Acked [] ∷
    answer.Settled 1 ∷
    answer.Settled 1 ∷
    answer.Refused NotNow ∷ []
unfolding opening route pattern_matches matches adds wait_after leaves chunk_frame chunk_name encode_symbols ack_text ack_name head_bytes reply_stream word_of judged_of listed_entries entry_of request_of parts_of row_of_values split_of first_of fault_at item_begun payload_ended reading_of row_of named_rows
both_at_once = refl

-- an acknowledgement before the last byte of its frame is a fault; then both go back, with a loss
-- each
too_early : answers histories (after histories (opening (waiting_so two_at_once 2 100000)) until_both_sent) (
    event.Heard 0 0 (reply_to 103) ∷
    event.Settle 0 0 ∷
    event.End 0 0 Kept 0 ∷
    event.Choose 0 0 0 ∷
    event.Take 0 1 0 Any ∷
    event.End 0 1 Kept 0 ∷
    event.Take 0 1 500 Any ∷ []
    ) ≡
    answer.SessionFaulted EarlyAck ∷
    answer.Refused NotNow ∷
    answer.Ended (1 ∷ 2 ∷ []) ∷
    answer.Chose (Some 1) ∷
    answer.Took 3 1 ∷
    answer.Ended (3 ∷ []) ∷
    answer.Took 1 1 ∷ []
unfolding opening route pattern_matches matches adds wait_after leaves chunk_frame chunk_name encode_symbols ack_text ack_name head_bytes reply_stream word_of judged_of listed_entries entry_of request_of parts_of row_of_values split_of first_of fault_at item_begun payload_ended reading_of row_of named_rows
too_early = refl

-- ---- in either order

-- two requests of two connections: a worker has the first one's chunk, and the second one's is open
abbrev two_chunks : List Event
two_chunks =
    event.Accept 1 (replicate 16 0) (replicate 16 0) ∷
    event.Accept 2 (replicate 16 0) (replicate 16 0) ∷
    event.Piece 1 message ∷
    event.Piece 2 message ∷
    event.Admit 1 0 0 ∷
    event.Flush 0 0 All ∷
    event.Take 0 0 0 Any ∷
    event.Up 0 0 0 [] 0 ∷
    event.Admit 2 0 0 ∷ []

-- what further events are answered
abbrev then_answered : List Event → List Answer
then_answered es = answers histories (after histories (opening settings) two_chunks) es

-- an output and the session of its worker have nothing in common
abbrev load : Event
load = event.Load 0 0 0

abbrev flush : Event
flush = event.Flush 0 0 All

loaded_and_flushed : (are_unrelated load flush ≡ true)
    × (then_answered (load ∷ flush ∷ []) ≡ answer.Frame frame ∷ answer.Closed 1 ∷ [])
    × (then_answered (flush ∷ load ∷ []) ≡ answer.Closed 1 ∷ answer.Frame frame ∷ [])
unfolding opening route pattern_matches matches adds wait_after leaves chunk_frame chunk_name encode_symbols ack_text ack_name head_bytes reply_stream word_of judged_of request_of parts_of row_of_values split_of first_of fault_at item_begun payload_ended reading_of row_of named_rows
loaded_and_flushed = (refl, refl, refl)

-- a connection comes, and another one asks what it is to be told
abbrev accept : ℕ → Event
accept id = event.Accept id (replicate 16 0) (replicate 16 0)

abbrev collect : Event
collect = event.Collect 1 0

accepted_and_told : (are_unrelated (accept 3) collect ≡ true)
    × (then_answered (accept 3 ∷ collect ∷ []) ≡ answer.Accepted [] ∷ answer.Told [] [] ∷ [])
    × (then_answered (collect ∷ accept 3 ∷ []) ≡ answer.Told [] [] ∷ answer.Accepted [] ∷ [])
unfolding opening route pattern_matches matches adds wait_after leaves chunk_frame chunk_name encode_symbols ack_text ack_name head_bytes reply_stream word_of judged_of request_of parts_of row_of_values split_of first_of fault_at item_begun payload_ended reading_of row_of named_rows
accepted_and_told = (refl, refl, refl)

-- what closes a chunk and what takes one name one output, and their order matters
abbrev take : Event
take = event.Take 0 1 0 Any

flushed_and_taken : (are_unrelated flush take ≡ false)
    × (then_answered (flush ∷ take ∷ []) ≡ answer.Closed 1 ∷ answer.Took 2 1 ∷ [])
    × (then_answered (take ∷ flush ∷ []) ≡ answer.TookNothing ∷ answer.Closed 1 ∷ [])
unfolding opening route pattern_matches matches adds wait_after leaves chunk_frame chunk_name encode_symbols ack_text ack_name head_bytes reply_stream word_of judged_of request_of parts_of row_of_values split_of first_of fault_at item_begun payload_ended reading_of row_of named_rows
flushed_and_taken = (refl, refl, refl)

-- two connections have nothing in common, and still come in the order of their ids
accepted_in_order : (are_unrelated (accept 3) (accept 4) ≡ true)
    × (then_answered (accept 3 ∷ accept 4 ∷ [])
    ≡ answer.Accepted [] ∷ answer.Accepted [] ∷ [])
    × (then_answered (accept 4 ∷ accept 3 ∷ [])
    ≡ answer.Accepted [] ∷ answer.Refused NotNow ∷ [])
unfolding opening route pattern_matches matches adds wait_after leaves chunk_frame chunk_name encode_symbols ack_text ack_name head_bytes reply_stream word_of judged_of request_of parts_of row_of_values split_of first_of fault_at item_begun payload_ended reading_of row_of named_rows
accepted_in_order = (refl, refl, refl)
