-- A connection at work on a few pieces: open, with a shared key, and where a PING is awaited.
use Rattle.std.proofs.Common.{◌≡◌, ℕ, false, List, [], ◌∷◌, ◌++◌, Option, Some, None, refl, arith}
use Rattle.std.specs.Prelude.{codes, replicate}
use Rattle.fwd_msgpack.specs.Heads.{row_of, named_rows, reading_of, head_bytes}
use Rattle.fwd_msgpack.specs.Scans.{first_of, fault_at, item_begun, payload_ended, split_of, row_of_values, parts_of}
use Rattle.fwd_msgpack.specs.declared.limits.Limits.{Limits}
use Rattle.fwd_msgpack.specs.declared.fault.ScanFault.TheVariants.{Reserved}
use Rattle.fwd_modes.specs.Requests.{Request, request_of}
use Rattle.fwd_handshake.specs.declared.credentials.Security.{Security}
use Rattle.fwd_handshake.specs.declared.verdict.Denial.TheVariants.{KeyMismatch}
use Rattle.fwd_handshake.specs.declared.verdict.PingVerdict.TheVariants as ping
use Rattle.fwd_handshake.specs.Messages.{helo_text}
use Rattle.fwd_handshake.specs.Verdicts.{ping_verdict}
use Rattle.fwd_source.specs.declared.fault.SourceFault.TheVariants.{Scan, NotPing, Denied}
use Rattle.fwd_source.specs.declared.piece.Piece.TheVariants as piece
use Rattle.fwd_source.specs.Judged.{judged_of}
use Rattle.fwd_source.specs.History.{Setup, SourceHistory, opened, piece_answer, piece_next, waiting, unsent, gives}

abbrev limits : Limits
limits = record { bytes = 16777216; depth = 64; shallow = omega arith }

-- a server with or without a shared key, and no users
abbrev server : Option (List ℕ) → Security
server key = record {
  hostname = codes "brown";
  shared_key = key;
  users = [];
  hostname_fits = omega arith;
}

abbrev setup : Option (List ℕ) → Setup
setup key = record {
  conn = 7;
  security = server key;
  nonces = record { nonce = replicate 16 0x6e; auth = replicate 16 0 };
  limits = limits;
}

-- a Message of the tag `a`, and one of the tag `b`, and what they ask for
abbrev a : List ℕ
a = 0x93 ∷ 0xa1 ∷ 0x61 ∷ 0x01 ∷ 0x80 ∷ []

abbrev b : List ℕ
b = 0x93 ∷ 0xa1 ∷ 0x62 ∷ 0x02 ∷ 0x80 ∷ []

abbrev asks : ℕ → ℕ → Request
asks tag time = record {
  tag = tag ∷ [];
  entries = (0x92 ∷ time ∷ 0x80 ∷ []) ∷ [];
  chunk = None;
}

-- ---- without a key

abbrev open_source : SourceHistory
open_source = opened (setup None)

-- nothing is written at the start
silent : unsent open_source ≡ []
silent = refl

-- the first two bytes of a request, and then the others
half : piece_answer open_source (0x93 ∷ 0xa1 ∷ []) ≡ piece.Waiting 0
unfolding judged_of request_of parts_of row_of_values split_of first_of fault_at item_begun payload_ended reading_of row_of named_rows
half = refl

whole : piece_answer (piece_next open_source (0x93 ∷ 0xa1 ∷ [])) (0x61 ∷ 0x01 ∷ 0x80 ∷ [])
    ≡ piece.Waiting 1
unfolding judged_of request_of parts_of row_of_values split_of first_of fault_at item_begun payload_ended reading_of row_of named_rows
whole = refl

-- two requests in one piece, with a heartbeat between them
two : piece_answer open_source (a ++ 0xc0 ∷ b) ≡ piece.Waiting 2
unfolding judged_of request_of parts_of row_of_values split_of first_of fault_at item_begun payload_ended reading_of row_of named_rows
two = refl

two_wait : waiting (piece_next open_source (a ++ 0xc0 ∷ b)) ≡ asks 0x61 1 ∷ asks 0x62 2 ∷ []
unfolding judged_of request_of parts_of row_of_values split_of first_of fault_at item_begun payload_ended reading_of row_of named_rows
two_wait = refl

-- the first is taken
one_waits : waiting (gives (piece_next open_source (a ++ 0xc0 ∷ b))) ≡ asks 0x62 2 ∷ []
unfolding judged_of request_of parts_of row_of_values split_of first_of fault_at item_begun payload_ended reading_of row_of named_rows
one_waits = refl

-- a fault behind a good request: the request still waits, and no later piece is heard
faulty : piece_answer open_source (a ++ 0xc1 ∷ b) ≡ piece.Fault (Scan Reserved)
unfolding judged_of request_of parts_of row_of_values split_of first_of fault_at item_begun payload_ended reading_of row_of named_rows
faulty = refl

good_waits : waiting (piece_next open_source (a ++ 0xc1 ∷ b)) ≡ asks 0x61 1 ∷ []
unfolding judged_of request_of parts_of row_of_values split_of first_of fault_at item_begun payload_ended reading_of row_of named_rows
good_waits = refl

closed : piece_answer (piece_next open_source (a ++ 0xc1 ∷ b)) b ≡ piece.Closed
unfolding judged_of request_of parts_of row_of_values split_of first_of fault_at item_begun payload_ended reading_of row_of named_rows
closed = refl

-- ---- with a key

abbrev guarded : SourceHistory
guarded = opened (setup (Some (codes "the lazy dog")))

-- HELO is written at the start, with the nonce as a bin and an empty auth salt
greets : unsent guarded ≡
    0x92 ∷ 0xa4 ∷ codes "HELO" ++ 0x83 ∷ 0xa5 ∷ codes "nonce" ++ 0xc4 ∷ 0x10 ∷ replicate 16 0x6e
    ++ 0xa4 ∷ codes "auth" ++ 0xa0 ∷ 0xa9 ∷ codes "keepalive" ++ 0xc3 ∷ []
unfolding helo_text head_bytes
greets = refl

-- nil is skipped, and then a request is no PING, with nothing written
heartbeat : piece_answer guarded (0xc0 ∷ 0xc0 ∷ []) ≡ piece.Waiting 0
unfolding judged_of request_of parts_of row_of_values split_of first_of fault_at item_begun payload_ended reading_of row_of named_rows
heartbeat = refl

no_ping : piece_answer guarded (0xc0 ∷ a) ≡ piece.Fault NotPing
unfolding judged_of request_of ping_verdict parts_of row_of_values split_of first_of fault_at item_begun payload_ended reading_of row_of named_rows
no_ping = refl

nothing_waits : waiting (piece_next guarded (0xc0 ∷ a)) ≡ []
unfolding judged_of request_of ping_verdict parts_of row_of_values split_of first_of fault_at item_begun payload_ended reading_of row_of named_rows
nothing_waits = refl

-- ---- where a PING is awaited: what comes first is passed with the PONG "yes", or denied with "no"

passed : judged_of limits (Some (λ value. ping.Pass (codes "yes"))) 0 (0xc0 ∷ 0x90 ∷ a) ≡
    record
    { requests = asks 0x61 1 ∷ []; rest = []; pong = codes "yes"; awaits = false; fault = None }
unfolding judged_of request_of parts_of row_of_values split_of first_of fault_at item_begun payload_ended reading_of row_of named_rows
passed = refl

denied :
    judged_of limits (Some (λ value. ping.Deny (codes "no") KeyMismatch)) 0 (0xc0 ∷ 0x90 ∷ a)
    ≡
    record { requests = []; rest = []; pong = codes "no"; awaits = false; fault = Some Denied }
unfolding judged_of request_of parts_of row_of_values split_of first_of fault_at item_begun payload_ended reading_of row_of named_rows
denied = refl
