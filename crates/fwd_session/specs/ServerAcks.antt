-- What is kept of a chunk that a server acknowledged.
use Rattle.std.specs.Prelude.{◌≡◌, ℕ, List, Option, Some, option_map}
use Rattle.fwd_modes.specs.Acks.{ack_name}
use Rattle.fwd_modes.specs.Frames.{chunk_frame}
use Rattle.fwd_chunks.specs.History.{CarriedChunk}

-- the chunk's number, its tag and its entries, the server, and the bytes of the server's reply
pub record ServerAck : Type 0 where
  pub number : ℕ
  pub tag : List ℕ
  pub entries : List (List ℕ)
  pub server : ℕ
  pub reply : List ℕ

-- a chunk that a server acknowledged, and the value that named it
pub record Accepted : Type 0 where
  pub chunk : CarriedChunk
  pub reply : List ℕ

-- what is kept of it
abbrev pub evidence_of : (server : ℕ) → Accepted → ServerAck
evidence_of server a = record {
  number = a.chunk.number;
  tag = a.chunk.tag;
  entries = a.chunk.entries;
  server = server;
  reply = a.reply;
}

-- it is of this chunk, which the reply names
pub record IsServerAck (e : ServerAck) (c : CarriedChunk) : Type 0 where
  pub number : e.number ≡ c.number
  pub tag : e.tag ≡ c.tag
  pub entries : e.entries ≡ c.entries
  pub reply : ack_name e.reply ≡ Some c.name

-- the reply of what is kept, if anything is
abbrev pub reply_in : Option ServerAck → Option (List ℕ)
reply_in kept = option_map (λ e. e.reply) kept

-- what is kept is of this chunk, and of the session's server
abbrev pub IsBacked : (server : ℕ) → ServerAck → CarriedChunk → Type 0
IsBacked server e c = IsServerAck e c × (e.server ≡ server)

-- the frame of a chunk, as a session sends it
abbrev pub frame_of : CarriedChunk → List ℕ
frame_of c = chunk_frame c.tag c.entries c.name
