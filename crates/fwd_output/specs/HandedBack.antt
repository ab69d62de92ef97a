-- What is handed back to an output's buffer of the chunks that workers have; and the `chunk` of a
-- request.
use Rattle.std.specs.Prelude.{◌≡◌, ℕ, Bool, true, false, List, [], ◌∷◌, Option, option_and_then}
use Rattle.fwd_modes.specs.declared.origin.Origin.{Origin}
use Rattle.fwd_book.specs.History.{Entered, request_at}
use Rattle.fwd_chunks.specs.History.{CarriedChunk}
use Rattle.fwd_chunks.specs.Live.{LiveBuffer, IsCarried, live_frees}
use Rattle.fwd_model.specs.Outputs.{moment_if}

-- a chunk that is handed back, and whether that counts as a loss
pub record Handed : Type 0 where
  pub chunk : CarriedChunk
  pub lost : Bool

-- it was not loaded
abbrev pub kept_back : CarriedChunk → Handed
kept_back c = record { chunk = c; lost = false }

-- it was loaded
abbrev pub lost_back : CarriedChunk → Handed
lost_back c = record { chunk = c; lost = true }

-- what a buffer comes to once chunks are handed back to it at a moment, one after the other: one
-- that no worker has from it is only spent
abbrev pub IsHandedBack : LiveBuffer → List Handed → (now : ℕ) → LiveBuffer → Type 0
IsHandedBack b [] now d = d ≡ b
IsHandedBack b (h ∷ handed) now d =
    (IsCarried b h.chunk
    → IsHandedBack (live_frees b h.chunk.number (moment_if h.lost now)) handed now d)
    × (¬ (IsCarried b h.chunk) → IsHandedBack b handed now d)

-- the `chunk` of the request of an origin, if there is the request and it has one
abbrev pub chunk_at : List Entered → Origin → Option (List ℕ)
chunk_at qs origin = option_and_then (λ (q : Entered). q.chunk) (request_at qs origin)
