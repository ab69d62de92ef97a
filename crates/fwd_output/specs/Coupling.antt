-- What ties an output's chunks to its requests.
use Rattle.std.specs.Prelude.{◌≡◌, ℕ, List, [], ◌∷◌, drop, None, Some, slice_get}
use Rattle.fwd_chunks.specs.declared.chunk.Chunk.{Chunk}
use Rattle.fwd_chunks.specs.declared.span.Span.{Span}
use Rattle.fwd_chunks.specs.Live.{LiveBuffer}
use Rattle.fwd_chunks.specs.Spans.{IsHeld, IsGone}
use Rattle.fwd_session.specs.ServerAcks.{ServerAck}
use Rattle.fwd_book.specs.History.{Entered, evidence_of}
use Rattle.fwd_book.specs.Live.{LiveBook}
use Rattle.fwd_model.specs.Outputs.{book_setting}

-- of a request's runs those that are not acknowledged stand in the chunks, under its tag
abbrev pub AreWaiting : List Chunk → List ServerAck → (tag : List ℕ) → List Span
    → (own : List (List ℕ)) → Type 0
AreWaiting chunks settled tag [] own = Unit {0}
AreWaiting chunks settled tag (s ∷ spans) own =
    (evidence_of settled s.number ≡ None → IsHeld chunks tag s own)
    × AreWaiting chunks settled tag spans (drop s.count own)

-- A buffer and a book are of one output: they name its chunks alike; what is not acknowledged of a
-- request stands in the chunks; and what was acknowledged stands there no more.
pub record IsCoupled (b : LiveBuffer) (k : LiveBook) : Type 0 where
  pub setting : k.setting ≡ book_setting b.setting
  pub waiting : (i : ℕ) (q : Entered) → slice_get k.requests i ≡ Some q
      → AreWaiting b.chunks k.settled q.tag q.spans q.entries
  pub gone : (j : ℕ) (e : ServerAck) → slice_get k.settled j ≡ Some e → IsGone b e.number
