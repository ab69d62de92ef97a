-- How many entries a buffer accepted and settled, once a request is entered.
use Rattle.std.proofs.Common.{arith, ◌≡◌, ◌+◌, ℕ, Option, Some, None, List, [], ◌∷◌, length, refl, ◌∙◌}
use Rattle.std.specs.Prelude.{find}
use Rattle.fwd_modes.specs.Requests.{Request}
use Rattle.fwd_chunks.specs.declared.chunk.Chunk.{Chunk}
use Rattle.fwd_chunks.specs.Live.{
  LiveBuffer,
  live_adds,
  live_adds_all,
  live_adds_to,
  live_enters,
  live_looks,
  may_take,
}

-- one entry more was accepted
one-accepted : (b : LiveBuffer) (tag entry : List ℕ)
    → (live_adds b tag entry).accepted ≡ b.accepted + 1
unfolding live_adds
one-accepted b tag entry = by (find (may_take b tag entry) b.chunks)
  where
    by : (o : Option Chunk) → (live_adds_to b tag entry o).accepted ≡ b.accepted + 1
    by None = refl
    by (Some c) = refl

-- and none was settled
one-settled : (b : LiveBuffer) (tag entry : List ℕ) → (live_adds b tag entry).settled ≡ b.settled
unfolding live_adds
one-settled b tag entry = by (find (may_take b tag entry) b.chunks)
  where
    by : (o : Option Chunk) → (live_adds_to b tag entry o).settled ≡ b.settled
    by None = refl
    by (Some c) = refl

all-accepted : (b : LiveBuffer) (tag : List ℕ) (entries : List (List ℕ))
    → (live_adds_all b tag entries).accepted ≡ b.accepted + length entries
all-accepted b tag [] = omega arith
all-accepted b tag (entry ∷ entries) =
    let one = one-accepted b tag entry in
    let more = all-accepted (live_adds b tag entry) tag entries in
    omega (arith, one, more)

all-settled : (b : LiveBuffer) (tag : List ℕ) (entries : List (List ℕ))
    → (live_adds_all b tag entries).settled ≡ b.settled
all-settled b tag [] = refl
all-settled b tag (entry ∷ entries) =
    all-settled (live_adds b tag entry) tag entries ∙ one-settled b tag entry

-- a request's entries are accepted
pub enters-accepted : (b : LiveBuffer) (r : Request) (now : ℕ)
    → (live_enters b r now).accepted ≡ b.accepted + length r.entries
enters-accepted b r now = all-accepted (live_looks b now) r.tag r.entries

-- and nothing is settled
pub enters-settled : (b : LiveBuffer) (r : Request) (now : ℕ)
    → (live_enters b r now).settled ≡ b.settled
enters-settled b r now = all-settled (live_looks b now) r.tag r.entries
