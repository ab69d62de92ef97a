-- What a connection is told of its requests. Which requests these are, the book says.
use Rattle.std.specs.Prelude.{ℕ, List, [], map, Option, Some, None}
use Rattle.std.specs.List.{concat}
use Rattle.fwd_modes.specs.Acks.{ack_text}
use Rattle.fwd_book.specs.History.{Entered}

-- the acknowledgement that a request asked for, if it asked for one
abbrev pub ack_asked : Option (List ℕ) → List ℕ
ack_asked None = []
ack_asked (Some chunk) = ack_text chunk

-- the acknowledgement that a request asked for (Forward Protocol Specification v1, Response), if
-- it did
abbrev pub ack_of : Entered → List ℕ
ack_of q = ack_asked q.chunk

-- the acknowledgements that requests asked for, one after the other
abbrev pub acks_of : List Entered → List ℕ
acks_of qs = concat (map ack_of qs)

-- the requests' numbers at their connection
abbrev pub numbers_of : List Entered → List ℕ
numbers_of qs = map (λ q. q.origin.request) qs

-- what a connection is told: the numbers of its requests, and the acknowledgements that they
-- asked for
pub record Telling : Type 0 where
  pub numbers : List ℕ
  pub acks : List ℕ

-- what is told of requests
abbrev pub telling : List Entered → Telling
telling qs = record { numbers = numbers_of qs; acks = acks_of qs }
