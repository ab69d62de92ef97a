-- The requests of a book as its code keeps them: each in a slot.
use Rattle.std.specs.Prelude.{ℕ, ◌&&◌, ◌==◌, Bool, false, List, [], ◌∷◌, Option, None, Some, option_to_list, if◌then◌else◌}
use Rattle.std.specs.List.{flat_map}
use Rattle.slab.specs.Slab.{Slab, get}
use Rattle.fwd_modes.specs.declared.origin.Origin.{Origin}
use Rattle.fwd_book.specs.declared.connection_index.LinkedRequest.{LinkedRequest}
use Rattle.fwd_book.specs.History.{Entered, is_of, is_origin}

-- the numbers of an origin
abbrev pub key_of : Origin → ℕ × ℕ
key_of origin = (origin.conn, origin.request)

-- the keys are one
abbrev pub is_key : ℕ × ℕ → ℕ × ℕ → Bool
is_key a b = (a.0 == b.0) && (a.1 == b.1)

-- the request that is kept, if there is one
abbrev pub request_of : Option LinkedRequest → Option Entered
request_of None = None
request_of (Some k) = Some k.request

-- the request in a slot, if there is one
abbrev pub held_at : Slab LinkedRequest → ℕ → Option Entered
held_at kept slot = request_of (get kept slot)

-- there is a request, and it is the origin's
abbrev pub has_origin : Origin → Option Entered → Bool
has_origin origin None = false
has_origin origin (Some q) = is_origin origin q.origin

-- the requests in these slots, by what the slots hold
abbrev pub present : (ℕ → Option Entered) → List ℕ → List Entered
present held slots = flat_map (λ k. option_to_list (held k)) slots

-- a slot, if it has a request of the connection
abbrev pub own_slot : ℕ → ℕ → Option Entered → List ℕ
own_slot conn slot None = []
own_slot conn slot (Some q) = if is_of conn q then slot ∷ [] else []

-- the slots among these that have a request of the connection
abbrev pub order_by : (ℕ → Option Entered) → List ℕ → ℕ → List ℕ
order_by held slots conn = flat_map (λ k. own_slot conn k (held k)) slots

-- requests, and how many more have room
pub record Held : Type 0 where
  pub items : List Entered
  pub room : ℕ
