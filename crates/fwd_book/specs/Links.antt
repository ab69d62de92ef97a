-- How the code finds a connection's requests: each request in a slot is linked to the earlier and
-- to the later one of its own connection, and a connection's first and last are known.
use Rattle.std.specs.Prelude.{◌≡◌, ◌==◌, ◌≤◌, ℕ, Bool, true, false, not, List, [], ◌∷◌, ◌++◌, length, max, Option, None, Some, IsSome, IfSome, map, filter, option_map, option_to_list, slice_get, if◌then◌else◌}
use Rattle.std.specs.List.{list_any, AllByRecursion}
use Rattle.std.specs.Map.{lookup}
use Rattle.slab.specs.Slab.{Slab, get, slab_len}
use Rattle.fwd_modes.specs.declared.origin.Origin.{Origin}
use Rattle.fwd_book.specs.declared.connection_index.RequestLinks.{RequestLinks}
use Rattle.fwd_book.specs.declared.connection_index.Ends.{Ends}
use Rattle.fwd_book.specs.declared.connection_index.LinkedRequest.{LinkedRequest}
use Rattle.fwd_book.specs.History.{Entered, is_of, is_origin}
use Rattle.fwd_book.specs.Slots.{held_at, order_by}

-- the link of a request that is kept, if it is the connection's
abbrev pub link_of : ℕ → Option LinkedRequest → Option RequestLinks
link_of conn None = None
link_of conn (Some k) = if is_of conn k.request then Some k.link else None

-- the link of the request in a slot, if it is the connection's
abbrev pub link_at : Slab LinkedRequest → ℕ → ℕ → Option RequestLinks
link_at kept conn slot = link_of conn (get kept slot)

-- the first and the last request of a connection, if it has any
abbrev pub ends_at : List (ℕ × Ends) → ℕ → Option Ends
ends_at ends conn = lookup (λ c. conn == c) ends

-- there is such a slot, and it is this one
abbrev pub is_the : Option ℕ → ℕ → Bool
is_the None slot = false
is_the (Some own) slot = own == slot

-- the last of these slots, or the one before them
abbrev pub last_of : Option ℕ → List ℕ → Option ℕ
last_of earlier [] = earlier
last_of earlier (r ∷ rs) = last_of (Some r) rs

-- the link of a slot among these, which come behind another one or none
abbrev pub link_in : Option ℕ → List ℕ → ℕ → Option RequestLinks
link_in earlier [] slot = None
link_in earlier (r ∷ rs) slot =
    if r == slot then Some (record { earlier = earlier; later = slice_get rs 0 })
    else link_in (Some r) rs slot

-- the link leads to another later request
abbrev pub with_later : Option ℕ → RequestLinks → RequestLinks
with_later later link = record { earlier = link.earlier; later = later }

-- the link leads to another earlier request
abbrev pub with_earlier : Option ℕ → RequestLinks → RequestLinks
with_earlier earlier link = record { earlier = earlier; later = link.later }

-- another request is the later one
abbrev pub leads_to : Option ℕ → LinkedRequest → LinkedRequest
leads_to later k = record { request = k.request; link = with_later later k.link }

-- another request is the earlier one
abbrev pub follows_on : Option ℕ → LinkedRequest → LinkedRequest
follows_on earlier k = record { request = k.request; link = with_earlier earlier k.link }

-- the ends with a request of this number behind the others, if there are any, in this slot
abbrev pub with_last : ℕ → ℕ → Option Ends → Ends
with_last number slot None = record { first = slot; last = slot; greatest = number }
with_last number slot (Some e) =
    record { first = e.first; last = slot; greatest = max e.greatest number }

-- the origin of the request in a slot, by what the slots hold, if it passes the test
abbrev pub passing_at : (Entered → Bool) → (ℕ → Option Entered) → ℕ → List Origin
passing_at test held slot = map (λ q. q.origin) (filter test (option_to_list (held slot)))

-- each of these slots stands once
abbrev pub AreOnce : List ℕ → Type 0
AreOnce [] = Unit {0}
AreOnce (r ∷ rs) = (list_any (λ s. r == s) rs ≡ false) × AreOnce rs

-- each connection's slots with one more, which is its last
abbrev pub order_with : ℕ → ℕ → (ℕ → List ℕ) → ℕ → List ℕ
order_with conn slot order c = if conn == c then order c ++ slot ∷ [] else order c

-- each connection's slots without one
abbrev pub order_without : ℕ → (ℕ → List ℕ) → ℕ → List ℕ
order_without slot order c = filter (λ r. not (slot == r)) (order c)

-- These links and ends show each connection's slots in this order: a request is linked to the one
-- before it and to the one behind it, the ends are the first and the last, and each stands once.
pub record AreChained
    (links : ℕ → ℕ → Option RequestLinks) (ends : List (ℕ × Ends)) (order : ℕ → List ℕ)
    : Type 0 where
  pub linked : (conn slot : ℕ) → links conn slot ≡ link_in None (order conn) slot
  pub first : (conn : ℕ) → option_map (λ e. e.first) (ends_at ends conn) ≡ slice_get (order conn) 0
  pub last : (conn : ℕ) → option_map (λ e. e.last) (ends_at ends conn) ≡ last_of None (order conn)
  pub once : (conn : ℕ) → AreOnce (order conn)

-- no request's number is above the greatest that its connection's ends tell
abbrev pub AreWithin : (ℕ → Option Entered) → List (ℕ × Ends) → Type 0
AreWithin held ends = (slot : ℕ) (q : Entered) → held slot ≡ Some q
    → IfSome (ends_at ends q.origin.conn) (λ e. q.origin.request ≤ e.greatest)

-- no two slots hold a request of one origin
abbrev pub AreUnlike : (ℕ → Option Entered) → Type 0
AreUnlike held = (k m : ℕ) (q r : Entered) → held k ≡ Some q → held m ≡ Some r
    → is_origin q.origin r.origin ≡ true → k ≡ m

-- These are the slots of what is kept, in some order: each holds a request and stands once, no
-- other does, no two requests have one origin, and each connection's are chained in this order.
pub record AreKept (kept : Slab LinkedRequest) (ends : List (ℕ × Ends)) (order : List ℕ)
    : Type 0 where
  pub chained : AreChained (link_at kept) ends (order_by (held_at kept) order)
  pub within : AreWithin (held_at kept) ends
  pub unlike : AreUnlike (held_at kept)
  pub held : AllByRecursion (λ k. IsSome (held_at kept k)) order
  pub once : AreOnce order
  pub count : slab_len kept ≡ length order
