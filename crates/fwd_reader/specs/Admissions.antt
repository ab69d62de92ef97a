-- Where a source's request goes: to the output that the routes name first for its tag, which keeps
-- the ticket that shows it.
use Rattle.std.specs.Prelude.{◌≡◌, ◌≢◌, ◌⊎◌, ℕ, List, [], ◌∷◌, Some, None, slice_set, cond, length}
use Rattle.std.specs.Option.{is_some}
use Rattle.std.specs.List.{slice_get}
use Rattle.fwd_match.specs.Patterns.{route}
use Rattle.fwd_modes.specs.Requests.{Request}
use Rattle.fwd_modes.specs.declared.origin.Origin.{Origin}
use Rattle.fwd_book.specs.declared.refusal.AdmitRefusal.{AdmitRefusal}
use Rattle.fwd_book.specs.declared.refusal.AdmitRefusal.TheVariants as refusal
use Rattle.fwd_peers.specs.Costs.{upkeep}
use Rattle.fwd_peers.specs.Peers.{PeerShown, Gives, GivesInVain, end_by, first_route, sized}
use Rattle.fwd_peers.specs.declared.close_reason.CloseReason.{CloseReason}
use Rattle.fwd_peers.specs.declared.close_reason.CloseReason.TheVariants as close_reason
use Rattle.fwd_peers.specs.declared.peer_state.PeerState.TheVariants as stage
use Rattle.fwd_output.specs.Tickets.{Ticket}
use Rattle.fwd_reader.specs.declared.open_tickets.OpenTickets.{OpenTickets}
use Rattle.fwd_reader.specs.OpenTickets.{AreAllSame, Keeps}
use Rattle.fwd_reader.specs.Owing.{owes_more}
use Rattle.fwd_reader.specs.Routers.{RouterShown}

-- an output keeps one ticket more, in one of its stores, which shows just this request of this
-- connection, at the output of this number
pub record KeepsTicketOf (n : ℕ) (s : OpenTickets) (asked : Origin × Request)
    (t : OpenTickets) : Type 0 where
  pub ticket : Ticket
  pub output : ticket.setting.output ≡ n
  pub origin : ticket.origin ≡ asked.0
  pub batch : ticket.batch ≡ asked.1
  pub kept : Keeps s ticket t

-- a request of a connection is entered at the output of this number, which keeps a ticket of it; no
-- other output's tickets change
pub record Enters (stores : List OpenTickets) (number : ℕ) (asked : Origin × Request)
    (after : List OpenTickets) : Type 0 where
  pub store : OpenTickets
  pub there : slice_get stores number ≡ Some store
  pub with_ticket : OpenTickets
  pub keeps : KeepsTicketOf number store asked with_ticket
  pub others : after ≡ slice_set stores number with_ticket

-- The first request that waits at a source is given, and entered at the output that the routes name
-- first for its tag: the ticket that is kept of it tells the number of just that output. What the
-- request takes beside its entries is owed there, and no other output owes more or less.
pub record Admits (o : RouterShown) (s : PeerShown) (p : RouterShown) (t : PeerShown)
    : Type 0 where
  pub asked : Origin × Request
  pub given : Gives s (Some asked) t
  pub number : ℕ
  pub named : route o.routes asked.1.tag ≡ Some number
  pub entered : Enters o.stores number asked p.stores
  pub owed : p.owed ≡ owes_more number (upkeep asked.1.tag asked.1.chunk) o.owed
  pub routes : p.routes ≡ o.routes

-- What a source is whose first request an output does not take for a reason. There is no room for
-- its acknowledgement, when out of memory: it waits still. Or it was given: it was refused, or its
-- ticket could not be kept.
abbrev pub IsTurnedAway : PeerShown → AdmitRefusal → PeerShown → Type 0
IsTurnedAway s reason t =
    ((reason ≡ refusal.Memory) × Gives s None t)
    ⊎ ((asked : Origin × Request) × (GivesInVain s asked t ⊎ Gives s (Some asked) t))

-- The output of this number did not take the first request that waits at a source, and this is why
-- the source is closed, and what it is then: it is for the output's reason; or no output stands
-- there, and it waits still.
abbrev pub IsDeclined : List OpenTickets → (number : ℕ) → PeerShown → CloseReason → PeerShown → Type 0
IsDeclined stores number s why t =
    ((reason : AdmitRefusal) × ((why ≡ close_reason.Refused number reason) × IsTurnedAway s reason t))
    ⊎ ((slice_get stores number ≡ None) × (why ≡ close_reason.NoRoute) × (t ≡ s))

-- Why the first request that waits at a source is refused, and what the source is then. The routes
-- name no output for its tag: it waits still. Or the output that they name first did not take it.
abbrev pub IsRefusedFor : (routes : List (List (List ℕ))) → List OpenTickets → PeerShown → CloseReason
    → PeerShown → Type 0
IsRefusedFor routes stores s why t =
    ((first_route routes s ≡ None) × (why ≡ close_reason.NoRoute) × (t ≡ s))
    ⊎ ((number : ℕ) × ((first_route routes s ≡ Some number) × IsDeclined stores number s why t))

-- the first request that waits at a source is refused for this reason, no output keeps a ticket of
-- it, and none owes more or less
pub record Refuses (o : RouterShown) (s : PeerShown) (why : CloseReason) (p : RouterShown)
    (t : PeerShown) : Type 0 where
  pub reason : IsRefusedFor o.routes o.stores s why t
  pub same : AreAllSame o.stores p.stores
  pub owed : p.owed ≡ o.owed

-- a source is over since a request of it was refused for this reason; a request that is larger than
-- all that its output may hold is told to be
abbrev pub IsEndedFor : CloseReason → PeerShown → PeerShown → Type 0
IsEndedFor why s t =
    (bytes : ℕ) × ((limit : ℕ) × (t ≡ record s {
      stage = stage.Over;
      why = Some (end_by (sized why bytes limit));
    }))

-- these requests of a source are admitted one after the other, each as the first that waits
abbrev pub AdmitsAll : List (Origin × Request) → RouterShown → PeerShown → RouterShown → PeerShown
    → Type 0
AdmitsAll [] o s p t = (p ≡ o) × (t ≡ s)
AdmitsAll (asked ∷ others) o s p t =
    (between : RouterShown) × ((u : PeerShown) × ((one : Admits o s between u)
    × ((one.asked ≡ asked) × AdmitsAll others between u p t)))

-- all requests that wait at a source are admitted: none is left
pub record AdmitsEach (o : RouterShown) (s : PeerShown) (p : RouterShown) (t : PeerShown)
    : Type 0 where
  pub asked : List (Origin × Request)
  pub admitted : AdmitsAll asked o s p t
  pub none : t.live.waiting ≡ []

-- some are, and the next has to wait: it is the first that waits still, and the routes name an
-- output for its tag
pub record AdmitsAndWaits (o : RouterShown) (s : PeerShown) (p : RouterShown) (t : PeerShown)
    : Type 0 where
  pub asked : List (Origin × Request)
  pub admitted : AdmitsAll asked o s p t
  pub number : ℕ
  pub named : first_route o.routes t ≡ Some number

-- some are, and the next is refused: the source is over for that reason, and nothing behind it is
-- given
pub record AdmitsAndRefuses (o : RouterShown) (s : PeerShown) (p : RouterShown) (t : PeerShown)
    : Type 0 where
  pub asked : List (Origin × Request)
  pub between : RouterShown
  pub before : PeerShown
  pub admitted : AdmitsAll asked o s between before
  pub waits : before.live.waiting ≢ []
  pub why : CloseReason
  pub refused : PeerShown
  pub refuses : Refuses between before why p refused
  pub ended : IsEndedFor why refused t

-- the entries of a request, where its sender asked for no acknowledgement of them
abbrev pub silent_entries : Request → ℕ
silent_entries r = cond (is_some r.chunk) 0 (length r.entries)
