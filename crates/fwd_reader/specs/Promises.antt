-- What is promised of each receipt that a source is told of: it is right for its request, at the
-- output that the routes name first for the request's tag, and by the run's history the request was
-- delivered to that output's next hop.
use Rattle.std.specs.Prelude.{◌≡◌, ℕ, true, List, Some, All, is_some}
use Rattle.fwd_match.specs.Patterns.{route}
use Rattle.fwd_book.specs.History.{BookSetting}
use Rattle.fwd_book.specs.Receipts.{Receipt}
use Rattle.fwd_run.specs.Runs.{RunEvent}
use Rattle.fwd_output.specs.PagedSources.{WasDelivered}
use Rattle.fwd_output.specs.Tickets.{Ticket, IsRight, ticket_of}
use Rattle.fwd_reader.specs.Stores.{Held, held_in}
use Rattle.fwd_reader.specs.declared.open_tickets.OpenTickets.{OpenTickets}
use Rattle.fwd_reader.specs.Tellings.{Sources, AreTold}

-- a ticket tells the number of the output that the routes name first for its tag
abbrev pub IsRouted : List (List (List ℕ)) → Ticket → Type 0
IsRouted routes ticket = route routes ticket.batch.tag ≡ Some ticket.setting.output

-- so does each ticket that a store holds
pub record AreRouted (routes : List (List (List ℕ))) (s : Held) : Type 0 where
  pub waits : (chunk : ℕ) → All (IsRouted routes) (s.waits chunk)
  pub due : All (IsRouted routes) s.due
  pub late : All (IsRouted routes) s.late

-- so does each that an output gave, in both stores
pub record HoldsRouted (routes : List (List (List ℕ))) (s : OpenTickets) : Type 0 where
  pub few : AreRouted routes (held_in s.few)
  pub many : AreRouted routes (held_in s.many)

-- where the source of a receipt stands, the request was delivered to the next hop of the output of a
-- number, by the history of the run
abbrev pub IsDeliveredTo : List RunEvent → (output : ℕ) → Sources → Receipt → Type 0
IsDeliveredTo past output s r = is_some (s r.origin.conn) ≡ true → WasDelivered past output r

-- What is promised of a receipt: it is right for its request, at an output, and the routes name that
-- output first for its tag. And where its source stands, which is told of it, the request was
-- delivered to that output's next hop, in the run's one history.
pub record IsPromised (routes : List (List (List ℕ))) (past : List RunEvent) (stands : Sources)
    (r : Receipt) : Type 0 where
  pub setting : BookSetting
  pub routed : route routes r.tag ≡ Some setting.output
  pub right : IsRight r (ticket_of setting r)
  pub delivered : IsDeliveredTo past setting.output stands r

-- sources are told of receipts alone of which this is promised, in the history that was reached
pub record TellsPromised (routes : List (List (List ℕ))) (past : List RunEvent) (s t : Sources)
    : Type 0 where
  pub receipts : List Receipt
  pub told : AreTold s receipts t
  pub promised : All (IsPromised routes past s) receipts
