-- Tickets: that a request was admitted to an output, and who is to learn of it. And receipts: that
-- all its entries were acknowledged.
use Rattle.std.specs.Prelude.{◌≡◌, ℕ, true, List, map, Option, Some, is_some, option_map, if◌then◌else◌}
use Rattle.fwd_modes.specs.Requests.{Request}
use Rattle.fwd_modes.specs.declared.origin.Origin.{Origin}
use Rattle.fwd_chunks.specs.declared.span.Span.{Span}
use Rattle.fwd_chunks.specs.Live.{live_refusal, live_spans}
use Rattle.fwd_book.specs.History.{BookSetting, Entered, entered_as, is_settled, request_at, untold}
use Rattle.fwd_book.specs.Live.{LiveBook}
use Rattle.fwd_book.specs.Refusals.{refusal_as}
use Rattle.fwd_book.specs.Receipts.{Receipt, IsRightFor, span_of, receipt_of, receipts}
use Rattle.fwd_output.specs.OutputEvents.{IsReachedOutput}
use Rattle.fwd_model.specs.Outputs.{OutputHistory, LiveOutput}
use Rattle.fwd_book.specs.declared.refusal.AdmitRefusal.{AdmitRefusal}
use Rattle.fwd_book.specs.declared.refusal.AdmitRefusal.TheVariants as refusal

-- a ticket: the run and the output that gave it, the connection's request, what it asked for, and
-- the runs that its entries took in chunks
pub record Ticket : Type 0 where
  pub setting : BookSetting
  pub origin : Origin
  pub batch : Request
  pub spans : List Span

-- the request, as its output entered it
abbrev pub entered : Ticket → Entered
entered t = entered_as t.batch t.origin t.spans

-- the output owes an answer to just this request
pub record IsShown (b : LiveBook) (t : Ticket) : Type 0 where
  pub here : t.setting ≡ b.setting
  pub owed : request_at b.requests t.origin ≡ Some (entered t)

-- and all its entries are acknowledged
pub record IsDue (b : LiveBook) (t : Ticket) : Type 0 where
  pub shown : IsShown b t
  pub settled : is_settled b.settled (entered t) ≡ true

-- a receipt is right for a ticket: for its request, at its output
abbrev pub IsRight : Receipt → Ticket → Type 0
IsRight r t = IsRightFor t.setting (entered t) r

-- the receipt of a ticket that is due
abbrev pub receipt_for : LiveBook → Ticket → Receipt
receipt_for b t = receipt_of b.settled (entered t)

-- the ticket that a receipt is for, at an output
abbrev pub ticket_of : BookSetting → Receipt → Ticket
ticket_of setting r = record {
  setting = setting;
  origin = r.origin;
  batch = record { tag = r.tag; entries = r.entries; chunk = r.chunk };
  spans = map span_of r.parts;
}

-- Some run of an output's own events reaches a history, of the output that this setting names, at
-- whose end its book gives just these receipts: those of the requests of some origins that are owed
-- an answer there and whose entries are all acknowledged.
pub record AreGiven (setting : BookSetting) (given : List Receipt) : Type 0 where
  pub history : OutputHistory
  pub reached : IsReachedOutput history
  pub own : history.book.setting ≡ setting
  pub origins : List Origin
  pub is : given ≡ receipts history.book.settled (untold history.book) origins

-- ---- admission

-- why an output does not admit a request at a moment, if it does not: the request of this origin is
-- owed an answer still; there is no room for the bytes; the numbers are spent
abbrev pub refusal_at : LiveOutput → Origin → Request → ℕ → Option AdmitRefusal
refusal_at o origin r now =
    if is_some (request_at o.book.requests origin) then Some refusal.NotNow
    else option_map refusal_as (live_refusal o.buffer r now)

-- the ticket of a request that is admitted
abbrev pub ticket_for : LiveOutput → Origin → Request → ℕ → Ticket
ticket_for o origin r now = record {
  setting = o.book.setting;
  origin = origin;
  batch = r;
  spans = live_spans o.buffer r now;
}
