-- What is told: receipts of the tickets that are due, each of them, and each right for its ticket.
use Rattle.std.specs.Prelude.{◌≡◌, ◌⊎◌, ◌≤◌, ℕ, true, List, [], ◌∷◌, ◌++◌, length, map, All}
use Rattle.std.specs.List.Sorted.{IsPermutation}
use Rattle.fwd_book.specs.History.{BookSetting}
use Rattle.fwd_book.specs.Receipts.{Receipt}
use Rattle.fwd_output.specs.Paged.{AreGivenAfter}
use Rattle.fwd_run.specs.Runs.{RunEvent}
use Rattle.fwd_output.specs.Tickets.{Ticket, IsRight, ticket_of}
use Rattle.fwd_reader.specs.Stores.{Stored, HandsOver, IsQuiet, Looks}
use Rattle.fwd_reader.specs.declared.open_tickets.OpenTickets.{OpenTickets}
use Rattle.fwd_reader.specs.OpenTickets.{AreQuiet}
use Rattle.fwd_reader.specs.Tellings.{Sources, AreTold}

-- tickets come back: they are kept until a chunk is settled
abbrev pub ComeBack : Stored → List Ticket → Stored → Type 0
ComeBack s tickets t = t ≡ record s { late = s.late ++ tickets; room = t.room }

-- Tickets that a store handed over are handed in: for each there is a receipt, which is right for
-- it, or it comes back.
pub record IsHandedIn (s : Stored) (receipts : List Receipt) (t : Stored) : Type 0 where
  pub taken : List Ticket
  pub between : Stored
  pub handed : HandsOver s taken between
  pub setting : BookSetting
  pub back : List Ticket
  pub each : IsPermutation taken (map (ticket_of setting) receipts ++ back)
  pub right : All (λ r. IsRight r (ticket_of setting r)) receipts
  pub rest : ComeBack between back t

-- Tickets that a store handed over are handed in at an output, and after a history it gives just
-- the receipts that there are for them.
pub record AreGivenFor (past : List RunEvent) (s : Stored) (receipts : List Receipt)
    : Type 0 where
  pub taken : List Ticket
  pub between : Stored
  pub handed : HandsOver s taken between
  pub setting : BookSetting
  pub back : List Ticket
  pub each : IsPermutation taken (map (ticket_of setting) receipts ++ back)
  pub given : AreGivenAfter past setting receipts

-- Memory was refused. Nothing was handed over; or the tickets that were came back, all of them, and
-- are to be handed in again.
abbrev pub IsRefused : Stored → Stored → Type 0
IsRefused s t =
    Looks s t ⊎ ((taken : List Ticket) × ((between : Stored) × (HandsOver s taken between
    × (t ≡ record between { late = between.late ++ taken; late_due = true; room = t.room }))))

-- tickets of one of the stores are handed in, and the other is as it was: those of sources with
-- many unanswered requests only where none of the others is to be handed in
abbrev pub AreHandedIn : OpenTickets → List Receipt → OpenTickets → Type 0
AreHandedIn s receipts t =
    (IsHandedIn s.few receipts t.few × (t.many ≡ s.many) × ¬ (IsQuiet s.few))
    ⊎ (IsHandedIn s.many receipts t.many × (t.few ≡ s.few) × IsQuiet s.few)

-- after a history an output gives the receipts for tickets of one of the stores
abbrev pub AreGiven : List RunEvent → OpenTickets → List Receipt → Type 0
AreGiven past s receipts = AreGivenFor past s.few receipts ⊎ AreGivenFor past s.many receipts

-- memory was refused for tickets of one of the stores, and the other is as it was
abbrev pub AreRefused : OpenTickets → OpenTickets → Type 0
AreRefused s t =
    (IsRefused s.few t.few × (t.many ≡ s.many)) ⊎ (IsRefused s.many t.many × (t.few ≡ s.few))

-- what an output's route collects in so many rounds: in each some are to be handed in, tickets are
-- handed in, and each receipt that there is for them is told
abbrev pub CollectsBy : List (List Receipt) → OpenTickets → Sources → OpenTickets → Sources → Type 0
CollectsBy [] s told t told_then = (t ≡ s) × (told_then ≡ told)
CollectsBy (receipts ∷ rounds) s told t told_then =
    (between : OpenTickets) × ((told_between : Sources) × (AreHandedIn s receipts between
    × AreTold told receipts told_between × CollectsBy rounds between told_between t told_then
    × ¬ (AreQuiet s)))

-- what it collects in some rounds
abbrev pub Collects : OpenTickets → Sources → OpenTickets → Sources → Type 0
Collects s told t told_then =
    (rounds : List (List Receipt)) × CollectsBy rounds s told t told_then

-- what it collects in so many rounds at most: there are that many, or nothing is to be handed in
-- behind them
pub record CollectsWhole (most : ℕ) (s : OpenTickets) (told : Sources) (t : OpenTickets)
    (told_then : Sources) : Type 0 where
  pub rounds : List (List Receipt)
  pub each : CollectsBy rounds s told t told_then
  pub within : length rounds ≤ most
  pub whole : AreQuiet t ⊎ (length rounds ≡ most)

-- what it collects in some rounds before memory is refused
abbrev pub CollectsInPart : OpenTickets → Sources → OpenTickets → Sources → Type 0
CollectsInPart s told t told_then =
    (between : OpenTickets) × (Collects s told between told_then × AreRefused between t)
