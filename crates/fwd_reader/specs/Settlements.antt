-- What a reader makes of what workers told: of which settled chunks the tickets are to be handed
-- in.
use Rattle.std.specs.Prelude.{◌≡◌, ℕ, List, [], ◌∷◌, Option, Some, None, map, slice_set, if◌then◌else◌}
use Rattle.std.specs.List.{slice_get}
use Rattle.fwd_environment.specs.declared.link.WorkerEvent.{WorkerEvent}
use Rattle.fwd_environment.specs.declared.link.WorkerEvent.TheVariants as event
use Rattle.fwd_links.specs.declared.mailbox.Notices.{Notices}
use Rattle.fwd_links.specs.declared.mailbox.WorkerNotice.{WorkerNotice}
use Rattle.fwd_reader.specs.declared.open_tickets.OpenTickets.{OpenTickets}
use Rattle.fwd_reader.specs.OpenTickets.{AreSettled, all_due}

-- a chunk is settled for the tickets that stand at a place, if some do
abbrev pub SettlesIn : Option OpenTickets → List OpenTickets → (place chunk : ℕ)
    → List OpenTickets → Type 0
SettlesIn None stores place chunk after = after ≡ stores
SettlesIn (Some store) stores place chunk after =
    (settled : OpenTickets) × (AreSettled store chunk settled
    × (after ≡ slice_set stores place settled))

-- a chunk of the output at a place is settled: for both stores of its tickets, and no other
-- output's tickets change
abbrev pub SettlesAt : List OpenTickets → (place chunk : ℕ) → List OpenTickets → Type 0
SettlesAt stores place chunk after = SettlesIn (slice_get stores place) stores place chunk after

-- a worker of an output told something: what it says to be settled is
abbrev pub HearsOf : (output : ℕ) → WorkerEvent → List OpenTickets → List OpenTickets → Type 0
HearsOf output (event.Settled number server) stores after = SettlesAt stores output number after
HearsOf output (event.Lost server why chunks) stores after = after ≡ stores
HearsOf output (event.Went server) stores after = after ≡ stores

-- workers told so much, one after the other
abbrev pub HearsAll : List WorkerNotice → List OpenTickets → List OpenTickets → Type 0
HearsAll [] stores after = after ≡ stores
HearsAll (notice ∷ notices) stores after =
    (between : List OpenTickets) × (HearsOf notice.output notice.event stores between
    × HearsAll notices between after)

-- Workers told so much. Where some of it was missed, all tickets are to be handed in first.
abbrev pub Hears : Notices → List OpenTickets → List OpenTickets → Type 0
Hears notices stores after =
    HearsAll notices.all.items (if notices.missed then map all_due stores else stores) after
