-- The two stores of an output's tickets, and what becomes of both.
use Rattle.std.specs.Prelude.{◌≡◌, ◌⊎◌, ⊤, ℕ, zero, suc, Bool, true, false, List, [], ◌∷◌}
use Rattle.fwd_output.specs.Tickets.{Ticket}
use Rattle.fwd_reader.specs.Stores.{IsKept, IsQuiet, IsSame, IsSettled}
use Rattle.fwd_reader.specs.declared.open_tickets.OpenTickets.{OpenTickets}

-- one of the stores keeps one ticket more, and the other is as it was
abbrev pub Keeps : OpenTickets → Ticket → OpenTickets → Type 0
Keeps s ticket t =
    (IsKept s.few ticket t.few × (t.many ≡ s.many))
    ⊎ (IsKept s.many ticket t.many × (t.few ≡ s.few))

-- both are as they were
abbrev pub AreSame : OpenTickets → OpenTickets → Type 0
AreSame s t = IsSame s.few t.few × IsSame s.many t.many

-- the tickets of each output are as they were
abbrev pub AreAllSame : List OpenTickets → List OpenTickets → Type 0
AreAllSame [] [] = ⊤
AreAllSame [] (t ∷ ts) = ⊥
AreAllSame (s ∷ ss) [] = ⊥
AreAllSame (s ∷ ss) (t ∷ ts) = AreSame s t × AreAllSame ss ts

-- all tickets of both are to be handed in
abbrev pub AreAllDue : OpenTickets → OpenTickets → Type 0
AreAllDue s t =
    (t.few ≡ record s.few { late_due = true; all_due = true })
    × (t.many ≡ record s.many { late_due = true; all_due = true })

-- the stores, where all their tickets are to be handed in
abbrev pub all_due : OpenTickets → OpenTickets
all_due s = record {
  few = record s.few { late_due = true; all_due = true };
  many = record s.many { late_due = true; all_due = true };
}

-- those of the output at a place are
abbrev pub due_at : (place : ℕ) → List OpenTickets → List OpenTickets
due_at place [] = []
due_at zero (s ∷ ss) = all_due s ∷ ss
due_at (suc place) (s ∷ ss) = s ∷ due_at place ss

-- a chunk is settled, for both
abbrev pub AreSettled : OpenTickets → (chunk : ℕ) → OpenTickets → Type 0
AreSettled s chunk t = IsSettled s.few chunk t.few × IsSettled s.many chunk t.many

-- nothing of either is to be handed in
abbrev pub AreQuiet : OpenTickets → Type 0
AreQuiet s = IsQuiet s.few × IsQuiet s.many

-- it is told whether something of them is to be handed in
abbrev pub TellsDue : Bool → OpenTickets → Type 0
TellsDue true s = ¬ (AreQuiet s)
TellsDue false s = AreQuiet s
