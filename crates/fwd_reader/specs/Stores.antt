-- What a store of tickets holds: who waits for which chunk, and who is due.
use Rattle.std.specs.Prelude.{
  ◌≡◌,
  ◌≢◌,
  ◌⊎◌,
  ℕ,
  Bool,
  true,
  false,
  List,
  [],
  ◌∷◌,
  ◌++◌,
  ◌-◌,
  ◌<◌,
  length,
  Option,
  Some,
  None,
  if◌then◌else◌,
}
use Rattle.std.specs.List.{slice_get}
use Rattle.std.specs.Option.{option_map}
use Rattle.std.specs.Ordering.{is_eq, nat_cmp}
use Rattle.std.specs.Map.{lookup}
use Rattle.std.specs.BTreeMap.{is_at}
use Rattle.fwd_chunks.specs.declared.span.Span.{Span}
use Rattle.fwd_output.specs.Tickets.{Ticket}

-- what a store holds: lists of tickets, each with the number of the chunk that they wait for; those
-- that are to be handed in, in their order; those that were handed in and came back; whether a
-- chunk was settled since; whether all are to be handed in; and how many blocks of tickets may come
-- back before that takes memory
pub record Stored : Type 0 where
  pub lists : List (ℕ × List Ticket)
  pub due : List Ticket
  pub late : List Ticket
  pub late_due : Bool
  pub all_due : Bool
  pub room : ℕ

-- which tickets it holds: who waits for a chunk, by its number; who is due; and who came back
pub record Held : Type 0 where
  pub waits : ℕ → List Ticket
  pub due : List Ticket
  pub late : List Ticket

-- the tickets of a list, if there is one
abbrev pub tickets_of : Option (List Ticket) → List Ticket
tickets_of None = []
tickets_of (Some list) = list

-- who waits for a chunk, by these lists: the tickets of its list
abbrev pub waiting_in : List (ℕ × List Ticket) → (chunk : ℕ) → List Ticket
waiting_in lists chunk = tickets_of (lookup (is_at (nat_cmp chunk)) lists)

-- which tickets a store holds
abbrev pub held_in : Stored → Held
held_in s = record { waits = waiting_in s.lists; due = s.due; late = s.late }

-- the chunk of the last of these runs, if there is one
abbrev pub last_chunk : List Span → Option ℕ
last_chunk spans = option_map (λ span. span.number) (slice_get spans (length spans - 1))

-- the same tickets are held
pub record AreHeld (s : Held) (t : Held) : Type 0 where
  pub waits : (chunk : ℕ) → t.waits chunk ≡ s.waits chunk
  pub due : t.due ≡ s.due
  pub late : t.late ≡ s.late

-- two stores are the same
pub record IsSame (s : Stored) (t : Stored) : Type 0 where
  pub held : AreHeld (held_in s) (held_in t)
  pub late_due : t.late_due ≡ s.late_due
  pub all_due : t.all_due ≡ s.all_due

-- a store that holds none, and of which nothing is to be handed in
abbrev pub none_kept : Stored
none_kept = record {
  lists = [];
  due = [];
  late = [];
  late_due = false;
  all_due = false;
  room = 0;
}

-- what waits, but that these tickets wait for this chunk
abbrev pub waits_with : (ℕ → List Ticket) → (chunk : ℕ) → List Ticket → ℕ → List Ticket
waits_with waits chunk tickets other =
    if is_eq (nat_cmp chunk other) then tickets else waits other

-- a ticket more waits for this chunk, behind all that do; or it is due, behind all that are
abbrev pub with_ticket : Held → Ticket → Option ℕ → Held
with_ticket s ticket None = record s { due = s.due ++ ticket ∷ [] }
with_ticket s ticket (Some chunk) = record s {
  waits = waits_with s.waits chunk (s.waits chunk ++ ticket ∷ []);
}

-- a ticket is kept: it waits for the last chunk of its request, or is due where that has none
pub record IsKept (s : Stored) (ticket : Ticket) (t : Stored) : Type 0 where
  pub held : AreHeld (with_ticket (held_in s) ticket (last_chunk ticket.spans)) (held_in t)
  pub late_due : t.late_due ≡ s.late_due
  pub all_due : t.all_due ≡ s.all_due

-- nothing is to be handed in: none is due, and none came back before a chunk was settled
pub record IsQuiet (s : Stored) : Type 0 where
  pub due : s.due ≡ []
  pub late : s.late_due ≡ true → s.late ≡ []
  pub not_all : s.all_due ≡ false

-- who waits for a chunk is due, behind all that are, and waits no more
abbrev pub with_due : Held → (chunk : ℕ) → Held
with_due s chunk = record s {
  waits = waits_with s.waits chunk [];
  due = s.due ++ s.waits chunk;
}

-- A chunk is settled. Who waits for it is due, and whether all are to be handed in stays. Or some
-- wait and memory was refused for that, and all are to be handed in. Those that came back are to be
-- handed in again.
pub record IsSettled (s : Stored) (chunk : ℕ) (t : Stored) : Type 0 where
  pub moved : (AreHeld (with_due (held_in s) chunk) (held_in t) × (t.all_due ≡ s.all_due))
      ⊎ (AreHeld (held_in s) (held_in t) × (t.all_due ≡ true) × (waiting_in s.lists chunk ≢ []))
  pub all_stay : s.all_due ≡ true → t.all_due ≡ true
  pub again : s.late ≢ [] → t.late_due ≡ true

-- Where none is due and all are to be handed in, those that wait for some chunk are due, and wait
-- no more. Where none waits, not all are to be handed in any more.
abbrev pub FindsLeast : Stored → Stored → Type 0
FindsLeast s t =
    ((t.all_due ≡ true) × (length t.lists < length s.lists)
    × ((chunk : ℕ) × AreHeld (with_due (held_in s) chunk) (held_in t)))
    ⊎ ((t.all_due ≡ false) × ((chunk : ℕ) → waiting_in s.lists chunk ≡ [])
    × AreHeld (held_in s) (held_in t))

-- nothing is looked for: some are due, or nothing else is to be handed in
abbrev pub LooksForNone : Stored → Stored → Type 0
LooksForNone s t =
    IsSame s t × (s.due ≡ [] → (s.late_due ≡ false) × (s.all_due ≡ false))

-- those that came back are due, where none is, and a chunk was settled since
abbrev pub LooksBack : Stored → Stored → Type 0
LooksBack s t =
    (s.due ≡ []) × (s.late_due ≡ true)
    × AreHeld (record (held_in s) { due = s.late; late = [] }) (held_in t)
    × (t.late_due ≡ false) × (t.all_due ≡ s.all_due)

-- all are to be handed in, and none is due, nor to be handed in again
abbrev pub LooksForAll : Stored → Stored → Type 0
LooksForAll s t =
    (s.due ≡ []) × (s.late_due ≡ false) × (s.all_due ≡ true) × FindsLeast s t
    × (t.late_due ≡ false)

-- Where none is due, tickets to be handed in are looked for: those that came back, if a chunk was
-- settled since, and else, where all are to be handed in, those that wait for some chunk.
abbrev pub Looks : Stored → Stored → Type 0
Looks s t = LooksForNone s t ⊎ (LooksBack s t ⊎ LooksForAll s t)

-- The first of the tickets that are due are handed over: none only where none is due then.
pub record HandsOver (s : Stored) (taken : List Ticket) (t : Stored) : Type 0 where
  pub found : Stored
  pub looks : Looks s found
  pub first : found.due ≡ taken ++ t.due
  pub rest : AreHeld (record (held_in found) { due = t.due }) (held_in t)
  pub late_due : t.late_due ≡ found.late_due
  pub all_due : t.all_due ≡ found.all_due
  pub some : taken ≡ [] → t.due ≡ []
