-- Lists of the tickets that wait for chunks: those of one chunk by themselves, and the others.
use Rattle.std.specs.Prelude.{◌≡◌, ◌==◌, ℕ, Bool, false, List, ◌∷◌, Option, Some, None, if◌then◌else◌}
use Rattle.std.specs.Ordering.{is_eq, nat_cmp}
use Rattle.std.specs.Map.{lookup}
use Rattle.std.specs.BTreeMap.{is_at}
use Rattle.fwd_output.specs.Tickets.{Ticket}
use Rattle.fwd_reader.specs.declared.ticket_store.waiting.ChunkTickets.{ChunkTickets}

-- the tickets that wait for a chunk, if there is a list of them
abbrev pub list_at : List (ℕ × List Ticket) → (chunk : ℕ) → Option (List Ticket)
list_at lists chunk = lookup (is_at (nat_cmp chunk)) lists

-- the lists of chunks, but that this chunk has this one
abbrev pub list_with : (ℕ → Option (List Ticket)) → (chunk : ℕ) → Option (List Ticket) → ℕ
    → Option (List Ticket)
list_with lists chunk list other =
    if is_eq (nat_cmp chunk other) then list else lists other

-- the list of one chunk, if there is one, and the others
abbrev pub lists_with : Option ChunkTickets → List (ℕ × List Ticket) → List (ℕ × List Ticket)
lists_with None others = others
lists_with (Some one) others = (one.chunk, one.tickets) ∷ others

-- the others have no list of that chunk
abbrev pub IsApart : Option ChunkTickets → List (ℕ × List Ticket) → Type 0
IsApart None others = Unit {0}
IsApart (Some one) others = list_at others one.chunk ≡ None

-- there is one, and it is this chunk's
abbrev pub is_of : Option ChunkTickets → (chunk : ℕ) → Bool
is_of None chunk = false
is_of (Some one) chunk = one.chunk == chunk
