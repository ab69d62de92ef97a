-- What a book's code keeps of the numbers that its requests have.
use Rattle.std.specs.Prelude.{
  ◌≡◌,
  ◌<◌,
  ◌≤◌,
  ℕ,
  ◌+◌,
  ◌-◌,
  ◌==◌,
  Bool,
  true,
  List,
  length,
  filter,
  Option,
  Some,
  None,
  is_some,
  nat_lt,
  if◌then◌else◌,
}
use Rattle.std.specs.List.{list_all}
use Rattle.std.specs.Map.{lookup}
use Rattle.fwd_modes.specs.Requests.{Request}
use Rattle.fwd_session.specs.ServerAcks.{ServerAck}
use Rattle.fwd_book.specs.History.{BookSetting, Entered, has_run}
use Rattle.fwd_book.specs.Live.{LiveBook, found_for}

-- how many requests have a number, and what was acknowledged under it, if anything was
pub record ChunkRef : Type 0 where
  pub uses : ℕ
  pub found : Option ServerAck

-- notes by number, and how many more have room
pub record ChunkRefsShown : Type 0 where
  pub notes : List (ℕ × ChunkRef)
  pub room : ℕ

-- the note of a number
abbrev pub note_at : ℕ → List (ℕ × ChunkRef) → Option ChunkRef
note_at number notes = lookup (λ n. number == n) notes

-- how many requests have a number, as is noted
abbrev pub uses_in : Option ChunkRef → ℕ
uses_in None = 0
uses_in (Some note) = note.uses

-- what was acknowledged, as is noted
abbrev pub found_in : Option ChunkRef → Option ServerAck
found_in None = None
found_in (Some note) = note.found

-- what was acknowledged under a number, as is noted
abbrev pub found_at : List (ℕ × ChunkRef) → ℕ → Option ServerAck
found_at notes number = found_in (note_at number notes)

-- something is noted as acknowledged under the number of each of the request's runs
abbrev pub are_found : List (ℕ × ChunkRef) → Entered → Bool
are_found notes q = list_all (λ s. is_some (found_at notes s.number)) q.spans

-- all requests are asked for, or those alone for which all is noted
abbrev pub is_asked : Option ChunkRefsShown → Entered → Bool
is_asked None q = true
is_asked (Some refs) q = are_found refs.notes q

-- one request more has the number
abbrev pub used_more : Option ChunkRef → ChunkRef
used_more None = record { uses = 1; found = None }
used_more (Some note) = record note { uses = note.uses + 1 }

-- one request less has it: the note of the last one leaves
abbrev pub used_less : Option ChunkRef → Option ChunkRef
used_less None = None
used_less (Some note) =
    if nat_lt note.uses 2 then None else Some (record note { uses = note.uses - 1 })

-- a chunk was acknowledged: what was so first stays
abbrev pub put_in : ServerAck → Option ChunkRef → Option ChunkRef
put_in e None = None
put_in e (Some note) =
    Some (record note { found = if is_some note.found then note.found else Some e })

-- how many of these requests have the number
abbrev pub uses_of : ℕ → List Entered → ℕ
uses_of number qs = length (filter (has_run number) qs)

-- The notes are of these requests: each number has a note that counts those that have it, and none
-- where none has; and what was acknowledged stands under its own number.
pub record AreOf (notes : List (ℕ × ChunkRef)) (qs : List Entered) : Type 0 where
  pub uses : (n : ℕ) → uses_in (note_at n notes) ≡ uses_of n qs
  pub used : (n : ℕ) (note : ChunkRef) → note_at n notes ≡ Some note → 0 < note.uses
  pub numbers : (n : ℕ) (e : ServerAck) → found_at notes n ≡ Some e → e.number ≡ n

-- what a book shows of its requests and its notes
abbrev pub live_of : BookSetting → List Entered → List (ℕ × ChunkRef) → LiveBook
live_of setting qs notes = record {
  setting = setting;
  requests = qs;
  settled = found_for (found_at notes) qs;
}

-- there is room for the request that was made ready, if one was: a place, and a number for each
-- entry
abbrev pub HasRoom : Option Request → (places numbers : ℕ) → Type 0
HasRoom None places numbers = Unit {0}
HasRoom (Some r) places numbers = (0 < places) × (length r.entries ≤ numbers)
