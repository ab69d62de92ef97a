-- How the code keeps chunks: each in a slot, which is empty once the chunk left, with keys by which
-- the first that is free and the first that is due are found.
use Rattle.std.specs.Prelude.{◌≡◌, ◌<◌, ◌≤◌, ℕ, zero, suc, ◌-◌, ◌^◌, ◌==◌, ◌++◌, ◌&&◌, nat_le, Bool, List, [], ◌∷◌, length, replicate, slice_set, Option, Some, None, is_some, option_to_list, if◌then◌else◌}
use Rattle.std.specs.List.{AllByRecursion}
use Rattle.fwd_chunks.specs.declared.chunk.Chunk.{Chunk}
use Rattle.fwd_base.specs.declared.retry.Retry.{Retry}
use Rattle.fwd_base.specs.Tallies.{end_of_wait}
use Rattle.fwd_chunks.specs.Cells.{number_after}
use Rattle.fwd_chunks.specs.Live.{is_open, is_closed}

-- chunks by rising number, the greatest number that one had, and for how many more there is room
pub record Held : Type 0 where
  pub retry : Retry
  pub chunks : List Chunk
  pub last : Option ℕ
  pub room : ℕ

-- the keys by place: the end of a closed chunk's wait, and an open one's first moment
pub record KeyLists : Type 0 where
  pub retry : Retry
  pub ready : List (Option ℕ)
  pub due : List (Option ℕ)

-- where a chunk stands, or stood: its number, and the chunk until it leaves
pub record Slot : Type 0 where
  pub number : ℕ
  pub chunk : Option Chunk

-- the slot of a new chunk
abbrev pub slot_of : Chunk → Slot
slot_of c = record { number = c.number; chunk = Some c }

-- what a slot holds, if there is a slot
abbrev pub chunk_in : Option Slot → Option Chunk
chunk_in None = None
chunk_in (Some s) = s.chunk

-- what the slot at a place holds is changed
abbrev pub revised : ℕ → (Option Chunk → Option Chunk) → List Slot → List Slot
revised i f [] = []
revised zero f (s ∷ slots) = record s { chunk = f s.chunk } ∷ slots
revised (suc i) f (s ∷ slots) = s ∷ revised i f slots

-- the chunks that are there
abbrev pub present : List Slot → List Chunk
present [] = []
present (s ∷ slots) = option_to_list s.chunk ++ present slots

-- the slot is the number's
abbrev pub is_slot : ℕ → Slot → Bool
is_slot number s = s.number == number

-- the slot is not empty
abbrev pub is_full : Slot → Bool
is_full s = is_some s.chunk

-- from when on a worker may have the chunk, if it waits for one
abbrev pub ready_key : Retry → Chunk → Option ℕ
ready_key retry c = if is_closed c.stage then end_of_wait retry c.losses else None

-- when the chunk began, if it is open
abbrev pub due_key : Chunk → Option ℕ
due_key c = if is_open c.stage then Some c.since else None

-- the chunk is open, and began at the moment or before
abbrev pub began_by : ℕ → Chunk → Bool
began_by moment c = is_open c.stage && nat_le c.since moment

-- the key of what stands in a slot
abbrev pub key_by : (Chunk → Option ℕ) → Option Chunk → Option ℕ
key_by key None = None
key_by key (Some c) = key c

-- the keys once a chunk stands at a place
abbrev pub keyed : KeyLists → ℕ → Chunk → KeyLists
keyed keys i c = record {
  retry = keys.retry;
  ready = slice_set keys.ready i (ready_key keys.retry c);
  due = slice_set keys.due i (due_key c);
}

-- the keys once they are those of what stands at a place, if something does
abbrev pub noted : ℕ → Option Chunk → KeyLists → KeyLists
noted i None keys = keys
noted i (Some c) keys = keyed keys i c

-- there is no key
abbrev pub IsNone : Option ℕ → Type 0
IsNone key = key ≡ None

-- each slot has its key, and there are no others
abbrev pub AreKeys : (Chunk → Option ℕ) → List Slot → List (Option ℕ) → Type 0
AreKeys key [] keys = AllByRecursion IsNone keys
AreKeys key (s ∷ slots) [] = ⊥
AreKeys key (s ∷ slots) (k ∷ keys) = (k ≡ key_by key s.chunk) × AreKeys key slots keys

-- so many keys: these, and none behind them
abbrev pub padded : ℕ → List (Option ℕ) → List (Option ℕ)
padded places keys = keys ++ replicate (places - length keys) None

-- the slot has a lower number than the other
abbrev pub IsLower : Slot → Slot → Type 0
IsLower s t = s.number < t.number

-- the numbers rise
abbrev pub NumbersRise : List Slot → Type 0
NumbersRise [] = Unit {0}
NumbersRise (s ∷ slots) = AllByRecursion (IsLower s) slots × NumbersRise slots

-- the chunk has a lower number than the other
abbrev pub IsUnder : Chunk → Chunk → Type 0
IsUnder c d = c.number < d.number

-- the chunks' numbers rise
abbrev pub ChunksRise : List Chunk → Type 0
ChunksRise [] = Unit {0}
ChunksRise (c ∷ chunks) = AllByRecursion (IsUnder c) chunks × ChunksRise chunks

-- the slot's chunk has the slot's number
abbrev pub IsOwn : Slot → Type 0
IsOwn s = AllByRecursion (λ c. c.number ≡ s.number) (option_to_list s.chunk)

-- 64 bits hold the moment of the chunk's first entry
abbrev pub IsTimed : Slot → Type 0
IsTimed s = AllByRecursion (λ c. c.since < 2 ^ 64) (option_to_list s.chunk)

-- the greatest number once chunks came behind
abbrev pub last_of : Option ℕ → List Chunk → Option ℕ
last_of last [] = last
last_of last (c ∷ chunks) = last_of (Some c.number) chunks

-- chunks came behind
abbrev pub appended : Held → List Chunk → Held
appended h chunks = record {
  retry = h.retry;
  chunks = h.chunks ++ chunks;
  last = last_of h.last chunks;
  room = h.room - length chunks;
}

-- the chunks' numbers are above the greatest one, and rise
abbrev pub AreAbove : Option ℕ → List Chunk → Type 0
AreAbove last [] = Unit {0}
AreAbove last (c ∷ chunks) = (number_after 0 last ≤ c.number) × AreAbove (Some c.number) chunks

-- what holds of slots with their keys
pub record IsSlotted (slots : List Slot) (capacity : ℕ) (keys : KeyLists) (last : Option ℕ)
    : Type 0 where
  pub rising : NumbersRise slots
  pub own : AllByRecursion IsOwn slots
  pub timed : AllByRecursion IsTimed slots
  -- no number is above the greatest
  pub below : AllByRecursion (λ s. s.number < number_after 0 last) slots
  pub ready : AreKeys (ready_key keys.retry) slots keys.ready
  pub due : AreKeys due_key slots keys.due
  pub places : length keys.due ≡ length keys.ready
  pub enough : length keys.ready ≤ capacity
