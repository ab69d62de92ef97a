-- The queues of connections that are ready, may be written, or wait. A key stands in each at most
-- once: a flag of its connection tells that it does. This is seen of a call.
use Rattle.std.specs.Prelude.{◌≡◌, ◌≤◌, ◌⊎◌, ◌||◌, ℕ, Bool, true, false, List, [], ◌∷◌, ◌++◌, length, nat_le, Option, Some, None, option_map, if◌then◌else◌}
use Rattle.std.specs.VecDeque.{deque_capacity}
use Rattle.slab.specs.Slab as slots
use Rattle.fwd_reader.specs.declared.peer.Peer.{Peer}
use Rattle.fwd_reader.specs.declared.peer.Peer.TheVariants as kind
use Rattle.fwd_reader.specs.declared.connections.OpenConnection.{OpenConnection}
use Rattle.fwd_reader.specs.declared.connections.Connections.{Connections}

-- A key comes to stand in a queue, behind the others, where its connection is open and its flag
-- tells that it does not stand there yet. There is no place for it where no room is left, when out
-- of memory.
abbrev pub Queues : (flag : Option Bool) → (key capacity : ℕ) → (queue after : List ℕ) → Type 0
Queues None key capacity queue after = after ≡ queue
Queues (Some true) key capacity queue after = after ≡ queue
Queues (Some false) key capacity queue after =
    (after ≡ queue ++ key ∷ []) ⊎ ((after ≡ queue) × (capacity ≤ length queue))

-- whether the connection at a key stands among those that are ready, if one is open there
abbrev pub is_ready_at : {J : Type 0} → Connections J → (key : ℕ) → Option Bool
is_ready_at c key = option_map (λ o. o.is_ready) (slots.get c.opened key)

-- the same of those that may be written
abbrev pub is_writable_at : {J : Type 0} → Connections J → (key : ℕ) → Option Bool
is_writable_at c key = option_map (λ o. o.is_writable) (slots.get c.opened key)

-- and of those whose requests wait
abbrev pub is_queued_at : {J : Type 0} → Connections J → (key : ℕ) → Option Bool
is_queued_at c key = option_map (λ o. o.is_queued) (slots.get c.opened key)

-- whether the system told that the other side of the connection at a key closed, if one is open
-- there
abbrev pub is_closing_at : {J : Type 0} → Connections J → (key : ℕ) → Option Bool
is_closing_at c key = option_map (λ o. o.is_closing) (slots.get c.opened key)

-- the connections once what stood at a key became another, if it did so
abbrev pub put_at : {J : Type 0} → slots.Slab (OpenConnection J) → (key : ℕ) → Option (OpenConnection J)
    → slots.Slab (OpenConnection J)
put_at opened key None = opened
put_at opened key (Some after) = slots.with_value opened key after

-- the connections with the one at a key changed, if one is open there
abbrev pub with_changed : {J : Type 0} → slots.Slab (OpenConnection J) → (key : ℕ)
    → (OpenConnection J → OpenConnection J) → slots.Slab (OpenConnection J)
with_changed opened key change = put_at opened key (option_map change (slots.get opened key))

-- a connection stands among those that are ready; to be read to its end, where it closed
abbrev pub made_ready : {J : Type 0} → (is_closing : Bool) → OpenConnection J → OpenConnection J
made_ready is_closing o =
    record o { is_ready = true; is_closing = o.is_closing || is_closing }

-- it stands among those that may be written
abbrev pub made_writable : {J : Type 0} → OpenConnection J → OpenConnection J
made_writable o = record o { is_writable = true }

-- since when it has waited, once it waits from a moment on
abbrev pub waits_since : Option ℕ → (now : ℕ) → ℕ
waits_since None now = now
waits_since (Some since) now = since

-- it stands among those whose requests wait, from a moment on, where it did not wait before
abbrev pub made_queued : {J : Type 0} → (now : ℕ) → OpenConnection J → OpenConnection J
made_queued now o =
    record o { is_queued = true; waiting_since = Some (waits_since o.waiting_since now) }

-- its other side is gone, and it takes no place
abbrev pub made_kept : {J : Type 0} → OpenConnection J → OpenConnection J
made_kept o = record o { is_kept = true }

-- the connections once the other side of the one at a key is gone: it takes no place, where fewer
-- do not than may
abbrev pub kept_at : {J : Type 0} → (kept limit : ℕ) → (key : ℕ) → slots.Slab (OpenConnection J)
    → slots.Slab (OpenConnection J)
kept_at kept limit key opened =
    if nat_le limit kept then opened else with_changed opened key made_kept

-- no request of it waits any more
abbrev pub waits_no_more : {J : Type 0} → OpenConnection J → OpenConnection J
waits_no_more o = record o { waiting_since = None }

-- it stands no more among those whose requests wait
abbrev pub made_unqueued : {J : Type 0} → OpenConnection J → OpenConnection J
made_unqueued o = record o { is_queued = false }

-- it stands no more among those that are ready
abbrev pub was_read : {J : Type 0} → OpenConnection J → OpenConnection J
was_read o = record o { is_ready = false }

-- nor among those that may be written
abbrev pub was_written : {J : Type 0} → OpenConnection J → OpenConnection J
was_written o = record o { is_writable = false }

-- A source is told something: it stands among those that may be written then. Where what stands at
-- a key is none, nothing comes to stand there.
abbrev pub IsWritten : {J : Type 0} → (there : Option (Peer J)) → (key : ℕ) → (s t : Connections J) → Type 0
IsWritten None key s t = t.writable ≡ s.writable
IsWritten (Some (kind.Monitor monitor)) key s t = t.writable ≡ s.writable
IsWritten (Some (kind.Source source)) key s t =
    (is_writable_at t key ≡ Some true)
    × Queues (is_writable_at s key) key (deque_capacity s.writable)
    s.writable.items t.writable.items

-- what is ready once a source that was told to wait, or not, is asked again: it is, where it waited
abbrev pub IsAsked : {J : Type 0} → (was_queued : Option Bool) → (key : ℕ) → (s t : Connections J) → Type 0
IsAsked None key s t = (t.opened ≡ s.opened) × (t.ready ≡ s.ready)
IsAsked (Some false) key s t =
    (t.opened ≡ with_changed s.opened key made_unqueued) × (t.ready ≡ s.ready)
IsAsked (Some true) key s t =
    (t.opened ≡ with_changed s.opened key (λ o. made_ready false (made_unqueued o)))
    × Queues (is_ready_at s key) key (deque_capacity s.ready) s.ready.items t.ready.items

-- the source at a key is asked again: it stands no more among those whose requests wait, and is
-- ready if it stood there
abbrev pub Retries : {J : Type 0} → (key : ℕ) → (s t : Connections J) → Type 0
Retries key s t = IsAsked (is_queued_at s key) key s t

-- so is the first of those whose keys stand there, if one does, which is taken out
abbrev pub RetriesFirst : {J : Type 0} → (waiting : List ℕ) → (s t : Connections J) → Type 0
RetriesFirst [] s t = (t.waiting.items ≡ []) × (t.opened ≡ s.opened) × (t.ready ≡ s.ready)
RetriesFirst (key ∷ keys) s t = (t.waiting.items ≡ keys) × Retries key s t

-- these are, one after the other
abbrev pub RetriesAll : {J : Type 0} → (waiting : List ℕ) → (s t : Connections J) → Type 0
RetriesAll {J} [] s t = (t.opened ≡ s.opened) × (t.ready ≡ s.ready)
RetriesAll {J} (key ∷ keys) s t =
    (between : Connections J) × (RetriesFirst (key ∷ keys) s between × RetriesAll keys between t)
