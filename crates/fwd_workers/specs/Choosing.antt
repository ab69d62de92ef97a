-- What becomes of a session that has no chunk, when a chunk is free that may be for it.
use Rattle.std.specs.Prelude.{◌≡◌, ℕ, Bool, true, false, Option, Some, None, is_some, if◌then◌else◌}
use Rattle.fwd_session.specs.History.{Setup}
use Rattle.fwd_session.specs.Live.{session_begins}
use Rattle.fwd_output.specs.Elsewhere.{away_from, has_server}
use Rattle.fwd_output.specs.declared.offer.Found.{Found}
use Rattle.fwd_output.specs.declared.offer.Found.TheVariants as found
use Rattle.fwd_workers.specs.declared.upstream.IdleUpstream.{IdleUpstream}
use Rattle.fwd_workers.specs.declared.upstream.WorkerState.{WorkerState}
use Rattle.fwd_workers.specs.declared.upstream.WorkerState.TheVariants as state

-- a chunk was taken for a session that has others
abbrev pub is_added : {L : Type 0} {g : _} → WorkerState L g → Bool
is_added (state.Added roomy chunk) = true
is_added other = false

-- a server is asked once more where a free chunk was passed by that does not go elsewhere
abbrev pub asked_of : Found → (server : ℕ) → Option ℕ
asked_of (found.Passed offer) server =
    if is_some (away_from (has_server offer.lost_at.members server) offer.elsewhere) then None
    else Some server
asked_of found.Nothing server = None
asked_of (found.Took picked) server = None

-- a session that was sought has the chunk that was found for it; while there is none it waits for
-- one; and where one was passed by, the worker leaves it
abbrev pub IsKeptOrLeft : {L : Type 0} {g : _} → WorkerState L g → IdleUpstream L g → Found
    → (leaves : Bool) → Type 0
IsKeptOrLeft at free found.Nothing leaves = at ≡ state.Sought free
IsKeptOrLeft at free (found.Passed offer) leaves = (at ≡ state.Sought free) × (leaves ≡ true)
IsKeptOrLeft at free (found.Took picked) leaves = at ≡ state.Took free picked.chunk

-- a session goes on, with a chunk or without one
abbrev pub HasStayed : {L : Type 0} {g : _} → WorkerState L g → IdleUpstream L g → Type 0
HasStayed (state.Standing free) before = free ≡ before
HasStayed (state.Took free chunk) before = free ≡ before
HasStayed state.Idle before = ⊥
HasStayed state.Seeking before = ⊥
HasStayed (state.Sought free) before = ⊥
HasStayed (state.Added roomy chunk) before = ⊥
HasStayed (state.Loaded upstream) before = ⊥
HasStayed (state.Settled upstream) before = ⊥

-- a session goes on, or one begins in its place, which has no chunk yet
abbrev pub HasGoneOver : {L : Type 0} {g : _} → WorkerState L g → IdleUpstream L g → Setup → Type 0
HasGoneOver (state.Standing free) before setup = free ≡ before
HasGoneOver (state.Took free chunk) before setup = free ≡ before
HasGoneOver (state.Sought free) before setup =
    (free.upstream.ending ≡ None) × (free.upstream.session ≡ session_begins setup)
HasGoneOver state.Idle before setup = ⊥
HasGoneOver state.Seeking before setup = ⊥
HasGoneOver (state.Added roomy chunk) before setup = ⊥
HasGoneOver (state.Loaded upstream) before setup = ⊥
HasGoneOver (state.Settled upstream) before setup = ⊥
