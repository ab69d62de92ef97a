-- Which source gives its place to a new one where all are taken: the one that has been silent
-- longest, or has waited longest with a request that it sends again.
use Rattle.std.specs.Prelude.{◌≡◌, ◌-◌, ◌<◌, ◌≤◌, ◌&&◌, ℕ, Bool, true, not, Option, Some, None, is_some, option_and_then, if◌then◌else◌}
use Rattle.slab.specs.Slab as slots
use Rattle.fwd_peers.specs.Peers.{asks, silent_since}
use Rattle.fwd_reader.specs.declared.peer.Peer.{Peer}
use Rattle.fwd_reader.specs.declared.peer.Peer.TheVariants as kind
use Rattle.fwd_reader.specs.declared.connections.OpenConnection.{OpenConnection}
use Rattle.fwd_reader.specs.declared.connections.Connections.{Connections}

-- Since when a connection could give its place to a new one, where it is a source. The sender of
-- its first request that waits asked for an acknowledgement, and sends that again: since it waits.
-- Or nothing is owed: since it has been silent.
abbrev pub source_idle : {J : Type 0} → (waiting_since : Option ℕ) → Peer J → Option ℕ
source_idle waiting_since (kind.Source source) =
    if asks source then waiting_since else silent_since source
source_idle waiting_since (kind.Monitor monitor) = None

-- the same of one that stands; one that waits to be read may have sent something
abbrev pub idle_since : {J : Type 0} → OpenConnection J → Option ℕ
idle_since opened =
    if opened.is_ready then None else source_idle opened.waiting_since opened.connection

-- the same at a key
abbrev pub idle_at : {J : Type 0} → Connections J → ℕ → Option ℕ
idle_at c key = option_and_then idle_since (slots.get c.opened key)

-- At a moment the source at this key could have given its place for so long at least, and no other
-- for longer.
pub record IsIdlest {J : Type 0} (c : Connections J) (limit now key : ℕ) : Type 0 where
  pub since : ℕ
  pub there : idle_at c key ≡ Some since
  pub long : limit ≤ now - since
  pub longest : (other at : ℕ) → idle_at c other ≡ Some at → since ≤ at

-- at a moment none could have given its place for so long
abbrev pub NoneIsIdle : {J : Type 0} → (c : Connections J) → (limit now : ℕ) → Type 0
NoneIsIdle c limit now = (key since : ℕ) → idle_at c key ≡ Some since → now - since < limit

-- requests of a connection wait at an output, and it takes a place
abbrev pub is_crowding : {J : Type 0} → OpenConnection J → Bool
is_crowding opened = is_some opened.waiting_since && not opened.is_kept

-- so it is of the connection at this key
abbrev pub IsCrowding : {J : Type 0} → Connections J → (key : ℕ) → Type 0
IsCrowding {J} c key =
    (s : OpenConnection J) × (slots.get c.opened key ≡ Some s) × (is_crowding s ≡ true)
