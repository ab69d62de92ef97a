-- Which source stands under an id, and which of two is idle for longer. It only describes the code.
use Rattle.std.specs.Prelude.{◌==◌, ℕ, Bool, true, false, nat_le, Option, Some, None, option_and_then, if◌then◌else◌}
use Rattle.std.specs.Ordering.{nat_cmp}
use Rattle.std.specs.BTreeMap as tree
use Rattle.slab.specs.Slab as slots
use Rattle.fwd_peers.specs.Peers.{PeerShown}
use Rattle.fwd_reader.specs.declared.peer.Peer.{Peer}
use Rattle.fwd_reader.specs.declared.peer.Peer.TheVariants as kind
use Rattle.fwd_reader.specs.declared.connections.Idle.{Idle}
use Rattle.fwd_reader.specs.declared.connections.OpenConnection.{OpenConnection}
use Rattle.fwd_reader.specs.declared.connections.Connections.{Connections}
use Rattle.fwd_reader.specs.Tellings.{Sources}

-- the source that a connection is, if it has this id
abbrev pub source_with : {J : Type 0} → ℕ → Peer J → Option PeerShown
source_with id (kind.Source source) = if source.id == id then Some source else None
source_with id (kind.Monitor monitor) = None

-- the source that stands, if one of this id does
abbrev pub source_in : {J : Type 0} → ℕ → Option (OpenConnection J) → Option PeerShown
source_in id None = None
source_in id (Some opened) = source_with id opened.connection

-- the source of this id at this key
abbrev pub source_under : {J : Type 0} → slots.Slab (OpenConnection J) → ℕ → Option ℕ → Option PeerShown
source_under opened id None = None
source_under opened id (Some key) = source_in id (slots.get opened key)

-- the source of this id
abbrev pub source_at : {J : Type 0} → tree.BTreeMap ℕ ℕ → slots.Slab (OpenConnection J) → ℕ → Option PeerShown
source_at keys opened id = source_under opened id (tree.get nat_cmp keys id)

-- the sources that stand, by their ids
abbrev pub sources_in : {J : Type 0} → Connections J → Sources
sources_in c = source_at c.sources c.opened

-- whether a connection is a source's
abbrev pub is_source : {J : Type 0} → Peer J → Bool
is_source (kind.Source source) = true
is_source (kind.Monitor monitor) = false

-- the id of the source that it is, if it is one
abbrev pub source_id : {J : Type 0} → Peer J → Option ℕ
source_id (kind.Source source) = Some source.id
source_id (kind.Monitor monitor) = None

-- the connection that stands, if one does
abbrev pub connection_in : {J : Type 0} → Option (OpenConnection J) → Option (Peer J)
connection_in None = None
connection_in (Some opened) = Some opened.connection

-- the connection at each key, if one stands there
abbrev pub connections_in : {J : Type 0} → slots.Slab (OpenConnection J) → (key : ℕ) → Option (Peer J)
connections_in opened key = connection_in (slots.get opened key)

-- the same of these connections
abbrev pub connection_at : {J : Type 0} → Connections J → (key : ℕ) → Option (Peer J)
connection_at c = connections_in c.opened

-- those that stand once the one at a key is gone
abbrev pub without : {J : Type 0} → (gone : ℕ) → (ℕ → Option (Peer J)) → (key : ℕ) → Option (Peer J)
without gone s key = if key == gone then None else s key

-- the id of the source at a key, if one stands there
abbrev pub source_id_at : {J : Type 0} → Connections J → (key : ℕ) → Option ℕ
source_id_at c key = option_and_then source_id (connection_at c key)

-- an idle source that was found, or the connection at a key, where that is idle for longer
abbrev pub longer_idle : Option Idle → (key : ℕ) → (since : Option ℕ) → Option Idle
longer_idle found key None = found
longer_idle None key (Some since) = Some (record { key = key; since = since })
longer_idle (Some idle) key (Some since) =
    if nat_le idle.since since then Some idle else Some (record { key = key; since = since })
