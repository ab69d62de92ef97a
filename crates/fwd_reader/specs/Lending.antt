-- What stands once a connection that was lent was given back. It only describes the code.
use Rattle.std.specs.Prelude.{ℕ, Option, Some, None}
use Rattle.slab.specs.Slab as slots
use Rattle.fwd_reader.specs.declared.peer.Peer.{Peer}
use Rattle.fwd_reader.specs.declared.connections.OpenConnection.{OpenConnection}
use Rattle.fwd_reader.specs.declared.connections.Connections.{Connections}

-- the connections with another one at a key at which this one is open
abbrev pub with_connection : {J : Type 0} → Connections J → (key : ℕ) → Option (OpenConnection J) → Peer J → Connections J
with_connection c key None after = c
with_connection c key (Some opened) after =
    record c { opened = slots.with_value c.opened key (record opened { connection = after }) }
