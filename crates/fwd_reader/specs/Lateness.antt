-- Which connection had its time to show what it is: a source to log in where a shared key is set, a
-- monitor to send its request's head.
use Rattle.std.specs.Prelude.{◌≡◌, ◌-◌, ◌&&◌, ℕ, Bool, true, nat_le, Some}
use Rattle.slab.specs.Slab as slots
use Rattle.fwd_reader.specs.declared.peer.Peer.{Peer}
use Rattle.fwd_reader.specs.declared.peer.Peer.TheVariants as kind
use Rattle.fwd_reader.specs.declared.connections.Connections.{Connections}
use Rattle.fwd_reader.specs.declared.connections.OpenConnection.{OpenConnection}
use Rattle.fwd_reader.specs.declared.peer.TheConstants.{HEAD_LIMIT, LOGIN_LIMIT}
use Rattle.fwd_monitors.specs.Asking.{awaits_head}

-- how long a connection has for that, in milliseconds
abbrev pub limit_of : {J : Type 0} → Peer J → ℕ
limit_of (kind.Source source) = LOGIN_LIMIT
limit_of (kind.Monitor monitor) = HEAD_LIMIT

-- it has not shown yet what it is
abbrev pub is_unknown : {J : Type 0} → Peer J → Bool
is_unknown (kind.Source source) = source.live.awaits
is_unknown (kind.Monitor monitor) = awaits_head monitor

-- it has not, and has stood for so long by this moment
abbrev pub is_late : {J : Type 0} → (now : ℕ) → OpenConnection J → Bool
is_late now s = is_unknown s.connection && nat_le (limit_of s.connection) (now - s.came)

-- the connection that stands at this key is late
abbrev pub IsLate : {J : Type 0} → Connections J → (now key : ℕ) → Type 0
IsLate {J} c now key = (s : OpenConnection J) × (slots.get c.opened key ≡ Some s) × (is_late now s ≡ true)
