-- Addresses: a numeric IPv4 address or a bracketed IPv6 address without a scope, a colon and a
-- port from 1 to 65535. And paths of Unix sockets, which stand behind `unix:`.
use Rattle.std.specs.Prelude.{ℕ, ◌==◌, nat_lt, Bool, false, ◌||◌, List, [], ◌∷◌, length, codes, Option, Some, None, option_map, option_and_then, if◌then◌else◌}
use Rattle.std.specs.Option.{option_or}
use Rattle.std.specs.List.{list_any, position_or_len, before_first, after_first}
use Rattle.std.specs.Str.{bytes_eq}
use Rattle.std.specs.Net.Reader.{read_socket_v4, read_socket_v6, whole_value}
use Rattle.std.specs.Net.Socket.{socket_port}
use Rattle.std.specs.declared.net.socket_addr.SocketAddr.{SocketAddr}
use Rattle.std.specs.declared.net.socket_addr.SocketAddr.TheVariants.{V4, V6}

-- the address of these octets and this port
abbrev pub v4_from : List ℕ × ℕ → SocketAddr
v4_from parts = V4 (record { ip = record { octets = parts.0 }; port = parts.1 })

-- the address of these segments, this port, this flow information and this scope
abbrev pub v6_from : List ℕ × ℕ × ℕ × ℕ → SocketAddr
v6_from parts =
    V6 (record {
      ip = record { segments = parts.0 };
      port = parts.1;
      flowinfo = parts.2;
      scope_id = parts.3;
    })

-- the socket address that a text spells; std says of this reading that it reads std's grammar and
-- nothing else
unfoldable pub socket_of : List ℕ → Option SocketAddr
socket_of text =
    option_or (option_map v4_from (whole_value (read_socket_v4 text)))
    (option_map v6_from (whole_value (read_socket_v6 text)))

-- the sign before an IPv6 scope
abbrev pub is_percent : ℕ → Bool
is_percent byte = byte == 37

-- a scope begins with a percent sign, and a port of 0 is none
abbrev pub usable : List ℕ → SocketAddr → Option SocketAddr
usable text address =
    if list_any is_percent text || (socket_port address == 0) then None else Some address

-- the address that a text spells
unfoldable pub address_of_text : List ℕ → Option SocketAddr
address_of_text text = option_and_then (usable text) (socket_of text)

-- a colon
abbrev pub is_colon : ℕ → Bool
is_colon byte = byte == 58

-- a slash
abbrev pub is_slash : ℕ → Bool
is_slash byte = byte == 47

-- a byte of 0
abbrev pub is_zero : ℕ → Bool
is_zero byte = byte == 0

-- what stands before the first colon of a text, and what behind it, if it has one
unfoldable pub at_colon : List ℕ → Option (List ℕ × List ℕ)
at_colon text =
    if nat_lt (position_or_len is_colon text) (length text)
    then Some (before_first is_colon text, after_first is_colon text) else None

-- what stands behind the colon, if `unix` stands before it
abbrev pub if_unix : List ℕ × List ℕ → Option (List ℕ)
if_unix parts = if bytes_eq parts.0 (codes "unix") then Some parts.1 else None

-- what stands behind `unix:`, if a text begins so
abbrev pub behind_unix : List ℕ → Option (List ℕ)
behind_unix text = option_and_then if_unix (at_colon text)

-- an absolute path begins with a slash
abbrev pub is_absolute : List ℕ → Bool
is_absolute [] = false
is_absolute (byte ∷ more) = is_slash byte

-- 127.0.0.1:24224
abbrev pub home : SocketAddr
home = v4_from (127 ∷ 0 ∷ 0 ∷ 1 ∷ [], 24224)

-- 0.0.0.0:0, which is no address of a setting, and stands where one is missing
abbrev pub nowhere : SocketAddr
nowhere = v4_from (0 ∷ 0 ∷ 0 ∷ 0 ∷ [], 0)
