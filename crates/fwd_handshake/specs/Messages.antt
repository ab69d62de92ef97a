-- The messages of a handshake, byte for byte (Forward Protocol Specification v1, "Handshake
-- Messages"). Every head is the shortest.
use Rattle.std.specs.Prelude.{ℕ, Bool, true, false, List, [], ◌∷◌, ◌++◌, length, codes}
use Rattle.fwd_msgpack.specs.declared.head.Head.TheVariants.{Bool as Boolean, Bin, Arr, Map}
use Rattle.fwd_msgpack.specs.Heads.{head_bytes}
use Rattle.fwd_msgpack.specs.Texts.{text}
use Rattle.fwd_handshake.specs.declared.credentials.User.{User}
use Rattle.fwd_handshake.specs.declared.verdict.Denial.{Denial}
use Rattle.fwd_handshake.specs.declared.verdict.Denial.TheVariants.{KeyMismatch, UserMismatch}

-- a bin of these bytes
abbrev pub binary : List ℕ → List ℕ
binary bytes = head_bytes (Bin (length bytes)) ++ bytes

-- the auth salt as HELO gives it: the empty str where no users are set
abbrev pub auth_value : List User → List ℕ → List ℕ
auth_value [] auth = text []
auth_value (user ∷ users) auth = binary auth

-- HELO: ["HELO", {"nonce": nonce, "auth": auth, "keepalive": true}]
unfoldable pub helo_text : List User → (nonce auth : List ℕ) → List ℕ
helo_text users nonce auth =
    head_bytes (Arr 2) ++ text (codes "HELO") ++ head_bytes (Map 3)
    ++ text (codes "nonce") ++ binary nonce
    ++ text (codes "auth") ++ auth_value users auth
    ++ text (codes "keepalive") ++ head_bytes (Boolean true)

-- PING: ["PING", hostname, salt, key digest, username, password digest]
unfoldable pub ping_text : (hostname salt digest username password : List ℕ) → List ℕ
ping_text hostname salt digest username password =
    head_bytes (Arr 6) ++ text (codes "PING") ++ text hostname ++ text salt ++ text digest
    ++ text username ++ text password

-- PONG: ["PONG", whether the client is let in, reason, hostname, key digest]
unfoldable pub pong_text : Bool → (reason hostname digest : List ℕ) → List ℕ
pong_text passed reason hostname digest =
    head_bytes (Arr 5) ++ text (codes "PONG") ++ head_bytes (Boolean passed) ++ text reason
    ++ text hostname ++ text digest

-- why a PING is denied, in PONG's words
abbrev pub reason : Denial → List ℕ
reason KeyMismatch = codes "shared_key mismatch"
reason UserMismatch = codes "username/password mismatch"

-- the PONG that denies
abbrev pub denying : Denial → List ℕ
denying denial = pong_text false (reason denial) [] []
