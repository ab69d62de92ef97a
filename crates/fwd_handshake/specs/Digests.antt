-- The digests of a handshake (Forward Protocol Specification v1, "Handshake Messages").
use Rattle.std.specs.Prelude.{ℕ, List, ◌++◌}
-- for examples that compute a digest
unfoldable pub use Rattle.sha2.specs.Sha512.{sha512}
use Rattle.hex.specs.Hex.{encode_lower}

-- the digest of a shared key: salt, hostname, nonce and key, joined
abbrev pub key_digest : (salt host nonce key : List ℕ) → List ℕ
key_digest salt host nonce key = encode_lower (sha512 (salt ++ host ++ nonce ++ key))

-- the digest of a password: the auth salt, the username and the password, joined
abbrev pub password_digest : (auth user password : List ℕ) → List ℕ
password_digest auth user password = encode_lower (sha512 (auth ++ user ++ password))
