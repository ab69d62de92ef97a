-- When two sides of a handshake know the same.
use Rattle.std.specs.Prelude.{◌≡◌, ℕ, ◌+◌, ◌^◌, ◌<◌, Bool, true, ◌&&◌, List, [], ◌∷◌, length, Some}
use Rattle.std.specs.List.{list_any}
use Rattle.std.specs.Str.{bytes_eq}
use Rattle.fwd_handshake.specs.declared.credentials.User.{User}
use Rattle.fwd_handshake.specs.declared.credentials.Security.{Security}
use Rattle.fwd_handshake.specs.declared.credentials.Login.{Login}

-- the user has the login's username and password
abbrev pub is_login_of : Login → User → Bool
is_login_of login user = bytes_eq user.name login.username && bytes_eq user.password login.password

-- no users are set, or the login is one of theirs
abbrev pub lets_in : List User → Login → Bool
lets_in [] login = true
lets_in (user ∷ users) login = list_any (is_login_of login) (user ∷ users)

-- the auth salt that a HELO gives: none where no users are set
abbrev pub auth_given : List User → List ℕ → List ℕ
auth_given [] auth = []
auth_given (user ∷ users) auth = auth

-- with the head of a str it is less than 2 ^ 32 bytes
abbrev pub IsShort : List ℕ → Type 0
IsShort bytes = length bytes + 5 < 2 ^ 32

-- Both sides know this key, the server lets the login in, and all that is written is short.
pub record IsAgreed (login : Login) (security : Security) (salt key : List ℕ) : Type 0 where
  pub client : login.shared_key ≡ Some key
  pub server : security.shared_key ≡ Some key
  pub user : lets_in security.users login ≡ true
  pub short_client : IsShort login.hostname
  pub short_server : IsShort security.hostname
  pub short_username : IsShort login.username
  pub short_salt : IsShort salt
