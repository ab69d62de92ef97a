-- What the messages of a handshake are judged to be (Forward Protocol Specification v1, "Handshake
-- Messages"), each as a list of cases, of which the first that holds counts.
use Rattle.std.specs.Prelude.{ℕ, Bool, true, false, not, ◌&&◌, List, [], ◌∷◌, Option, Some, None, is_none, unwrap_or, option_and_then, codes, if◌then◌else◌}
use Rattle.std.specs.List.{list_any}
use Rattle.std.specs.Str.{bytes_eq}
use Rattle.fwd_msgpack.specs.Scans.{text_of, pairs_of}
use Rattle.fwd_msgpack.specs.Texts.{last_under}
use Rattle.fwd_handshake.specs.declared.credentials.User.{User}
use Rattle.fwd_handshake.specs.declared.credentials.Security.{Security}
use Rattle.fwd_handshake.specs.declared.credentials.Login.{Login}
use Rattle.fwd_handshake.specs.declared.nonces.Nonces.{Nonces}
use Rattle.fwd_handshake.specs.declared.verdict.Denial.{Denial}
use Rattle.fwd_handshake.specs.declared.verdict.Denial.TheVariants.{KeyMismatch, UserMismatch}
use Rattle.fwd_handshake.specs.declared.verdict.PingVerdict.{PingVerdict}
use Rattle.fwd_handshake.specs.declared.verdict.PingVerdict.TheVariants.{Pass, Deny, NotPing}
use Rattle.fwd_handshake.specs.declared.verdict.HeloAnswer.{HeloAnswer}
use Rattle.fwd_handshake.specs.declared.verdict.HeloAnswer.TheVariants.{Ping as Answers, NotHelo}
use Rattle.fwd_handshake.specs.declared.verdict.PongVerdict.{PongVerdict}
use Rattle.fwd_handshake.specs.declared.verdict.PongVerdict.TheVariants as pong
use Rattle.fwd_handshake.specs.Digests.{key_digest, password_digest}
use Rattle.fwd_handshake.specs.Messages.{ping_text, pong_text, denying}
use Rattle.fwd_handshake.specs.Readings.{bool_of, text_under, values_behind}

-- The user that a client says it is: a username, and the digest of a password.
pub record Claim : Type 0 where
  pub username : List ℕ
  pub digest : List ℕ

-- What a PING says. Its last two values claim a user where both are str or bin.
pub record Ping : Type 0 where
  pub hostname : List ℕ
  pub salt : List ℕ
  pub digest : List ℕ
  pub claim : Option Claim

-- What a HELO says.
pub record Helo : Type 0 where
  pub nonce : List ℕ
  pub auth : List ℕ
  pub keepalive : Bool

-- the digest is the one of the shared key; where no key is set, none is
abbrev pub is_key_digest : Option (List ℕ) → (salt host nonce digest : List ℕ) → Bool
is_key_digest None salt host nonce digest = false
is_key_digest (Some key) salt host nonce digest = bytes_eq digest (key_digest salt host nonce key)

-- ---- PING

-- the claim of a PING's last two values, if both are str or bin
abbrev pub claim_in : Option (List ℕ) → Option (List ℕ) → Option Claim
claim_in (Some username) (Some digest) = Some (record { username = username; digest = digest })
claim_in _ _ = None

-- what a PING says by its hostname, salt and digest, if all three are str or bin
abbrev pub ping_with : Option (List ℕ) → Option (List ℕ) → Option (List ℕ)
    → Option Claim → Option Ping
ping_with (Some hostname) (Some salt) (Some digest) claim =
    Some (record { hostname = hostname; salt = salt; digest = digest; claim = claim })
ping_with _ _ _ claim = None

-- five values behind the word, of which the first three are str or bin
abbrev pub ping_in : List (List ℕ) → Option Ping
ping_in (hostname ∷ salt ∷ digest ∷ username ∷ password ∷ []) =
    ping_with (text_of hostname) (text_of salt) (text_of digest)
    (claim_in (text_of username) (text_of password))
ping_in _ = None

-- what a PING says, if the value is one but for its last two values
abbrev pub ping_of : List ℕ → Option Ping
ping_of bytes = option_and_then ping_in (values_behind (codes "PING") bytes)

-- the claim is of this user
abbrev pub is_of_user : List ℕ → Claim → User → Bool
is_of_user auth claim user =
    bytes_eq claim.username user.name
    && bytes_eq claim.digest (password_digest auth user.name user.password)

-- where users are set, the last two values of a PING are to be str or bin
abbrev pub lacks_claim : List User → Option Claim → Bool
lacks_claim [] claim = false
lacks_claim (user ∷ users) claim = is_none claim

-- where users are set, the claim is of one of them
abbrev pub is_of_a_user : List User → List ℕ → Option Claim → Bool
is_of_a_user [] auth claim = true
is_of_a_user (user ∷ users) auth None = false
is_of_a_user (user ∷ users) auth (Some claim) = list_any (is_of_user auth claim) (user ∷ users)

-- why a PING is denied, if it is
abbrev pub denial_of : Security → Nonces → Ping → Option Denial
denial_of security nonces ping =
    if not (is_key_digest security.shared_key ping.salt ping.hostname nonces.nonce ping.digest) then
    Some KeyMismatch
    else if not (is_of_a_user security.users nonces.auth ping.claim) then Some UserMismatch
    else None

-- the PONG that lets a client in: with the server's hostname, and the key digest for it
abbrev pub passing : Security → (nonce salt : List ℕ) → List ℕ
passing security nonce salt =
    pong_text true [] security.hostname
    (key_digest salt security.hostname nonce (unwrap_or security.shared_key []))

-- the PONG that answers a PING, and the verdict, by why it is denied, if it is
abbrev pub ping_answer : Security → (nonce salt : List ℕ) → Option Denial → PingVerdict
ping_answer security nonce salt (Some denial) = Deny (denying denial) denial
ping_answer security nonce salt None = Pass (passing security nonce salt)

-- the verdict on what a PING says, if the value is one
abbrev pub ping_judged : Security → Nonces → Option Ping → PingVerdict
ping_judged security nonces None = NotPing
ping_judged security nonces (Some ping) =
    if lacks_claim security.users ping.claim then NotPing
    else ping_answer security nonces.nonce ping.salt (denial_of security nonces ping)

-- What a value is, and the PONG that answers it: no PING; a
-- PING with another key; one of another user; a good one.
unfoldable pub ping_verdict : Security → Nonces → List ℕ → PingVerdict
ping_verdict security nonces bytes = ping_judged security nonces (ping_of bytes)

-- ---- HELO

-- what a HELO says by its nonce, which it has to have, its auth salt and its keepalive
abbrev pub helo_with : Option (List ℕ) → Option (List ℕ) → Option Bool → Option Helo
helo_with None auth keepalive = None
helo_with (Some nonce) auth keepalive =
    Some (record { nonce = nonce; auth = unwrap_or auth []; keepalive = unwrap_or keepalive true })

-- a nonce that is a str or a bin; an auth salt that is neither
-- counts as empty, and a keepalive that is no bool as true
abbrev pub helo_under : List (List ℕ × List ℕ) → Option Helo
helo_under pairs =
    helo_with (text_under (codes "nonce") pairs) (text_under (codes "auth") pairs)
    (option_and_then bool_of (last_under (codes "keepalive") pairs))

-- one value behind the word, which is a map
abbrev pub helo_in : List (List ℕ) → Option Helo
helo_in (options ∷ []) = option_and_then helo_under (pairs_of options)
helo_in _ = None

-- what a HELO says, if the value is one
abbrev pub helo_of : List ℕ → Option Helo
helo_of bytes = option_and_then helo_in (values_behind (codes "HELO") bytes)

-- the username that is sent: none where the server gives no auth salt
abbrev pub username_for : Login → (auth : List ℕ) → List ℕ
username_for login [] = []
username_for login (byte ∷ auth) = login.username

-- the password digest that is sent: none where the server gives no auth salt
abbrev pub proof_for : Login → (auth : List ℕ) → List ℕ
proof_for login [] = []
proof_for login (byte ∷ auth) = password_digest (byte ∷ auth) login.username login.password

-- the PING that answers a HELO, with the client's hostname
abbrev pub answering : Login → (salt nonce auth : List ℕ) → List ℕ
answering login salt nonce auth =
    ping_text login.hostname salt
    (key_digest salt login.hostname nonce (unwrap_or login.shared_key []))
    (username_for login auth) (proof_for login auth)

-- what a HELO says to a client: without a shared key there is no handshake, and no value is one
abbrev pub heard_helo : (shared_key : Option (List ℕ)) → List ℕ → Option Helo
heard_helo None bytes = None
heard_helo (Some key) bytes = helo_of bytes

-- the PING that answers what a HELO says, if the value is one
abbrev pub helo_judged : Login → (salt : List ℕ) → Option Helo → HeloAnswer
helo_judged login salt None = NotHelo
helo_judged login salt (Some helo) =
    Answers (answering login salt helo.nonce helo.auth) helo.nonce helo.keepalive

-- What a value is, and the PING that answers it: no HELO, or a client without a shared key; a HELO,
-- with its nonce and whether the link is kept.
unfoldable pub helo_answer : Login → (salt : List ℕ) → List ℕ → HeloAnswer
helo_answer login salt bytes = helo_judged login salt (heard_helo login.shared_key bytes)

-- ---- PONG

-- The values of a PONG, as their bytes.
pub record Pong : Type 0 where
  pub passed : List ℕ
  pub reason : List ℕ
  pub host : List ℕ
  pub digest : List ℕ

-- four values behind the word: a bool, the reason, the server's hostname and the key digest
abbrev pub four_in : List (List ℕ) → Option Pong
four_in (passed ∷ reason ∷ host ∷ digest ∷ []) =
    Some (record { passed = passed; reason = reason; host = host; digest = digest })
four_in _ = None

-- what a PONG says by whether it lets the client in: where
-- it does not, the other three values are not looked at
abbrev pub pong_with : Login → (salt nonce : List ℕ) → Option Bool → Option (List ℕ)
    → Option (List ℕ) → Option (List ℕ) → PongVerdict
pong_with login salt nonce (Some false) reason host digest = pong.Denied
pong_with login salt nonce (Some true) (Some reason) (Some host) (Some digest) =
    if is_key_digest login.shared_key salt host nonce digest then pong.Pass else pong.BadDigest
pong_with login salt nonce _ _ _ _ = pong.NotPong

-- the verdict on the values of a PONG, if the value is one
abbrev pub pong_judged : Login → (salt nonce : List ℕ) → Option Pong → PongVerdict
pong_judged login salt nonce None = pong.NotPong
pong_judged login salt nonce (Some said) =
    pong_with login salt nonce (bool_of said.passed) (text_of said.reason) (text_of said.host)
    (text_of said.digest)

-- What a value is: no PONG; a PONG that refuses; one by a server with another key; a good one.
unfoldable pub pong_verdict : Login → (salt nonce : List ℕ) → List ℕ → PongVerdict
pong_verdict login salt nonce bytes =
    pong_judged login salt nonce (option_and_then four_in (values_behind (codes "PONG") bytes))
