-- The definitions at work on a few bytes.
use Rattle.std.proofs.Common.{◌≡◌, ℕ, Bool, true, false, List, [], ◌∷◌, ◌++◌, Option, Some, None, refl}
use Rattle.std.specs.Prelude.{codes}
use Rattle.fwd_msgpack.specs.Heads.{row_of, named_rows, reading_of, head_bytes}
use Rattle.fwd_msgpack.specs.Scans.{first_of, fault_at, item_begun, payload_ended, split_of, row_of_values, parts_of}
use Rattle.fwd_handshake.specs.declared.credentials.User.{User}
use Rattle.fwd_handshake.specs.declared.verdict.Denial.TheVariants.{KeyMismatch, UserMismatch}
use Rattle.fwd_handshake.specs.Messages.{helo_text, ping_text, pong_text, denying}
use Rattle.fwd_handshake.specs.Verdicts.{Claim, Ping, Helo, ping_of, helo_of, is_key_digest, is_of_a_user, lacks_claim}

-- a nonce of one byte, and no users: the empty auth salt
helo : helo_text [] (0x6e ∷ []) (0x61 ∷ []) ≡
    0x92 ∷ 0xa4 ∷ codes "HELO" ++ 0x83 ∷ 0xa5 ∷ codes "nonce" ++ 0xc4 ∷ 0x01 ∷ 0x6e ∷ 0xa4
    ∷ codes "auth" ++ 0xa0 ∷ 0xa9 ∷ codes "keepalive" ++ 0xc3 ∷ []
unfolding helo_text head_bytes
helo = refl

-- with a user, the auth salt is a bin
helo_to_users : (user : User) → helo_text (user ∷ []) (0x6e ∷ []) (0x61 ∷ []) ≡
    0x92 ∷ 0xa4 ∷ codes "HELO" ++ 0x83 ∷ 0xa5 ∷ codes "nonce" ++ 0xc4 ∷ 0x01 ∷ 0x6e ∷ 0xa4
    ∷ codes "auth" ++ 0xc4 ∷ 0x01 ∷ 0x61 ∷ 0xa9 ∷ codes "keepalive" ++ 0xc3 ∷ []
unfolding helo_text head_bytes
helo_to_users user = refl

ping : ping_text (codes "h") (codes "s") (codes "d") (codes "u") (codes "p") ≡
    0x96 ∷ 0xa4 ∷ codes "PING" ++ 0xa1 ∷ 0x68 ∷ 0xa1 ∷ 0x73 ∷ 0xa1 ∷ 0x64 ∷ 0xa1 ∷ 0x75 ∷ 0xa1
    ∷ 0x70 ∷ []
unfolding ping_text head_bytes
ping = refl

pong : pong_text true [] (codes "h") (codes "d")
    ≡ 0x95 ∷ 0xa4 ∷ codes "PONG" ++ 0xc3 ∷ 0xa0 ∷ 0xa1 ∷ 0x68 ∷ 0xa1 ∷ 0x64 ∷ []
unfolding pong_text head_bytes
pong = refl

-- a PONG that denies has no hostname and no digest
denied : denying KeyMismatch
    ≡ 0x95 ∷ 0xa4 ∷ codes "PONG" ++ 0xc2 ∷ 0xb3 ∷ codes "shared_key mismatch"
    ++ 0xa0 ∷ 0xa0 ∷ []
unfolding pong_text head_bytes
denied = refl

denied_user : denying UserMismatch
    ≡ 0x95 ∷ 0xa4 ∷ codes "PONG" ++ 0xc2 ∷ 0xba ∷ codes "username/password mismatch"
    ++ 0xa0 ∷ 0xa0 ∷ []
unfolding pong_text head_bytes
denied_user = refl

-- PING, hostname "h", salt "s" as a bin and digest "d", with these bytes behind them
abbrev says : List ℕ → List ℕ
says rest =
    0x96 ∷ 0xa4 ∷ codes "PING"
    ++ 0xa1 ∷ 0x68 ∷ 0xc4 ∷ 0x01 ∷ 0x73 ∷ 0xa1 ∷ 0x64 ∷ rest

abbrev said : Option Claim → Option Ping
said claim =
    Some (record { hostname = codes "h"; salt = codes "s"; digest = codes "d"; claim = claim })

-- the user "u" with the password digest "p"
read_ping : ping_of (says (0xa1 ∷ 0x75 ∷ 0xa1 ∷ 0x70 ∷ []))
    ≡ said (Some (record { username = codes "u"; digest = codes "p" }))
unfolding parts_of row_of_values split_of first_of fault_at item_begun payload_ended reading_of row_of named_rows
read_ping = refl

-- nil and 7 claim no user
no_claim : ping_of (says (0xc0 ∷ 0x07 ∷ [])) ≡ said None
unfolding parts_of row_of_values split_of first_of fault_at item_begun payload_ended reading_of row_of named_rows
no_claim = refl

-- five are too few
too_few :
    ping_of
    (0x95 ∷ 0xa4 ∷ codes "PING"
    ++ 0xa1 ∷ 0x68 ∷ 0xa1 ∷ 0x73 ∷ 0xa1 ∷ 0x64 ∷ 0xa0 ∷ [])
    ≡ None
unfolding parts_of row_of_values split_of first_of fault_at item_begun payload_ended reading_of row_of named_rows
too_few = refl

-- the word is a str
bin_word :
    ping_of
    (0x96 ∷ 0xc4 ∷ 0x04 ∷ codes "PING" ++ 0xa0 ∷ 0xa0 ∷ 0xa0 ∷ 0xa0 ∷ 0xa0 ∷ [])
    ≡ None
unfolding parts_of row_of_values split_of first_of fault_at item_begun payload_ended reading_of row_of named_rows
bin_word = refl

-- HELO with these pairs behind the map's head
abbrev greets : ℕ → List ℕ → List ℕ
greets head pairs = 0x92 ∷ 0xa4 ∷ codes "HELO" ++ head ∷ pairs

abbrev nonce_key : List ℕ
nonce_key = 0xa5 ∷ codes "nonce"

abbrev auth_key : List ℕ
auth_key = 0xa4 ∷ codes "auth"

abbrev keepalive_key : List ℕ
keepalive_key = 0xa9 ∷ codes "keepalive"

abbrev greeted : List ℕ → List ℕ → Bool → Option Helo
greeted nonce auth keepalive = Some (record { nonce = nonce; auth = auth; keepalive = keepalive })

-- a nonce is enough
only_nonce : helo_of (greets 0x81 (nonce_key ++ 0xc4 ∷ 0x01 ∷ 0x6e ∷ []))
    ≡ greeted (0x6e ∷ []) [] true
unfolding parts_of row_of_values split_of first_of fault_at item_begun payload_ended reading_of row_of named_rows
only_nonce = refl

no_nonce : helo_of (greets 0x81 (auth_key ++ 0xa0 ∷ [])) ≡ None
unfolding parts_of row_of_values split_of first_of fault_at item_begun payload_ended reading_of row_of named_rows
no_nonce = refl

-- of a nonce that is given twice the last counts
nonce_twice : helo_of (greets 0x82 (nonce_key ++ 0x05 ∷ nonce_key ++ 0xa1 ∷ 0x6e ∷ []))
    ≡ greeted (0x6e ∷ []) [] true
unfolding parts_of row_of_values split_of first_of fault_at item_begun payload_ended reading_of row_of named_rows
nonce_twice = refl

-- an auth salt that is nil counts as empty
nil_auth : helo_of (greets 0x82 (nonce_key ++ 0xa0 ∷ auth_key ++ 0xc0 ∷ []))
    ≡ greeted [] [] true
unfolding parts_of row_of_values split_of first_of fault_at item_begun payload_ended reading_of row_of named_rows
nil_auth = refl

closing : helo_of (greets 0x82 (nonce_key ++ 0xa0 ∷ keepalive_key ++ 0xc2 ∷ []))
    ≡ greeted [] [] false
unfolding parts_of row_of_values split_of first_of fault_at item_begun payload_ended reading_of row_of named_rows
closing = refl

-- a keepalive that is no bool counts as true
nil_keepalive : helo_of (greets 0x82 (nonce_key ++ 0xa0 ∷ keepalive_key ++ 0xc0 ∷ []))
    ≡ greeted [] [] true
unfolding parts_of row_of_values split_of first_of fault_at item_begun payload_ended reading_of row_of named_rows
nil_keepalive = refl

-- where no key is set, no digest is its
no_key : (salt host nonce digest : List ℕ) → is_key_digest None salt host nonce digest ≡ false
no_key salt host nonce digest = refl

-- where no users are set, every claim and none is good; where one is set, none is not
no_users : (auth : List ℕ) (claim : Option Claim) → is_of_a_user [] auth claim ≡ true
no_users auth claim = refl

unclaimed : (auth : List ℕ) (user : User) (users : List User)
    → lacks_claim (user ∷ users) None ≡ true
unclaimed auth user users = refl
