-- Two sides that know the same come to terms.
use Rattle.std.proofs.Common.{◌≡◌, ℕ, ◌+◌, ◌^◌, ◌<◌, Bool, true, false, cond, List, [], ◌∷◌, ◌++◌, length, Option, Some, None, lit≤, refl, ap, ◌∙◌, arith, append_assoc}
use Rattle.std.specs.Prelude.{codes, option_and_then, ◌&&◌, ◌||◌}
use Rattle.std.specs.Str.{bytes_eq}
use Rattle.std.specs.List.{list_any}
use Rattle.std.proofs.lemmas.Bool.{false≢true}
use Rattle.std.proofs.lemmas.List.{append-nil}
use Rattle.std.proofs.lemmas.Slice.Eq.{bytes_eq-Decides}
use Rattle.hex.specs.Hex.{encode_with}
use Rattle.sha2.specs.Sha512.{sha512, digest_bytes}
use Rattle.fwd_msgpack.specs.declared.head.Head.TheVariants.{Bool as Boolean, Arr}
use Rattle.fwd_msgpack.specs.Heads.{head_bytes, reading_of, row_of, named_rows}
use Rattle.fwd_msgpack.specs.Scans.{parts_of}
use Rattle.fwd_handshake.specs.Digests.{key_digest, password_digest}
use Rattle.fwd_msgpack.specs.Texts.{text}
use Rattle.fwd_handshake.specs.Messages.{ping_text, pong_text}
use Rattle.fwd_handshake.specs.Readings.{is_word, behind, values_behind, bool_of}
use Rattle.fwd_handshake.specs.declared.credentials.User.{User}
use Rattle.fwd_handshake.specs.declared.credentials.Security.{Security}
use Rattle.fwd_handshake.specs.declared.credentials.Login.{Login}
use Rattle.fwd_handshake.specs.declared.nonces.Nonces.{Nonces}
use Rattle.fwd_handshake.specs.declared.verdict.PingVerdict.TheVariants.{Pass}
use Rattle.fwd_handshake.specs.declared.verdict.PongVerdict.TheVariants as pong
use Rattle.fwd_handshake.specs.Agreements.{is_login_of, lets_in, auth_given, IsAgreed}
use Rattle.fwd_handshake.specs.Verdicts.{Claim, Ping, is_key_digest, ping_in, ping_of, is_of_user, is_of_a_user, lacks_claim, passing, ping_judged, ping_verdict, username_for, proof_for, answering, four_in, pong_judged, pong_verdict}
use Rattle.fwd_msgpack.proofs.Written.{written_elements, text_text}
use Rattle.fwd_handshake.proofs.Written.{texts, AreShort, row-text, row-texts, row-bool}

-- a digest has 128 bytes
length-key_digest : (salt host nonce key : List ℕ)
    → length (key_digest salt host nonce key) ≡ 128
unfolding sha512 digest_bytes encode_with
length-key_digest salt host nonce key = refl

length-password_digest : (auth user password : List ℕ)
    → length (password_digest auth user password) ≡ 128
unfolding sha512 digest_bytes encode_with
length-password_digest auth user password = refl

-- PING as strs behind the head of an array
ping_flat : (h s d u p : List ℕ)
    → ping_text h s d u p
    ≡ head_bytes (Arr 6) ++ texts (codes "PING" ∷ h ∷ s ∷ d ∷ u ∷ p ∷ [])
unfolding ping_text
ping_flat h s d u p = simp (append_assoc, append-nil {A = ℕ})

ping_word : is_word (codes "PING") (text (codes "PING")) ≡ true
unfolding head_bytes parts_of reading_of row_of named_rows
ping_word = refl

-- what stands behind the word of a PING
ping_values : (h s d u p : List ℕ) → AreShort (h ∷ s ∷ d ∷ u ∷ p ∷ [])
    → values_behind (codes "PING") (ping_text h s d u p)
    ≡ Some (text h ∷ text s ∷ text d ∷ text u ∷ text p ∷ [])
ping_values h s d u p short =
    let ws : List (List ℕ) = codes "PING" ∷ h ∷ s ∷ d ∷ u ∷ p ∷ [] in
    ap (λ (bytes : List ℕ). values_behind (codes "PING") bytes) (ping_flat h s d u p)
    ∙ ap (λ (e : Option (List (List ℕ))). option_and_then (behind (codes "PING")) e)
    (written_elements (Arr 6) (lit≤ tt) tt (texts ws) ∙ ap (λ (vs : List (List ℕ)). Some vs) (row-texts ws (lit≤ tt, short)))
    ∙ ap (λ (b : Bool). cond b (Some (text h ∷ text s ∷ text d ∷ text u ∷ text p ∷ [])) None) ping_word

-- what a written PING says
ping_said : (h s d u p : List ℕ) → AreShort (h ∷ s ∷ d ∷ u ∷ p ∷ [])
    → ping_of (ping_text h s d u p)
    ≡ Some (record {
      hostname = h;
      salt = s;
      digest = d;
      claim = Some (record { username = u; digest = p });
    })
ping_said h s d u p short =
    ap (λ (vs : Option (List (List ℕ))). option_and_then ping_in vs) (ping_values h s d u p short)
    ∙ rw (
      text_text h (omega (arith, short.0)),
      text_text s (omega (arith, short.1.0)),
      text_text d (omega (arith, short.1.1.0)),
      text_text u (omega (arith, short.1.1.1.0)),
      text_text p (omega (arith, short.1.1.1.1.0)),
    ) refl

-- ---- the server's side

same : (bytes : List ℕ) → bytes_eq bytes bytes ≡ true
same bytes = (bytes_eq-Decides bytes bytes).1 refl

both : (a b : Bool) → a && b ≡ true → (a ≡ true) × (b ≡ true)
both true b e = (refl, e)
both false b e = absurd (false≢true e)

-- a user with the login's username and password has its password digest
same_user : (login : Login) (auth : List ℕ) (user : User) → is_login_of login user ≡ true
    → is_of_user auth
    (record {
      username = login.username;
      digest = password_digest auth login.username login.password;
    })
    user
    ≡ true
same_user login auth user e =
    let parts = both (bytes_eq user.name login.username) (bytes_eq user.password login.password) e in
    let name : user.name ≡ login.username = (bytes_eq-Decides user.name login.username).0 parts.0 in
    let password : user.password ≡ login.password = (bytes_eq-Decides user.password login.password).0 parts.1 in
    rw (name, password, same login.username, same (password_digest auth login.username login.password)) refl

or_more : (a b c d : Bool) → (a ≡ true → c ≡ true) → (b ≡ true → d ≡ true)
    → a || b ≡ true → c || d ≡ true
or_more true b true d left right e = refl
or_more true b false d left right e = absurd (false≢true (left refl))
or_more false b true d left right e = refl
or_more false b false d left right e = right e

-- what passes one test passes a weaker one
any_more : (p q : User → Bool) → ((u : User) → p u ≡ true → q u ≡ true)
    → (users : List User) → list_any p users ≡ true → list_any q users ≡ true
any_more p q more [] e = e
any_more p q more (user ∷ users) e =
    or_more (p user) (list_any p users) (q user) (list_any q users) (more user) (any_more p q more users) e

-- the claim that a client makes is good
claim_good : (users : List User) (login : Login) (auth : List ℕ) → lets_in users login ≡ true
    → 0 < length auth
    → is_of_a_user users auth
    (Some (record {
      username = username_for login (auth_given users auth);
      digest = proof_for login (auth_given users auth);
    }))
    ≡ true
claim_good [] login auth e lt = refl
claim_good (user ∷ users) login [] e lt = absurd (omega arith)
claim_good (user ∷ users) login (byte ∷ auth) e lt =
    any_more (is_login_of login) (is_of_user (byte ∷ auth) (record { username = login.username; digest = password_digest (byte ∷ auth) login.username login.password }))
    (same_user login (byte ∷ auth)) (user ∷ users) e

claimed : (users : List User) (claim : Claim) → lacks_claim users (Some claim) ≡ false
claimed [] claim = refl
claimed (user ∷ users) claim = refl

short_name : (login : Login) (auth : List ℕ) → length login.username + 5 < 2 ^ 32
    → length (username_for login auth) + 5 < 2 ^ 32
short_name login [] lt = lit≤ tt
short_name login (byte ∷ auth) lt = lt

short_proof : (login : Login) (auth : List ℕ) → length (proof_for login auth) + 5 < 2 ^ 32
short_proof login [] = lit≤ tt
short_proof login (byte ∷ auth) = omega (arith, length-password_digest (byte ∷ auth) login.username login.password)

-- a client that knows what the server knows passes
pub ping_passes : (login : Login) (security : Security) (nonces : Nonces) (salt key : List ℕ)
    → IsAgreed login security salt key → 0 < length nonces.auth
    → ping_verdict security nonces
    (answering login salt nonces.nonce (auth_given security.users nonces.auth))
    ≡ Pass (passing security nonces.nonce salt)
unfolding ping_verdict
ping_passes login security nonces salt key agreed lt =
    let auth : List ℕ = auth_given security.users nonces.auth in
    let digest : List ℕ = key_digest salt login.hostname nonces.nonce key in
    let claim : Claim = record { username = username_for login auth; digest = proof_for login auth } in
    let said : Ping = record { hostname = login.hostname; salt = salt; digest = digest; claim = Some claim } in
    let written : ping_of (answering login salt nonces.nonce auth) ≡ Some said =
    rw agreed.client (ping_said login.hostname salt digest (username_for login auth) (proof_for login auth)
    (agreed.short_client, (agreed.short_salt, (omega (arith, length-key_digest salt login.hostname nonces.nonce key), (short_name login auth agreed.short_username, (short_proof login auth, tt)))))) in
    let keyed : is_key_digest security.shared_key salt login.hostname nonces.nonce digest ≡ true = rw agreed.server (same digest) in
    ap (λ (p : Option Ping). ping_judged security nonces p) written
    ∙ rw (claimed security.users claim, keyed, claim_good security.users login nonces.auth agreed.user lt) refl

-- ---- the client's side

pong_flat : (h d : List ℕ)
    → pong_text true [] h d
    ≡ head_bytes (Arr 5)
    ++ (text (codes "PONG") ++ (head_bytes (Boolean true) ++ texts ([] ∷ h ∷ d ∷ [])))
unfolding pong_text
pong_flat h d = simp (append_assoc, append-nil {A = ℕ})

pong_word : is_word (codes "PONG") (text (codes "PONG")) ≡ true
unfolding head_bytes parts_of reading_of row_of named_rows
pong_word = refl

true_bool : bool_of (head_bytes (Boolean true)) ≡ Some true
unfolding head_bytes parts_of reading_of row_of named_rows
true_bool = refl

-- what stands behind the word of a PONG
pong_values : (h d : List ℕ) → AreShort (h ∷ d ∷ [])
    → values_behind (codes "PONG") (pong_text true [] h d)
    ≡ Some (head_bytes (Boolean true) ∷ text [] ∷ text h ∷ text d ∷ [])
pong_values h d short =
    let ws : List (List ℕ) = [] ∷ h ∷ d ∷ [] in
    let rest : List ℕ = head_bytes (Boolean true) ++ texts ws in
    ap (λ (bytes : List ℕ). values_behind (codes "PONG") bytes) (pong_flat h d)
    ∙ ap (λ (e : Option (List (List ℕ))). option_and_then (behind (codes "PONG")) e) (
    written_elements (Arr 5) (lit≤ tt) tt (text (codes "PONG") ++ rest)
    ∙ ap (λ (vs : List (List ℕ)). Some vs) (
    row-text (codes "PONG") rest (lit≤ tt)
    ∙ ap (λ (vs : List (List ℕ)). text (codes "PONG") ∷ vs) (
    row-bool true (texts ws)
    ∙ ap (λ (vs : List (List ℕ)). head_bytes (Boolean true) ∷ vs) (row-texts ws (lit≤ tt, short))
    )
    )
    )
    ∙ ap (λ (b : Bool). cond b (Some (head_bytes (Boolean true) ∷ text [] ∷ text h ∷ text d ∷ [])) None) pong_word

-- a server that knows what the client knows is taken
pub pong_passes : (login : Login) (security : Security) (nonce salt key : List ℕ)
    → IsAgreed login security salt key
    → pong_verdict login salt nonce (passing security nonce salt) ≡ pong.Pass
unfolding pong_verdict
pong_passes login security nonce salt key agreed =
    let host : List ℕ = security.hostname in
    let digest : List ℕ = key_digest salt host nonce key in
    let short : length digest + 5 < 2 ^ 32 = omega (arith, length-key_digest salt host nonce key) in
    let written : values_behind (codes "PONG") (passing security nonce salt) ≡ Some (head_bytes (Boolean true) ∷ text [] ∷ text host ∷ text digest ∷ []) =
    rw agreed.server (pong_values host digest (agreed.short_server, (short, tt))) in
    let keyed : is_key_digest login.shared_key salt host nonce digest ≡ true = rw agreed.client (same digest) in
    ap (λ (vs : Option (List (List ℕ))). pong_judged login salt nonce (option_and_then four_in vs)) written
    ∙ rw (true_bool, text_text [] (lit≤ tt), text_text host (omega (arith, agreed.short_server)), text_text digest (omega (arith, short)), keyed) refl
