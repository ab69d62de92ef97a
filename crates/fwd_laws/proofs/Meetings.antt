-- Two sides that hear each other's bytes come to terms, or the session is denied.
use Rattle.std.proofs.Common.{◌≡◌, ℕ, suc, ◌+◌, ◌<◌, ◌≤◌, ◌^◌, Bool, true, false, cond, List, [], ◌∷◌, ◌++◌, length, Option, Some, None, lit≤, refl, sym, ap, subst, ◌∙◌, append_assoc, arith}
use Rattle.std.specs.Prelude.{codes, map, replicate, is_some, option_and_then, unwrap_or}
use Rattle.std.specs.List.{concat, AllByRecursion}
use Rattle.std.proofs.lemmas.List.{append-nil, length-append, drop_all}
use Rattle.fwd_msgpack.specs.declared.head.Head.TheVariants.{Bool as Boolean, Str, Bin, Arr, Map}
use Rattle.fwd_msgpack.specs.Heads.{head_bytes, reading_of, row_of, named_rows}
use Rattle.fwd_msgpack.specs.Scans.{Split, parts_of, text_of, elements_of, split_of, continued, with_front, values_of, is_nil, is_nil_head}
use Rattle.fwd_msgpack.specs.Scans.Split.{Open, Broken}
use Rattle.fwd_msgpack.specs.declared.fault.ScanFault.{ScanFault}
use Rattle.fwd_msgpack.specs.Texts.{text}
use Rattle.fwd_msgpack.specs.Values.{IsPlain, IsValue}
use Rattle.fwd_msgpack.proofs.Written.{values_split, values_row, written_head, written_elements, written_plain, written_container, text_plain, plain_value, container_value, in_a_row, text_text}
use Rattle.fwd_msgpack.proofs.Rows.{split_append}
use Rattle.fwd_handshake.specs.declared.credentials.User.{User}
use Rattle.fwd_handshake.specs.declared.credentials.Security.{Security}
use Rattle.fwd_handshake.specs.declared.credentials.Login.{Login}
use Rattle.fwd_handshake.specs.declared.nonces.Nonces.{Nonces}
use Rattle.fwd_handshake.specs.declared.verdict.Denial.{Denial}
use Rattle.fwd_handshake.specs.declared.verdict.Denial.TheVariants.{KeyMismatch, UserMismatch}
use Rattle.fwd_handshake.specs.declared.verdict.PingVerdict.{PingVerdict}
use Rattle.fwd_handshake.specs.declared.verdict.PingVerdict.TheVariants as ping
use Rattle.fwd_handshake.specs.declared.verdict.PongVerdict.TheVariants as pong
use Rattle.fwd_handshake.specs.Agreements.{IsAgreed, auth_given}
use Rattle.fwd_handshake.specs.Digests.{key_digest}
use Rattle.fwd_handshake.specs.Messages.{binary, auth_value, helo_text, ping_text, pong_text, reason, denying}
use Rattle.fwd_handshake.specs.Readings.{is_word, behind, bool_of}
use Rattle.fwd_handshake.specs.Verdicts.{Claim, Ping, ping_in, ping_of, lacks_claim, denial_of, username_for, proof_for, answering, passing, ping_answer, ping_judged, ping_verdict, four_in, pong_with, pong_judged, pong_verdict}
use Rattle.fwd_handshake.proofs.Written.{bool_plain}
use Rattle.fwd_handshake.proofs.Answered.{helo_answered}
use Rattle.fwd_handshake.proofs.Agreeing.{ping_passes, pong_passes}
use Rattle.fwd_source.specs.Judged.{Judged, resting, welcomed, judge_stream, judged_of}
use Rattle.fwd_source.specs.History.{Setup as SourceSetup, is_guarded}
use Rattle.fwd_source.specs.Live.{LiveSource, opened_source, source_drains, source_hears, live_piece_next, live_pieces_next}
use Rattle.fwd_source.proofs.Pieces.{pieces_are_one}
use Rattle.fwd_session.specs.declared.limits.TheConstants.{REPLY_LIMIT, REPLY_NESTING}
use Rattle.fwd_session.specs.declared.fault.SessionFault.TheVariants as fault
use Rattle.fwd_session.specs.declared.handshake.Handshake.{Handshake}
use Rattle.fwd_session.specs.declared.handshake.Handshake.TheVariants.{AwaitsHelo, AwaitsPong, Done}
use Rattle.fwd_session.specs.declared.told.SessionHeard.{SessionHeard}
use Rattle.fwd_session.specs.declared.told.SessionHeard.TheVariants as told
use Rattle.fwd_session.specs.Said.{Word, Said, helo_word, pong_word, spoken, word_of, word_then, said_of, said_in, silence, failing, sending, reply_stream, rest_of}
use Rattle.fwd_session.specs.Said.Word.{Skipped, Greets, Fails}
use Rattle.fwd_session.specs.History.{Setup, first_handshake, told_of}
use Rattle.fwd_session.specs.Live.{LiveSession, live_is_ready, live_piece_told, session_begins, session_sends, session_takes, session_hears, session_hears_all}
use Rattle.fwd_laws.specs.Meeting.{Meeting, IsJoined, AreWithin, IsToldOnce, IsReady, IsRefused, said_by_ping, pieces_told, pong_told, heard_helo, heard_ping, uncut, source_after_helo, session_after_helo, session_after_ping, source_after_ping, source_after_pong, session_after_pong, done_session, done_source}
use Rattle.fwd_session.proofs.Pieces.{hears_many}

-- ---- each text is one value

-- one value is a stream of just this
one_split : (limit most deep : ℕ) (v : List ℕ) → IsValue deep v → deep ≤ most
    → length v ≤ limit → split_of limit most v ≡ Open (v ∷ []) []
one_split limit most deep v value shallow short =
    ap (split_of limit most) (sym (append-nil v))
    ∙ values_split limit most deep (v ∷ []) (value, tt) shallow (subst (λ (xs : List ℕ). length xs ≤ limit) (sym (append-nil v)) short)

one_reply : (deep : ℕ) (v : List ℕ) → IsValue deep v → deep ≤ 64 → length v ≤ REPLY_LIMIT
    → reply_stream v ≡ Open (v ∷ []) []
unfolding reply_stream
one_reply deep v value shallow short = one_split REPLY_LIMIT REPLY_NESTING deep v value shallow short

-- an array is not nil
array_not_nil : (n : ℕ) → n < 2 ^ 32 → (body : List ℕ) → is_nil (head_bytes (Arr n) ++ body) ≡ false
array_not_nil n lt body = ap is_nil_head (written_head (Arr n) lt tt body)

-- an array of these values is a value
array_value : (deep : ℕ) (vs : List (List ℕ)) → length vs < 2 ^ 32
    → AllByRecursion (IsValue deep) vs
    → IsValue (deep + 1) (head_bytes (Arr (length vs)) ++ concat vs)
array_value deep vs lt each =
    subst (λ n. IsValue n (head_bytes (Arr (length vs)) ++ concat vs)) (omega arith)
    (container_value deep (head_bytes (Arr (length vs)) ++ concat vs) (written_container (Arr (length vs)) lt tt (IsValue deep) (concat vs) refl (in_a_row (IsValue deep) vs each)))

-- texts that are short together are short each
words_short : (ws : List (List ℕ)) → length (concat (map text ws)) < 2 ^ 32
    → AllByRecursion (λ w. length w < 2 ^ 32) ws
words_short [] lt = tt
words_short (w ∷ ws) lt =
    let one = length-append (text w) (concat (map text ws)) in
    let two = length-append (head_bytes (Str (length w))) w in
    (omega (arith, lt, one, two), words_short ws (omega (arith, lt, one)))

text_values : (ws : List (List ℕ)) → AllByRecursion (λ w. length w < 2 ^ 32) ws
    → AllByRecursion (IsValue 0) (map text ws)
text_values [] short = tt
text_values (w ∷ ws) short = (plain_value 0 (text w) (text_plain w short.0), text_values ws short.1)

-- HELO

auth_plain : (users : List User) (auth : List ℕ) → length (auth_value users auth) ≤ REPLY_LIMIT
    → IsPlain (auth_value users auth)
auth_plain [] auth short = text_plain [] (lit≤ tt)
auth_plain (user ∷ users) auth short =
    written_plain (Bin (length auth)) (omega (arith, short, length-append (head_bytes (Bin (length auth))) auth)) tt auth refl refl

module _ (users : List User) (nonce auth : List ℕ)
    (sized : length (helo_text users nonce auth) ≤ REPLY_LIMIT) where
  abbrev given : List ℕ
  given = auth_value users auth

  abbrev kept : List ℕ
  kept = head_bytes (Boolean true)

  abbrev members : List (List ℕ)
  members = text (codes "nonce") ∷ binary nonce ∷ text (codes "auth") ∷ given ∷ text (codes "keepalive") ∷ kept ∷ []

  abbrev options : List ℕ
  options = head_bytes (Map 3) ++ concat members

  abbrev parts : List (List ℕ)
  parts = text (codes "HELO") ∷ options ∷ []

  helo_joined : helo_text users nonce auth ≡ head_bytes (Arr 2) ++ concat parts
  unfolding helo_text
  helo_joined = simp (append_assoc, append-nil {A = ℕ})

  record Sizes : Type 0 where
    of_nonce : length nonce < 2 ^ 32
    of_auth : length given ≤ REPLY_LIMIT

  sizes : Sizes
  sizes =
      let whole = ap length helo_joined ∙ length-append (head_bytes (Arr 2)) (text (codes "HELO") ++ (options ++ [])) in
      let first = length-append (text (codes "HELO")) (options ++ []) in
      let last = length-append options [] in
      let body = length-append (head_bytes (Map 3)) (concat members) in
      let one = length-append (text (codes "nonce")) (binary nonce ++ (text (codes "auth") ++ (given ++ (text (codes "keepalive") ++ (kept ++ []))))) in
      let two = length-append (binary nonce) (text (codes "auth") ++ (given ++ (text (codes "keepalive") ++ (kept ++ [])))) in
      let three = length-append (text (codes "auth")) (given ++ (text (codes "keepalive") ++ (kept ++ []))) in
      let four = length-append given (text (codes "keepalive") ++ (kept ++ [])) in
      let of_bin = length-append (head_bytes (Bin (length nonce))) nonce in
      record {
        of_nonce = omega (arith, whole, first, last, body, one, two, of_bin, sized);
        of_auth = omega (arith, whole, first, last, body, one, two, three, four, sized);
      }

  member_values : AllByRecursion (IsValue 0) members
  member_values = (
    plain_value 0 (text (codes "nonce")) (text_plain (codes "nonce") (lit≤ tt)),
    (
      plain_value 0 (binary nonce) (written_plain (Bin (length nonce)) sizes.of_nonce tt nonce refl refl),
      (
        plain_value 0 (text (codes "auth")) (text_plain (codes "auth") (lit≤ tt)),
        (
          plain_value 0 given (auth_plain users auth sizes.of_auth),
          (
            plain_value 0 (text (codes "keepalive")) (text_plain (codes "keepalive") (lit≤ tt)),
            (plain_value 0 kept (bool_plain true), tt),
          ),
        ),
      ),
    ),
  )

  options_value : IsValue 1 options
  options_value = container_value 0 options (written_container (Map 3) (lit≤ tt) tt (IsValue 0) (concat members) refl (in_a_row (IsValue 0) members member_values))

  helo_value : IsValue 2 (helo_text users nonce auth)
  helo_value = subst (IsValue 2) (sym helo_joined) (array_value 1 parts (lit≤ tt) (plain_value 1 (text (codes "HELO")) (text_plain (codes "HELO") (lit≤ tt)), (options_value, tt)))

  helo_reply : reply_stream (helo_text users nonce auth) ≡ Open (helo_text users nonce auth ∷ []) []
  helo_reply = one_reply 2 (helo_text users nonce auth) helo_value (lit≤ tt) sized

  helo_not_nil : is_nil (helo_text users nonce auth) ≡ false
  helo_not_nil = ap is_nil helo_joined ∙ array_not_nil 2 (lit≤ tt) (concat parts)

-- PING

ping_joined : (h s d u p : List ℕ)
    → ping_text h s d u p
    ≡ head_bytes (Arr 6) ++ concat (map text (codes "PING" ∷ h ∷ s ∷ d ∷ u ∷ p ∷ []))
unfolding ping_text
ping_joined h s d u p = simp (append_assoc, append-nil {A = ℕ})

abbrev ping_words : (h s d u p : List ℕ) → List (List ℕ)
ping_words h s d u p = codes "PING" ∷ h ∷ s ∷ d ∷ u ∷ p ∷ []

ping_size : (h s d u p : List ℕ) → length (ping_text h s d u p) < 2 ^ 32
    → length (concat (map text (ping_words h s d u p))) < 2 ^ 32
ping_size h s d u p lt =
    omega (arith, lt, ap length (ping_joined h s d u p), length-append (head_bytes (Arr 6)) (concat (map text (ping_words h s d u p))))

ping_value : (h s d u p : List ℕ) → length (ping_text h s d u p) < 2 ^ 32
    → IsValue 1 (ping_text h s d u p)
ping_value h s d u p lt =
    let ws = ping_words h s d u p in
    subst (IsValue 1) (sym (ping_joined h s d u p)) (array_value 0 (map text ws) (lit≤ tt) (text_values ws (words_short ws (ping_size h s d u p lt))))

ping_word_read : is_word (codes "PING") (text (codes "PING")) ≡ true
unfolding head_bytes parts_of reading_of row_of named_rows
ping_word_read = refl

-- what a written PING says
ping_said : (h s d u p : List ℕ) → length (ping_text h s d u p) < 2 ^ 32
    → ping_of (ping_text h s d u p)
    ≡ Some
    (record {
      hostname = h;
      salt = s;
      digest = d;
      claim = Some
          (record { username = u; digest = p });
    })
ping_said h s d u p lt =
    let ws = ping_words h s d u p in
    let size = ping_size h s d u p lt in
    let short = words_short ws size in
    ap (λ (bytes : List ℕ). option_and_then ping_in (option_and_then (behind (codes "PING")) (elements_of bytes))) (ping_joined h s d u p)
    ∙ ap (λ (e : Option (List (List ℕ))). option_and_then ping_in (option_and_then (behind (codes "PING")) e)) (
    written_elements (Arr 6) (lit≤ tt) tt (concat (map text ws))
    ∙ ap (λ (xs : List (List ℕ)). Some xs) (values_row 0 (map text ws) (text_values ws short) (lit≤ tt) (omega (arith, size)))
    )
    ∙ ap (λ (b : Bool). option_and_then ping_in (cond b (Some (text h ∷ text s ∷ text d ∷ text u ∷ text p ∷ [])) None)) ping_word_read
    ∙ rw (
      text_text h short.1.0,
      text_text s short.1.1.0,
      text_text d short.1.1.1.0,
      text_text u short.1.1.1.1.0,
      text_text p short.1.1.1.1.1.0,
    ) refl

claimed : (users : List User) (claim : Claim) → lacks_claim users (Some claim) ≡ false
claimed [] claim = refl
claimed (user ∷ users) claim = refl

-- a PING that there is cause to deny is denied
ping_denied : (security : Security) (nonces : Nonces) (h s d u p : List ℕ) (denial : Denial)
    → length (ping_text h s d u p) < 2 ^ 32
    → denial_of security nonces
    (record {
      hostname = h;
      salt = s;
      digest = d;
      claim = Some
          (record { username = u; digest = p });
    }) ≡ Some denial
    → ping_verdict security nonces (ping_text h s d u p) ≡ ping.Deny (denying denial) denial
unfolding ping_verdict
ping_denied security nonces h s d u p denial lt cause =
    let said : Ping = record { hostname = h; salt = s; digest = d; claim = Some (record { username = u; digest = p }) } in
    ap (λ (x : Option Ping). ping_judged security nonces x) (ping_said h s d u p lt)
    ∙ ap (λ (b : Bool). cond b ping.NotPing (ping_answer security nonces.nonce s (denial_of security nonces said))) (claimed security.users (record { username = u; digest = p }))
    ∙ ap (λ (x : Option Denial). ping_answer security nonces.nonce s x) cause

-- PONG

abbrev pong_parts : Bool → (reason host digest : List ℕ) → List (List ℕ)
pong_parts passed r h d = text (codes "PONG") ∷ head_bytes (Boolean passed) ∷ map text (r ∷ h ∷ d ∷ [])

pong_joined : (passed : Bool) (r h d : List ℕ)
    → pong_text passed r h d ≡ head_bytes (Arr 5) ++ concat (pong_parts passed r h d)
unfolding pong_text
pong_joined passed r h d = simp (append_assoc, append-nil {A = ℕ})

pong_values : (passed : Bool) (r h d : List ℕ)
    → length (concat (pong_parts passed r h d)) < 2 ^ 32
    → AllByRecursion (IsValue 0) (pong_parts passed r h d)
pong_values passed r h d lt =
    let rest = concat (map text (r ∷ h ∷ d ∷ [])) in
    let one = length-append (text (codes "PONG")) (head_bytes (Boolean passed) ++ rest) in
    let two = length-append (head_bytes (Boolean passed)) rest in
    (plain_value 0 (text (codes "PONG")) (text_plain (codes "PONG") (lit≤ tt)), (plain_value 0 (head_bytes (Boolean passed)) (bool_plain passed), text_values (r ∷ h ∷ d ∷ []) (words_short (r ∷ h ∷ d ∷ []) (omega (arith, lt, one, two)))))

pong_reply : (passed : Bool) (r h d : List ℕ) → length (pong_text passed r h d) ≤ REPLY_LIMIT
    → reply_stream (pong_text passed r h d) ≡ Open (pong_text passed r h d ∷ []) []
pong_reply passed r h d le =
    let size = ap length (pong_joined passed r h d) ∙ length-append (head_bytes (Arr 5)) (concat (pong_parts passed r h d)) in
    let value : IsValue 1 (pong_text passed r h d) = subst (IsValue 1) (sym (pong_joined passed r h d)) (array_value 0 (pong_parts passed r h d) (lit≤ tt) (pong_values passed r h d (omega (arith, le, size)))) in
    one_reply 1 (pong_text passed r h d) value (lit≤ tt) le

pong_not_nil : (passed : Bool) (r h d : List ℕ) → is_nil (pong_text passed r h d) ≡ false
pong_not_nil passed r h d = ap is_nil (pong_joined passed r h d) ∙ array_not_nil 5 (lit≤ tt) (concat (pong_parts passed r h d))

pong_word_read : is_word (codes "PONG") (text (codes "PONG")) ≡ true
unfolding head_bytes parts_of reading_of row_of named_rows
pong_word_read = refl

false_read : bool_of (head_bytes (Boolean false)) ≡ Some false
unfolding head_bytes parts_of reading_of row_of named_rows
false_read = refl

-- a PONG that says no is taken so
pong_denied : (login : Login) (salt nonce r : List ℕ)
    → length (pong_text false r [] []) ≤ REPLY_LIMIT
    → pong_verdict login salt nonce (pong_text false r [] []) ≡ pong.Denied
unfolding pong_verdict
pong_denied login salt nonce r le =
    let vs = pong_parts false r [] [] in
    let size = ap length (pong_joined false r [] []) ∙ length-append (head_bytes (Arr 5)) (concat vs) in
    let rest : List (List ℕ) = head_bytes (Boolean false) ∷ map text (r ∷ [] ∷ [] ∷ []) in
    ap (λ (bytes : List ℕ). pong_judged login salt nonce (option_and_then four_in (option_and_then (behind (codes "PONG")) (elements_of bytes)))) (pong_joined false r [] [])
    ∙ ap (λ (e : Option (List (List ℕ))). pong_judged login salt nonce (option_and_then four_in (option_and_then (behind (codes "PONG")) e))) (
    written_elements (Arr 5) (lit≤ tt) tt (concat vs)
    ∙ ap (λ (xs : List (List ℕ)). Some xs) (values_row 0 vs (pong_values false r [] [] (omega (arith, le, size))) (lit≤ tt) (omega (arith, le, size)))
    )
    ∙ ap (λ (b : Bool). pong_judged login salt nonce (option_and_then four_in (cond b (Some rest) None))) pong_word_read
    ∙ ap (λ (o : Option Bool). pong_with login salt nonce o (text_of (text r)) (text_of (text [])) (text_of (text []))) false_read

denying_short : (denial : Denial) → length (denying denial) ≤ REPLY_LIMIT
unfolding pong_text head_bytes
denying_short KeyMismatch = lit≤ tt
denying_short UserMismatch = lit≤ tt

-- ---- one value at a session without a chunk

-- a session that came this far in its handshake, and has sent all
abbrev going : Setup → Handshake → LiveSession
going setup at = record (session_begins setup) { handshake = at }

said_one : (login : Login) (salt : List ℕ) (at : Handshake) (v : List ℕ) (w : Word)
    → is_nil v ≡ false → spoken login salt at [] v ≡ w
    → said_of login salt at [] (v ∷ []) silence
    ≡ word_then at [] v w (λ next name. silence next)
unfolding word_of
said_one login salt at v w nil says =
    ap (λ (b : Bool). word_then at [] v (cond b Skipped (spoken login salt at [] v)) (λ next name. silence next)) nil
    ∙ ap (λ (x : Word). word_then at [] v x (λ next name. silence next)) says

hears_one : (setup : Setup) (at : Handshake) (v : List ℕ) (w : Word)
    → reply_stream v ≡ Open (v ∷ []) [] → is_nil v ≡ false
    → spoken setup.login setup.salt at [] v ≡ w
    → session_hears (going setup at) v
    ≡ session_takes (going setup at) (word_then at [] v w (λ next name. silence next)) []
hears_one setup at v w stream nil says =
    ap (λ (s : Split). session_takes (going setup at) (said_in setup.login setup.salt at [] s) (rest_of s)) stream
    ∙ ap (λ (x : Said). session_takes (going setup at) x []) (said_one setup.login setup.salt at v w nil says)

-- pieces of a text that is not empty
hears_joined : (setup : Setup) (at : Handshake) (pieces : List (List ℕ)) (whole : List ℕ)
    → 0 < length whole → concat pieces ≡ whole
    → session_hears_all (going setup at) pieces ≡ session_hears (going setup at) whole
hears_joined setup at [] whole lt e = absurd (omega (arith, lt, ap length e))
hears_joined setup at (bytes ∷ pieces) whole lt e =
    hears_many pieces (going setup at) bytes ∙ ap (session_hears (going setup at)) e

source_joined : (s : LiveSource) (pieces : List (List ℕ)) (whole : List ℕ)
    → 0 < length whole → concat pieces ≡ whole
    → live_pieces_next s pieces ≡ live_piece_next s whole
source_joined s [] whole lt e = absurd (omega (arith, lt, ap length e))
source_joined s (bytes ∷ pieces) whole lt e = pieces_are_one s bytes pieces ∙ ap (live_piece_next s) e

array_some : (head body whole : List ℕ) → length head ≡ 1
    → whole ≡ head ++ body → 0 < length whole
array_some head body whole one e = omega (arith, one, ap length e, length-append head body)

helo_head : length (head_bytes (Arr 2)) ≡ 1
unfolding head_bytes
helo_head = refl

ping_head : length (head_bytes (Arr 6)) ≡ 1
unfolding head_bytes
ping_head = refl

pong_head : length (head_bytes (Arr 5)) ≡ 1
unfolding head_bytes
pong_head = refl

takes_helo : (setup : Setup) (ping nonce : List ℕ)
    → session_takes (going setup AwaitsHelo) (sending ping (silence (AwaitsPong nonce true))) []
    ≡ record (going setup (AwaitsPong nonce true)) { waiting = ping }
unfolding session_takes
takes_helo setup ping nonce = λ i. record (going setup (AwaitsPong nonce true)) { waiting = append-nil ping i }

takes_pong : (setup : Setup) (at : Handshake)
    → session_takes (going setup at) (sending [] (silence (Done true))) []
    ≡ done_session (session_begins setup)
unfolding session_takes
takes_pong setup at = refl

takes_denial : (setup : Setup) (at : Handshake)
    → session_takes (going setup at) (failing fault.Denied at) []
    ≡ record (going setup at) { down = true }
unfolding session_takes
takes_denial setup at = refl

-- ---- what each piece of a text is told

-- a session that came this far, and has bytes of an unfinished value
abbrev resting_at : Setup → Handshake → List ℕ → LiveSession
resting_at setup at rest = record (going setup at) { rest = rest }

-- more bytes of a stream
abbrev reply_continued : Split → List ℕ → Split
reply_continued (Open vs rest) more = with_front vs (reply_stream (rest ++ more))
reply_continued (Broken vs broken) more = Broken vs broken

cut : (a b : List ℕ) (s : Split) → reply_stream a ≡ s → reply_stream (a ++ b) ≡ reply_continued s b
unfolding reply_stream
cut a b s e = split_append REPLY_LIMIT REPLY_NESTING a b ∙ ap (λ (x : Split). continued REPLY_LIMIT REPLY_NESTING x b) e ∙ at s
  where
    at : (x : Split) → continued REPLY_LIMIT REPLY_NESTING x b ≡ reply_continued x b
    at (Open vs rest) = refl
    at (Broken vs broken) = refl

no_front : (s : Split) → s ≡ with_front [] s
no_front (Open vs rest) = refl
no_front (Broken vs broken) = refl

not_broken : (vs ws : List (List ℕ)) (broken : ScanFault) (rest : List ℕ)
    → Broken vs broken ≡ Open ws rest → ⊥
not_broken vs ws broken rest e = cc

not_none : (v : List ℕ) (vs : List (List ℕ)) (s : Split) (rest : List ℕ)
    → with_front (v ∷ vs) s ≡ Open [] rest → ⊥
not_none v vs (Open ws r) rest e = cc
not_none v vs (Broken ws broken) rest e = cc

-- a front of one value, with nothing behind it
record OneFront (us : List (List ℕ)) (v : List ℕ) (s : Split) : Type 0 where
  front : us ≡ v ∷ []
  behind : s ≡ Open [] []

one_front : (u : List ℕ) (us : List (List ℕ)) (v : List ℕ) (s : Split)
    → with_front (u ∷ us) s ≡ Open (v ∷ []) [] → OneFront (u ∷ us) v s
one_front u [] v (Open [] r) e = record { front = ap values_of e; behind = ap (λ (x : Split). Open [] (rest_of x)) e }
one_front u [] v (Open (w ∷ ws) r) e = absurd cc
one_front u (x ∷ us) v (Open ws r) e = absurd cc
one_front u us v (Broken ws broken) e = absurd cc

-- what a piece does, and what it is told, by the stream
hears_split : (setup : Setup) (at : Handshake) (rest bytes : List ℕ) (s : Split)
    → reply_stream (rest ++ bytes) ≡ s
    → session_hears (resting_at setup at rest) bytes
    ≡ session_takes (resting_at setup at rest) (said_in setup.login setup.salt at [] s)
    (rest_of s)
hears_split setup at rest bytes s e =
    ap (λ (x : Split). session_takes (resting_at setup at rest) (said_in setup.login setup.salt at [] x) (rest_of x)) e

told_split : (setup : Setup) (at : Handshake) (rest bytes : List ℕ) (s : Split)
    → reply_stream (rest ++ bytes) ≡ s
    → live_piece_told (resting_at setup at rest) bytes ≡ told_of at
    (said_in setup.login setup.salt at [] s)
told_split setup at rest bytes s e = ap (λ (x : Split). told_of at (said_in setup.login setup.salt at [] x)) e

takes_nothing : (setup : Setup) (at : Handshake) (rest left : List ℕ)
    → session_takes (resting_at setup at rest) (silence at) left ≡ resting_at setup at left
unfolding session_takes
takes_nothing setup at rest left = refl

told_nothing : (at : Handshake) → told_of at (silence at) ≡ told.Quiet
told_nothing AwaitsHelo = refl
told_nothing (AwaitsPong nonce keepalive) = refl
told_nothing (Done keepalive) = refl

-- a piece that ends no value
quiet_piece : (setup : Setup) (at : Handshake) (rest bytes left : List ℕ) (pieces : List (List ℕ))
    → reply_stream (rest ++ bytes) ≡ Open [] left
    → pieces_told (resting_at setup at rest) (bytes ∷ pieces)
    ≡ told.Quiet ∷ pieces_told (resting_at setup at left) pieces
quiet_piece setup at rest bytes left pieces e =
    (λ i. told_split setup at rest bytes (Open [] left) e i ∷ pieces_told (hears_split setup at rest bytes (Open [] left) e i) pieces)
    ∙ (λ i. told_nothing at i ∷ pieces_told (takes_nothing setup at rest left i) pieces)

-- what is behind a piece, by its stream
behind_piece : (rest bytes : List ℕ) (pieces : List (List ℕ)) (s t : Split)
    → reply_stream (rest ++ bytes) ≡ s → reply_stream (rest ++ concat (bytes ∷ pieces)) ≡ t
    → reply_continued s (concat pieces) ≡ t
behind_piece rest bytes pieces s t d e =
    sym (cut (rest ++ bytes) (concat pieces) s d) ∙ ap reply_stream (append_assoc rest bytes (concat pieces)) ∙ e

-- pieces that end no value
quiet_pieces : (setup : Setup) (at : Handshake) (rest left : List ℕ) (pieces : List (List ℕ))
    → reply_stream (rest ++ concat pieces) ≡ Open [] left
    → pieces_told (resting_at setup at rest) pieces ≡ replicate (length pieces) told.Quiet
quiet_pieces setup at rest left [] e = refl
quiet_pieces setup at rest left (bytes ∷ pieces) e = by (λ r f. quiet_pieces setup at r left pieces f) (reply_stream (rest ++ bytes)) refl
  where
    by : ((r : List ℕ) → reply_stream (r ++ concat pieces) ≡ Open [] left
        → pieces_told (resting_at setup at r) pieces ≡ replicate (length pieces) told.Quiet)
        → (s : Split) → reply_stream (rest ++ bytes) ≡ s
        → pieces_told (resting_at setup at rest) (bytes ∷ pieces) ≡ replicate
        (length (bytes ∷ pieces)) told.Quiet
    by more (Open [] r) d =
        quiet_piece setup at rest bytes r pieces d
        ∙ ap (λ (ts : List SessionHeard). told.Quiet ∷ ts) (more r (no_front (reply_stream (r ++ concat pieces)) ∙ behind_piece rest bytes pieces (Open [] r) (Open [] left) d e))
    by more (Open (v ∷ vs) r) d = absurd (not_none v vs (reply_stream (r ++ concat pieces)) left (behind_piece rest bytes pieces (Open (v ∷ vs) r) (Open [] left) d e))
    by more (Broken vs broken) d = absurd (not_broken vs [] broken left (behind_piece rest bytes pieces (Broken vs broken) (Open [] left) d e))

-- pieces to a session that is down
down_pieces : (s : LiveSession) (pieces : List (List ℕ))
    → pieces_told (record s { down = true }) pieces ≡ replicate (length pieces) told.NotUp
down_pieces s [] = refl
down_pieces s (bytes ∷ pieces) = ap (λ (ts : List SessionHeard). told.NotUp ∷ ts) (down_pieces s pieces)

-- a piece that ends these values, with others behind it
last_piece : (setup : Setup) (at : Handshake) (rest bytes left : List ℕ) (us : List (List ℕ))
    (said : Said)
    (pieces : List (List ℕ)) (behind : SessionHeard) → reply_stream (rest ++ bytes) ≡ Open us left
    → said_of setup.login setup.salt at [] us silence ≡ said
    → pieces_told (session_takes (resting_at setup at rest) said left) pieces ≡ replicate
    (length pieces) behind
    → pieces_told (resting_at setup at rest) (bytes ∷ pieces) ≡ told_of at said ∷ replicate
    (length pieces) behind
last_piece setup at rest bytes left us said pieces behind e says then =
    (λ i. told_split setup at rest bytes (Open us left) e i ∷ pieces_told (hears_split setup at rest bytes (Open us left) e i) pieces)
    ∙ (λ i. told_of at (says i) ∷ pieces_told (session_takes (resting_at setup at rest) (says i) left) pieces)
    ∙ ap (λ (ts : List SessionHeard). told_of at said ∷ ts) then

-- what each piece behind the value is told
abbrev Behind : Setup → Handshake → Said → SessionHeard → Type 0
Behind setup at said behind =
    (rest left : List ℕ) (pieces : List (List ℕ)) → reply_stream (left ++ concat pieces) ≡ Open [] []
    → pieces_told (session_takes (resting_at setup at rest) said left) pieces ≡ replicate (length pieces) behind

told_later : (all later : List SessionHeard) (one behind : SessionHeard) → all ≡ told.Quiet ∷ later
    → IsToldOnce later one behind → IsToldOnce all one behind
told_later all later one behind e more = record {
  before = suc more.before;
  after = more.after;
  all = e ∙ ap (λ (ts : List SessionHeard). told.Quiet ∷ ts) more.all;
}

-- pieces that together are one value
value_pieces : (setup : Setup) (at : Handshake) (v : List ℕ) (said : Said) (behind : SessionHeard)
    → said_of setup.login setup.salt at [] (v ∷ []) silence ≡ said → Behind setup at said behind
    → (rest some : List ℕ) (pieces : List (List ℕ)) → reply_stream rest ≡ Open [] some
    → reply_stream (rest ++ concat pieces) ≡ Open (v ∷ []) []
    → IsToldOnce (pieces_told (resting_at setup at rest) pieces) (told_of at said) behind
value_pieces setup at v said behind says then rest some [] none e =
    absurd (not_none v [] (Open [] []) some (sym e ∙ ap reply_stream (append-nil rest) ∙ none))
value_pieces setup at v said behind says then rest some (bytes ∷ pieces) none e =
    by (λ r f g. value_pieces setup at v said behind says then r r pieces f g) (reply_stream (rest ++ bytes)) refl
  where
    by :
        ((r : List ℕ) → reply_stream r ≡ Open [] r → reply_stream (r ++ concat pieces)
        ≡ Open (v ∷ []) []
        → IsToldOnce (pieces_told (resting_at setup at r) pieces) (told_of at said) behind)
        → (s : Split) → reply_stream (rest ++ bytes) ≡ s
        → IsToldOnce (pieces_told (resting_at setup at rest) (bytes ∷ pieces))
        (told_of at said) behind
    by rests (Open [] r) d =
        let still : reply_stream r ≡ Open [] r =
        ap reply_stream (sym (append-nil r)) ∙ no_front (reply_stream (r ++ []))
        ∙ sym (cut (rest ++ bytes) [] (Open [] r) d) ∙ ap reply_stream (append-nil (rest ++ bytes)) ∙ d in
        let more = rests r still (no_front (reply_stream (r ++ concat pieces)) ∙ behind_piece rest bytes pieces (Open [] r) (Open (v ∷ []) []) d e) in
        told_later (pieces_told (resting_at setup at rest) (bytes ∷ pieces)) (pieces_told (resting_at setup at r) pieces) (told_of at said) behind (quiet_piece setup at rest bytes r pieces d) more
    by rests (Open (u ∷ us) r) d =
        let one = one_front u us v (reply_stream (r ++ concat pieces)) (behind_piece rest bytes pieces (Open (u ∷ us) r) (Open (v ∷ []) []) d e) in
        let is : said_of setup.login setup.salt at [] (u ∷ us) silence ≡ said = ap (λ (vs : List (List ℕ)). said_of setup.login setup.salt at [] vs silence) one.front ∙ says in
        record {
          before = 0;
          after = length pieces;
          all = last_piece setup at rest bytes r (u ∷ us) said pieces behind d is (then rest r pieces one.behind);
        }
    by rests (Broken vs broken) d = absurd (not_broken vs (v ∷ []) broken [] (behind_piece rest bytes pieces (Broken vs broken) (Open (v ∷ []) []) d e))

nothing_said : reply_stream [] ≡ Open [] []
unfolding reply_stream split_of
nothing_said = refl

behind_done : (setup : Setup) (at : Handshake)
    → Behind setup at (sending [] (silence (Done true))) told.Quiet
unfolding session_takes
behind_done setup at rest left pieces e = quiet_pieces setup (Done true) left [] pieces e

behind_denied : (setup : Setup) (at : Handshake)
    → Behind setup at (failing fault.Denied at) told.NotUp
unfolding session_takes
behind_denied setup at rest left pieces e = down_pieces (going setup at) pieces

-- ---- a source hears a PING

-- a source that sent its HELO
abbrev greeting : LiveSource → LiveSource
greeting s = record s { awaits = true; unsent = [] }

-- a source that heard what says this
abbrev judged_to : LiveSource → Judged → LiveSource
judged_to s j = record s { awaits = j.awaits; rest = j.rest; waiting = j.requests; unsent = j.pong; closed = is_some j.fault }

judged_ping : (m : Meeting) (v : List ℕ) (verdict : PingVerdict)
    → IsValue 1 v → is_nil v ≡ false
    → length v ≤ m.server.limits.bytes → 0 < m.server.limits.depth
    → ping_verdict m.server.security m.server.nonces v ≡ verdict
    → live_piece_next (greeting (opened_source m.server)) v
    ≡ judged_to (opened_source m.server) (welcomed verdict (resting None []))
unfolding source_hears judged_of
judged_ping m v verdict value nil le deep says =
    let to : Judged → LiveSource = judged_to (opened_source m.server) in
    let rule : List ℕ → PingVerdict = ping_verdict m.server.security m.server.nonces in
    ap (λ (x : Split). to (judge_stream m.server.limits.depth (Some rule) 0 x)) (one_split m.server.limits.bytes m.server.limits.depth 1 v value (omega (arith, deep)) le)
    ∙ ap (λ (b : Bool). to (cond b (resting (Some rule) []) (welcomed (rule v) (resting None [])))) nil
    ∙ ap (λ (x : PingVerdict). to (welcomed x (resting None []))) says

-- ---- both sides

module _ (m : Meeting) (key : List ℕ) (client : m.client.login.shared_key ≡ Some key)
    (server : is_guarded m.server ≡ true) (joined : IsJoined m) (within : AreWithin m) where
  abbrev users : List User
  users = m.server.security.users

  abbrev nonce : List ℕ
  nonce = m.server.nonces.nonce

  abbrev auth : List ℕ
  auth = m.server.nonces.auth

  abbrev helo : List ℕ
  helo = helo_text users nonce auth

  abbrev awaiting : Handshake
  awaiting = AwaitsPong nonce true

  helo_is : concat m.helo ≡ helo
  helo_is = joined.helo ∙ ap (λ (b : Bool). cond b helo []) server

  helo_short : length helo ≤ REPLY_LIMIT
  helo_short = subst (λ (xs : List ℕ). length xs ≤ REPLY_LIMIT) helo_is within.helo

  abbrev ping_sent : List ℕ
  ping_sent = answering m.client.login m.client.salt nonce (auth_given users auth)

  answer : spoken m.client.login m.client.salt AwaitsHelo [] helo ≡ Greets ping_sent awaiting
  answer = ap helo_word (helo_answered users nonce auth (omega (arith, helo_short)) m.client.login m.client.salt key client)

  after_helo : session_after_helo m ≡ record (going m.client awaiting) { waiting = ping_sent }
  after_helo =
      hears_joined m.client (first_handshake m.client.login) m.helo helo (array_some (head_bytes (Arr 2)) (concat (parts users nonce auth helo_short)) helo helo_head (helo_joined users nonce auth helo_short)) helo_is
      ∙ ap (λ (k : Option (List ℕ)). session_hears (going m.client (cond (is_some k) AwaitsHelo (Done true))) helo) client
      ∙ hears_one m.client AwaitsHelo helo (Greets ping_sent awaiting) (helo_reply users nonce auth helo_short) (helo_not_nil users nonce auth helo_short) answer
      ∙ takes_helo m.client ping_sent nonce

  ping_is : concat m.ping ≡ ping_sent
  ping_is = joined.ping ∙ ap (λ (s : LiveSession). s.waiting) after_helo

  ping_short : length ping_sent < 2 ^ 32
  ping_short = subst (λ (xs : List ℕ). length xs < 2 ^ 32) ping_is within.short

  after_ping : session_after_ping m ≡ going m.client awaiting
  after_ping =
      ap (λ (s : LiveSession). session_sends s (length s.waiting)) after_helo
      ∙ (λ i. record (going m.client awaiting) { waiting = drop_all (length ping_sent) ping_sent (omega arith) i })

  source_greeting : source_after_helo m ≡ greeting (opened_source m.server)
  source_greeting =
      let first : List ℕ = (opened_source m.server).unsent in
      λ i. record (opened_source m.server) { awaits = server i; unsent = drop_all (length first) first (omega arith) i }

  abbrev digest : List ℕ
  digest = key_digest m.client.salt m.client.login.hostname nonce (unwrap_or m.client.login.shared_key [])

  abbrev username : List ℕ
  username = username_for m.client.login (auth_given users auth)

  abbrev proof : List ℕ
  proof = proof_for m.client.login (auth_given users auth)

  ping_is_array : ping_sent ≡ head_bytes (Arr 6) ++ concat
      (map text (codes "PING" ∷ m.client.login.hostname ∷ m.client.salt ∷ digest ∷ username ∷ proof
      ∷ []))
  ping_is_array = ping_joined m.client.login.hostname m.client.salt digest username proof

  -- the source, by its verdict
  pub source_after : (verdict : PingVerdict)
      → ping_verdict m.server.security m.server.nonces ping_sent ≡ verdict
      → source_after_ping m ≡ judged_to (opened_source m.server)
      (welcomed verdict (resting None []))
  source_after verdict says =
      let fits : length ping_sent ≤ m.server.limits.bytes = subst (λ (xs : List ℕ). length xs ≤ m.server.limits.bytes) ping_is within.ping in
      let body : List ℕ = concat (map text (codes "PING" ∷ m.client.login.hostname ∷ m.client.salt ∷ digest ∷ username ∷ proof ∷ [])) in
      ap (λ (s : LiveSource). live_pieces_next s m.ping) source_greeting
      ∙ source_joined (greeting (opened_source m.server)) m.ping ping_sent (array_some (head_bytes (Arr 6)) body ping_sent ping_head ping_is_array) ping_is
      ∙ judged_ping m ping_sent verdict (ping_value m.client.login.hostname m.client.salt digest username proof ping_short) (ap is_nil ping_is_array ∙ array_not_nil 6 (lit≤ tt) body) fits within.deep says

  -- the session, by its verdict on the PONG
  module _ (passed : Bool) (r h d : List ℕ) (w : Word)
      (sent : (source_after_ping m).unsent ≡ pong_text passed r h d ++ [])
      (le : length (pong_text passed r h d) ≤ REPLY_LIMIT)
      (says : spoken m.client.login m.client.salt awaiting [] (pong_text passed r h d) ≡ w) where
    abbrev text_of_pong : List ℕ
    text_of_pong = pong_text passed r h d

    pong_is : concat m.pong ≡ text_of_pong
    pong_is = joined.pong ∙ sent ∙ append-nil text_of_pong

    abbrev what : Said
    what = word_then awaiting [] text_of_pong w (λ next name. silence next)

    session_after : session_after_pong m ≡ session_takes (going m.client awaiting) what []
    session_after =
        ap (λ (s : LiveSession). session_hears_all s m.pong) after_ping
        ∙ hears_joined m.client awaiting m.pong text_of_pong (array_some (head_bytes (Arr 5)) (concat (pong_parts passed r h d)) text_of_pong pong_head (pong_joined passed r h d)) pong_is
        ∙ hears_one m.client awaiting text_of_pong w (pong_reply passed r h d le) (pong_not_nil passed r h d) says

    told_after : (behind : SessionHeard) → Behind m.client awaiting what behind
        → IsToldOnce (pong_told m) (told_of awaiting what) behind
    told_after behind then =
        subst (λ (s : LiveSession). IsToldOnce (pieces_told s m.pong) (told_of awaiting what) behind) (sym after_ping)
        (value_pieces m.client awaiting text_of_pong what behind (said_one m.client.login m.client.salt awaiting text_of_pong w (pong_not_nil passed r h d) says) then [] [] m.pong nothing_said (ap reply_stream pong_is ∙ pong_reply passed r h d le))

  -- ---- they agree

  module _ (agreed : IsAgreed m.client.login m.server.security m.client.salt key)
      (some : 0 < length m.server.nonces.auth) (sized : length (concat m.pong) ≤ REPLY_LIMIT) where
    abbrev good : List ℕ
    good = passing m.server.security nonce m.client.salt

    source_passed : source_after_ping m ≡ judged_to (opened_source m.server)
        (welcomed (ping.Pass good) (resting None []))
    source_passed = source_after (ping.Pass good) (ping_passes m.client.login m.server.security m.server.nonces m.client.salt key agreed some)

    pub source_done : source_after_pong m ≡ done_source (opened_source m.server)
    source_done =
        ap (λ (s : LiveSource). source_drains s (length s.unsent)) source_passed
        ∙ (λ i. record (done_source (opened_source m.server)) { unsent = drop_all (length (good ++ [])) (good ++ []) (omega arith) i })

    abbrev host : List ℕ
    host = m.server.security.hostname

    abbrev proven : List ℕ
    proven = key_digest m.client.salt host nonce (unwrap_or m.server.security.shared_key [])

    good_sent : (source_after_ping m).unsent ≡ good ++ []
    good_sent = ap (λ (s : LiveSource). s.unsent) source_passed

    good_short : length good ≤ REPLY_LIMIT
    good_short = subst (λ (xs : List ℕ). length xs ≤ REPLY_LIMIT) (joined.pong ∙ good_sent ∙ append-nil good) sized

    good_said : spoken m.client.login m.client.salt awaiting [] good ≡ Greets [] (Done true)
    good_said = ap (pong_word true) (pong_passes m.client.login m.server.security nonce m.client.salt key agreed)

    session_done : session_after_pong m ≡ done_session (session_begins m.client)
    session_done =
        session_after true [] host proven (Greets [] (Done true)) good_sent good_short good_said ∙ takes_pong m.client awaiting

    pub both_ready : IsReady m
    both_ready = record {
      told = told_after true [] host proven (Greets [] (Done true)) good_sent good_short good_said told.Quiet (behind_done m.client awaiting);
      done = ap (λ (s : LiveSession). s.handshake) session_done;
      up = ap (λ (s : LiveSession). s.down) session_done;
      ready = ap live_is_ready session_done;
      passed = ap (λ (s : LiveSource). s.awaits) source_done;
      takes = ap (λ (s : LiveSource). s.closed) source_done;
      session = session_done;
      source = source_done;
    }

  -- ---- the source denies

  module _ (denial : Denial)
      (cause : denial_of m.server.security m.server.nonces (said_by_ping m) ≡ Some denial) where
    says : ping_verdict m.server.security m.server.nonces ping_sent ≡ ping.Deny
        (denying denial) denial
    says = ping_denied m.server.security m.server.nonces m.client.login.hostname m.client.salt digest username proof denial ping_short cause

    source_denied : source_after_ping m ≡ judged_to (opened_source m.server)
        (welcomed (ping.Deny (denying denial) denial) (resting None []))
    source_denied = source_after (ping.Deny (denying denial) denial) says

    bad_sent : (source_after_ping m).unsent ≡ denying denial ++ []
    bad_sent = ap (λ (s : LiveSource). s.unsent) source_denied

    bad_said : spoken m.client.login m.client.salt awaiting []
        (denying denial) ≡ Fails fault.Denied
    bad_said = ap (pong_word true) (pong_denied m.client.login m.client.salt nonce (reason denial) (denying_short denial))

    pub both_refused : IsRefused m
    both_refused = record {
      told = told_after false (reason denial) [] [] (Fails fault.Denied) bad_sent (denying_short denial) bad_said told.NotUp (behind_denied m.client awaiting);
      down = ap (λ (s : LiveSession). s.down) (session_after false (reason denial) [] [] (Fails fault.Denied) bad_sent (denying_short denial) bad_said ∙ takes_denial m.client awaiting);
      closed = ap (λ (s : LiveSource). s.closed) source_denied;
    }

-- ---- in one piece

pub one_piece : (client : Setup) (server : SourceSetup) → IsJoined (uncut client server)
one_piece client server = record {
  helo = append-nil (opened_source server).unsent;
  ping = append-nil (heard_helo client server).waiting;
  pong = append-nil (heard_ping client server).unsent;
}
