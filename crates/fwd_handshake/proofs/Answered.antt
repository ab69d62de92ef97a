-- A HELO that is written is read back, and answered.
use Rattle.std.proofs.Common.{◌≡◌, ℕ, ◌<◌, ◌≤◌, ◌^◌, Bool, true, cond, List, [], ◌∷◌, ◌++◌, length, Some, None, lit≤, refl, ap, ◌∙◌, append_assoc, arith}
use Rattle.std.specs.Prelude.{codes, option_and_then}
use Rattle.std.specs.List.{concat, AllByRecursion}
use Rattle.std.proofs.lemmas.List.{append-nil, length-append}
use Rattle.fwd_msgpack.specs.declared.head.Head.TheVariants.{Bool as Boolean, Bin, Arr, Map}
use Rattle.fwd_msgpack.specs.Heads.{head_bytes, reading_of, row_of, named_rows}
use Rattle.fwd_msgpack.specs.Scans.{pair_up, pairs_of, text_of, elements_of, parts_of, most_bytes}
use Rattle.fwd_msgpack.specs.Texts.{text, last_under}
use Rattle.fwd_msgpack.specs.Values.{IsPlain, IsValue}
use Rattle.fwd_msgpack.proofs.Written.{values_row, written_text, written_elements, written_pairs, written_plain, written_container, text_plain, text_text, plain_value, container_value, in_a_row}
use Rattle.fwd_handshake.specs.declared.credentials.User.{User}
use Rattle.fwd_handshake.specs.declared.credentials.Login.{Login}
use Rattle.fwd_handshake.specs.declared.verdict.HeloAnswer.TheVariants.{Ping as Answers}
use Rattle.fwd_handshake.specs.Agreements.{auth_given}
use Rattle.fwd_handshake.specs.Messages.{binary, auth_value, helo_text}
use Rattle.fwd_handshake.specs.Readings.{is_word, behind, bool_of, text_under}
use Rattle.fwd_handshake.specs.Verdicts.{Helo, helo_under, helo_in, helo_of, answering, heard_helo, helo_judged, helo_answer}
use Rattle.fwd_handshake.proofs.Written.{bool_plain}

binary_plain : (bytes : List ℕ) → length bytes < 2 ^ 32 → IsPlain (binary bytes)
binary_plain bytes short = written_plain (Bin (length bytes)) short tt bytes refl refl

binary_text : (bytes : List ℕ) → length bytes < 2 ^ 32 → text_of (binary bytes) ≡ Some bytes
binary_text bytes short = written_text (Bin (length bytes)) short tt bytes

-- the auth salt as it is written, and as it is read
auth_plain : (users : List User) (auth : List ℕ) → length (auth_value users auth) ≤ most_bytes
    → IsPlain (auth_value users auth)
auth_plain [] auth short = text_plain [] (lit≤ tt)
auth_plain (user ∷ users) auth short = binary_plain auth (omega (arith, short, length-append (head_bytes (Bin (length auth))) auth))

auth_read : (users : List User) (auth : List ℕ) → length (auth_value users auth) ≤ most_bytes
    → text_of (auth_value users auth) ≡ Some (auth_given users auth)
auth_read [] auth short = text_text [] (lit≤ tt)
auth_read (user ∷ users) auth short = binary_text auth (omega (arith, short, length-append (head_bytes (Bin (length auth))) auth))

true_read : bool_of (head_bytes (Boolean true)) ≡ Some true
unfolding head_bytes parts_of reading_of row_of named_rows
true_read = refl

word_read : is_word (codes "HELO") (text (codes "HELO")) ≡ true
unfolding head_bytes parts_of reading_of row_of named_rows
word_read = refl

module _ (users : List User) (nonce auth : List ℕ)
    (sized : length (helo_text users nonce auth) < 2 ^ 32) where
  abbrev given : List ℕ
  given = auth_value users auth

  abbrev kept : List ℕ
  kept = head_bytes (Boolean true)

  abbrev members : List (List ℕ)
  members = text (codes "nonce") ∷ binary nonce ∷ text (codes "auth") ∷ given ∷ text (codes "keepalive") ∷ kept ∷ []

  abbrev pairs : List (List ℕ × List ℕ)
  pairs = (text (codes "nonce"), binary nonce) ∷ (text (codes "auth"), given) ∷ (text (codes "keepalive"), kept) ∷ []

  abbrev options : List ℕ
  options = head_bytes (Map 3) ++ concat members

  helo_joined : helo_text users nonce auth
      ≡ head_bytes (Arr 2) ++ (text (codes "HELO") ++ (options ++ []))
  unfolding helo_text
  helo_joined = simp (append_assoc, append-nil {A = ℕ})

  record Sizes : Type 0 where
    of_options : length options ≤ most_bytes
    of_members : length (concat members) ≤ most_bytes
    of_nonce : length nonce < 2 ^ 32
    of_auth : length given ≤ most_bytes

  sizes : Sizes
  sizes =
      let whole = ap length helo_joined ∙ length-append (head_bytes (Arr 2)) (text (codes "HELO") ++ (options ++ [])) in
      let first = length-append (text (codes "HELO")) (options ++ []) in
      let last = length-append options [] in
      let body = length-append (head_bytes (Map 3)) (concat members) in
      let one = length-append (text (codes "nonce")) (binary nonce ++ (text (codes "auth") ++ (given ++ (text (codes "keepalive") ++ (kept ++ []))))) in
      let two = length-append (binary nonce) (text (codes "auth") ++ (given ++ (text (codes "keepalive") ++ (kept ++ [])))) in
      let three = length-append (text (codes "auth")) (given ++ (text (codes "keepalive") ++ (kept ++ []))) in
      let four = length-append given (text (codes "keepalive") ++ (kept ++ [])) in
      let of_bin = length-append (head_bytes (Bin (length nonce))) nonce in
      record {
        of_options = omega (arith, whole, first, last, sized);
        of_members = omega (arith, whole, first, last, body, sized);
        of_nonce = omega (arith, whole, first, last, body, one, two, of_bin, sized);
        of_auth = omega (arith, whole, first, last, body, one, two, three, four, sized);
      }

  member_values : AllByRecursion (IsValue 0) members
  member_values = (
    plain_value 0 (text (codes "nonce")) (text_plain (codes "nonce") (lit≤ tt)),
    (
      plain_value 0 (binary nonce) (binary_plain nonce sizes.of_nonce),
      (
        plain_value 0 (text (codes "auth")) (text_plain (codes "auth") (lit≤ tt)),
        (
          plain_value 0 given (auth_plain users auth sizes.of_auth),
          (
            plain_value 0 (text (codes "keepalive")) (text_plain (codes "keepalive") (lit≤ tt)),
            (plain_value 0 kept (bool_plain true), tt),
          ),
        ),
      ),
    ),
  )

  options_value : IsValue 1 options
  options_value = container_value 0 options (written_container (Map 3) (lit≤ tt) tt (IsValue 0) (concat members) refl (in_a_row (IsValue 0) members member_values))

  helo_elements : elements_of (helo_text users nonce auth)
      ≡ Some (text (codes "HELO") ∷ options ∷ [])
  helo_elements =
      ap elements_of helo_joined
      ∙ written_elements (Arr 2) (lit≤ tt) tt (text (codes "HELO") ++ (options ++ []))
      ∙ ap Some (values_row 1 (text (codes "HELO") ∷ options ∷ []) (plain_value 1 (text (codes "HELO")) (text_plain (codes "HELO") (lit≤ tt)), (options_value, tt)) (lit≤ tt) all)
    where
      all : length (text (codes "HELO") ++ (options ++ [])) ≤ most_bytes
      all = omega (arith, ap length helo_joined, length-append (head_bytes (Arr 2)) (text (codes "HELO") ++ (options ++ [])), sized)

  options_paired : pairs_of options ≡ Some pairs
  options_paired =
      written_pairs (Map 3) (lit≤ tt) tt (concat members) ∙ ap (λ vs. Some (pair_up vs)) (values_row 0 members member_values (lit≤ tt) sizes.of_members)

  nonce_last : text_under (codes "nonce") pairs ≡ Some nonce
  nonce_last = rw (text_text (codes "nonce") (lit≤ tt), text_text (codes "auth") (lit≤ tt), text_text (codes "keepalive") (lit≤ tt)) (binary_text nonce sizes.of_nonce)

  auth_last : text_under (codes "auth") pairs ≡ Some (auth_given users auth)
  auth_last = rw (text_text (codes "nonce") (lit≤ tt), text_text (codes "auth") (lit≤ tt), text_text (codes "keepalive") (lit≤ tt)) (auth_read users auth sizes.of_auth)

  keepalive_last : option_and_then bool_of (last_under (codes "keepalive") pairs) ≡ Some true
  keepalive_last = rw (text_text (codes "nonce") (lit≤ tt), text_text (codes "auth") (lit≤ tt), text_text (codes "keepalive") (lit≤ tt)) true_read

  abbrev said : Helo
  said = record { nonce = nonce; auth = auth_given users auth; keepalive = true }

  under : helo_under pairs ≡ Some said
  under = rw (nonce_last, auth_last, keepalive_last) refl

  helo_said : helo_of (helo_text users nonce auth) ≡ Some said
  helo_said =
      ap (λ es. option_and_then helo_in (option_and_then (behind (codes "HELO")) es)) helo_elements
      ∙ ap (λ (b : Bool). option_and_then helo_in (cond b (Some (options ∷ [])) None)) word_read
      ∙ ap (option_and_then helo_under) options_paired
      ∙ under

  -- the answer has the nonce and the auth salt that were written
  pub helo_answered : (login : Login) (salt key : List ℕ) → login.shared_key ≡ Some key
      → helo_answer login salt (helo_text users nonce auth)
      ≡ Answers (answering login salt nonce (auth_given users auth)) nonce true
  unfolding helo_answer
  helo_answered login salt key has =
      ap (λ k. helo_judged login salt (heard_helo k (helo_text users nonce auth))) has ∙ ap (helo_judged login salt) helo_said
