-- Where nothing is to be sent for what is said, no HELO was answered.
use Rattle.std.proofs.Common.{◌≡◌, ℕ, Bool, true, false, cond, List, [], ◌∷◌, ◌++◌, Option, Some, None, length, refl, sym, ap, ◌∙◌, arith}
use Rattle.std.proofs.lemmas.List.{length-append, nil_from_length}
use Rattle.fwd_msgpack.specs.Heads.{head_bytes}
use Rattle.std.specs.Prelude.{find}
use Rattle.std.specs.List.{list_any}
use Rattle.std.specs.Str.{bytes_eq}
use Rattle.fwd_msgpack.specs.Scans.{Split, is_nil}
use Rattle.fwd_msgpack.specs.Scans.Split.{Open, Broken}
use Rattle.fwd_modes.specs.Acks.{ack_name}
use Rattle.fwd_handshake.specs.declared.credentials.Login.{Login}
use Rattle.fwd_handshake.specs.declared.verdict.HeloAnswer.TheVariants as helo
use Rattle.fwd_handshake.specs.Messages.{ping_text}
use Rattle.fwd_handshake.specs.Verdicts.{Helo, answering, heard_helo, helo_answer, helo_judged, proof_for, username_for}
use Rattle.fwd_session.specs.declared.handshake.Handshake.{Handshake}
use Rattle.fwd_session.specs.declared.handshake.Handshake.TheVariants.{AwaitsHelo, AwaitsPong, Done}
use Rattle.fwd_session.specs.declared.fault.SessionFault.TheVariants as fault
use Rattle.fwd_session.specs.Said.{Awaited, Said, Word, ack_word, awaited_behind, failing, helo_word, named_word, said_in, said_of, sending, silence, spoken, word_of, word_then}
use Rattle.fwd_session.specs.Said.Word.{Skipped, Greets, Acks, Fails}
use Rattle.fwd_session.specs.Hearing.{GreetsInSilence, before_others}

-- a PING has bytes
ping_some : (hostname salt digest username password : List ℕ)
    → ping_text hostname salt digest username password ≡ [] → ⊥
unfolding ping_text head_bytes
ping_some hostname salt digest username password e = absurd cc

answer_some : (login : Login) (salt nonce auth : List ℕ) → answering login salt nonce auth ≡ [] → ⊥
answer_some login salt nonce auth e = ping_some login.hostname salt _ (username_for login auth) (proof_for login auth) e

judged_silent : (login : Login) (salt : List ℕ) (heard : Option Helo)
    → ((ping nonce : List ℕ) (keepalive : Bool) → helo_judged login salt heard ≡ helo.Ping ping nonce keepalive → ping ≡ [])
    → helo_judged login salt heard ≡ helo.NotHelo
judged_silent login salt None silent = refl
judged_silent login salt (Some h) silent = absurd (answer_some login salt h.nonce h.auth (silent (answering login salt h.nonce h.auth) h.nonce h.keepalive refl))

-- a value that is awaited as a HELO, for which nothing is to be sent, is none
pub no_helo : (login : Login) (salt : List ℕ) (at : Handshake) (awaited : List Awaited) (value : List ℕ)
    → at ≡ AwaitsHelo → is_nil value ≡ false → GreetsInSilence (word_of login salt at awaited value)
    → helo_answer login salt value ≡ helo.NotHelo
unfolding word_of helo_answer
no_helo login salt at awaited value is some silent =
    judged_silent login salt (heard_helo login.shared_key value)
    (λ ping nonce keepalive e.
    silent ping (AwaitsPong nonce keepalive)
    (ap (λ (h : Handshake). cond (is_nil value) Skipped (spoken login salt h awaited value)) is
    ∙ ap (λ (b : Bool). cond b Skipped (helo_word (helo_answer login salt value))) some
    ∙ ap helo_word e))

-- what is sent first is a part of what is sent
pub sent_in_silence : (said : Said) (out : List ℕ) (replies : List (List ℕ)) (rest : Said)
    (ping : List ℕ) (behind : Said) → said ≡ before_others out replies rest
    → rest ≡ sending ping behind → said.out ≡ [] → ping ≡ []
sent_in_silence said out replies rest ping behind is sends none =
    let all : said.out ≡ out ++ (ping ++ behind.out) = ap (λ (s : Said). s.out) (is ∙ ap (before_others out replies) sends) in
    nil_from_length ping (omega (arith, ap length (sym none ∙ all), length-append out (ping ++ behind.out), length-append ping behind.out))

-- ---- once the handshake is done

found_no_greeting : (found : Option Awaited) (ping : List ℕ) (next : Handshake)
    → named_word found ≡ Greets ping next → ⊥
found_no_greeting None ping next e = absurd cc
found_no_greeting (Some a) ping next e = by a.is_handed_on e
  where
    by : (b : Bool) → cond b Acks (Fails fault.EarlyAck) ≡ Greets ping next → ⊥
    by true f = absurd cc
    by false f = absurd cc

ack_no_greeting : (awaited : List Awaited) (name : Option (List ℕ)) (ping : List ℕ) (next : Handshake)
    → ack_word awaited name ≡ Greets ping next → ⊥
ack_no_greeting awaited None ping next e = absurd cc
ack_no_greeting awaited (Some name) ping next e = by (list_any (λ a. a.is_handed_on) awaited) e
  where
    by : (b : Bool)
        → cond b (named_word (find (λ a. bytes_eq name a.name) awaited)) (Fails fault.EarlyAck) ≡ Greets ping next → ⊥
    by true f = found_no_greeting (find (λ a. bytes_eq name a.name) awaited) ping next f
    by false f = absurd cc

-- a value, and those behind it, for which nothing is to be sent
word_silent : (at : Handshake) (awaited : List Awaited) (value : List ℕ) (word : Word)
    (others : Handshake → List Awaited → Said)
    → ((ping : List ℕ) (next : Handshake) → word ≡ Greets ping next → ⊥)
    → ((left : List Awaited) → (others at left).out ≡ [])
    → (word_then at awaited value word others).out ≡ []
word_silent at awaited value Skipped others never silent = silent awaited
word_silent at awaited value (Greets ping next) others never silent = absurd (never ping next refl)
word_silent at awaited value Acks others never silent = silent (awaited_behind (value ∷ []) awaited)
word_silent at awaited value (Fails f) others never silent = refl

values_silent : (login : Login) (salt : List ℕ) (keepalive : Bool) (awaited : List Awaited)
    (values : List (List ℕ)) (end : Handshake → Said) → (end (Done keepalive)).out ≡ []
    → (said_of login salt (Done keepalive) awaited values end).out ≡ []
unfolding word_of
values_silent login salt keepalive awaited [] end none = none
values_silent login salt keepalive awaited (v ∷ vs) end none =
    word_silent (Done keepalive) awaited v (word_of login salt (Done keepalive) awaited v)
    (λ next left. said_of login salt next left vs end)
    (λ ping next e. by (is_nil v) ping next e)
    (λ left. values_silent login salt keepalive left vs end none)
  where
    by : (b : Bool) (ping : List ℕ) (next : Handshake)
        → cond b Skipped (ack_word awaited (ack_name v)) ≡ Greets ping next → ⊥
    by true ping next e = absurd cc
    by false ping next e = ack_no_greeting awaited (ack_name v) ping next e

-- nothing is ever sent for what is heard then
pub done_is_silent : (login : Login) (salt : List ℕ) (keepalive : Bool) (awaited : List Awaited)
    (stream : Split) → (said_in login salt (Done keepalive) awaited stream).out ≡ []
done_is_silent login salt keepalive awaited (Open values rest) = values_silent login salt keepalive awaited values silence refl
done_is_silent login salt keepalive awaited (Broken values broken) =
    values_silent login salt keepalive awaited values (failing fault.BadReply) refl
