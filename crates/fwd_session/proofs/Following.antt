-- The live part of a session follows its history.
use Rattle.std.proofs.Common.{◌≡◌, ℕ, zero, suc, ◌+◌, ◌-◌, ◌≤◌, Bool, true, false, cond, leb, eqb, List, [], ◌∷◌, ◌++◌, length, drop, max, Option, Some, None, refl, sym, ap, ◌∙◌, arith}
use Rattle.std.specs.Prelude.{map, is_some, not, ◌&&◌, ◌||◌, nat_le}
use Rattle.std.proofs.lemmas.Bool.Decides.{nat_tests}
use Rattle.std.proofs.lemmas.List.{length-append, length-drop, map-append, drop-append-le, drop-drop, append_assoc}
use Rattle.fwd_msgpack.specs.Scans.{Split, split_of, continued, with_front, values_of, is_nil}
use Rattle.fwd_msgpack.specs.Scans.Split.{Open, Broken}
use Rattle.fwd_msgpack.proofs.Rows.{split_append}
use Rattle.fwd_modes.specs.Acks.{ack_name}
use Rattle.fwd_handshake.specs.declared.credentials.Login.{Login}
use Rattle.fwd_chunks.specs.History.{CarriedChunk}
use Rattle.fwd_session.specs.declared.limits.TheConstants.{REPLY_LIMIT, REPLY_NESTING}
use Rattle.fwd_session.specs.declared.fault.SessionFault.{SessionFault}
use Rattle.fwd_session.specs.declared.fault.SessionFault.TheVariants as fault
use Rattle.fwd_session.specs.declared.handshake.Handshake.{Handshake}
use Rattle.fwd_session.specs.declared.handshake.Handshake.TheVariants.{AwaitsHelo, AwaitsPong, Done}
use Rattle.fwd_session.specs.declared.told.SessionHeard.TheVariants as told
use Rattle.fwd_session.specs.ServerAcks.{frame_of}
use Rattle.fwd_session.specs.Said.{Word, Awaited, Said, awaited_behind, left_by, accepted_by, out_of, ack_word, word_of, word_then, said_of, said_in, silence, failing, reply_stream, ended_by, behind, rest_of}
use Rattle.fwd_session.specs.Said.Word.{Skipped, Greets, Acks, Fails}
use Rattle.fwd_session.specs.History.{Setup, Loaded, SessionHistory, IsSane, is_open, greeted, handshake_of, is_handed_on, is_ready, is_first_over, is_late, room, to_send, awaited, newly_heard, says, is_done, told_by, told_of, piece_told, piece_out, waits_from, acked, chunks_of, begins, loads, sends, listens, hears, unloads, looks}
use Rattle.fwd_session.specs.Live.{LiveLoaded, LiveSession, live_loaded, live_session, live_is_ready, live_room, live_chunks, live_awaited, live_says, live_piece_told, live_piece_out, live_is_late, live_acked, session_begins, session_loads, sends_through, session_sends, falls_with, session_takes, session_listens, session_hears, session_unloads, session_looks}
use Rattle.fwd_session.proofs.Lists.{map_map, map_same, length_map, left_map}
use Rattle.fwd_session.proofs.Saying.{ack_either}

-- ---- the stream in pieces

drop-front : (vs ws : List (List ℕ)) → drop (length vs) (vs ++ ws) ≡ ws
drop-front [] ws = refl
drop-front (v ∷ vs) ws = drop-front vs ws

behind-front : (vs : List (List ℕ)) (s : Split) → behind (length vs) (with_front vs s) ≡ s
behind-front vs (Open ws rest) = ap (λ xs. Open xs rest) (drop-front vs ws)
behind-front vs (Broken ws broken) = ap (λ xs. Broken xs broken) (drop-front vs ws)

-- a stream that is not broken goes on behind its values
pub reply_stream-goes_on : (heard bytes : List ℕ) → is_open (reply_stream heard) ≡ true
    → reply_stream (heard ++ bytes)
    ≡ with_front (values_of (reply_stream heard))
    (reply_stream (rest_of (reply_stream heard) ++ bytes))
unfolding reply_stream
reply_stream-goes_on heard bytes e = split_append REPLY_LIMIT REPLY_NESTING heard bytes ∙ at (split_of REPLY_LIMIT REPLY_NESTING heard) e
  where
    at : (s : Split) → is_open s ≡ true
        → continued REPLY_LIMIT REPLY_NESTING s bytes ≡ with_front (values_of s)
        (split_of REPLY_LIMIT REPLY_NESTING (rest_of s ++ bytes))
    at (Open vs rest) e = refl
    at (Broken vs broken) e = absurd cc

-- what a piece ends is what it ends behind the bytes of the unfinished value
pub ended_by-rest : (heard bytes : List ℕ) → is_open (reply_stream heard) ≡ true
    → ended_by heard (reply_stream (heard ++ bytes))
    ≡ reply_stream (rest_of (reply_stream heard) ++ bytes)
ended_by-rest heard bytes e =
    ap (ended_by heard) (reply_stream-goes_on heard bytes e) ∙ behind-front (values_of (reply_stream heard)) (reply_stream (rest_of (reply_stream heard) ++ bytes))

pub rest_of-front : (vs : List (List ℕ)) (s : Split) → rest_of (with_front vs s) ≡ rest_of s
rest_of-front vs (Open ws rest) = refl
rest_of-front vs (Broken ws broken) = refl

is_open-front : (vs : List (List ℕ)) (s : Split) → is_open (with_front vs s) ≡ is_open s
is_open-front vs (Open ws rest) = refl
is_open-front vs (Broken ws broken) = refl

values-front : (vs : List (List ℕ)) (s : Split) → values_of (with_front vs s) ≡ vs ++ values_of s
values-front vs (Open ws rest) = refl
values-front vs (Broken ws broken) = refl

-- ---- how far the handshake comes

module _ (login : Login) (salt : List ℕ) where
  -- what is behind many values leaves the handshake where it is
  abbrev Keeps : (Handshake → Said) → Type 0
  Keeps end = (g : Handshake) → (end g).handshake ≡ g

  -- once it is done, it stays so
  abbrev StaysThen : Bool → Word → Type 0
  StaysThen keepalive w = (at : Handshake) (awaited : List Awaited) (v : List ℕ) (others : Handshake → List Awaited → Said)
      → at ≡ Done keepalive → ((left : List Awaited) → (others (Done keepalive) left).handshake ≡ Done keepalive)
      → (word_then at awaited v w others).handshake ≡ Done keepalive

  ack_word-done : (keepalive : Bool) (awaited : List Awaited) (name : Option (List ℕ))
      → StaysThen keepalive (ack_word awaited name)
  ack_word-done keepalive a name =
      ack_either (StaysThen keepalive) (λ at awaited v others e f. ap (λ g. (others g (awaited_behind (v ∷ []) awaited)).handshake) e ∙ f (awaited_behind (v ∷ []) awaited)) (λ fault at awaited v others e f. e) a name

  word-done : (keepalive : Bool) (awaited : List Awaited) (v : List ℕ)
      → StaysThen keepalive (word_of login salt (Done keepalive) awaited v)
  unfolding word_of
  word-done keepalive a v at awaited u others e f = by (is_nil v)
    where
      by : (b : Bool)
          →
          (word_then at awaited u (cond b Skipped (ack_word a (ack_name v))) others).handshake
          ≡ Done keepalive
      by true = ap (λ g. (others g awaited).handshake) e ∙ f awaited
      by false = ack_word-done keepalive a (ack_name v) at awaited u others e f

  pub done_stays : (keepalive : Bool) (awaited : List Awaited) (vs : List (List ℕ))
      (end : Handshake → Said)
      → Keeps end → (said_of login salt (Done keepalive) awaited vs end).handshake ≡ Done keepalive
  done_stays keepalive awaited [] end keeps = keeps (Done keepalive)
  done_stays keepalive awaited (v ∷ vs) end keeps =
      word-done keepalive awaited v (Done keepalive) awaited v (λ next left. said_of login salt next left vs end) refl (λ left. done_stays keepalive left vs end keeps)

  same_then : (at : Handshake) (a b : List Awaited) (v : List ℕ) (w : Word)
      (x y : Handshake → List Awaited → Said)
      → ((g : Handshake) (m n : List Awaited) → (x g m).handshake ≡ (y g n).handshake)
      → (word_then at a v w x).handshake ≡ (word_then at b v w y).handshake
  same_then at a b v Skipped x y same = same at a b
  same_then at a b v (Greets out next) x y same = same next a b
  same_then at a b v Acks x y same = same at (awaited_behind (v ∷ []) a) (awaited_behind (v ∷ []) b)
  same_then at a b v (Fails f) x y same = refl

  -- what is awaited makes no difference to it
  pub same_handshake : (at : Handshake) (a b : List Awaited) (vs : List (List ℕ))
      (e f : Handshake → Said)
      → Keeps e → Keeps f
      → (said_of login salt at a vs e).handshake ≡ (said_of login salt at b vs f).handshake
  unfolding word_of
  same_handshake at a b [] e f ke kf = ke at ∙ sym (kf at)
  same_handshake AwaitsHelo a b (v ∷ vs) e f ke kf =
      same_then AwaitsHelo a b v (word_of login salt AwaitsHelo [] v) (λ next left. said_of login salt next left vs e) (λ next left. said_of login salt next left vs f) (λ g m n. same_handshake g m n vs e f ke kf)
  same_handshake (AwaitsPong nonce keepalive) a b (v ∷ vs) e f ke kf =
      same_then (AwaitsPong nonce keepalive) a b v (word_of login salt (AwaitsPong nonce keepalive) [] v) (λ next left. said_of login salt next left vs e) (λ next left. said_of login salt next left vs f) (λ g m n. same_handshake g m n vs e f ke kf)
  same_handshake (Done keepalive) a b (v ∷ vs) e f ke kf = done_stays keepalive a (v ∷ vs) e ke ∙ sym (done_stays keepalive b (v ∷ vs) f kf)

  goes_then : (at : Handshake) (a : List Awaited) (v : List ℕ) (w : Word)
      (x y z : Handshake → List Awaited → Said)
      (then : Handshake → Handshake)
      →
      ((g : Handshake) (n : List Awaited) → (x g n).fault ≡ None → (y g []).handshake
      ≡ then (z g []).handshake)
      → (word_then at a v w x).fault ≡ None
      → (word_then at [] v w y).handshake ≡ then (word_then at [] v w z).handshake
  goes_then at a v Skipped x y z then same e = same at a e
  goes_then at a v (Greets out next) x y z then same e = same next a e
  goes_then at a v Acks x y z then same e = same at (awaited_behind (v ∷ []) a) e
  goes_then at a v (Fails f) x y z then same e = absurd cc

  -- where there was no fault, it goes on from where it came
  pub handshake_goes_on : (at : Handshake) (a : List Awaited) (vs more : List (List ℕ))
      → (said_of login salt at a vs silence).fault ≡ None
      → (said_of login salt at [] (vs ++ more) silence).handshake
      ≡
      (said_of login salt
      (said_of login salt at [] vs silence).handshake [] more silence).handshake
  unfolding word_of
  handshake_goes_on at a [] more e = refl
  handshake_goes_on AwaitsHelo a (v ∷ vs) more e =
      goes_then AwaitsHelo a v (word_of login salt AwaitsHelo [] v) (λ g n. said_of login salt g n vs silence) (λ g n. said_of login salt g n (vs ++ more) silence) (λ g n. said_of login salt g n vs silence) (λ g. (said_of login salt g [] more silence).handshake) (λ g n f. handshake_goes_on g n vs more f) e
  handshake_goes_on (AwaitsPong nonce keepalive) a (v ∷ vs) more e =
      goes_then (AwaitsPong nonce keepalive) a v (word_of login salt (AwaitsPong nonce keepalive) [] v) (λ g n. said_of login salt g n vs silence) (λ g n. said_of login salt g n (vs ++ more) silence) (λ g n. said_of login salt g n vs silence) (λ g. (said_of login salt g [] more silence).handshake) (λ g n f. handshake_goes_on g n vs more f) e
  handshake_goes_on (Done keepalive) a (v ∷ vs) more e =
      done_stays keepalive [] (v ∷ vs ++ more) silence (λ g. refl)
      ∙ sym (ap (λ g. (said_of login salt g [] more silence).handshake) (done_stays keepalive [] (v ∷ vs) silence (λ g. refl)) ∙ done_stays keepalive [] more silence (λ g. refl))

  -- what a stream says of it is what its values say
  pub by_values : (at : Handshake) (a : List Awaited) (s : Split)
      → (said_in login salt at a s).handshake ≡
      (said_of login salt at [] (values_of s) silence).handshake
  by_values at a (Open vs rest) = same_handshake at a [] vs silence silence (λ g. refl) (λ g. refl)
  by_values at a (Broken vs broken) = same_handshake at a [] vs (failing fault.BadReply) silence (λ g. refl) (λ g. refl)

  fails_then : (at : Handshake) (a : List Awaited) (v : List ℕ) (w : Word)
      (x : Handshake → List Awaited → Said)
      → ((g : Handshake) (n : List Awaited) → (x g n).fault ≡ None → ⊥)
      → (word_then at a v w x).fault ≡ None → ⊥
  fails_then at a v Skipped x never e = never at a e
  fails_then at a v (Greets out next) x never e = never next a e
  fails_then at a v Acks x never e = never at (awaited_behind (v ∷ []) a) e
  fails_then at a v (Fails f) x never e = cc

  fails : (at : Handshake) (a : List Awaited) (vs : List (List ℕ)) (f : SessionFault)
      → (said_of login salt at a vs (failing f)).fault ≡ None → ⊥
  fails at a [] f e = cc
  fails at a (v ∷ vs) f e = fails_then at a v (word_of login salt at a v) (λ g n. said_of login salt g n vs (failing f)) (λ g n. fails g n vs f) e

  -- where there was no fault, the stream is not broken
  pub said-open : (at : Handshake) (a : List Awaited) (s : Split)
      → (said_in login salt at a s).fault ≡ None
      → is_open s ≡ true
  said-open at a (Open vs rest) e = refl
  said-open at a (Broken vs broken) e = absurd (fails at a vs fault.BadReply e)

  pub said-whole_of : (at : Handshake) (a : List Awaited) (s : Split)
      → (said_in login salt at a s).fault ≡ None
      → (said_of login salt at a (values_of s) silence).fault ≡ None
  said-whole_of at a (Open vs rest) e = e
  said-whole_of at a (Broken vs broken) e = absurd (fails at a vs fault.BadReply e)

-- ---- a session hears

none_of : {X : Type 0} (o : Option X) → is_some o ≡ false → o ≡ None
none_of None e = refl
none_of (Some x) e = absurd cc

handed_on-live : (d : Bool) (through sent : ℕ) → d ≡ false
    → leb through sent ≡ eqb (cond d 0 (through - sent)) 0
handed_on-live true through sent e = absurd cc
handed_on-live false through sent e = grind (arith, nat_tests)

-- what is awaited of a chunk
abbrev awaits : SessionHistory → Loaded → Awaited
awaits s l = record { name = l.chunk.name; is_handed_on = is_handed_on s l }

abbrev live_awaits : LiveLoaded → Awaited
live_awaits l = record { name = l.chunk.name; is_handed_on = eqb l.left 0 }

awaited-live : (s : SessionHistory) → s.down ≡ false → awaited s ≡ live_awaited (live_session s)
unfolding live_session
awaited-live s up =
    map_same (awaits s) (λ l. live_awaits (live_loaded s l)) s.carried (λ l i. record { name = l.chunk.name; is_handed_on = handed_on-live s.down l.through s.sent up i })
    ∙ sym (map_map live_awaits (live_loaded s) s.carried)

rest-live : (s : SessionHistory) → s.down ≡ false
    → (live_session s).rest ≡ rest_of (reply_stream s.heard)
unfolding live_session
rest-live s up = ap (λ b. cond b [] (rest_of (reply_stream s.heard))) up

handshake-live : (s : SessionHistory) → (live_session s).handshake ≡ handshake_of s
unfolding live_session
handshake-live s = refl

-- what a piece ends
ends-live : (s : SessionHistory) (bytes : List ℕ) → IsSane s → s.down ≡ false
    → newly_heard s bytes ≡ reply_stream ((live_session s).rest ++ bytes)
ends-live s bytes sane up = ended_by-rest s.heard bytes (sane.opened up) ∙ ap (λ r. reply_stream (r ++ bytes)) (sym (rest-live s up))

pub says-live : (s : SessionHistory) (bytes : List ℕ) → IsSane s → s.down ≡ false
    → says s bytes ≡ live_says (live_session s) bytes
unfolding live_session
says-live s bytes sane up =
    λ i. said_in s.setup.login s.setup.salt (handshake_of s) (awaited-live s up i) (ends-live s bytes sane up i)

-- how far the handshake comes by a piece
pub handshake-hears : (s : SessionHistory) (bytes : List ℕ) → IsSane s → s.down ≡ false
    → handshake_of (listens s bytes (says s bytes)) ≡ (says s bytes).handshake
handshake-hears s bytes sane up =
    let stream = reply_stream (rest_of (reply_stream s.heard) ++ bytes) in
    let all : values_of (reply_stream (s.heard ++ bytes)) ≡ values_of (reply_stream s.heard) ++ values_of stream =
    ap values_of (reply_stream-goes_on s.heard bytes (sane.opened up)) ∙ values-front (values_of (reply_stream s.heard)) stream in
    ap (greeted s) all ∙ sane.greets up (values_of stream)
    ∙ ap (λ x. (said_of s.setup.login s.setup.salt (handshake_of s) [] (values_of x) silence).handshake) (sym (ended_by-rest s.heard bytes (sane.opened up)))
    ∙ sym (by_values s.setup.login s.setup.salt (handshake_of s) (awaited s) (newly_heard s bytes))

waits : (f : Option SessionFault) (n : ℕ) (xs out : List ℕ) → n ≤ length xs
    → cond (is_some f) [] (drop n (xs ++ cond (is_some f) [] out)) ≡ cond (is_some f) []
    (drop n xs ++ out)
waits (Some f) n xs out le = refl
waits None n xs out le = drop-append-le n xs out le

-- the live parts of chunks, once it is down or not
falls-live : (d e : Bool) (through sent : ℕ) → d ≡ false
    → cond e 0 (through - sent) ≡ cond e 0 (cond d 0 (through - sent))
falls-live true e through sent up = absurd cc
falls-live false e through sent up = refl

module _ (s : SessionHistory) (e : Bool) (up : s.down ≡ false) where
  abbrev after : Loaded → LiveLoaded
  after l = record { chunk = l.chunk; left = cond e 0 (l.through - s.sent); since = waits_from s l }

  carried-live : (vs : List (List ℕ))
      → map after (left_by (λ l. l.chunk.name) vs s.carried)
      ≡ map (falls_with e) (left_by (λ l. l.chunk.name) vs (map (live_loaded s) s.carried))
  carried-live vs =
      let left = left_by (λ (l : Loaded). l.chunk.name) vs s.carried in
      map_same after (λ l. falls_with e (live_loaded s l)) left (λ l i. record { chunk = l.chunk; left = falls-live s.down e l.through s.sent up i; since = waits_from s l })
      ∙ sym (map_map (falls_with e) (live_loaded s) left)
      ∙ sym (ap (map (falls_with e)) (left_map (λ (l : LiveLoaded). l.chunk.name) (live_loaded s) vs s.carried))

chunks-live : (s : SessionHistory) → chunks_of s.carried ≡ live_chunks (map (live_loaded s) s.carried)
chunks-live s = sym (map_map (λ (l : LiveLoaded). l.chunk) (live_loaded s) s.carried)

pub listens-live : (s : SessionHistory) (bytes : List ℕ) → IsSane s → s.down ≡ false
    → live_session (listens s bytes (says s bytes)) ≡ session_listens (live_session s) bytes
unfolding live_session session_takes
listens-live s bytes sane up =
    let same = says-live s bytes sane up in
    let sends : cond (is_some (says s bytes).fault) [] (drop s.sent (s.appended ++ out_of (says s bytes))) ≡ cond (is_some (says s bytes).fault) [] (cond s.down [] (drop s.sent s.appended) ++ (says s bytes).out) =
    waits (says s bytes).fault s.sent s.appended (says s bytes).out sane.sent ∙ ap (λ b. cond (is_some (says s bytes).fault) [] (cond b [] (drop s.sent s.appended) ++ (says s bytes).out)) (sym up) in
    let rests : rest_of (reply_stream (s.heard ++ bytes)) ≡ rest_of (reply_stream (cond s.down [] (rest_of (reply_stream s.heard)) ++ bytes)) =
    ap rest_of (reply_stream-goes_on s.heard bytes (sane.opened up)) ∙ rest_of-front (values_of (reply_stream s.heard)) (reply_stream (rest_of (reply_stream s.heard) ++ bytes))
    ∙ ap (λ x. rest_of (reply_stream (x ++ bytes))) (sym (rest-live s up)) in
    (λ i. record {
      setup = s.setup;
      handshake = handshake-hears s bytes sane up i;
      waiting = sends i;
      rest = cond (is_some (says s bytes).fault) [] (rests i);
      carried = carried-live s (is_some (says s bytes).fault) up (says s bytes).replies i;
      accepted = s.accepted ++ accepted_by (says s bytes).replies (chunks-live s i);
      has_loaded = s.has_loaded;
      down = is_some (says s bytes).fault;
      moment = s.moment;
    })
    ∙ ap (λ x. session_takes (live_session s) x (rest_of (reply_stream ((live_session s).rest ++ bytes)))) same

pub listens-sane : (s : SessionHistory) (bytes : List ℕ) → IsSane s → s.down ≡ false
    → IsSane (listens s bytes (says s bytes))
listens-sane s bytes sane up =
    let whole = sane.opened up in
    let stream = reply_stream (rest_of (reply_stream s.heard) ++ bytes) in
    let said = says s bytes in
    let ends = ended_by-rest s.heard bytes whole in
    let good : is_some said.fault ≡ false → (said_in s.setup.login s.setup.salt (handshake_of s) (awaited s) stream).fault ≡ None = λ f.
    ap (λ x. (said_in s.setup.login s.setup.salt (handshake_of s) (awaited s) x).fault) (sym ends) ∙ none_of said.fault f in
    let all : values_of (reply_stream (s.heard ++ bytes)) ≡ values_of (reply_stream s.heard) ++ values_of stream =
    ap values_of (reply_stream-goes_on s.heard bytes whole) ∙ values-front (values_of (reply_stream s.heard)) stream in
    let here : handshake_of (listens s bytes said) ≡ (said_of s.setup.login s.setup.salt (handshake_of s) [] (values_of stream) silence).handshake =
    ap (greeted s) all ∙ sane.greets up (values_of stream) in
    record {
      started = sane.started;
      sent = omega (arith, sane.sent, length-append s.appended (out_of said));
      opened = λ f. ap is_open (reply_stream-goes_on s.heard bytes whole) ∙ is_open-front (values_of (reply_stream s.heard)) stream
          ∙ said-open s.setup.login s.setup.salt (handshake_of s) (awaited s) stream (good f);
      greets = λ f more.
          ap (λ vs. greeted s (vs ++ more)) all ∙ ap (greeted s) (append_assoc (values_of (reply_stream s.heard)) (values_of stream) more)
          ∙ sane.greets up (values_of stream ++ more)
          ∙ handshake_goes_on s.setup.login s.setup.salt (handshake_of s) (awaited s) (values_of stream) more (said-whole_of s.setup.login s.setup.salt (handshake_of s) (awaited s) stream (good f))
          ∙ ap (λ g. (said_of s.setup.login s.setup.salt g [] more silence).handshake) (sym here);
    }

-- ---- the events

down-live : (s : SessionHistory) → (live_session s).down ≡ s.down
unfolding live_session
down-live s = refl

pub hears-live : (s : SessionHistory) (bytes : List ℕ) → IsSane s
    → live_session (hears s bytes) ≡ session_hears (live_session s) bytes
hears-live s bytes sane = by s.down refl
  where
    by : (b : Bool) → s.down ≡ b
        → live_session (cond s.down s (listens s bytes (says s bytes))) ≡ cond (live_session s).down
        (live_session s) (session_listens (live_session s) bytes)
    by true e = ap (λ b. live_session (cond b s (listens s bytes (says s bytes)))) e ∙ sym (ap (λ b. cond b (live_session s) (session_listens (live_session s) bytes)) (down-live s ∙ e))
    by false e = ap (λ b. live_session (cond b s (listens s bytes (says s bytes)))) e ∙ listens-live s bytes sane e ∙ sym (ap (λ b. cond b (live_session s) (session_listens (live_session s) bytes)) (down-live s ∙ e))

pub hears-sane : (s : SessionHistory) (bytes : List ℕ) → IsSane s → IsSane (hears s bytes)
hears-sane s bytes sane = by s.down refl
  where
    by : (b : Bool) → s.down ≡ b → IsSane (cond b s (listens s bytes (says s bytes)))
    by true e = sane
    by false e = listens-sane s bytes sane e

pub told-live : (s : SessionHistory) (bytes : List ℕ) → IsSane s
    → piece_told s bytes ≡ live_piece_told (live_session s) bytes
unfolding live_session
told-live s bytes sane = by s.down refl
  where
    by : (b : Bool) → s.down ≡ b
        → cond b told.NotUp (told_of (handshake_of s) (says s bytes)) ≡ cond b told.NotUp
        (told_of (handshake_of s) (live_says (live_session s) bytes))
    by true e = refl
    by false e = ap (told_of (handshake_of s)) (says-live s bytes sane e)

pub out-live : (s : SessionHistory) (bytes : List ℕ) → IsSane s
    → piece_out s bytes ≡ live_piece_out (live_session s) bytes
unfolding live_session
out-live s bytes sane = by s.down refl
  where
    by : (b : Bool) → s.down ≡ b
        → cond b [] (out_of (says s bytes)) ≡ cond b [] (out_of (live_says (live_session s) bytes))
    by true e = refl
    by false e = ap out_of (says-live s bytes sane e)

pub begins-live : (setup : Setup) → live_session (begins setup) ≡ session_begins setup
unfolding live_session reply_stream split_of
begins-live setup = grind (arith)

pub begins-sane : (setup : Setup) → IsSane (begins setup)
unfolding reply_stream split_of
begins-sane setup = record { started = omega arith; sent = omega arith; opened = λ e. refl; greets = λ e more. refl }

-- one chunk more
loads-left : (d : Bool) (sent : ℕ) (appended frame : List ℕ) → d ≡ false → sent ≤ length appended
    → cond d 0 (length (appended ++ frame) - sent)
    ≡ length (cond d [] (drop sent appended) ++ frame)
loads-left true sent appended frame e le = absurd cc
loads-left false sent appended frame e le =
    omega (arith, le, length-append appended frame, length-append (drop sent appended) frame, length-drop sent appended)

pub loads-live : (s : SessionHistory) (c : CarriedChunk) (now : ℕ) → IsSane s → s.down ≡ false
    → live_session (loads s c now) ≡ session_loads (live_session s) c now
unfolding live_session
loads-live s c now sane up =
    let later : max s.setup.start (max s.moment now) ≡ max s.moment now = grind (arith, sane.started) in
    let frame = frame_of c in
    λ i. record {
      setup = s.setup;
      handshake = handshake_of s;
      waiting = (ap (λ b. cond b [] (drop s.sent (s.appended ++ frame))) up ∙ drop-append-le s.sent s.appended frame sane.sent ∙ ap (λ b. cond b [] (drop s.sent s.appended) ++ frame) (sym up)) i;
      rest = cond s.down [] (rest_of (reply_stream s.heard));
      carried = (map-append (live_loaded s) s.carried (record { chunk = c; through = length (s.appended ++ frame); moment = max s.moment now } ∷ [])
          ∙ (λ j. map (live_loaded s) s.carried ++ record { chunk = c; left = loads-left s.down s.sent s.appended frame up sane.sent j; since = later j } ∷ [])) i;
      accepted = s.accepted;
      has_loaded = true;
      down = s.down;
      moment = max s.moment now;
    }

pub loads-sane : (s : SessionHistory) (c : CarriedChunk) (now : ℕ) → IsSane s → IsSane (loads s c now)
loads-sane s c now sane = record {
  started = grind (arith, sane.started);
  sent = omega (arith, sane.sent, length-append s.appended (frame_of c));
  opened = sane.opened;
  greets = sane.greets;
}

drop_unless : (b : Bool) (n m : ℕ) (xs : List ℕ)
    → cond b [] (drop (n + m) xs) ≡ drop m (cond b [] (drop n xs))
drop_unless true n zero xs = refl
drop_unless true n (suc m) xs = refl
drop_unless false n m xs = sym (drop-drop m n xs)

sends-left : (d : Bool) (through sent count : ℕ)
    → cond d 0 (through - (sent + count)) ≡ cond d 0 (through - sent) - count
sends-left true through sent count = omega arith
sends-left false through sent count = omega arith

pub sends-live : (s : SessionHistory) (count : ℕ)
    → live_session (sends s count) ≡ session_sends (live_session s) count
unfolding live_session
sends-live s count = λ i. record {
  setup = s.setup;
  handshake = handshake_of s;
  waiting = drop_unless s.down s.sent count s.appended i;
  rest = cond s.down [] (rest_of (reply_stream s.heard));
  carried = (map_same (live_loaded (sends s count)) (λ l. sends_through count (live_loaded s l)) s.carried (λ l j. record { chunk = l.chunk; left = sends-left s.down l.through s.sent count j; since = waits_from s l })
      ∙ sym (map_map (sends_through count) (live_loaded s) s.carried)) i;
  accepted = s.accepted;
  has_loaded = s.has_loaded;
  down = s.down;
  moment = s.moment;
}

sent_within : (b : Bool) (sent count : ℕ) (bytes : List ℕ) → b ≡ false → sent ≤ length bytes
    → count ≤ length (cond b [] (drop sent bytes)) → sent + count ≤ length bytes
sent_within true sent count bytes e le few = absurd cc
sent_within false sent count bytes e le few = omega (arith, le, few, length-drop sent bytes)

pub sends-sane : (s : SessionHistory) (count : ℕ) → IsSane s → s.down ≡ false
    → count ≤ length (to_send s) → IsSane (sends s count)
sends-sane s count sane up few = record {
  started = sane.started;
  sent = sent_within s.down s.sent count s.appended up sane.sent few;
  opened = sane.opened;
  greets = sane.greets;
}

pub unloads-live : (s : SessionHistory)
    → live_session (unloads s) ≡ session_unloads (live_session s)
unfolding live_session
unloads-live s = refl

pub unloads-sane : (s : SessionHistory) → IsSane s → IsSane (unloads s)
unloads-sane s sane = record { started = sane.started; sent = sane.sent; opened = sane.opened; greets = sane.greets }

over-live : (s : SessionHistory) (xs : List Loaded) (now : ℕ)
    → is_first_over s.setup.ack_wait now (map (waits_from s) xs)
    ≡ is_first_over s.setup.ack_wait now (map (λ l. l.since) (map (live_loaded s) xs))
over-live s [] now = refl
over-live s (l ∷ xs) now = refl

pub late-live : (s : SessionHistory) (now : ℕ) → is_late s now ≡ live_is_late (live_session s) now
unfolding live_session
late-live s now = ap (λ b. not (is_done (handshake_of s)) && nat_le (s.setup.start + s.setup.ack_wait) (max s.moment now) || b) (over-live s s.carried (max s.moment now))

pub ready-live : (s : SessionHistory) → is_ready s ≡ live_is_ready (live_session s)
unfolding live_session
ready-live s = refl

pub room-live : (s : SessionHistory) → room s ≡ live_room (live_session s)
unfolding live_session
room-live s = ap (λ n. s.setup.window - (n + length s.accepted)) (sym (length_map (live_loaded s) s.carried))

pub acked-live : (s : SessionHistory) → acked s ≡ live_acked (live_session s)
unfolding live_session
acked-live s = refl

looks-left : (d e f : Bool) (through sent : ℕ) → d ≡ false → e ≡ f
    → cond e 0 (through - sent) ≡ cond f 0 (cond d 0 (through - sent))
looks-left true e f through sent up same = absurd cc
looks-left false e f through sent up same = ap (λ b. cond b 0 (through - sent)) same

pub looks-live : (s : SessionHistory) (now : ℕ) → s.down ≡ false
    → live_session (looks s now) ≡ session_looks (live_session s) now
unfolding live_session session_looks
looks-live s now up =
    let late = late-live s now in
    let is : Bool = live_is_late (live_session s) now in
    λ i. record {
      setup = s.setup;
      handshake = handshake_of s;
      waiting = cond (late i) [] (cond (sym up i) [] (drop s.sent s.appended));
      rest = cond (late i) [] (cond (sym up i) [] (rest_of (reply_stream s.heard)));
      carried = (map_same (live_loaded (looks s now)) (λ l. falls_with is (live_loaded s l)) s.carried (λ l j. record { chunk = l.chunk; left = looks-left s.down (is_late s now) is l.through s.sent up late j; since = waits_from s l })
          ∙ sym (map_map (falls_with is) (live_loaded s) s.carried)) i;
      accepted = s.accepted;
      has_loaded = s.has_loaded;
      down = late i;
      moment = max s.moment now;
    }

pub looks-sane : (s : SessionHistory) (now : ℕ) → IsSane s → s.down ≡ false → IsSane (looks s now)
looks-sane s now sane up = record {
  started = grind (arith, sane.started);
  sent = sane.sent;
  opened = λ e. sane.opened up;
  greets = λ e more. sane.greets up more;
}

-- ---- once it is down

told_fault : (f : Option SessionFault) (replies : List (List ℕ)) (before after : Bool)
    (w : SessionFault)
    → told_by f replies before after ≡ told.Fault w → is_some f ≡ true
told_fault (Some f) replies before after w e = refl
told_fault None (reply ∷ replies) before after w e = absurd cc
told_fault None [] true after w e = absurd cc
told_fault None [] false true w e = absurd cc
told_fault None [] false false w e = absurd cc

pub fault-down : (s : LiveSession) (bytes : List ℕ) (w : SessionFault)
    → live_piece_told s bytes ≡ told.Fault w → (session_hears s bytes).down ≡ true
unfolding session_takes
fault-down s bytes w e = by s.down refl
  where
    by : (b : Bool) → s.down ≡ b → (cond s.down s (session_listens s bytes)).down ≡ true
    by true d = ap (λ b. (cond b s (session_listens s bytes)).down) d ∙ d
    by false d =
        ap (λ b. (cond b s (session_listens s bytes)).down) d
        ∙ told_fault (live_says s bytes).fault (live_says s bytes).replies (is_done s.handshake) (is_done (live_says s bytes).handshake) w (sym (ap (λ b. cond b told.NotUp (told_of s.handshake (live_says s bytes))) d) ∙ e)

pub late-down : (s : LiveSession) (now : ℕ) → live_is_late s now ≡ true
    → (session_looks s now).down ≡ true
unfolding session_looks
late-down s now e = e
