-- However a session's bytes are cut, it hears the same.
use Rattle.std.proofs.Common.{◌≡◌, ℕ, Bool, true, false, cond, eqb, List, [], ◌∷◌, ◌++◌, Option, Some, None, refl, sym, ap, ◌∙◌}
use Rattle.std.specs.Prelude.{map, is_some}
use Rattle.std.specs.List.{concat}
use Rattle.std.proofs.lemmas.List.{append_assoc, append-nil}
use Rattle.fwd_msgpack.specs.Scans.{Split, split_of, continued, with_front, values_of, is_nil}
use Rattle.fwd_msgpack.specs.Scans.Split.{Open, Broken}
use Rattle.fwd_msgpack.proofs.Rows.{split_append}
use Rattle.fwd_modes.specs.Acks.{ack_name}
use Rattle.fwd_handshake.specs.declared.credentials.Login.{Login}
use Rattle.fwd_chunks.specs.History.{CarriedChunk}
use Rattle.fwd_session.specs.declared.limits.TheConstants.{REPLY_LIMIT, REPLY_NESTING}
use Rattle.fwd_session.specs.declared.fault.SessionFault.{SessionFault}
use Rattle.fwd_session.specs.declared.fault.SessionFault.TheVariants as fault
use Rattle.fwd_session.specs.declared.handshake.Handshake.{Handshake}
use Rattle.fwd_session.specs.declared.handshake.Handshake.TheVariants.{AwaitsHelo, AwaitsPong, Done}
use Rattle.fwd_session.specs.ServerAcks.{Accepted}
use Rattle.fwd_session.specs.Said.{Word, Awaited, Said, awaited_behind, left_by, accepted_by, sending, acking, ack_word, word_of, word_then, said_of, said_in, silence, failing, reply_stream, rest_of}
use Rattle.fwd_session.specs.Said.Word.{Skipped, Greets, Acks, Fails}
use Rattle.fwd_session.specs.History.{is_open, is_done}
use Rattle.fwd_session.specs.Live.{LiveLoaded, LiveSession, live_awaited, live_chunks, live_says, falls_with, session_takes, session_listens, session_hears, session_hears_all}
use Rattle.fwd_session.proofs.Lists.{map_none, left_map, left_append, accepted_append}
use Rattle.fwd_session.proofs.Saying.{ack_either}
use Rattle.fwd_session.proofs.Following.{done_stays, said-open, reply_stream-goes_on, rest_of-front}
use Rattle.fwd_session.proofs.Taking.{takes-rest}

-- ---- a front without a fault, and what is behind it

-- what was said, and then what is said behind it
abbrev then_said : Said → Said → Said
then_said s t = record {
  handshake = t.handshake;
  out = s.out ++ t.out;
  replies = s.replies ++ t.replies;
  fault = t.fault;
}

module _ (login : Login) (salt : List ℕ) where
  -- what is behind a front, by what the front said
  abbrev after_front : List Awaited → Split → Said → Said
  after_front awaited s front = then_said front (said_in login salt front.handshake (awaited_behind front.replies awaited) s)

  abbrev IsCut : (Handshake → List Awaited → Said) → (Handshake → List Awaited → Said) → Split
      → Type 0
  IsCut all front s = (g : Handshake) (n : List Awaited) → (front g n).fault ≡ None → all g n ≡ after_front n s (front g n)

  cut_then : (at : Handshake) (a : List Awaited) (v : List ℕ) (w : Word)
      (all front : Handshake → List Awaited → Said) (s : Split) → IsCut all front s
      → (word_then at a v w front).fault ≡ None
      → word_then at a v w all ≡ after_front a s (word_then at a v w front)
  cut_then at a v Skipped all front s cut e = cut at a e
  cut_then at a v (Greets out next) all front s cut e =
      ap (sending out) (cut next a e) ∙ (λ i. record {
        handshake = (after_front a s (front next a)).handshake;
        out = sym (append_assoc out (front next a).out (said_in login salt (front next a).handshake (awaited_behind (front next a).replies a) s).out) i;
        replies = (after_front a s (front next a)).replies;
        fault = (after_front a s (front next a)).fault;
      })
  cut_then at a v Acks all front s cut e = ap (acking v) (cut at (awaited_behind (v ∷ []) a) e)
  cut_then at a v (Fails f) all front s cut e = absurd cc

  empty_front : (at : Handshake) (a : List Awaited) (s : Split)
      → said_in login salt at a (with_front [] s) ≡ after_front a s (silence at)
  empty_front at a (Open ws rest) = refl
  empty_front at a (Broken ws broken) = refl

  front_step : (at : Handshake) (a : List Awaited) (v : List ℕ) (vs : List (List ℕ)) (s : Split)
      → said_in login salt at a (with_front (v ∷ vs) s)
      ≡ word_then at a v (word_of login salt at a v)
      (λ g n. said_in login salt g n (with_front vs s))
  front_step at a v vs (Open ws rest) = refl
  front_step at a v vs (Broken ws broken) = refl

  pub said_cut : (at : Handshake) (a : List Awaited) (vs : List (List ℕ)) (s : Split)
      → (said_of login salt at a vs silence).fault ≡ None
      → said_in login salt at a (with_front vs s) ≡ after_front a s
      (said_of login salt at a vs silence)
  said_cut at a [] s e = empty_front at a s
  said_cut at a (v ∷ vs) s e =
      front_step at a v vs s
      ∙ cut_then at a v (word_of login salt at a v) (λ g n. said_in login salt g n (with_front vs s)) (λ g n. said_of login salt g n vs silence) s (λ g n f. said_cut g n vs s f) e

  -- ---- a front with a fault

  fault_then : (at : Handshake) (a : List Awaited) (v : List ℕ) (w : Word) (f : SessionFault)
      (x y : Handshake → List Awaited → Said)
      → ((g : Handshake) (n : List Awaited) → (x g n).fault ≡ Some f → x g n ≡ y g n)
      → (word_then at a v w x).fault ≡ Some f → word_then at a v w x ≡ word_then at a v w y
  fault_then at a v Skipped f x y same e = same at a e
  fault_then at a v (Greets out next) f x y same e = ap (sending out) (same next a e)
  fault_then at a v Acks f x y same e = ap (acking v) (same at (awaited_behind (v ∷ []) a) e)
  fault_then at a v (Fails w) f x y same e = refl

  -- what is behind it counts for nothing
  fault_cut : (at : Handshake) (a : List Awaited) (f : SessionFault) (vs : List (List ℕ))
      (s : Split)
      → (said_of login salt at a vs silence).fault ≡ Some f
      → said_of login salt at a vs silence ≡ said_in login salt at a (with_front vs s)
  fault_cut at a f [] s e = absurd cc
  fault_cut at a f (v ∷ vs) s e =
      fault_then at a v (word_of login salt at a v) f (λ g n. said_of login salt g n vs silence) (λ g n. said_in login salt g n (with_front vs s)) (λ g n d. fault_cut g n f vs s d) e
      ∙ sym (front_step at a v vs s)

  pub fault_goes_on : (at : Handshake) (a : List Awaited) (f : SessionFault) (x more : List ℕ)
      → (said_in login salt at a (reply_stream x)).fault ≡ Some f
      → said_in login salt at a (reply_stream x) ≡ said_in login salt at a
      (reply_stream (x ++ more))
  unfolding reply_stream
  fault_goes_on at a f x more e = by (split_of REPLY_LIMIT REPLY_NESTING x) e ∙ sym (ap (said_in login salt at a) (split_append REPLY_LIMIT REPLY_NESTING x more))
    where
      by : (s : Split) → (said_in login salt at a s).fault ≡ Some f
          → said_in login salt at a s ≡ said_in login salt at a
          (continued REPLY_LIMIT REPLY_NESTING s more)
      by (Open vs rest) d = fault_cut at a f vs (split_of REPLY_LIMIT REPLY_NESTING (rest ++ more)) d
      by (Broken vs broken) d = refl

  -- ---- once the handshake is done, nothing is sent for it

  abbrev IsMute : Word → Type 0
  IsMute w = (at : Handshake) (a : List Awaited) (v : List ℕ) (others : Handshake → List Awaited → Said)
      → ((n : List Awaited) → (others at n).out ≡ []) → (word_then at a v w others).out ≡ []

  mute-ack : (awaited : List Awaited) (name : Option (List ℕ)) → IsMute (ack_word awaited name)
  mute-ack awaited name =
      ack_either IsMute (λ at a v others same. same (awaited_behind (v ∷ []) a)) (λ fault at a v others same. refl) awaited name

  mute : (keepalive : Bool) (awaited : List Awaited) (v : List ℕ)
      → IsMute (word_of login salt (Done keepalive) awaited v)
  unfolding word_of
  mute keepalive awaited v at a u others same = by (is_nil v)
    where
      by : (b : Bool)
          → (word_then at a u (cond b Skipped (ack_word awaited (ack_name v))) others).out ≡ []
      by true = same a
      by false = mute-ack awaited (ack_name v) at a u others same

  done_mute : (keepalive : Bool) (a : List Awaited) (vs : List (List ℕ)) (end : Handshake → Said)
      → ((end (Done keepalive)).out ≡ []) → (said_of login salt (Done keepalive) a vs end).out ≡ []
  done_mute keepalive a [] end none = none
  done_mute keepalive a (v ∷ vs) end none =
      mute keepalive a v (Done keepalive) a v (λ g n. said_of login salt g n vs end) (λ n. done_mute keepalive n vs end none)

  pub said_mute : (at : Handshake) (a : List Awaited) (s : Split) → is_done at ≡ true
      → (said_in login salt at a s).out ≡ []
  said_mute AwaitsHelo a s e = absurd cc
  said_mute (AwaitsPong nonce keepalive) a s e = absurd cc
  said_mute (Done keepalive) a (Open vs rest) e = done_mute keepalive a vs silence refl
  said_mute (Done keepalive) a (Broken vs broken) e = done_mute keepalive a vs (failing fault.BadReply) refl

  pub stays_done : (at : Handshake) (a : List Awaited) (s : Split) → is_done at ≡ true
      → is_done (said_in login salt at a s).handshake ≡ true
  stays_done AwaitsHelo a s e = absurd cc
  stays_done (AwaitsPong nonce keepalive) a s e = absurd cc
  stays_done (Done keepalive) a (Open vs rest) e = ap is_done (done_stays login salt keepalive a vs silence (λ g. refl))
  stays_done (Done keepalive) a (Broken vs broken) e = ap is_done (done_stays login salt keepalive a vs (failing fault.BadReply) (λ g. refl))

-- ---- a session hears

-- nothing waits less of chunks where there is no fault
falls-none : (f : Option SessionFault) (xs : List LiveLoaded) → f ≡ None
    → map (falls_with (is_some f)) xs ≡ xs
falls-none f xs none = ap (λ (o : Option SessionFault). map (falls_with (is_some o)) xs) none ∙ map_none (falls_with false) xs (λ l. refl)

abbrev name_of : LiveLoaded → List ℕ
name_of l = l.chunk.name

carried_two : (f : Option SessionFault) (us vs : List (List ℕ)) (xs : List LiveLoaded) → f ≡ None
    → left_by name_of vs (map (falls_with (is_some f)) (left_by name_of us xs))
    ≡ left_by name_of (us ++ vs) xs
carried_two f us vs xs none = ap (left_by name_of vs) (falls-none f (left_by name_of us xs) none) ∙ left_append name_of us vs xs

accepted_two : (f : Option SessionFault) (us vs : List (List ℕ)) (old : List Accepted)
    (xs : List LiveLoaded) → f ≡ None
    → (old ++ accepted_by us (live_chunks xs))
    ++ accepted_by vs (live_chunks (map (falls_with (is_some f)) (left_by name_of us xs)))
    ≡ old ++ accepted_by (us ++ vs) (live_chunks xs)
accepted_two f us vs old xs none =
    let left : live_chunks (map (falls_with (is_some f)) (left_by name_of us xs)) ≡ left_by (λ (c : CarriedChunk). c.name) us (live_chunks xs) =
    ap live_chunks (falls-none f (left_by name_of us xs) none) ∙ sym (left_map (λ (c : CarriedChunk). c.name) (λ (l : LiveLoaded). l.chunk) us xs) in
    ap (λ cs. (old ++ accepted_by us (live_chunks xs)) ++ accepted_by vs cs) left
    ∙ append_assoc old (accepted_by us (live_chunks xs)) (accepted_by vs (left_by (λ (c : CarriedChunk). c.name) us (live_chunks xs)))
    ∙ ap (λ more. old ++ more) (accepted_append us vs (live_chunks xs))

takes_two : (s : LiveSession) (a b : Said) (x y : List ℕ) → a.fault ≡ None
    → session_takes (session_takes s a x) b y ≡ session_takes s (then_said a b) y
unfolding session_takes
takes_two s a b x y none = λ i. record s {
  handshake = b.handshake;
  waiting = cond (is_some b.fault) [] ((ap (λ (f : Option SessionFault). cond (is_some f) [] (s.waiting ++ a.out) ++ b.out) none ∙ append_assoc s.waiting a.out b.out) i);
  rest = cond (is_some b.fault) [] y;
  carried = map (falls_with (is_some b.fault)) (carried_two a.fault a.replies b.replies s.carried none i);
  accepted = accepted_two a.fault a.replies b.replies s.accepted s.carried none i;
  down = is_some b.fault;
}

-- what is awaited of a chunk
abbrev awaits : LiveLoaded → Awaited
awaits l = record { name = l.chunk.name; is_handed_on = eqb l.left 0 }

awaited_two : (f : Option SessionFault) (us : List (List ℕ)) (xs : List LiveLoaded) → f ≡ None
    → map awaits (map (falls_with (is_some f)) (left_by name_of us xs))
    ≡ awaited_behind us (map awaits xs)
awaited_two f us xs none = ap (map awaits) (falls-none f (left_by name_of us xs) none) ∙ sym (left_map (λ (a : Awaited). a.name) awaits us xs)

module _ (s : LiveSession) (a b : List ℕ) where
  abbrev login : Login
  login = s.setup.login

  abbrev salt : List ℕ
  salt = s.setup.salt

  abbrev said : Said
  said = live_says s a

  joined : reply_stream (s.rest ++ (a ++ b)) ≡ reply_stream ((s.rest ++ a) ++ b)
  joined = ap reply_stream (sym (append_assoc s.rest a b))

  listens_two-fault : (f : SessionFault) → said.fault ≡ Some f
      → session_listens s a ≡ session_listens s (a ++ b)
  listens_two-fault f e =
      let same : said ≡ live_says s (a ++ b) = fault_goes_on login salt s.handshake (live_awaited s) f (s.rest ++ a) b e ∙ ap (said_in login salt s.handshake (live_awaited s)) (sym joined) in
      takes-rest s said (rest_of (reply_stream (s.rest ++ a))) (rest_of (reply_stream (s.rest ++ (a ++ b)))) (λ n. absurd (some_none f (sym e ∙ n)))
      ∙ ap (λ (x : Said). session_takes s x (rest_of (reply_stream (s.rest ++ (a ++ b))))) same
    where
      some_none : (f : SessionFault) → Some f ≡ None → ⊥
      some_none f d = cc

  module _ (good : said.fault ≡ None) where
    abbrev stream : Split
    stream = reply_stream (s.rest ++ a)

    abbrev rest : List ℕ
    rest = rest_of stream

    open_here : is_open stream ≡ true
    open_here = said-open login salt s.handshake (live_awaited s) stream good

    goes : reply_stream (s.rest ++ (a ++ b)) ≡ with_front (values_of stream)
        (reply_stream (rest ++ b))
    goes = joined ∙ reply_stream-goes_on (s.rest ++ a) b open_here

    by_values_here : (t : Split) → is_open t ≡ true
        → said_in login salt s.handshake (live_awaited s) t ≡ said_of login salt s.handshake
        (live_awaited s) (values_of t) silence
    by_values_here (Open vs r) e = refl
    by_values_here (Broken vs broken) e = absurd cc

    abbrev front : Said
    front = said_of login salt s.handshake (live_awaited s) (values_of stream) silence

    front_is : said ≡ front
    front_is = by_values_here stream open_here

    abbrev next : Said
    next = said_in login salt said.handshake (awaited_behind said.replies (live_awaited s)) (reply_stream (rest ++ b))

    all_is : live_says s (a ++ b) ≡ then_said said next
    all_is =
        ap (said_in login salt s.handshake (live_awaited s)) goes
        ∙ said_cut login salt s.handshake (live_awaited s) (values_of stream) (reply_stream (rest ++ b)) (sym (ap (λ (x : Said). x.fault) front_is) ∙ good)
        ∙ ap (after_front login salt (live_awaited s) (reply_stream (rest ++ b))) (sym front_is)

    rest_is : rest_of (reply_stream (s.rest ++ (a ++ b))) ≡ rest_of (reply_stream (rest ++ b))
    rest_is = ap rest_of goes ∙ rest_of-front (values_of stream) (reply_stream (rest ++ b))

    -- what is left of the first piece
    abbrev left : LiveSession
    left = session_listens s a

    left-rest : left.rest ≡ rest
    unfolding session_takes
    left-rest = ap (λ (f : Option SessionFault). cond (is_some f) [] rest) good

    left-awaited : live_awaited left ≡ awaited_behind said.replies (live_awaited s)
    unfolding session_takes
    left-awaited = awaited_two said.fault said.replies s.carried good

    left-says : live_says left b ≡ next
    unfolding session_takes
    left-says = λ i. said_in login salt said.handshake (left-awaited i) (reply_stream (left-rest i ++ b))

    listens_two-good : session_listens left b ≡ session_listens s (a ++ b)
    listens_two-good =
        (λ i. session_takes left (left-says i) (rest_of (reply_stream (left-rest i ++ b))))
        ∙ takes_two s said next rest (rest_of (reply_stream (rest ++ b))) good
        ∙ (λ i. session_takes s (sym all_is i) (sym rest_is i))

listens-down : (s : LiveSession) (a : List ℕ)
    → (session_listens s a).down ≡ is_some (live_says s a).fault
unfolding session_takes
listens-down s a = refl

pub hears_two : (s : LiveSession) (a b : List ℕ)
    → session_hears (session_hears s a) b ≡ session_hears s (a ++ b)
hears_two s a b = by s.down refl
  where
    hears_up : (x : LiveSession) (bytes : List ℕ) → x.down ≡ false
        → session_hears x bytes ≡ session_listens x bytes
    hears_up x bytes e = ap (λ d. cond d x (session_listens x bytes)) e

    hears_down : (x : LiveSession) (bytes : List ℕ) → x.down ≡ true → session_hears x bytes ≡ x
    hears_down x bytes e = ap (λ d. cond d x (session_listens x bytes)) e

    by_fault : (f : Option SessionFault) → (live_says s a).fault ≡ f
        → session_hears (session_listens s a) b ≡ session_listens s (a ++ b)
    by_fault (Some f) e = hears_down (session_listens s a) b (listens-down s a ∙ ap (λ (x : Option SessionFault). is_some x) e) ∙ listens_two-fault s a b f e
    by_fault None e = hears_up (session_listens s a) b (listens-down s a ∙ ap (λ (x : Option SessionFault). is_some x) e) ∙ listens_two-good s a b e

    by : (d : Bool) → s.down ≡ d → session_hears (session_hears s a) b ≡ session_hears s (a ++ b)
    by true e = ap (λ (x : LiveSession). session_hears x b) (hears_down s a e) ∙ hears_down s b e ∙ sym (hears_down s (a ++ b) e)
    by false e = ap (λ (x : LiveSession). session_hears x b) (hears_up s a e) ∙ by_fault (live_says s a).fault refl ∙ sym (hears_up s (a ++ b) e)

pub hears_many : (pieces : List (List ℕ)) (s : LiveSession) (bytes : List ℕ)
    → session_hears_all s (bytes ∷ pieces) ≡ session_hears s (concat (bytes ∷ pieces))
hears_many [] s bytes = ap (session_hears s) (sym (append-nil bytes))
hears_many (more ∷ pieces) s bytes = hears_many pieces (session_hears s bytes) more ∙ hears_two s bytes (concat (more ∷ pieces))
