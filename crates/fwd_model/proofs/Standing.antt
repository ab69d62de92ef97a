-- A worker's session stands from its beginning to its end, and no other of its begins meanwhile.
use Rattle.std.proofs.Common.{◌≡◌, ℕ, zero, suc, ◌+◌, Bool, true, false, List, [], ◌∷◌, ◌++◌, Option, Some, None, refl, sym, ap, subst, ◌∙◌}
use Rattle.std.specs.Prelude.{is_some, option_map, not, ◌||◌, ◌==◌, nat_lt, length, slice_get, slice_set}
use Rattle.std.proofs.lemmas.List.{append_assoc, append-nil}
use Rattle.fwd_modes.specs.Requests.{Request}
use Rattle.fwd_match.specs.Patterns.{route}
use Rattle.fwd_source.specs.History.{SourceHistory}
use Rattle.fwd_chunks.specs.declared.wanted.Wanted.{Wanted}
use Rattle.fwd_chunks.specs.declared.fault.AdmitError.{AdmitError}
use Rattle.fwd_chunks.specs.declared.fault.AdmitError.TheVariants.{Full, NumbersSpent, Memory}
use Rattle.fwd_session.specs.History as session
use Rattle.fwd_session.specs.History.{SessionHistory}
use Rattle.fwd_session.specs.ServerAcks.{evidence_of, frame_of}
use Rattle.fwd_model.specs.declared.config.Config.{Config}
use Rattle.fwd_model.specs.declared.event.EndKind.{EndKind}
use Rattle.fwd_model.specs.declared.event.Event.{Event}
use Rattle.fwd_model.specs.declared.event.Event.TheVariants as event
use Rattle.fwd_model.specs.declared.answer.Answer.{Answer}
use Rattle.fwd_model.specs.declared.answer.Answer.TheVariants as answer
use Rattle.fwd_model.specs.declared.fault.Refusal.TheVariants.{NoSuch, NotNow, NotUp}
use Rattle.fwd_model.specs.Layers.{Worker}
use Rattle.fwd_model.specs.Outcome.{Outcome, Stays, Goes, answer_of, state_of, is_refusal, chunk_answer}
use Rattle.fwd_model.specs.Step as steps
use Rattle.fwd_model.specs.Step.{step}
use Rattle.fwd_model.specs.Setups.{session_setup}
use Rattle.fwd_model.specs.Outputs.{numbers_back}
use Rattle.fwd_model.specs.History.{Lane, History, opening, history_worker, histories}
use Rattle.fwd_model.specs.Delivered.{reached, answered, session_at, standing, NoneEnded, NoneBegan, HasBegun}
use Rattle.fwd_model.proofs.Onward.{Onward, to, past, past_found, at_next, Resting, rests, rest_past, rest_found, rest_within, source_on, lane_on, both_on, worker_on, session_on}
use Rattle.fwd_model.proofs.Places.{same_at}
use Rattle.fwd_model.proofs.Chronicle.{after-push, Stands}
use Rattle.std.proofs.lemmas.Option.{same_Some}

-- ---- a session in a list

-- a session stands at the place
abbrev stood : ℕ → List (Option SessionHistory) → Bool
stood w sessions = is_some (standing (slice_get sessions w))

-- a session of the worker stands at the output
abbrev pub is_up : ℕ → ℕ → List Lane → Bool
is_up o w lanes = is_some (standing (session_at w (slice_get lanes o)))

set_stood : (v w : ℕ) (sessions : List (Option SessionHistory)) (s : Option SessionHistory)
    → (v ≡ w → is_some s ≡ true) → stood w sessions ≡ true
    → stood w (slice_set sessions v s) ≡ true
set_stood v w [] s one h = absurd cc
set_stood zero zero (x ∷ sessions) s one h = one refl
set_stood zero (suc w) (x ∷ sessions) s one h = h
set_stood (suc v) zero (x ∷ sessions) s one h = h
set_stood (suc v) (suc w) (x ∷ sessions) s one h = set_stood v w sessions s (λ e. one (ap suc e)) h

set_up : (p o w : ℕ) (lanes : List Lane) (l m : Lane) → slice_get lanes p ≡ Some l
    → (p ≡ o → stood w l.sessions ≡ true → stood w m.sessions ≡ true)
    → is_up o w lanes ≡ true → is_up o w (slice_set lanes p m) ≡ true
set_up p o w [] l m here keeps h = absurd cc
set_up zero zero w (x ∷ lanes) l m here keeps h = keeps refl (ap (λ (y : Lane). stood w y.sessions) (sym (same_Some _ _ here)) ∙ h)
set_up zero (suc o) w (x ∷ lanes) l m here keeps h = h
set_up (suc p) zero w (x ∷ lanes) l m here keeps h = h
set_up (suc p) (suc o) w (x ∷ lanes) l m here keeps h = set_up p o w lanes l m here (λ e. keeps (ap suc e)) h

-- whatever an outcome goes on to
always : {S : Type 0} {P : Answer → S → Type 0} (x : Outcome S) → ((a : Answer) (s : S) → P a s)
    → Onward P x
always (Stays a) f = record { holds = tt }
always (Goes a s) f = to (f a s)

-- ---- at each event

module _ (h : History) (o w : ℕ) (up : is_up o w h.lanes ≡ true) where
  -- the session stands in what comes
  abbrev Up : Answer → History → Type 0
  Up a k = is_up o w k.lanes ≡ true

  lane_up : (p : ℕ) (l m : Lane) → slice_get h.lanes p ≡ Some l
      → (p ≡ o → stood w l.sessions ≡ true → stood w m.sessions ≡ true)
      → is_up o w (slice_set h.lanes p m) ≡ true
  lane_up p l m here keeps = set_up p o w h.lanes l m here keeps up

  -- the sessions of the output are the same
  same_up : (p : ℕ) (l m : Lane) → slice_get h.lanes p ≡ Some l → l.sessions ≡ m.sessions
      → is_up o w (slice_set h.lanes p m) ≡ true
  same_up p l m here same = lane_up p l m here (λ e b. ap (λ ss. stood w ss) (sym same) ∙ b)

  source_up : (id : ℕ) (f : SourceHistory → Outcome SourceHistory)
      → Onward Up (steps.at_source histories h id f)
  source_up id f = source_on histories h id Up f (λ s here. always (f s) (λ a u. up))

  shut_up : (id : ℕ) → Onward Up (steps.shut histories h id)
  shut_up id = past_found _ (λ s here. to up)

  -- a worker that has a session then
  worker_up : (p v : ℕ) (l : Lane) (s : SessionHistory) → slice_get h.lanes p ≡ Some l
      → is_up o w (slice_set h.lanes p (record l { sessions = slice_set l.sessions v (Some s) })) ≡ true
  worker_up p v l s here = lane_up p l (record l { sessions = slice_set l.sessions v (Some s) }) here (λ e b. set_stood v w l.sessions (Some s) (λ d. refl) b)

  session_up : (p v : ℕ) (f : SessionHistory → Outcome SessionHistory)
      → Onward Up (steps.at_lane histories h p (λ l. steps.at_worker histories l v (λ x. steps.at_session histories x f)))
  session_up p v f =
      lane_on histories h p Up (λ l. steps.at_worker histories l v (λ x. steps.at_session histories x f)) (λ l lane.
      worker_on histories l v _ (λ x. steps.at_session histories x f) (λ x at.
      session_on histories x _ f (λ s g. always (f s) (λ a u. worker_up p v l u lane))))

  begins_up : (p v server : ℕ) (salt : List ℕ) (now : ℕ)
      → Onward Up (step histories h (event.Up p v server salt now))
  begins_up p v server salt now =
      lane_on histories h p Up (λ l. steps.at_worker histories l v (steps.up histories l.config server salt now)) (λ l lane.
      worker_on histories l v _ (steps.up histories l.config server salt now) (λ x at.
      past NoSuch {b = not (nat_lt server (length l.config.standby))} (λ known.
      past NotNow {b = is_some x.session} (λ none. to (worker_up p v l _ lane)))))

  load_up : (p v now : ℕ) → Onward Up (step histories h (event.Load p v now))
  load_up p v now =
      lane_on histories h p Up (λ l. steps.at_worker histories l v (steps.load histories now)) (λ l lane.
      worker_on histories l v _ (steps.load histories now) (λ x at.
      past_found NotNow {x = x.session} (λ s f.
      past_found NotNow {x = x.taken} (λ c g.
      past NotNow {b = session.room s == 0} (λ some.
      past NotUp {b = not (session.is_ready s)} (λ ready. to {a = answer.Frame (frame_of c)} {s = steps.with_loaded (session.loads s c now)} (worker_up p v l (session.loads s c now) lane)))))))

  settle_up : (p v : ℕ) → Onward Up (step histories h (event.Settle p v))
  settle_up p v =
      lane_on histories h p Up (λ l. steps.settle histories l v) (λ l lane.
      past_found NoSuch {x = histories.worker_at l v} (λ x at.
      past_found NotNow {x = x.session} (λ s f.
      past_found NotNow {x = histories.acked s} (λ a acked. to {a = answer.Settled (histories.entries_at l a.chunk.number)} {s = histories.settles l v (steps.with_session x (session.unloads s)) (evidence_of s.setup.server a)}
      (lane_up p l (histories.settles l v (steps.with_session x (session.unloads s)) (evidence_of s.setup.server a)) lane (λ e b. set_stood v w l.sessions (Some (session.unloads s)) (λ d. refl) b))))))

  take_up : (p v now : ℕ) (wanted : Wanted)
      → Onward Up (step histories h (event.Take p v now wanted))
  take_up p v now wanted =
      lane_on histories h p Up (λ l. steps.take histories l v wanted now) (λ l lane.
      past_found NoSuch {x = histories.worker_at l v} (λ x at.
      past NotNow {b = is_some x.taken || steps.is_full histories x.session} (λ none. to {a = chunk_answer (histories.given l wanted now)} (same_up p l (histories.takes l v x wanted now) lane refl))))

  choose_up : (p v now : ℕ) → Onward Up (step histories h (event.Choose p v now))
  choose_up p v now =
      lane_on histories h p Up (λ l. steps.choose histories l v now) (λ l lane.
      past_found NoSuch {x = histories.worker_at l v} (λ x at. to (same_up p l (histories.watches l now) lane refl)))

  admit_up : (id p now : ℕ)
      → Onward Up (steps.at_both histories h id p (steps.admit histories h.routes id p now))
  admit_up id p now =
      both_on histories h id p Up (steps.admit histories h.routes id p now) (λ s l here lane.
      past_found _ (λ q first. by s q l lane (route h.routes q.tag)))
    where
      P : SourceHistory → Answer → SourceHistory × Lane → Type 0
      P s a two = is_up o w (slice_set h.lanes p two.1) ≡ true

      unless : (s : SourceHistory) (q : Request) (l : Lane) → slice_get h.lanes p ≡ Some l
          → (fault : Option AdmitError)
          → Onward (P s)
          (steps.enter_unless histories fault s q (record { conn = id; request = s.admitted + 1 }) l now)
      unless s q l lane None = to (same_up p l _ lane refl)
      unless s q l lane (Some Full) = to (same_up p l l lane refl)
      unless s q l lane (Some NumbersSpent) = to (same_up p l l lane refl)
      unless s q l lane (Some Memory) = record { holds = tt }

      by : (s : SourceHistory) (q : Request) (l : Lane) → slice_get h.lanes p ≡ Some l
          → (first : Option ℕ) → Onward (P s) (steps.routed histories first s q id p l now)
      by s q l lane None = to (same_up p l l lane refl)
      by s q l lane (Some first) = past _ (λ this. unless s q l lane (histories.refusal l (record { conn = id; request = s.admitted + 1 }) q now))

  collect_up : (id p : ℕ)
      → Onward Up (steps.at_both histories h id p (steps.collect histories id))
  collect_up id p =
      both_on histories h id p Up (steps.collect histories id) (λ s l here lane. past _ (λ open'. to (same_up p l (histories.tells l id) lane refl)))

  -- an end that is not of this session
  end_up : (p v : ℕ) (kind : EndKind) (now : ℕ)
      → Onward (λ a k. ((numbers : List ℕ) → a ≡ answer.Ended numbers → p ≡ o → v ≡ w → ⊥) → Up a k)
      (step histories h (event.End p v kind now))
  end_up p v kind now =
      lane_on histories h p _ (λ l. steps.end histories l v kind now) (λ l lane.
      past_found NoSuch {x = histories.worker_at l v} (λ x at.
      past NotNow {b = steps.is_idle histories x} (λ some.
      past NotNow {b = steps.has_acked histories x.session} (λ none. to {a = answer.Ended (numbers_back (steps.gives_back histories x))} (λ other.
      lane_up p l _ lane (λ e b. set_stood v w l.sessions None (λ d. absurd (other (numbers_back (steps.gives_back histories x)) refl e d)) b))))))

  stays_up : (e : Event) → Onward Up (step histories h e)
      → is_up o w (state_of h (step histories h e)).lanes ≡ true
  stays_up e on = at_next h (step histories h e) (λ k. is_up o w k.lanes ≡ true) (λ a is. up) on (λ a k is next. next)

  -- an event that does not end the session leaves it standing
  next_up : (config : Config) (es : List Event) → reached config es ≡ h → (e : Event)
      → Stands config es e o w → is_up o w (state_of h (step histories h e)).lanes ≡ true
  next_up config es at (event.Accept id nonce auth) quiet = stays_up (event.Accept id nonce auth) (past _ (λ fresh. to up))
  next_up config es at (event.Piece id bytes) quiet = stays_up (event.Piece id bytes) (source_up id (λ s. steps.piece histories s bytes))
  next_up config es at (event.Admit id p now) quiet = stays_up (event.Admit id p now) (admit_up id p now)
  next_up config es at (event.Flush p now kind) quiet = stays_up (event.Flush p now kind) (lane_on histories h p Up (λ l. steps.flush histories l now kind) (λ l lane. to (same_up p l (histories.flushes l now kind) lane refl)))
  next_up config es at (event.Choose p v now) quiet = stays_up (event.Choose p v now) (choose_up p v now)
  next_up config es at (event.Up p v server salt now) quiet = stays_up (event.Up p v server salt now) (begins_up p v server salt now)
  next_up config es at (event.Take p v now wanted) quiet = stays_up (event.Take p v now wanted) (take_up p v now wanted)
  next_up config es at (event.Load p v now) quiet = stays_up (event.Load p v now) (load_up p v now)
  next_up config es at (event.Wrote p v count) quiet = stays_up (event.Wrote p v count) (session_up p v (steps.wrote histories count))
  next_up config es at (event.Heard p v bytes) quiet = stays_up (event.Heard p v bytes) (session_up p v (steps.heard histories bytes))
  next_up config es at (event.Late p v now) quiet = stays_up (event.Late p v now) (session_up p v (steps.late histories now))
  next_up config es at (event.Settle p v) quiet = stays_up (event.Settle p v) (settle_up p v)
  next_up config es at (event.End p v kind now) quiet =
      at_next h (step histories h (event.End p v kind now)) (λ k. is_up o w k.lanes ≡ true) (λ a is. up) (end_up p v kind now)
      (λ a k is next. next (λ number ended d f. quiet kind now number (λ i. event.End (d i) (f i) kind now) (ap (λ k. answer_of (step histories k (event.End p v kind now))) at ∙ ap answer_of is ∙ ended)))
  next_up config es at (event.Collect id p) quiet = stays_up (event.Collect id p) (collect_up id p)
  next_up config es at (event.Forget id p) quiet = stays_up (event.Forget id p) (lane_on histories h p Up (λ l. steps.forget histories l id) (λ l lane. to (same_up p l (histories.forgets l id) lane refl)))
  next_up config es at (event.Drained id count) quiet = stays_up (event.Drained id count) (source_up id (λ s. steps.drained histories s count))
  -- a connection is shut, or nothing changes
  next_up config es at e quiet = stays_up e (Prim.first_of (search shut_up, search (same_at, up)))

-- ---- from its beginning on

up_rests : (h : History) (o w server : ℕ) (salt : List ℕ) (now : ℕ)
    → Resting (step histories h (event.Up o w server salt now))
up_rests h o w server salt now =
    rest_found (slice_get h.lanes o) NoSuch (λ l. rest_within _ (
    rest_found (histories.worker_at l w) NoSuch (λ x. rest_within _ (
    rest_past (not (nat_lt server (length l.config.standby))) NoSuch (rest_past (is_some x.session) NotNow rests)))))

-- what is answered Done goes on
done_goes : {P : Answer → History → Type 0} {Q : Type 0} (x : Outcome History) → Resting x
    → Onward P x → answer_of x ≡ answer.Done
    → ((a : Answer) (k : History) → x ≡ Goes a k → P a k → Q) → Q
done_goes (Stays a) r on e f = let stays : is_refusal a ≡ true = r.stays in no (sym stays ∙ ap is_refusal e)
  where
    no : {Q : Type 0} → true ≡ false → Q
    no d = absurd cc
done_goes (Goes a k) r on e f = f a k refl on.holds

get_set : {X : Type 0} (xs : List X) (i : ℕ) (x y : X) → slice_get xs i ≡ Some y
    → slice_get (slice_set xs i x) i ≡ Some x
get_set [] i x y h = absurd cc
get_set (a ∷ xs) zero x y h = refl
get_set (a ∷ xs) (suc i) x y h = get_set xs i x y h

-- where a worker is, so is the place of its session
there : (l : Lane) (w : ℕ) (x : Worker SessionHistory) (s : Option (Option SessionHistory))
    → option_map (history_worker l w) s ≡ Some x → s ≡ Some x.session
there l w x None e = absurd cc
there l w x (Some s) e = ap (λ (y : Worker SessionHistory). Some y.session) (same_Some _ _ e)

-- a session that begins stands
puts_up : (h : History) (o w server : ℕ) (salt : List ℕ) (now : ℕ)
    → Onward (λ a k. is_up o w k.lanes ≡ true) (step histories h (event.Up o w server salt now))
puts_up h o w server salt now =
    lane_on histories h o (λ a k. is_up o w k.lanes ≡ true) (λ l. steps.at_worker histories l w (steps.up histories l.config server salt now)) (λ l lane.
    worker_on histories l w _ (steps.up histories l.config server salt now) (λ x at.
    past NoSuch {b = not (nat_lt server (length l.config.standby))} (λ known.
    past NotNow {b = is_some x.session} (λ none. to {a = answer.Done} {s = steps.with_session x (session.begins (session_setup l.config server salt now))} (put l x lane at (session.begins (session_setup l.config server salt now)))))))
  where
    put : (l : Lane) (x : Worker SessionHistory) → slice_get h.lanes o ≡ Some l
        → option_map (history_worker l w) (slice_get l.sessions w) ≡ Some x
        → (s : SessionHistory)
        → is_up o w (slice_set h.lanes o (record l { sessions = slice_set l.sessions w (Some s) })) ≡ true
    put l x lane at s =
        ap (λ y. is_some (standing (session_at w y))) (get_set h.lanes o (record l { sessions = slice_set l.sessions w (Some s) }) l lane)
        ∙ ap (λ y. is_some (standing y)) (get_set l.sessions w (Some s) x.session (there l w x (slice_get l.sessions w) at))

-- where one stands, none begins
none_done : (h : History) (o w : ℕ) → is_up o w h.lanes ≡ true → (server : ℕ)
    (salt : List ℕ) (now : ℕ)
    → answer_of (step histories h (event.Up o w server salt now)) ≡ answer.Done → ⊥
none_done h o w up server salt now done = done_goes (step histories h (event.Up o w server salt now)) (up_rests h o w server salt now) never done (λ a k is no. no)
  where
    no : true ≡ false → ⊥
    no e = cc

    never : Onward (λ a k. ⊥) (step histories h (event.Up o w server salt now))
    never =
        lane_on histories h o (λ a k. ⊥) (λ l. steps.at_worker histories l w (steps.up histories l.config server salt now)) (λ l lane.
        worker_on histories l w _ (steps.up histories l.config server salt now) (λ x at.
        past NoSuch {b = not (nat_lt server (length l.config.standby))} (λ known.
        past NotNow {b = is_some x.session} (λ none. to {a = answer.Done} {s = steps.with_session x (session.begins (session_setup l.config server salt now))} (no
        (sym up ∙ ap (λ y. is_some (standing (session_at w y))) lane ∙ ap (λ y. is_some (standing y)) (there l w x (slice_get l.sessions w) at) ∙ none))))))

module _ (config : Config) (o w : ℕ) where
  begun_up : (es : List Event) (server : ℕ) (salt : List ℕ) (now : ℕ)
      → answered config es (event.Up o w server salt now) ≡ answer.Done
      → is_up o w (reached config (es ++ event.Up o w server salt now ∷ [])).lanes ≡ true
  begun_up es server salt now done =
      done_goes (step histories (reached config es) (event.Up o w server salt now)) (up_rests (reached config es) o w server salt now) (puts_up (reached config es) o w server salt now) done (λ a k is next.
      subst (λ (k : History). is_up o w k.lanes ≡ true) (sym (after-push (opening config) es (event.Up o w server salt now) ∙ ap (state_of (reached config es)) is)) next)

  -- it stands until it ends
  still_up : (before later : List Event) → is_up o w (reached config before).lanes ≡ true
      → NoneEnded config before later o w → is_up o w (reached config (before ++ later)).lanes ≡ true
  still_up before [] up none = subst (λ es. is_up o w (reached config es).lanes ≡ true) (sym (append-nil before)) up
  still_up before (e ∷ later) up none =
      let one : Stands config before e o w = λ kind moment number is ended. none [] later kind moment number (ap (λ x. x ∷ later) is) ((λ i. answered config (append-nil before i) (sym is i)) ∙ ended) in
      let next = next_up (reached config before) o w up config before refl e one in
      let pushed = subst (λ (k : History). is_up o w k.lanes ≡ true) (sym (after-push (opening config) before e)) next in
      subst (λ es. is_up o w (reached config es).lanes ≡ true) (append_assoc before (e ∷ []) later)
      (still_up (before ++ e ∷ []) later pushed (λ between rest kind moment number at ended.
      none (e ∷ between) rest kind moment number (ap (λ xs. e ∷ xs) at) (ap (λ es. answered config es (event.End o w kind moment)) (sym (append_assoc before (e ∷ []) between)) ∙ ended)))

  pub none_begins : {es : List Event} (b : HasBegun config es o w)
      → NoneBegan config (b.before ++ event.Up o w b.server b.salt b.moment ∷ []) b.later o w
  none_begins b between rest server salt moment at done =
      let begun = b.before ++ event.Up o w b.server b.salt b.moment ∷ [] in
      let up = begun_up b.before b.server b.salt b.moment b.done in
      let none : NoneEnded config begun between o w = λ front back kind now number split ended.
      b.kept front (back ++ event.Up o w server salt moment ∷ rest) kind now number (at ∙ ap (λ xs. xs ++ event.Up o w server salt moment ∷ rest) split ∙ append_assoc front (event.End o w kind now ∷ back) (event.Up o w server salt moment ∷ rest)) ended in
      none_done (reached config (begun ++ between)) o w (still_up begun between up none) server salt moment done
