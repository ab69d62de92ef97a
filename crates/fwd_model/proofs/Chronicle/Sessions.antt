-- What the events of sessions add to the chronicle.
use Rattle.std.proofs.Common.{◌≡◌, ℕ, zero, suc, ◌+◌, ◌<◌, ◌≤◌, Bool, true, false, cond, List, [], ◌∷◌, ◌++◌, length, drop, Option, Some, None, refl, sym, ap, subst, ◌∙◌, inl, inr, arith}
use Rattle.std.specs.Prelude.{◌⊎◌, slice_get}
use Rattle.std.proofs.lemmas.List.{append-nil, length-append}
use Rattle.std.proofs.lemmas.Option.{same_Some}
use Rattle.fwd_msgpack.specs.Heads.{head_bytes}
use Rattle.fwd_modes.specs.Frames.{chunk_frame}
use Rattle.fwd_chunks.specs.History.{CarriedChunk}
use Rattle.fwd_session.specs.ServerAcks.{Accepted, frame_of}
use Rattle.fwd_session.specs.Said.{out_of}
use Rattle.fwd_session.specs.History as session
use Rattle.fwd_session.specs.History.{Loaded, SessionHistory, IsSane as IsSaneHistory, IsFramed, IsAcknowledged, is_ready, newly_accepted, says}
use Rattle.fwd_session.proofs.Lists.{all_append, all_left, all_same}
use Rattle.fwd_session.proofs.Framing.{begins-framed, loads-framed, sends-framed, hears-framed, unloads-framed, looks-framed}
use Rattle.fwd_session.proofs.Accepting.{acknowledged}
use Rattle.fwd_model.specs.declared.config.Config.{Config}
use Rattle.fwd_model.specs.declared.event.Event.{Event}
use Rattle.fwd_model.specs.declared.event.Event.TheVariants as event
use Rattle.fwd_model.specs.declared.answer.Answer.TheVariants as answer
use Rattle.fwd_model.specs.History.{Connection, Lane, with_place}
use Rattle.fwd_model.specs.Delivered.{reached, answered, session_of, WasSent}
use Rattle.fwd_model.proofs.Lists.{all_at, all_drop}
use Rattle.fwd_model.proofs.Reached.{slice_get-set}
use Rattle.fwd_model.proofs.Chronicle.{Stands, Quiet, LoadedStory, AckedStory, SessionStory, LaneStory, session_still, loads_still, acks_still, begun_still, loaded_still, lane_still, extends_same}

-- ---- one session's story goes on

pub put_session : (config : Config) (es : List Event) (e : Event) (o : ℕ) (cs : List Connection)
    (l : Lane) (w : ℕ) (s : SessionHistory) → Quiet config es e o
    → LaneStory config es cs o l
    → SessionStory config (es ++ e ∷ []) o w s
    → LaneStory config (es ++ e ∷ []) cs o (with_place w (Some s) l)
put_session config es e o cs l w s quiet t story =
    let still = lane_still config es e cs cs o l (extends_same cs) quiet t in record {
      sessions = λ j u h. at j u (slice_get-set l.sessions w j (Some s) (Some u) h);
      numbers = still.numbers;
      own = still.own;
      requests = still.requests;
      numbered = still.numbered;
      named = still.named;
    }
  where
    at : (j : ℕ) (u : SessionHistory)
        → ((w ≡ j) × (Some s ≡ Some u)) ⊎ ((w ≡ j → ⊥) × (slice_get l.sessions j ≡ Some (Some u)))
        → SessionStory config (es ++ e ∷ []) o j u
    at j u (inl x) = subst (λ k. SessionStory config (es ++ e ∷ []) o k u) x.0 (subst (λ v. SessionStory config (es ++ e ∷ []) o w v) (same_Some _ _ x.1) story)
    at j u (inr x) = session_still config es e o j u (quiet j) (t.sessions j u x.1)

no_split : (between : List Event) (x : Event) (rest : List Event) → [] ≡ between ++ x ∷ rest
    → ⊥
no_split [] x rest e = cc
no_split (b ∷ between) x rest e = cc

frame_some : (c : CarriedChunk) → 0 < length (frame_of c)
unfolding chunk_frame head_bytes
frame_some c = omega arith

-- a frame that is appended now is not sent yet
not_yet : (s : SessionHistory) (c : CarriedChunk) → s.sent ≤ length s.appended
    → length (s.appended ++ frame_of c) ≤ s.sent → ⊥
not_yet s c le through = omega (arith, length-append s.appended (frame_of c), frame_some c, le, through)

module _ (config : Config) (es : List Event) (o w : ℕ) where
  pub begins : (setup : session.Setup) (server : ℕ) (salt : List ℕ) (now : ℕ)
      → answered config es (event.Up o w server salt now) ≡ answer.Done
      → SessionStory config (es ++ event.Up o w server salt now ∷ []) o w (session.begins setup)
  begins setup server salt now done = record {
    begun = record { before = es; server = server; salt = salt; moment = now; later = []; split = refl; done = done; kept = λ between rest kind m numbers at e. no_split between (event.End o w kind m) rest at };
    framed = begins-framed setup;
    loaded = tt;
    acked = tt;
  }

  pub loads : (s : SessionHistory) (c : CarriedChunk) (now : ℕ)
      → SessionStory config es o w s → IsSaneHistory s → is_ready s ≡ true
      → session_of (reached config es) o w ≡ Some s
      → answered config es (event.Load o w now) ≡ answer.Frame (frame_of c)
      → SessionStory config (es ++ event.Load o w now ∷ []) o w (session.loads s c now)
  loads s c now t own ready stands answered = record {
    begun = begun_still config es e o w calm t.begun;
    framed = loads-framed s c now t.framed ready;
    loaded = all_append (LoadedStory config (es ++ e ∷ []) o w (s.appended ++ frame_of c) s.sent) s.carried (one ∷ []) (loads_still config es e o w s.appended (frame_of c) s.sent s.carried calm t.loaded) (
      record {
        was_loaded = record { before = es; moment = now; later = []; split = refl; session = s; stands = stands; loads = answered; kept = λ between rest kind m numbers at e. no_split between (event.End o w kind m) rest at; begun = t.begun };
        put = record { back = []; framed = sym (append-nil (s.appended ++ frame_of c)); through = refl };
        was_sent = λ through. absurd (not_yet s c own.sent through);
      },
      tt,
    );
    acked = acks_still config es e o w s.accepted t.acked;
  }
    where
      e : Event
      e = event.Load o w now

      calm : Stands config es e o w
      calm kind moment numbers is done = absurd cc

      one : Loaded
      one = record { chunk = c; through = length (s.appended ++ frame_of c); moment = Rattle.std.proofs.Common.max s.moment now }

  pub sends : (s : SessionHistory) (count : ℕ) → SessionStory config es o w s
      → answered config es (event.Wrote o w count) ≡ answer.Done
      → session_of (reached config (es ++ event.Wrote o w count ∷ [])) o w ≡ Some
      (session.sends s count)
      → SessionStory config (es ++ event.Wrote o w count ∷ []) o w (session.sends s count)
  unfolding loaded_still
  sends s count t done stands = record {
    begun = begun_still config es e o w calm t.begun;
    framed = sends-framed s count t.framed;
    loaded = all_same (LoadedStory config es o w s.appended s.sent) (LoadedStory config (es ++ e ∷ []) o w s.appended (s.sent + count)) s.carried (λ l its. record {
      was_loaded = loaded_still config es e o w (frame_of l.chunk) calm its.was_loaded;
      put = record { back = its.put.back; framed = its.put.framed; through = its.put.through };
      was_sent = λ through. record {
        before = es;
        count = count;
        later = [];
        split = refl;
        done = done;
        session = session.sends s count;
        stands = stands;
        loaded = its.was_loaded;
        taken = record { back = its.put.back; framed = its.put.framed; through = subst (λ n. n ≤ s.sent + count) its.put.through through };
        kept = λ between rest kind m numbers split e. no_split between (event.End o w kind m) rest split;
      };
    }) t.loaded;
    acked = acks_still config es e o w s.accepted t.acked;
  }
    where
      e : Event
      e = event.Wrote o w count

      calm : Stands config es e o w
      calm kind moment numbers is done = absurd cc

  pub hears : (bytes : List ℕ) (s : SessionHistory)
      → SessionStory config es o w s → IsSaneHistory s → s.down ≡ false
      → session_of (reached config es) o w ≡ Some s
      → SessionStory config (es ++ event.Heard o w bytes ∷ []) o w
      (session.listens s bytes (says s bytes))
  hears bytes s t own up stands = record {
    begun = begun_still config es e o w calm t.begun;
    framed = subst IsFramed (ap (λ b. cond b s (session.listens s bytes (says s bytes))) up) (hears-framed s bytes own t.framed);
    loaded = all_left (LoadedStory config (es ++ e ∷ []) o w (s.appended ++ out_of (says s bytes)) s.sent) (λ l. l.chunk.name) (says s bytes).replies s.carried (loads_still config es e o w s.appended (out_of (says s bytes)) s.sent s.carried calm t.loaded);
    acked = all_append (AckedStory config (es ++ e ∷ []) o w) s.accepted (newly_accepted s bytes) (acks_still config es e o w s.accepted t.acked)
        (all_same (IsAcknowledged s bytes) (AckedStory config (es ++ e ∷ []) o w) (newly_accepted s bytes) acked (acknowledged s bytes));
  }
    where
      e : Event
      e = event.Heard o w bytes

      calm : Stands config es e o w
      calm kind moment numbers is done = absurd cc

      acked : (a : Accepted) → IsAcknowledged s bytes a
          → AckedStory config (es ++ event.Heard o w bytes ∷ []) o w a
      acked a is =
          let its = all_at (LoadedStory config es o w s.appended s.sent) s.carried is.place is.loaded t.loaded is.carried in
          record {
            before = es;
            bytes = bytes;
            later = [];
            split = refl;
            session = s;
            stands = stands;
            is_up = up;
            value = a.reply;
            place = is.turn;
            ended = is.ended;
            names = is.named;
            sent = subst (λ c. WasSent config es o w (frame_of c)) is.chunk (its.was_sent is.handed_on);
          }

  pub looks : (s : SessionHistory) (now : ℕ) → SessionStory config es o w s
      → SessionStory config (es ++ event.Late o w now ∷ []) o w (session.looks s now)
  looks s now t =
      let still = session_still config es (event.Late o w now) o w s (λ kind moment numbers is done. absurd cc) t in
      record { begun = still.begun; framed = looks-framed s now t.framed; loaded = still.loaded; acked = still.acked }

  pub unloads : (e : Event) (s : SessionHistory) → Stands config es e o w
      → SessionStory config es o w s → SessionStory config (es ++ e ∷ []) o w (session.unloads s)
  unloads e s quiet t =
      let still = session_still config es e o w s quiet t in
      record { begun = still.begun; framed = unloads-framed s t.framed; loaded = still.loaded; acked = all_drop (AckedStory config (es ++ e ∷ []) o w) s.accepted still.acked }
