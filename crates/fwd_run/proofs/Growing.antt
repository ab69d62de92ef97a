-- What an output knows of requests and of acknowledgements grows from event to event, where nobody is
-- told of them.
use Rattle.std.proofs.Common.{◌≡◌, ℕ, zero, suc, Bool, true, false, cond, eqb, List, [], ◌∷◌, ◌++◌, Option, Some, None, refl, sym, ap, subst, ◌∙◌, append_assoc, inl, inr}
use Rattle.std.proofs.Math.ListN.{set}
use Rattle.std.proofs.lemmas.List.{append-nil}
use Rattle.std.specs.Prelude.{◌⊎◌, ◌+◌, ◌==◌, ◌||◌, ◌&&◌, map, slice_get, is_some}
use Rattle.std.specs.List.{list_all}
use Rattle.std.proofs.lemmas.Bool.{and_parts}
use Rattle.fwd_modes.specs.Requests.{Request}
use Rattle.fwd_modes.specs.declared.origin.Origin.{Origin}
use Rattle.fwd_match.specs.Patterns.{route}
use Rattle.fwd_source.specs.History.{SourceHistory}
use Rattle.fwd_chunks.specs.declared.fault.AdmitError.{AdmitError}
use Rattle.fwd_chunks.specs.declared.fault.AdmitError.TheVariants.{Full, NumbersSpent, Memory}
use Rattle.fwd_chunks.specs.declared.span.Span.{Span}
use Rattle.fwd_chunks.specs.declared.wanted.Wanted.{Wanted}
use Rattle.fwd_chunks.specs.History.{spans_of}
use Rattle.fwd_session.specs.ServerAcks.{Accepted, ServerAck, evidence_of}
use Rattle.fwd_session.specs.History.{SessionHistory}
use Rattle.fwd_book.specs.History.{Admission, Entered, Untold, entered_as, is_settled}
use Rattle.fwd_book.specs.History.{evidence_of as book_evidence}
use Rattle.fwd_model.specs.declared.answer.Answer.{Answer}
use Rattle.fwd_model.specs.declared.answer.Answer.TheVariants as answer
use Rattle.fwd_model.specs.declared.config.Config.{Config}
use Rattle.fwd_model.specs.declared.event.EndKind.{EndKind}
use Rattle.fwd_model.specs.declared.event.Event.{Event}
use Rattle.fwd_model.specs.declared.event.Event.TheVariants as event
use Rattle.fwd_model.specs.declared.fault.Refusal.TheVariants.{NoSuch, NotNow}
use Rattle.fwd_model.specs.Layers.{Worker}
use Rattle.fwd_model.specs.Outcome.{Outcome, Goes, state_of, chunk_answer}
use Rattle.fwd_model.specs.Outputs.{numbers_back}
use Rattle.fwd_model.specs.Step as steps
use Rattle.fwd_model.specs.Step.{step}
use Rattle.fwd_model.specs.History.{Lane, History, histories, opening, with_lane, with_connection}
use Rattle.fwd_model.specs.Delivered.{reached}
use Rattle.fwd_model.proofs.Onward.{Onward, to, past, past_found, at_next, source_on, lane_on, both_on, worker_on}
use Rattle.fwd_model.proofs.Orders.Changes.{differ, same_number, slice_get-set_other}
use Rattle.fwd_history.specs.Histories.{IsLegal}
use Rattle.fwd_run.specs.Runs.{RunEvent, Opens, Relay, Leave, MayHappen, is_left_out, begun, config_of, with_event, relay_events}
use Rattle.fwd_run.proofs.Staying.{always, told_as}
use Rattle.fwd_run.proofs.Marks.{unmarked, after_append}
use Rattle.fwd_run.proofs.Receiving.{IsEntered}

-- it knows of more requests, and of more acknowledgements
pub record Grown (l m : Lane) : Type 0 where
  pub admissions : List Admission
  pub requests : m.output.book.admissions ≡ l.output.book.admissions ++ admissions
  pub acks : List ServerAck
  pub settled : m.output.book.settled ≡ l.output.book.settled ++ acks

-- with the same book
pub alike : (l m : Lane) → m.output.book ≡ l.output.book → Grown l m
alike l m same = record {
  admissions = [];
  requests = ap (λ b. b.admissions) same ∙ sym (append-nil l.output.book.admissions);
  acks = [];
  settled = ap (λ b. b.settled) same ∙ sym (append-nil l.output.book.settled);
}

pub further : (k l m : Lane) → Grown k l → Grown l m → Grown k m
further k l m a b = record {
  admissions = a.admissions ++ b.admissions;
  requests = b.requests ∙ ap (λ xs. xs ++ b.admissions) a.requests ∙ append_assoc k.output.book.admissions a.admissions b.admissions;
  acks = a.acks ++ b.acks;
  settled = b.settled ∙ ap (λ xs. xs ++ b.acks) a.settled ∙ append_assoc k.output.book.settled a.acks b.acks;
}

pub one_lane : {x y : Lane} → Some x ≡ Some y → x ≡ y
one_lane e = cc

pub put_here : {X : Type 0} (xs : List X) (o : ℕ) (x y : X) → slice_get xs o ≡ Some x → slice_get (set xs o y) o ≡ Some y
put_here [] o x y h = absurd cc
put_here (a ∷ xs) zero x y h = refl
put_here (a ∷ xs) (suc o) x y h = put_here xs o x y h

-- ---- one event, at a lane

same_book : (l : Lane) (x : Outcome Lane) → Onward (λ a m. m.output.book ≡ l.output.book) x → Onward (λ a m. Grown l m) x
same_book l x on = told_as x on (λ a m same. alike l m same)

settle_grows : (l : Lane) (w : ℕ) → Onward (λ a m. Grown l m) (steps.settle histories l w)
settle_grows l w = past_found NoSuch {x = histories.worker_at l w} (λ x at. past_found NotNow {x = x.session} (λ s has. past_found NotNow {x = histories.acked s} (λ a first. settles x s a)))
  where
    settles : (x : Worker SessionHistory) (s : SessionHistory) (a : Accepted)
        → Onward (λ a m. Grown l m) (Goes (answer.Settled (histories.entries_at l a.chunk.number)) (histories.settles l w (steps.with_session x (histories.unloads s)) (evidence_of (histories.server s) a)))
    settles x s a = to (record {
      admissions = [];
      requests = sym (append-nil l.output.book.admissions);
      acks = evidence_of (histories.server s) a ∷ [];
      settled = refl;
    })

take_same : (l : Lane) (w now : ℕ) (wanted : Wanted) → Onward (λ a m. m.output.book ≡ l.output.book) (steps.take histories l w wanted now)
take_same l w now wanted = past_found NoSuch {x = histories.worker_at l w} (λ x at. past NotNow {b = is_some x.taken || steps.is_full histories x.session} (λ may. takes x))
  where
    takes : (x : Worker SessionHistory) → Onward (λ a m. m.output.book ≡ l.output.book) (Goes (chunk_answer (histories.given l wanted now)) (histories.takes l w x wanted now))
    takes x = to refl

end_same : (l : Lane) (w now : ℕ) (kind : EndKind) → Onward (λ a m. m.output.book ≡ l.output.book) (steps.end histories l w kind now)
end_same l w now kind = past_found NoSuch {x = histories.worker_at l w} (λ x at. past NotNow {b = steps.is_idle histories x} (λ some. past NotNow {b = steps.has_acked histories x.session} (λ none. ends x)))
  where
    ends : (x : Worker SessionHistory) → Onward (λ a m. m.output.book ≡ l.output.book) (Goes (answer.Ended (numbers_back (steps.gives_back histories x))) (histories.ends l w (steps.gives_back histories x) (steps.lost_server histories kind x.session) now))
    ends x = to refl

choose_same : (l : Lane) (w now : ℕ) → Onward (λ a m. m.output.book ≡ l.output.book) (steps.choose histories l w now)
choose_same l w now = past_found NoSuch {x = histories.worker_at l w} (λ x at. chooses)
  where
    chooses : Onward (λ a m. m.output.book ≡ l.output.book) (Goes (answer.Chose (histories.chosen l w now)) (histories.watches l now))
    chooses = to refl

seat_same : (l : Lane) (w : ℕ) (f : Worker SessionHistory → Outcome (Worker SessionHistory)) → Onward (λ a m. m.output.book ≡ l.output.book) (steps.at_worker histories l w f)
seat_same l w f = worker_on histories l w (λ a m. m.output.book ≡ l.output.book) f (λ x at. always (f x) (λ a y. refl))

admit_grows : (patterns : List (List (List ℕ))) (id o now : ℕ) (s : SourceHistory) (l : Lane)
    → Onward (λ a two. Grown l two.1) (steps.admit histories patterns id o now s l)
admit_grows patterns id o now s l = past_found _ (λ q first. routed q (route patterns q.tag))
  where
    unless : (q : Request) (origin : Origin) (fault : Option AdmitError) → Onward (λ a two. Grown l two.1) (steps.enter_unless histories fault s q origin l now)
    unless q origin None = to (record {
      admissions = record { request = entered_as q origin (spans_of l.output.buffer origin q now); fate = Untold } ∷ [];
      requests = refl;
      acks = [];
      settled = sym (append-nil l.output.book.settled);
    })
    unless q origin (Some Full) = to (alike l l refl)
    unless q origin (Some NumbersSpent) = to (alike l l refl)
    unless q origin (Some Memory) = record { holds = tt }

    routed : (q : Request) (first : Option ℕ) → Onward (λ a two. Grown l two.1) (steps.routed histories first s q id o l now)
    routed q None = to (alike l l refl)
    routed q (Some first) = past _ (λ here. unless q (record { conn = id; request = s.admitted + 1 }) (histories.refusal l (record { conn = id; request = s.admitted + 1 }) q now))

-- ---- one event, of the relay

-- the output of a number is there still, and knows of more
pub record Has (o : ℕ) (l : Lane) (h : History) : Type 0 where
  pub lane : Lane
  pub here : slice_get h.lanes o ≡ Some lane
  pub grown : Grown l lane

module _ (h : History) (o : ℕ) (l : Lane) (here : slice_get h.lanes o ≡ Some l) where
  stays : Has o l h
  stays = record { lane = l; here = here; grown = alike l l refl }

  next_has : (x : Outcome History) → Onward (λ a s. Has o l s) x → Has o l (state_of h x)
  next_has x on = at_next h x (λ s. Has o l s) (λ a e. stays) on (λ a s e has. has)

  -- a lane in place of another
  put : (p : ℕ) (k m : Lane) (g : History) → g.lanes ≡ h.lanes → slice_get h.lanes p ≡ Some k → Grown k m → Has o l (with_lane p m g)
  put p k m g same there grown = subst (λ ls. Has o l (record g { lanes = set ls p m })) (sym same) (by (eqb p o) refl)
    where
      by : (b : Bool) → eqb p o ≡ b → Has o l (record g { lanes = set h.lanes p m })
      by true e =
          let at : p ≡ o = same_number p o e in
          let is : k ≡ l = one_lane (sym there ∙ (ap (slice_get h.lanes) at ∙ here)) in
          record { lane = m; here = ap (λ q. slice_get (set h.lanes q m) o) at ∙ put_here h.lanes o l m here; grown = subst (λ x. Grown x m) is grown }
      by false e = record { lane = l; here = slice_get-set_other h.lanes p o m (differ p o e) ∙ here; grown = alike l l refl }

  at_lane_has : (p : ℕ) (f : Lane → Outcome Lane) → ((k : Lane) → Onward (λ a m. Grown k m) (f k)) → Has o l (state_of h (steps.at_lane histories h p f))
  at_lane_has p f grows =
      next_has (steps.at_lane histories h p f) (lane_on histories h p (λ a s. Has o l s) f (λ k there. told_as (f k) (grows k) (λ a m grown. put p k m h refl there grown)))

  calm_has : (p : ℕ) (f : Lane → Outcome Lane) → ((k : Lane) → Onward (λ a m. m.output.book ≡ k.output.book) (f k)) → Has o l (state_of h (steps.at_lane histories h p f))
  calm_has p f same = at_lane_has p f (λ k. same_book k (f k) (same k))

  seat_has : (p w : ℕ) (f : Lane → Worker SessionHistory → Outcome (Worker SessionHistory)) → Has o l (state_of h (steps.at_lane histories h p (λ k. steps.at_worker histories k w (f k))))
  seat_has p w f = calm_has p (λ k. steps.at_worker histories k w (f k)) (λ k. seat_same k w (f k))

  source_has : (id : ℕ) (f : SourceHistory → Outcome SourceHistory) → Has o l (state_of h (steps.at_source histories h id f))
  source_has id f =
      next_has (steps.at_source histories h id f) (source_on histories h id (λ a s. Has o l s) f (λ s known. always (f s) (λ a t. record { lane = l; here = here; grown = alike l l refl })))

  pub event_has : (e : Event) → is_left_out e ≡ false → Has o l (state_of h (step histories h e))
  event_has (event.Accept id nonce auth) plain = next_has (step histories h (event.Accept id nonce auth)) (past _ (λ fresh. to (record { lane = l; here = here; grown = alike l l refl })))
  event_has (event.Piece id bytes) plain = source_has id (λ s. steps.piece histories s bytes)
  event_has (event.Admit id p now) plain =
      next_has (step histories h (event.Admit id p now))
      (both_on histories h id p (λ a s. Has o l s) (steps.admit histories h.routes id p now) (λ s k known there. told_as (steps.admit histories h.routes id p now s k) (admit_grows h.routes id p now s k) (λ a two grown. put p k two.1 (with_connection id two.0 h) refl there grown)))
  event_has (event.Flush p now kind) plain = calm_has p (λ k. steps.flush histories k now kind) (λ k. to refl)
  event_has (event.Choose p w now) plain = calm_has p (λ k. steps.choose histories k w now) (λ k. choose_same k w now)
  event_has (event.Up p w server salt now) plain = seat_has p w (λ k. steps.up histories k.config server salt now)
  event_has (event.Take p w now wanted) plain = calm_has p (λ k. steps.take histories k w wanted now) (λ k. take_same k w now wanted)
  event_has (event.Load p w now) plain = seat_has p w (λ k. steps.load histories now)
  event_has (event.Wrote p w count) plain = seat_has p w (λ k x. steps.at_session histories x (steps.wrote histories count))
  event_has (event.Heard p w bytes) plain = seat_has p w (λ k x. steps.at_session histories x (steps.heard histories bytes))
  event_has (event.Settle p w) plain = at_lane_has p (λ k. steps.settle histories k w) (λ k. settle_grows k w)
  event_has (event.Late p w now) plain = seat_has p w (λ k x. steps.at_session histories x (steps.late histories now))
  event_has (event.End p w kind now) plain = calm_has p (λ k. steps.end histories k w kind now) (λ k. end_same k w now kind)
  event_has (event.Collect id p) plain = absurd (cc plain)
  event_has (event.Forget id p) plain = absurd (cc plain)
  event_has (event.Drained id count) plain = source_has id (λ s. steps.drained histories s count)
  event_has (event.Shut id) plain = next_has (step histories h (event.Shut id)) (past_found _ (λ s known. to (record { lane = l; here = here; grown = alike l l refl })))

-- ---- a run that goes on

pub record GoesOn (c : Config) (o : ℕ) (l : Lane) (past : List RunEvent) : Type 0 where
  pub config : config_of past ≡ Some c
  pub has : Has o l (reached c (relay_events past))

next_on : (c : Config) (o : ℕ) (l : Lane) (e : RunEvent) (past : List RunEvent) → MayHappen past e → GoesOn c o l past → GoesOn c o l (e ∷ past)
next_on c o l e past may on = record {
  config = ap (λ x. begun x e) on.config;
  has = subst (λ x. Has o l (reached c (with_event x e (relay_events past)))) (sym on.config) (by e may);
}
  where
    by : (e : RunEvent) → MayHappen past e → Has o l (reached c (with_event (Some c) e (relay_events past)))
    by (Opens other) may = on.has
    by (Leave p origins) may = on.has
    by (Relay e) may =
        let one = event_has (reached c (relay_events past)) o on.has.lane on.has.here e may in
        subst (Has o l) (sym (after_append (relay_events past) (e ∷ []) (opening c)))
        (record { lane = one.lane; here = one.here; grown = further l on.has.lane one.lane on.has.grown one.grown })

pub goes_on : (c : Config) (o : ℕ) (l : Lane) (old more : List RunEvent) → IsLegal MayHappen (more ++ old) → config_of old ≡ Some c
    → slice_get (reached c (relay_events old)).lanes o ≡ Some l → GoesOn c o l (more ++ old)
goes_on c o l old [] legal begun here = record { config = begun; has = record { lane = l; here = here; grown = alike l l refl } }
goes_on c o l old (e ∷ more) legal begun here = next_on c o l e (more ++ old) legal.1 (goes_on c o l old more legal.0 begun here)

-- ---- what was entered and acknowledged stays so

pub entered_on : (q : Entered) (ads more : List Admission) → IsEntered q ads → IsEntered q (ads ++ more)
entered_on q [] more entered = absurd entered
entered_on q (a ∷ ads) more (inl is) = inl is
entered_on q (a ∷ ads) more (inr entered) = inr (entered_on q ads more entered)

pub entered_unmarked : (q : Entered) (ads : List Admission) → IsEntered q ads → IsEntered q (map unmarked ads)
entered_unmarked q [] entered = absurd entered
entered_unmarked q (a ∷ ads) (inl is) = inl is
entered_unmarked q (a ∷ ads) (inr entered) = inr (entered_unmarked q ads entered)

pub entered_marked : (q : Entered) (ads : List Admission) → IsEntered q (map unmarked ads) → IsEntered q ads
entered_marked q [] entered = absurd entered
entered_marked q (a ∷ ads) (inl is) = inl is
entered_marked q (a ∷ ads) (inr entered) = inr (entered_marked q ads entered)

found_on : (n : ℕ) (es more : List ServerAck) → is_some (book_evidence es n) ≡ true → is_some (book_evidence (es ++ more) n) ≡ true
found_on n [] more found = absurd cc
found_on n (e ∷ es) more found = by (found_on n es more) (e.number == n) refl
  where
    by : (is_some (book_evidence es n) ≡ true → is_some (book_evidence (es ++ more) n) ≡ true) → (b : Bool) → (e.number == n) ≡ b
        → is_some (book_evidence ((e ∷ es) ++ more) n) ≡ true
    by rest true is = ap (λ c. is_some (cond c (Some e) (book_evidence (es ++ more) n))) is
    by rest false is =
        ap (λ c. is_some (cond c (Some e) (book_evidence (es ++ more) n))) is
        ∙ rest (sym (ap (λ c. is_some (cond c (Some e) (book_evidence es n))) is) ∙ found)

all_on : (spans : List Span) (es more : List ServerAck) → list_all (λ s. is_some (book_evidence es s.number)) spans ≡ true → list_all (λ s. is_some (book_evidence (es ++ more) s.number)) spans ≡ true
all_on [] es more all = refl
all_on (s ∷ spans) es more all =
    let parts = and_parts (is_some (book_evidence es s.number)) (list_all (λ s. is_some (book_evidence es s.number)) spans) all in
    λ i. found_on s.number es more parts.0 i && all_on spans es more parts.1 i

pub settled_on : (q : Entered) (es more : List ServerAck) → is_settled es q ≡ true → is_settled (es ++ more) q ≡ true
settled_on q es more all = all_on q.spans es more all
