-- What became of requests matters to nothing else: without it events lead where they lead.
use Rattle.std.proofs.Common.{◌≡◌, ℕ, zero, suc, Bool, true, false, List, [], ◌∷◌, ◌++◌, Option, Some, None, refl, sym, ap, ◌∙◌}
use Rattle.std.proofs.Math.ListN.{set}
use Rattle.std.proofs.lemmas.List.{map-set}
use Rattle.std.proofs.lemmas.Option.{slice_get-map}
use Rattle.std.specs.Prelude.{map, not, length, slice_get, option_map, is_some, ◌&&◌, ◌||◌, ◌+◌, ◌==◌}
use Rattle.fwd_modes.specs.Requests.{Request}
use Rattle.fwd_modes.specs.declared.origin.Origin.{Origin}
use Rattle.fwd_match.specs.Patterns.{route}
use Rattle.fwd_source.specs.History.{SourceHistory, waiting}
use Rattle.fwd_chunks.specs.declared.fault.AdmitError.{AdmitError}
use Rattle.fwd_chunks.specs.declared.fault.AdmitError.TheVariants.{Full, NumbersSpent, Memory}
use Rattle.fwd_chunks.specs.declared.wanted.Wanted.{Wanted}
use Rattle.fwd_chunks.specs.History.{spans_of}
use Rattle.fwd_session.specs.History.{SessionHistory}
use Rattle.fwd_book.specs.History as book
use Rattle.fwd_book.specs.History.{Fate, Untold, Admission, BookHistory, leaves, becomes, is_untold, entered_as}
use Rattle.fwd_model.specs.declared.answer.Answer.{Answer}
use Rattle.fwd_model.specs.declared.answer.Answer.TheVariants as answer
use Rattle.fwd_model.specs.declared.config.Config.{Config}
use Rattle.fwd_model.specs.declared.config.OutputConfig.{OutputConfig}
use Rattle.fwd_model.specs.declared.event.EndKind.{EndKind}
use Rattle.fwd_model.specs.declared.event.Event.{Event}
use Rattle.fwd_model.specs.declared.event.Event.TheVariants as event
use Rattle.fwd_model.specs.declared.fault.Refusal.{Refusal}
use Rattle.fwd_model.specs.declared.fault.Refusal.TheVariants.{NoSuch}
use Rattle.fwd_model.specs.Layers.{Worker}
use Rattle.fwd_model.specs.Outcome.{Outcome, Stays, Goes, Check, state_of, within, found, refuse_if, first_of, ◌>>=◌, ◌>>◌}
use Rattle.fwd_model.specs.Step as steps
use Rattle.fwd_model.specs.Step.{step, after}
use Rattle.fwd_model.specs.Outputs.{OutputHistory}
use Rattle.fwd_model.specs.History.{Lane, History, histories, new_lane, new_lanes, opening, source_at, with_output, with_lane, with_connection}
use Rattle.fwd_model.specs.Delivered.{reached}
use Rattle.fwd_history.specs.Histories.{IsLegal}
use Rattle.fwd_run.specs.Runs.{RunEvent, Opens, Relay, Leave, MayHappen, is_left_out, begun, config_of, with_event, relay_events}
use Rattle.fwd_run.proofs.Histories.{lane_forgets, put_at, history_next, history_moved, run_history}

-- nothing became of a request, of any
abbrev pub unmarked : Admission → Admission
unmarked a = record { request = a.request; fate = Untold }

abbrev pub unmarked_book : BookHistory → BookHistory
unmarked_book b = record b { admissions = map unmarked b.admissions }

abbrev pub unmarked_output : OutputHistory → OutputHistory
unmarked_output p = record p { book = unmarked_book p.book }

abbrev pub unmarked_lane : Lane → Lane
unmarked_lane l = with_output l (unmarked_output l.output)

abbrev pub unmarked_relay : History → History
unmarked_relay h = record h { lanes = map unmarked_lane h.lanes }

-- ---- a request is entered, and leaves

pub unmarked-push : (ads : List Admission) (a : Admission)
    → map unmarked (ads ++ a ∷ []) ≡ map unmarked ads ++ unmarked a ∷ []
unmarked-push [] a = refl
unmarked-push (b ∷ ads) a = ap (λ xs. unmarked b ∷ xs) (unmarked-push ads a)

unmarked-becomes : (fate : Fate) (b : Bool) (a : Admission) → unmarked (becomes fate b a) ≡ unmarked a
unmarked-becomes fate true a = refl
unmarked-becomes fate false a = refl

unmarked-all : (fate : Fate) (gone : Admission → Bool) (ads : List Admission)
    → map unmarked (map (λ a. becomes fate (is_untold a.fate && gone a) a) ads) ≡ map unmarked ads
unmarked-all fate gone [] = refl
unmarked-all fate gone (a ∷ ads) =
    λ i. unmarked-becomes fate (is_untold a.fate && gone a) a i ∷ unmarked-all fate gone ads i

pub unmarked-leaves : (fate : Fate) (gone : Admission → Bool) (b : BookHistory)
    → unmarked_book (leaves fate gone b) ≡ unmarked_book b
unfolding leaves
unmarked-leaves fate gone b = ap (λ ads. record b { admissions = ads }) (unmarked-all fate gone b.admissions)

enters_unmarked : (l : Lane) (origin : Origin) (q : Request) (now : ℕ)
    → unmarked_lane (histories.enters l origin q now) ≡ histories.enters (unmarked_lane l) origin q now
enters_unmarked l origin q now =
    let entered = entered_as q origin (spans_of l.output.buffer origin q now) in
    ap (λ ads. with_output l (record (histories.enters l origin q now).output { book = record (l.output.book) { admissions = ads } }))
    (unmarked-push l.output.book.admissions (record { request = entered; fate = Untold }))

-- ---- one event, at a lane

module _ {S T : Type 0} (g : S → T) where
  same_found : {X : Type 0} (x : Option X) (why : Refusal) (p : X → Outcome S) (q : X → Outcome T) → ((z : X) → within g (p z) ≡ q z)
      → within g (found x why >>= p) ≡ (found x why >>= q)
  same_found None why p q same = refl
  same_found (Some z) why p q same = same z

  same_check : (b : Bool) (why : Refusal) (p : Outcome S) (q : Outcome T) → within g p ≡ q
      → within g (refuse_if b why >> p) ≡ (refuse_if b why >> q)
  same_check true why p q same = refl
  same_check false why p q same = same

-- what is put into a lane
same_put : {X : Type 0} (x : Outcome X) (put put' : X → Lane) → ((y : X) → unmarked_lane (put y) ≡ put' y)
    → within unmarked_lane (within put x) ≡ within put' x
same_put (Stays a) put put' same = refl
same_put (Goes a y) put put' same = ap (Goes a) (same y)

-- an event of a lane asks and changes nothing of what became of requests
abbrev IsBlind : (Lane → Outcome Lane) → Type 0
IsBlind f = (l : Lane) → within unmarked_lane (f l) ≡ f (unmarked_lane l)

at_worker_blind : (w : ℕ) (f : Lane → Worker SessionHistory → Outcome (Worker SessionHistory)) → ((l : Lane) → f (unmarked_lane l) ≡ f l)
    → IsBlind (λ l. steps.at_worker histories l w (f l))
at_worker_blind w f same l =
    same_found unmarked_lane (histories.worker_at l w) _ (λ x. within (histories.puts_worker l w) (f l x)) (λ x. within (histories.puts_worker (unmarked_lane l) w) (f l x)) (λ x. same_put (f l x) (histories.puts_worker l w) (histories.puts_worker (unmarked_lane l) w) (λ y. refl))
    ∙ ap (λ k. steps.at_worker histories (unmarked_lane l) w k) (sym (same l))

take_blind : (w now : ℕ) (wanted : Wanted) → IsBlind (λ l. steps.take histories l w wanted now)
take_blind w now wanted l =
    same_found unmarked_lane (histories.worker_at l w) _ _ _ (λ x. same_check unmarked_lane (is_some x.taken || steps.is_full histories x.session) _ _ _ refl)

settle_blind : (w : ℕ) → IsBlind (λ l. steps.settle histories l w)
settle_blind w l =
    same_found unmarked_lane (histories.worker_at l w) _ _ _ (λ x. same_found unmarked_lane x.session _ _ _ (λ s. same_found unmarked_lane (histories.acked s) _ _ _ (λ a. refl)))

end_blind : (w now : ℕ) (kind : EndKind) → IsBlind (λ l. steps.end histories l w kind now)
end_blind w now kind l =
    same_found unmarked_lane (histories.worker_at l w) _ _ _ (λ x. same_check unmarked_lane (steps.is_idle histories x) _ _ _ (same_check unmarked_lane (steps.has_acked histories x.session) _ _ _ refl))

choose_blind : (w now : ℕ) → IsBlind (λ l. steps.choose histories l w now)
choose_blind w now l = same_found unmarked_lane (histories.worker_at l w) _ _ _ (λ x. refl)

-- ---- an admission

abbrev unmarked_both : SourceHistory × Lane → SourceHistory × Lane
unmarked_both two = (two.0, unmarked_lane two.1)

unless_blind : (fault : Option AdmitError) (s : SourceHistory) (q : Request) (origin : Origin) (l : Lane) (now : ℕ)
    → within unmarked_both (steps.enter_unless histories fault s q origin l now) ≡ steps.enter_unless histories fault s q origin (unmarked_lane l) now
unless_blind None s q origin l now = ap (λ m. Goes (answer.Admitted origin.request (length q.entries)) (histories.gives s, m)) (enters_unmarked l origin q now)
unless_blind (Some Full) s q origin l now = refl
unless_blind (Some NumbersSpent) s q origin l now = refl
unless_blind (Some Memory) s q origin l now = refl

routed_blind : (first : Option ℕ) (s : SourceHistory) (q : Request) (id o : ℕ) (l : Lane) (now : ℕ)
    → within unmarked_both (steps.routed histories first s q id o l now) ≡ steps.routed histories first s q id o (unmarked_lane l) now
routed_blind None s q id o l now = refl
routed_blind (Some first) s q id o l now =
    let origin : Origin = record { conn = id; request = s.admitted + 1 } in
    same_check unmarked_both (not (first == o)) _ _ _ (unless_blind (histories.refusal l origin q now) s q origin l now)

admit_blind : (patterns : List (List (List ℕ))) (id o now : ℕ) (s : SourceHistory) (l : Lane)
    → within unmarked_both (steps.admit histories patterns id o now s l) ≡ steps.admit histories patterns id o now s (unmarked_lane l)
admit_blind patterns id o now s l =
    same_found unmarked_both (first_of (waiting s)) _ _ _ (λ q. routed_blind (route patterns q.tag) s q id o l now)

-- ---- one event, of the relay

module _ (h : History) where
  abbrev U : History → History
  U k = unmarked_relay k

  -- what an outcome is, and that of the relay where nothing became of requests
  abbrev Alike : Outcome History → Outcome History → Type 0
  Alike x y = U (state_of h x) ≡ state_of (U h) y

  found_alike : {X : Type 0} (x : Option X) (why : Refusal) (p q : X → Outcome History) → ((z : X) → Alike (p z) (q z))
      → Alike (found x why >>= p) (found x why >>= q)
  found_alike None why p q alike = refl
  found_alike (Some z) why p q alike = alike z

  check_alike : (b : Bool) (why : Refusal) (p q : Outcome History) → Alike p q → Alike (refuse_if b why >> p) (refuse_if b why >> q)
  check_alike true why p q alike = refl
  check_alike false why p q alike = alike

  put_alike : {X Y : Type 0} (g : X → Y) (x : Outcome X) (y : Outcome Y) (put : X → History) (put' : Y → History) → within g x ≡ y
      → ((z : X) → U (put z) ≡ put' (g z)) → Alike (within put x) (within put' y)
  put_alike g (Stays a) y put put' is same = ap (λ z. state_of (U h) (within put' z)) is
  put_alike g (Goes a z) y put put' is same = same z ∙ ap (λ z. state_of (U h) (within put' z)) is

  lane_unmarked : (o : ℕ) (m : Lane) (k : History) → U (with_lane o m k) ≡ with_lane o (unmarked_lane m) (U k)
  lane_unmarked o m k = λ i. record (U k) { lanes = map-set unmarked_lane k.lanes o m i }

  lane_alike : (o : ℕ) (f : Lane → Outcome Lane) → IsBlind f → Alike (steps.at_lane histories h o f) (steps.at_lane histories (U h) o f)
  lane_alike o f blind = by (slice_get h.lanes o) refl
    where
      there : (x : Option Lane) → slice_get h.lanes o ≡ x → slice_get (U h).lanes o ≡ option_map unmarked_lane x
      there x here = slice_get-map unmarked_lane h.lanes o ∙ ap (option_map unmarked_lane) here

      by : (x : Option Lane) → slice_get h.lanes o ≡ x → Alike (steps.at_lane histories h o f) (steps.at_lane histories (U h) o f)
      by x here =
          ap (λ y. U (state_of h (found y NoSuch >>= (λ l. within (λ m. with_lane o m h) (f l))))) here
          ∙ at x
          ∙ sym (ap (λ y. state_of (U h) (found y NoSuch >>= (λ l. within (λ m. with_lane o m (U h)) (f l)))) (there x here))
        where
          at : (x : Option Lane)
              → U (state_of h (found x NoSuch >>= (λ l. within (λ m. with_lane o m h) (f l))))
              ≡ state_of (U h) (found (option_map unmarked_lane x) NoSuch >>= (λ l. within (λ m. with_lane o m (U h)) (f l)))
          at None = refl
          at (Some l) = put_alike unmarked_lane (f l) (f (unmarked_lane l)) (λ m. with_lane o m h) (λ m. with_lane o m (U h)) (blind l) (λ m. lane_unmarked o m h)

  both_alike : (id o : ℕ) (f : SourceHistory → Lane → Outcome (SourceHistory × Lane))
      → ((s : SourceHistory) (l : Lane) → within unmarked_both (f s l) ≡ f s (unmarked_lane l))
      → Alike (steps.at_both histories h id o f) (steps.at_both histories (U h) id o f)
  both_alike id o f blind =
      found_alike (source_at id h.connections) NoSuch (λ s. found (slice_get h.lanes o) NoSuch >>= (λ l. within put (f s l))) (λ s. found (slice_get (U h).lanes o) NoSuch >>= (λ l. within put' (f s l))) (λ s. by s (slice_get h.lanes o) refl)
    where
      put : SourceHistory × Lane → History
      put two = with_lane o two.1 (with_connection id two.0 h)

      put' : SourceHistory × Lane → History
      put' two = with_lane o two.1 (with_connection id two.0 (U h))

      at : (s : SourceHistory) (x : Option Lane)
          → Alike (found x NoSuch >>= (λ l. within put (f s l))) (found (option_map unmarked_lane x) NoSuch >>= (λ l. within put' (f s l)))
      at s None = refl
      at s (Some l) = put_alike unmarked_both (f s l) (f s (unmarked_lane l)) put put' (blind s l) (λ two. lane_unmarked o two.1 (with_connection id two.0 h))

      by : (s : SourceHistory) (x : Option Lane) → slice_get h.lanes o ≡ x
          → Alike (found (slice_get h.lanes o) NoSuch >>= (λ l. within put (f s l))) (found (slice_get (U h).lanes o) NoSuch >>= (λ l. within put' (f s l)))
      by s x here =
          ap (λ y. U (state_of h (found y NoSuch >>= (λ l. within put (f s l))))) here
          ∙ at s x
          ∙ sym (ap (λ y. state_of (U h) (found y NoSuch >>= (λ l. within put' (f s l)))) (slice_get-map unmarked_lane h.lanes o ∙ ap (option_map unmarked_lane) here))

  source_alike : (id : ℕ) (f : SourceHistory → Outcome SourceHistory) → Alike (steps.at_source histories h id f) (steps.at_source histories (U h) id f)
  source_alike id f =
      found_alike (source_at id h.connections) NoSuch (λ s. within (λ t. with_connection id t h) (f s)) (λ s. within (λ t. with_connection id t (U h)) (f s))
      (λ s. put_alike (λ (t : SourceHistory). t) (f s) (f s) (λ t. with_connection id t h) (λ t. with_connection id t (U h)) (whole (f s)) (λ t. refl))
    where
      whole : (x : Outcome SourceHistory) → within (λ (t : SourceHistory). t) x ≡ x
      whole (Stays a) = refl
      whole (Goes a t) = refl

  event_alike : (e : Event) → is_left_out e ≡ false → U (state_of h (step histories h e)) ≡ state_of (U h) (step histories (U h) e)
  event_alike (event.Accept id nonce auth) plain = check_alike (not (histories.is_fresh h id)) _ _ _ refl
  event_alike (event.Piece id bytes) plain = source_alike id (λ s. steps.piece histories s bytes)
  event_alike (event.Admit id o now) plain = both_alike id o (steps.admit histories h.routes id o now) (admit_blind h.routes id o now)
  event_alike (event.Flush o now kind) plain = lane_alike o (λ l. steps.flush histories l now kind) (λ l. refl)
  event_alike (event.Choose o w now) plain = lane_alike o (λ l. steps.choose histories l w now) (choose_blind w now)
  event_alike (event.Up o w server salt now) plain =
      lane_alike o (λ l. steps.at_worker histories l w (steps.up histories l.config server salt now)) (at_worker_blind w (λ l. steps.up histories l.config server salt now) (λ l. refl))
  event_alike (event.Take o w now wanted) plain = lane_alike o (λ l. steps.take histories l w wanted now) (take_blind w now wanted)
  event_alike (event.Load o w now) plain = lane_alike o (λ l. steps.at_worker histories l w (steps.load histories now)) (at_worker_blind w (λ l. steps.load histories now) (λ l. refl))
  event_alike (event.Wrote o w count) plain =
      lane_alike o (λ l. steps.at_worker histories l w (λ x. steps.at_session histories x (steps.wrote histories count))) (at_worker_blind w (λ l x. steps.at_session histories x (steps.wrote histories count)) (λ l. refl))
  event_alike (event.Heard o w bytes) plain =
      lane_alike o (λ l. steps.at_worker histories l w (λ x. steps.at_session histories x (steps.heard histories bytes))) (at_worker_blind w (λ l x. steps.at_session histories x (steps.heard histories bytes)) (λ l. refl))
  event_alike (event.Settle o w) plain = lane_alike o (λ l. steps.settle histories l w) (settle_blind w)
  event_alike (event.Late o w now) plain =
      lane_alike o (λ l. steps.at_worker histories l w (λ x. steps.at_session histories x (steps.late histories now))) (at_worker_blind w (λ l x. steps.at_session histories x (steps.late histories now)) (λ l. refl))
  event_alike (event.End o w kind now) plain = lane_alike o (λ l. steps.end histories l w kind now) (end_blind w now kind)
  event_alike (event.Collect id o) plain = absurd (cc plain)
  event_alike (event.Forget id o) plain = absurd (cc plain)
  event_alike (event.Drained id count) plain = source_alike id (λ s. steps.drained histories s count)
  event_alike (event.Shut id) plain = found_alike (source_at id h.connections) NoSuch _ _ (λ s. refl)

-- ---- a run

leave_unmarked : (h : History) (o : ℕ) (origins : List Origin) → unmarked_relay (put_at o (lane_forgets origins) h (slice_get h.lanes o)) ≡ unmarked_relay h
leave_unmarked h o origins = by (slice_get h.lanes o) refl
  where
    put_back : (ls : List Lane) (k : ℕ) (l : Lane) → slice_get ls k ≡ Some l → map unmarked_lane (set ls k (lane_forgets origins l)) ≡ map unmarked_lane ls
    put_back [] k l here = refl
    put_back (m ∷ ls) zero l here =
        let e : m ≡ l = cc in
        λ i. (ap (with_output l) (ap (λ b. record (l.output) { book = b }) (unmarked-leaves book.Forgotten (λ a. book.is_among origins a.request.origin) l.output.book)) ∙ ap unmarked_lane (sym e)) i ∷ map unmarked_lane ls
    put_back (m ∷ ls) (suc k) l here = ap (λ xs. unmarked_lane m ∷ xs) (put_back ls k l here)

    by : (x : Option Lane) → slice_get h.lanes o ≡ x → unmarked_relay (put_at o (lane_forgets origins) h x) ≡ unmarked_relay h
    by None here = refl
    by (Some l) here = ap (λ ls. record h { lanes = ls }) (put_back h.lanes o l here)

new_unmarked : (run : List ℕ) (o : ℕ) (cs : List OutputConfig) → map unmarked_lane (new_lanes run o cs) ≡ new_lanes run o cs
new_unmarked run o [] = refl
new_unmarked run o (c ∷ cs) = ap (λ ls. new_lane run o c ∷ ls) (new_unmarked run (suc o) cs)

opening_unmarked : (config : Config) → unmarked_relay (opening config) ≡ opening config
unfolding opening
opening_unmarked config = ap (λ ls. record (opening config) { lanes = ls }) (new_unmarked config.run 0 config.outputs)

pub after_append : (es fs : List Event) (h : History) → after histories h (es ++ fs) ≡ after histories (after histories h es) fs
after_append [] fs h = refl
after_append (e ∷ es) fs h = after_append es fs (after histories h (e ∷ []))

-- but for what became of requests, a run's history leads where its events of the relay lead
abbrev pub Follows : Option Config → List Event → Option History → Type 0
Follows None es None = es ≡ []
Follows None es (Some h) = ⊥
Follows (Some config) es None = ⊥
Follows (Some config) es (Some h) = unmarked_relay h ≡ reached config es

next_unmarked : (config : Config) (es : List Event) (h : History) (e : RunEvent) (past : List RunEvent) → MayHappen past e → unmarked_relay h ≡ reached config es
    → unmarked_relay (history_next h e) ≡ reached config (with_event (Some config) e es)
next_unmarked config es h (Opens other) past may same = same
next_unmarked config es h (Relay e) past may same =
    event_alike h e may ∙ ap (λ h. state_of h (step histories h e)) same ∙ sym (after_append es (e ∷ []) (opening config))
next_unmarked config es h (Leave o origins) past may same = leave_unmarked h o origins ∙ same

moved_unmarked : (c : Option Config) (es : List Event) (x : Option History) (e : RunEvent) (past : List RunEvent) → MayHappen past e → Follows c es x
    → Follows (begun c e) (with_event c e es) (history_moved x e)
moved_unmarked None es None (Opens config) past may follows = opening_unmarked config ∙ ap (reached config) (sym follows)
moved_unmarked None es None (Relay e) past may follows = follows
moved_unmarked None es None (Leave o origins) past may follows = follows
moved_unmarked None es (Some h) e past may follows = absurd follows
moved_unmarked (Some config) es None e past may follows = absurd follows
moved_unmarked (Some config) es (Some h) e past may follows = next_unmarked config es h e past may follows

pub run_unmarked : (past : List RunEvent) → IsLegal MayHappen past → Follows (config_of past) (relay_events past) (run_history past)
run_unmarked [] legal = refl
run_unmarked (e ∷ past) legal = moved_unmarked (config_of past) (relay_events past) (run_history past) e past legal.1 (run_unmarked past legal.0)
