-- A run begins, and its parts are known.
use Rattle.std.proofs.Common.{◌≡◌, ℕ, ◌+◌, ◌==◌, ◌||◌, ◌≤◌, arith, Bool, true, false, List, [], ◌∷◌, ◌++◌, Option, Some, None, refl, ap, sym, subst, ◌∙◌}
use Rattle.std.proofs.lemmas.List.{append-nil}
use Rattle.std.specs.Prelude.{◌&&◌}
use Rattle.fwd_chunks.specs.History.{BufferSetting}
use Rattle.fwd_failover.specs.History.{ServersSetting}
use Rattle.fwd_msgpack.specs.declared.limits.Limits.{Limits}
use Rattle.fwd_handshake.specs.declared.credentials.Security.{Security}
use Rattle.fwd_source.specs.Live.{LiveSource, opened_source}
use Rattle.fwd_session.specs.Live.{LiveSession}
use Rattle.fwd_model.specs.declared.event.Event.TheVariants as event
use Rattle.fwd_model.specs.Layers.{Worker}
use Rattle.fwd_model.specs.Names.{Connection, Output, Session, is_accept}
use Rattle.fwd_model.specs.Outputs.{LiveOutput, no_requests}
use Rattle.fwd_model.specs.Setups.{setup_of}
use Rattle.fwd_model.specs.History.{opening}
use Rattle.fwd_model.specs.Live.{LiveRelay, is_above, live, lives}
use Rattle.fwd_history.specs.Histories.{count_of, Comes, Went, IsOf, IsOfBoth}
use Rattle.fwd_history.proofs.Entries.{count_grows, step_untouched, same}
use Rattle.fwd_run.specs.Pages.{IdsKnown, OutputKnown, SourceKnown, WorkerKnown}
use Rattle.fwd_run.specs.Runs.{RunEvent, Opens, Relay, Leave, moved, next, run_after, config_of, begun, seen, output_at, output_in, worker_at, worker_in, settings_at, source_at, source_in, last_id, security_at, limits_at, key_of, id_key, touches}
use Rattle.fwd_run.proofs.Since.{last_since, output_since, source_step, worker_since}
use Rattle.fwd_run.proofs.Keeping.{settings_still}
use Rattle.fwd_run.proofs.Fixed.{begun_still}
use Rattle.fwd_run.proofs.Adding.{AddedBoth, has_begun, output_known, source_adds, source_known, worker_known}
use Rattle.fwd_run.proofs.Acting.{accept_acts, leave_acts, late_rests, nothing_drained}

-- a part to which nothing has happened had no part since a history that is reached
went_from : (k : ℕ) (reached past : List RunEvent) → Went touches k [] past → Comes reached past → Went touches k reached past
went_from k reached past went comes =
    let grows = count_grows touches k comes.0 reached in
    let whole : count_of touches k (comes.0 ++ reached) ≡ 0 = ap (count_of touches k) comes.1 ∙ went.2 in
    let none : count_of touches k reached ≡ 0 = omega (arith, grows, whole) in
    (comes.0, comes.1, went.2 ∙ sym none)

-- a part that had no part in what came between two histories had none in what came in between
went_between : (k : ℕ) (old reached past : List RunEvent) → Went touches k old past → Comes old reached → Comes reached past → Went touches k old reached
went_between k old reached past went first rest =
    let low = count_grows touches k first.0 old in
    let high = count_grows touches k rest.0 reached in
    let here : count_of touches k (first.0 ++ old) ≡ count_of touches k reached = ap (count_of touches k) first.1 in
    let end : count_of touches k (rest.0 ++ reached) ≡ count_of touches k old = ap (count_of touches k) rest.1 ∙ went.2 in
    let same : count_of touches k reached ≡ count_of touches k old = omega (arith, low, high, here, end) in
    (first.0, first.1, same)

-- an output to which nothing happened is what it was
pub output_rests : (o : ℕ) (old reached past : List RunEvent) (p : LiveOutput) → output_at old o ≡ Some p
    → Went touches (key_of (Output o)) old past → Comes old reached → Comes reached past → output_at reached o ≡ Some p
output_rests o old reached past p at went first rest =
    let was = has_begun (λ r. output_in r o) (run_after old) p at in
    output_since o old reached was.0 was.1 (went_between (key_of (Output o)) old reached past went first rest) ∙ at

-- an event is added behind a history that is reached
abbrev pub AddedAfter : ℕ → List RunEvent → List RunEvent → RunEvent → List RunEvent → Type 0
AddedAfter k old reached e new =
    (past : List RunEvent) × (f : RunEvent) × IsOf touches k f × Went touches k old past × Comes reached past × (f ≡ e) × (new ≡ f ∷ past)

pub output_begins : (o k : ℕ) (old reached new : List RunEvent) (setting : BufferSetting) (servers : ServersSetting) → k ≡ key_of (Output o) → old ≡ []
    → output_at reached o ≡ Some (no_requests setting servers) → AddedAfter k old reached (Leave o []) new
    → output_known o new ≡ record { output = o; settings = settings_at reached o; is = output_at reached o }
output_begins o k old reached new setting servers key empty at a =
    let p = no_requests setting servers in
    let went : Went touches (key_of (Output o)) reached a.0 =
    went_from (key_of (Output o)) reached a.0 (subst (λ l. Went touches (key_of (Output o)) l a.0) empty (subst (λ k. Went touches k old a.0) key a.3)) a.4 in
    let was = has_begun (λ r. output_in r o) (run_after reached) p at in
    let still = has_begun (λ r. output_in r o) (run_after a.0) p (output_since o reached a.0 was.0 was.1 went ∙ at) in
    let is : output_at new o ≡ Some p =
    ap (λ l. output_at l o) a.6 ∙ (ap (λ f. output_at (f ∷ a.0) o) a.5 ∙ (ap (λ x. seen (λ r. output_in r o) (moved x (Leave o []))) still.1 ∙ leave_acts still.0 o p still.2 [])) in
    let kept : settings_at new o ≡ settings_at reached o =
    settings_still o reached new was.0 was.1 (a.1 ∷ a.4.0, ap (λ l. a.1 ∷ l) a.4.1 ∙ sym a.6) in
    λ i. record { output = o; settings = kept i; is = (is ∙ sym at) i }

pub worker_begins : (o w k : ℕ) (old reached new : List RunEvent) → k ≡ key_of (Session o w) → old ≡ []
    → worker_at reached o w ≡ Some (record { taken = None; session = None }) → AddedAfter k old reached (Relay (event.Late o w 0)) new
    → worker_known o w new ≡ record { output = o; worker = w; settings = settings_at reached o; has = Some (record { taken = None; session = None }) }
worker_begins o w k old reached new key empty at a =
    let x : Worker LiveSession = record { taken = None; session = None } in
    let went : Went touches (key_of (Session o w)) reached a.0 =
    went_from (key_of (Session o w)) reached a.0 (subst (λ l. Went touches (key_of (Session o w)) l a.0) empty (subst (λ k. Went touches k old a.0) key a.3)) a.4 in
    let was = has_begun (λ r. worker_in r o w) (run_after reached) x at in
    let still = has_begun (λ r. worker_in r o w) (run_after a.0) x (worker_since o w reached a.0 was.0 was.1 went ∙ at) in
    let is : worker_at new o w ≡ Some x =
    ap (λ l. worker_at l o w) a.6 ∙ (ap (λ f. worker_at (f ∷ a.0) o w) a.5 ∙ (ap (λ z. seen (λ r. worker_in r o w) (moved z (Relay (event.Late o w 0)))) still.1 ∙ late_rests still.0 o w still.2 0)) in
    let kept : settings_at new o ≡ settings_at reached o =
    settings_still o reached new was.0 was.1 (a.1 ∷ a.4.0, ap (λ l. a.1 ∷ l) a.4.1 ∙ sym a.6) in
    λ i. record { output = o; worker = w; settings = kept i; has = is i }

-- ---- nothing has begun where no event of what begins it has come

not_begun : (past : List RunEvent) → count_of touches id_key past ≡ 0 → (run_after past ≡ None) × (config_of past ≡ None)
not_begun [] none = (refl, refl)
not_begun (e ∷ past) none =
    let u = step_untouched touches id_key e past [] (ap (λ (l : List RunEvent). count_of touches id_key (e ∷ l)) (append-nil past) ∙ none) in
    by e u.0 (not_begun past (sym (ap (count_of touches id_key) (append-nil past)) ∙ u.1))
  where
    by : (e : RunEvent) → touches id_key e ≡ false → (run_after past ≡ None) × (config_of past ≡ None) → (run_after (e ∷ past) ≡ None) × (config_of (e ∷ past) ≡ None)
    by (Opens config) off before = absurd (cc (sym (same id_key) ∙ off))
    by (Relay e) off before = (ap (λ x. moved x (Relay e)) before.0, ap (λ x. begun x (Relay e)) before.1)
    by (Leave o origins) off before = (ap (λ x. moved x (Leave o origins)) before.0, ap (λ x. begun x (Leave o origins)) before.1)

pub begins : (past : List RunEvent) → Went touches id_key [] past → (run_after past ≡ None) × (config_of past ≡ None)
begins past went = not_begun past went.2

-- ---- connections

-- a connection of which nothing has happened is not known
unknown : (id : ℕ) (past : List RunEvent) → count_of touches (key_of (Connection id)) past ≡ 0 → source_at past id ≡ None
unfolding live opening
unknown id [] none = refl
unknown id (e ∷ past) none =
    let u = step_untouched touches (key_of (Connection id)) e past [] (ap (λ (l : List RunEvent). count_of touches (key_of (Connection id)) (e ∷ l)) (append-nil past) ∙ none) in
    by e u.0 (run_after past) (unknown id past (sym (ap (count_of touches (key_of (Connection id))) (append-nil past)) ∙ u.1))
  where
    by : (e : RunEvent) → touches (key_of (Connection id)) e ≡ false → (x : Option LiveRelay) → seen (λ r. source_in r id) x ≡ None → seen (λ r. source_in r id) (moved x e) ≡ None
    by (Opens config) off None before = refl
    by (Relay e) off None before = refl
    by (Leave o origins) off None before = refl
    by e off (Some r) before = source_step id r e off ∙ before

-- an accept names its connection, and what gives the ids
pub accept_parts : (k a : ℕ) → (((k == a) || false) || ((k == id_key) && true)) ≡ ((k == a) || (k == id_key))
accept_parts k a = by (k == a) (k == id_key)
  where
    by : (b c : Bool) → ((b || false) || (c && true)) ≡ (b || c)
    by true c = refl
    by false true = refl
    by false false = refl

one_security : {x y : Security} → Some x ≡ Some y → x ≡ y
one_security e = cc

one_limits : {x y : Limits} → Some x ≡ Some y → x ≡ y
one_limits e = cc

-- a connection comes
pub accept_adds : (id a b : ℕ) (nonce auth : List ℕ) (old other new : List RunEvent) (security : Security) (limits : Limits) (shown : IdsKnown)
    → a ≡ key_of (Connection id) → b ≡ id_key → old ≡ [] → record { last = last_id other; security = security_at other; limits = limits_at other } ≡ shown
    → shown.security ≡ Some security → shown.limits ≡ Some limits → is_above id shown.last ≡ true
    → AddedBoth a b old other (Relay (event.Accept id nonce auth)) new
    → (source_at new id ≡ Some (opened_source (setup_of security limits id nonce auth)))
    × (record { last = last_id new; security = security_at new; limits = limits_at new } ≡ record shown { last = Some id })
accept_adds id ka kb nonce auth old other new security limits shown ea eb empty view secured limited fresh a =
    let e : RunEvent = Relay (event.Accept id nonce auth) in
    let none : source_at a.0 id ≡ None =
    unknown id a.0 (ap (λ k. count_of touches k a.0) (sym ea) ∙ (a.3.2 ∙ ap (count_of touches ka) empty)) in
    let went : Went touches id_key other a.0 = subst (λ k. Went touches k other a.0) eb a.4 in
    let was = has_begun (λ r. Some r.security) (run_after other) security (ap (λ (k : IdsKnown). k.security) view ∙ secured) in
    let comes : Comes other a.0 = (went.0, went.1) in
    let safe : security_at a.0 ≡ Some security = begun_still (λ b. b.security) other a.0 was.0 was.1 comes ∙ (ap (λ (k : IdsKnown). k.security) view ∙ secured) in
    let deep : limits_at a.0 ≡ Some limits = begun_still (λ b. b.limits) other a.0 was.0 was.1 comes ∙ (ap (λ (k : IdsKnown). k.limits) view ∙ limited) in
    let still = has_begun (λ r. Some r.security) (run_after a.0) security safe in
    let r = still.0 in
    let after : run_after a.0 ≡ Some r = still.1 in
    let last : r.last ≡ shown.last = sym (ap (seen (λ r. r.last)) after) ∙ (last_since other a.0 was.0 was.1 went ∙ ap (λ (k : IdsKnown). k.last) view) in
    let acts = accept_acts r id nonce auth (ap (is_above id) last ∙ fresh) (sym (ap (seen (λ r. source_in r id)) after) ∙ none) in
    let new_is : run_after new ≡ Some (next r e) = ap run_after a.6 ∙ (ap (λ f. run_after (f ∷ a.0)) a.5 ∙ ap (λ x. moved x e) after) in
    let keeps : Comes other new = (a.1 ∷ went.0, ap (λ l. a.1 ∷ l) went.1 ∙ sym a.6) in (
      ap (seen (λ r. source_in r id)) new_is ∙ (acts.0 ∙ (λ i. Some (opened_source (setup_of (one_security still.2 i) (one_limits (sym (ap (seen (λ r. Some r.limits)) after) ∙ deep) i) id nonce auth)))),
      (λ i. record {
        last = (ap (seen (λ r. r.last)) new_is ∙ acts.1) i;
        security = (begun_still (λ b. b.security) other new was.0 was.1 keeps ∙ ap (λ (k : IdsKnown). k.security) view) i;
        limits = (begun_still (λ b. b.limits) other new was.0 was.1 keeps ∙ ap (λ (k : IdsKnown). k.limits) view) i;
      }),
    )

-- a connection is known behind a history that is reached
pub after_adds : (id k : ℕ) (old reached new : List RunEvent) (s : LiveSource) (shown : SourceKnown) → k ≡ key_of (Connection id)
    → source_known id old ≡ shown → shown.is ≡ Some s → AddedAfter k old reached (Relay (event.Drained id 0)) new
    → source_known id new ≡ shown
after_adds id k old reached new s shown key view at a =
    source_adds id k old new (Relay (event.Drained id 0)) s s shown key view at (a.0, a.1, a.2, a.3, a.5, a.6) (λ r known. nothing_drained r id s known)
    ∙ (λ i. record shown { is = sym at i })
