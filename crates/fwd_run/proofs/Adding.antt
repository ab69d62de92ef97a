-- What whoever has a part's page knows of the part once an event of it is added.
use Rattle.std.proofs.Common.{◌≡◌, ℕ, ◌==◌, ◌||◌, Bool, true, false, List, [], ◌∷◌, Option, Some, None, ◌++◌, ◌<◌, ◌≢◌, arith, refl, ap, sym, subst, ◌∙◌}
use Rattle.std.specs.Prelude.{◌&&◌, option_to_list}
use Rattle.fwd_source.specs.Live.{LiveSource}
use Rattle.fwd_session.specs.Live.{LiveSession}
use Rattle.fwd_model.specs.declared.config.OutputConfig.{OutputConfig}
use Rattle.fwd_model.specs.Layers.{Worker}
use Rattle.fwd_model.specs.Live.{LiveRelay}
use Rattle.fwd_model.specs.Names.{Connection, Output, Session}
use Rattle.fwd_model.specs.Outputs.{LiveOutput}
use Rattle.fwd_history.specs.Histories.{Went, IsOf, IsOfBoth}
use Rattle.fwd_run.specs.Runs.{RunEvent, next, moved, run_after, seen, output_at, output_in, worker_at, worker_in, settings_at, settings_in, source_at, source_in, routes_at, key_of, id_key, touches}
use Rattle.fwd_run.specs.Pages.{OutputKnown, SourceKnown, WorkerKnown, AreCarried, chunks_in}
use Rattle.fwd_run.proofs.Since.{output_since, source_since, worker_since}
use Rattle.fwd_run.proofs.Keeping.{first_worker, settings_still}
use Rattle.fwd_run.proofs.Fixed.{begun_still}
use Rattle.fwd_run.proofs.Carrying.{run_carries}

-- ---- whose part an event is

pub one_part : (k a : ℕ) → (((k == a) || false) || ((k == id_key) && false)) ≡ (k == a)
one_part k a = by (k == a) (k == id_key)
  where
    by : (b c : Bool) → ((b || false) || (c && false)) ≡ b
    by true c = refl
    by false true = refl
    by false false = refl

pub two_parts : (k a b : ℕ) → (((k == a) || ((k == b) || false)) || ((k == id_key) && false)) ≡ ((k == a) || (k == b))
two_parts k a b = by (k == a) (k == b) (k == id_key)
  where
    by : (x y c : Bool) → ((x || (y || false)) || (c && false)) ≡ (x || y)
    by true y c = refl
    by false true c = refl
    by false false true = refl
    by false false false = refl

-- ---- where something is seen the run has begun

pub has_begun : {X : Type 0} (see : LiveRelay → Option X) (x : Option LiveRelay) (y : X) → seen see x ≡ Some y → (r : LiveRelay) × (x ≡ Some r) × (see r ≡ Some y)
has_begun see None y is = absurd cc
has_begun see (Some r) y is = (r, refl, is)

-- ---- what is known still, and behind an event

-- an event is added by whoever has a part's page
abbrev pub Added : ℕ → List RunEvent → RunEvent → List RunEvent → Type 0
Added k old e new =
    (past : List RunEvent) × (f : RunEvent) × IsOf touches k f × Went touches k old past × (f ≡ e) × (new ≡ f ∷ past)

-- by whoever has two pages
abbrev pub AddedBoth : (a b : ℕ) → List RunEvent → List RunEvent → RunEvent → List RunEvent → Type 0
AddedBoth a b old other e new =
    (past : List RunEvent) × (f : RunEvent) × IsOfBoth touches a b f × Went touches a old past × Went touches b other past × (f ≡ e) × (new ≡ f ∷ past)

-- what is shown of an output, and of a worker, by what is known there
abbrev pub output_known : ℕ → List RunEvent → OutputKnown
output_known o past = record { output = o; settings = settings_at past o; is = output_at past o }

abbrev pub worker_known : ℕ → ℕ → List RunEvent → WorkerKnown
worker_known o w past = record { output = o; worker = w; settings = settings_at past o; has = worker_at past o w }

pub output_still : (o : ℕ) (old past : List RunEvent) (p : LiveOutput) → output_at old o ≡ Some p → Went touches (key_of (Output o)) old past
    → (r : LiveRelay) × (run_after past ≡ Some r) × (output_in r o ≡ Some p)
output_still o old past p at went =
    let was = has_begun (λ r. output_in r o) (run_after old) p at in
    has_begun (λ r. output_in r o) (run_after past) p (output_since o old past was.0 was.1 went ∙ at)

pub worker_still : (o w : ℕ) (old past : List RunEvent) (x : Worker LiveSession) → worker_at old o w ≡ Some x → Went touches (key_of (Session o w)) old past
    → (r : LiveRelay) × (run_after past ≡ Some r) × (worker_in r o w ≡ Some x)
worker_still o w old past x at went =
    let was = has_begun (λ r. worker_in r o w) (run_after old) x at in
    has_begun (λ r. worker_in r o w) (run_after past) x (worker_since o w old past was.0 was.1 went ∙ at)

-- what is set stays behind an event
set_still : {X : Type 0} (see : LiveRelay → Option X) (x : X) (o : ℕ) (old past new : List RunEvent) (e : RunEvent) → seen see (run_after old) ≡ Some x
    → (more : List RunEvent) → more ++ old ≡ past → new ≡ e ∷ past → settings_at new o ≡ settings_at old o
set_still see x o old past new e at more is next =
    let was = has_begun see (run_after old) x at in
    settings_still o old new was.0 was.1 (e ∷ more, ap (λ l. e ∷ l) is ∙ sym next)

one_relay : {x y : LiveRelay} → Some x ≡ Some y → x ≡ y
one_relay e = cc

-- ---- an output's own events

pub output_adds : (o k : ℕ) (old new : List RunEvent) (e : RunEvent) (p q : LiveOutput) (shown : OutputKnown) → k ≡ key_of (Output o)
    → output_known o old ≡ shown → shown.is ≡ Some p → Added k old e new
    → ((r : LiveRelay) → output_in r o ≡ Some p → output_in (next r e) o ≡ Some q)
    → output_known o new ≡ record shown { is = Some q }
output_adds o k old new e p q shown key view at a acts =
    let was : output_at old o ≡ Some p = ap (λ (k : OutputKnown). k.is) view ∙ at in
    let went : Went touches (key_of (Output o)) old a.0 = subst (λ k. Went touches k old a.0) key a.3 in
    let r = output_still o old a.0 p was went in
    let is : output_at new o ≡ Some q =
    ap (λ l. output_at l o) a.5 ∙ (ap (λ f. output_at (f ∷ a.0) o) a.4 ∙ (ap (λ x. seen (λ r. output_in r o) (moved x e)) r.1 ∙ acts r.0 r.2)) in
    let kept : settings_at new o ≡ settings_at old o = set_still (λ r. output_in r o) p o old a.0 new a.1 was went.0 went.1 a.5 in
    (λ i. record { output = o; settings = kept i; is = is i }) ∙ (λ i. record (view i) { is = Some q })

-- of an output that has a first worker
pub output_set_adds : (o k : ℕ) (old new : List RunEvent) (e : RunEvent) (p q : LiveOutput) (config : OutputConfig) (shown : OutputKnown) → k ≡ key_of (Output o)
    → output_known o old ≡ shown → shown.is ≡ Some p → shown.settings ≡ Some config → 0 < config.workers → Added k old e new
    → ((r : LiveRelay) → output_in r o ≡ Some p → (x : Worker LiveSession) → worker_in r o 0 ≡ Some x → output_in (next r e) o ≡ Some q)
    → output_known o new ≡ record shown { is = Some q }
output_set_adds o k old new e p q config shown key view at set some a acts =
    let was : output_at old o ≡ Some p = ap (λ (k : OutputKnown). k.is) view ∙ at in
    let went : Went touches (key_of (Output o)) old a.0 = subst (λ k. Went touches k old a.0) key a.3 in
    let begun = has_begun (λ r. output_in r o) (run_after old) p was in
    let still = output_still o old a.0 p was went in
    let set_now : settings_in still.0 o ≡ Some config =
    sym (ap (seen (λ r. settings_in r o)) still.1) ∙ (settings_still o old a.0 begun.0 begun.1 (went.0, went.1) ∙ (ap (λ (k : OutputKnown). k.settings) view ∙ set)) in
    let first = first_worker a.0 still.0 o config still.1 set_now some in
    let is : output_at new o ≡ Some q =
    ap (λ l. output_at l o) a.5 ∙ (ap (λ f. output_at (f ∷ a.0) o) a.4 ∙ (ap (λ x. seen (λ r. output_in r o) (moved x e)) still.1 ∙ acts still.0 still.2 first.0 first.1)) in
    let kept : settings_at new o ≡ settings_at old o = set_still (λ r. output_in r o) p o old a.0 new a.1 was went.0 went.1 a.5 in
    (λ i. record { output = o; settings = kept i; is = is i }) ∙ (λ i. record (view i) { is = Some q })

-- ---- a worker's own events

pub worker_adds : (o w k : ℕ) (old new : List RunEvent) (e : RunEvent) (x y : Worker LiveSession) (shown : WorkerKnown) → k ≡ key_of (Session o w)
    → worker_known o w old ≡ shown → shown.has ≡ Some x → Added k old e new
    → ((r : LiveRelay) → worker_in r o w ≡ Some x → settings_in r o ≡ shown.settings → worker_in (next r e) o w ≡ Some y)
    → worker_known o w new ≡ record shown { has = Some y }
worker_adds o w k old new e x y shown key view at a acts =
    let was : worker_at old o w ≡ Some x = ap (λ (k : WorkerKnown). k.has) view ∙ at in
    let went : Went touches (key_of (Session o w)) old a.0 = subst (λ k. Went touches k old a.0) key a.3 in
    let r = worker_still o w old a.0 x was went in
    let begun = has_begun (λ r. worker_in r o w) (run_after old) x was in
    let set : settings_in r.0 o ≡ shown.settings =
    sym (ap (seen (λ r. settings_in r o)) r.1) ∙ (settings_still o old a.0 begun.0 begun.1 (went.0, went.1) ∙ ap (λ (k : WorkerKnown). k.settings) view) in
    let is : worker_at new o w ≡ Some y =
    ap (λ l. worker_at l o w) a.5 ∙ (ap (λ f. worker_at (f ∷ a.0) o w) a.4 ∙ (ap (λ z. seen (λ r. worker_in r o w) (moved z e)) r.1 ∙ acts r.0 r.2 set)) in
    let kept : settings_at new o ≡ settings_at old o = set_still (λ r. worker_in r o w) x o old a.0 new a.1 was went.0 went.1 a.5 in
    (λ i. record { output = o; worker = w; settings = kept i; has = is i }) ∙ (λ i. record (view i) { has = Some y })

-- ---- an output's events with a worker

pub both_add : (o w a b : ℕ) (old other new : List RunEvent) (e : RunEvent) (p q : LiveOutput) (x y : Worker LiveSession) (shown : OutputKnown) (his : WorkerKnown)
    → a ≡ key_of (Output o) → b ≡ key_of (Session o w) → output_known o old ≡ shown → worker_known o w other ≡ his → shown.is ≡ Some p → his.has ≡ Some x
    → AddedBoth a b old other e new
    → ((r : LiveRelay) → output_in r o ≡ Some p → worker_in r o w ≡ Some x → (output_in (next r e) o ≡ Some q) × (worker_in (next r e) o w ≡ Some y))
    → (output_known o new ≡ record shown { is = Some q }) × (worker_known o w new ≡ record his { has = Some y })
both_add o w ka kb old other new e p q x y shown his ea eb view seen_his at has a acts =
    let was : output_at old o ≡ Some p = ap (λ (k : OutputKnown). k.is) view ∙ at in
    let had : worker_at other o w ≡ Some x = ap (λ (k : WorkerKnown). k.has) seen_his ∙ has in
    let went : Went touches (key_of (Output o)) old a.0 = subst (λ k. Went touches k old a.0) ea a.3 in
    let gone : Went touches (key_of (Session o w)) other a.0 = subst (λ k. Went touches k other a.0) eb a.4 in
    let r = output_still o old a.0 p was went in
    let s = worker_still o w other a.0 x had gone in
    let same : s.0 ≡ r.0 = one_relay (sym s.1 ∙ r.1) in
    let does = acts r.0 r.2 (ap (λ z. worker_in z o w) (sym same) ∙ s.2) in
    let is : output_at new o ≡ Some q = ap (λ l. output_at l o) a.6 ∙ (ap (λ f. output_at (f ∷ a.0) o) a.5 ∙ (ap (λ z. seen (λ r. output_in r o) (moved z e)) r.1 ∙ does.0)) in
    let now : worker_at new o w ≡ Some y = ap (λ l. worker_at l o w) a.6 ∙ (ap (λ f. worker_at (f ∷ a.0) o w) a.5 ∙ (ap (λ z. seen (λ r. worker_in r o w) (moved z e)) r.1 ∙ does.1)) in
    let kept : settings_at new o ≡ settings_at old o = set_still (λ r. output_in r o) p o old a.0 new a.1 was went.0 went.1 a.6 in
    let keeps : settings_at new o ≡ settings_at other o = set_still (λ r. worker_in r o w) x o other a.0 new a.1 had gone.0 gone.1 a.6 in (
      (λ i. record { output = o; settings = kept i; is = is i }) ∙ (λ i. record (view i) { is = Some q }),
      (λ i. record { output = o; worker = w; settings = keeps i; has = now i }) ∙ (λ i. record (seen_his i) { has = Some y }),
    )

-- what the worker has is in the output's buffer
pub both_carry : (o w a b : ℕ) (old other new : List RunEvent) (e : RunEvent) (p : LiveOutput) (x : Worker LiveSession) (shown : OutputKnown) (his : WorkerKnown)
    → a ≡ key_of (Output o) → b ≡ key_of (Session o w) → output_known o old ≡ shown → worker_known o w other ≡ his → shown.is ≡ Some p → his.has ≡ Some x
    → AddedBoth a b old other e new → AreCarried p.buffer (option_to_list x.taken ++ chunks_in x.session)
both_carry o w ka kb old other new e p x shown his ea eb view seen_his at has a =
    let was : output_at old o ≡ Some p = ap (λ (k : OutputKnown). k.is) view ∙ at in
    let had : worker_at other o w ≡ Some x = ap (λ (k : WorkerKnown). k.has) seen_his ∙ has in
    let r = output_still o old a.0 p was (subst (λ k. Went touches k old a.0) ea a.3) in
    let s = worker_still o w other a.0 x had (subst (λ k. Went touches k other a.0) eb a.4) in
    run_carries a.0 r.0 o w p x r.1 r.2 (ap (λ z. worker_in z o w) (sym (one_relay (sym s.1 ∙ r.1))) ∙ s.2)

-- an output is not its worker
pub apart : (o w : ℕ) → key_of (Output o) ≢ key_of (Session o w)
apart o w e = omega (arith, e)

-- nor a connection
pub connection_apart : (id o : ℕ) → o < 64 → key_of (Connection id) ≢ key_of (Output o)
connection_apart id o few e = omega (arith, few, e)

-- ---- connections

abbrev pub source_known : ℕ → List RunEvent → SourceKnown
source_known id past = record { id = id; routes = routes_at past; is = source_at past id }

pub source_still : (id : ℕ) (old past : List RunEvent) (s : LiveSource) → source_at old id ≡ Some s → Went touches (key_of (Connection id)) old past
    → (r : LiveRelay) × (run_after past ≡ Some r) × (source_in r id ≡ Some s)
source_still id old past s at went =
    let was = has_begun (λ r. source_in r id) (run_after old) s at in
    has_begun (λ r. source_in r id) (run_after past) s (source_since id old past was.0 was.1 went ∙ at)

routes_still : (id : ℕ) (old past new : List RunEvent) (e : RunEvent) (s : LiveSource) → source_at old id ≡ Some s
    → (more : List RunEvent) → more ++ old ≡ past → new ≡ e ∷ past → routes_at new ≡ routes_at old
routes_still id old past new e s at more is next =
    let was = has_begun (λ r. source_in r id) (run_after old) s at in
    begun_still (λ b. b.routes) old new was.0 was.1 (e ∷ more, ap (λ l. e ∷ l) is ∙ sym next)

pub routes_onward : (routes : List (List (List ℕ))) (old past : List RunEvent) (more : List RunEvent) → more ++ old ≡ past → routes_at old ≡ Some routes → routes_at past ≡ Some routes
routes_onward routes old past more is led =
    let was = has_begun (λ r. Some r.routes) (run_after old) routes led in
    begun_still (λ b. b.routes) old past was.0 was.1 (more, is) ∙ led

pub source_adds : (id k : ℕ) (old new : List RunEvent) (e : RunEvent) (s t : LiveSource) (shown : SourceKnown) → k ≡ key_of (Connection id)
    → source_known id old ≡ shown → shown.is ≡ Some s → Added k old e new
    → ((r : LiveRelay) → source_in r id ≡ Some s → source_in (next r e) id ≡ Some t)
    → source_known id new ≡ record shown { is = Some t }
source_adds id k old new e s t shown key view at a acts =
    let was : source_at old id ≡ Some s = ap (λ (k : SourceKnown). k.is) view ∙ at in
    let went : Went touches (key_of (Connection id)) old a.0 = subst (λ k. Went touches k old a.0) key a.3 in
    let r = source_still id old a.0 s was went in
    let is : source_at new id ≡ Some t =
    ap (λ l. source_at l id) a.5 ∙ (ap (λ f. source_at (f ∷ a.0) id) a.4 ∙ (ap (λ x. seen (λ r. source_in r id) (moved x e)) r.1 ∙ acts r.0 r.2)) in
    let kept : routes_at new ≡ routes_at old = routes_still id old a.0 new a.1 s was went.0 went.1 a.5 in
    (λ i. record { id = id; routes = kept i; is = is i }) ∙ (λ i. record (view i) { is = Some t })

-- a connection's request enters an output
pub admission_adds : (id o a b : ℕ) (old other new : List RunEvent) (e : RunEvent) (s t : LiveSource) (p q : LiveOutput) (patterns : List (List (List ℕ))) (his : SourceKnown) (shown : OutputKnown)
    → a ≡ key_of (Connection id) → b ≡ key_of (Output o) → source_known id old ≡ his → output_known o other ≡ shown → his.is ≡ Some s → shown.is ≡ Some p → his.routes ≡ Some patterns
    → AddedBoth a b old other e new
    → ((r : LiveRelay) → source_in r id ≡ Some s → output_in r o ≡ Some p → r.routes ≡ patterns → (output_in (next r e) o ≡ Some q) × (source_in (next r e) id ≡ Some t))
    → (output_known o new ≡ record shown { is = Some q }) × (source_known id new ≡ record his { is = Some t })
admission_adds id o ka kb old other new e s t p q patterns his shown ea eb seen_his view has at routes a acts =
    let was : output_at other o ≡ Some p = ap (λ (k : OutputKnown). k.is) view ∙ at in
    let had : source_at old id ≡ Some s = ap (λ (k : SourceKnown). k.is) seen_his ∙ has in
    let gone : Went touches (key_of (Connection id)) old a.0 = subst (λ k. Went touches k old a.0) ea a.3 in
    let went : Went touches (key_of (Output o)) other a.0 = subst (λ k. Went touches k other a.0) eb a.4 in
    let r = output_still o other a.0 p was went in
    let u = source_still id old a.0 s had gone in
    let same : u.0 ≡ r.0 = one_relay (sym u.1 ∙ r.1) in
    let first = has_begun (λ r. source_in r id) (run_after old) s had in
    let led : r.0.routes ≡ patterns =
    one_routes (sym (ap (seen (λ k. Some k.routes)) r.1) ∙ (begun_still (λ b. b.routes) old a.0 first.0 first.1 (gone.0, gone.1) ∙ (ap (λ (k : SourceKnown). k.routes) seen_his ∙ routes))) in
    let does = acts r.0 (ap (λ z. source_in z id) (sym same) ∙ u.2) r.2 led in
    let is : output_at new o ≡ Some q = ap (λ l. output_at l o) a.6 ∙ (ap (λ f. output_at (f ∷ a.0) o) a.5 ∙ (ap (λ z. seen (λ r. output_in r o) (moved z e)) r.1 ∙ does.0)) in
    let now : source_at new id ≡ Some t = ap (λ l. source_at l id) a.6 ∙ (ap (λ f. source_at (f ∷ a.0) id) a.5 ∙ (ap (λ z. seen (λ r. source_in r id) (moved z e)) r.1 ∙ does.1)) in
    let kept : settings_at new o ≡ settings_at other o = set_still (λ r. output_in r o) p o other a.0 new a.1 was went.0 went.1 a.6 in
    let keeps : routes_at new ≡ routes_at old = routes_still id old a.0 new a.1 s had gone.0 gone.1 a.6 in (
      (λ i. record { output = o; settings = kept i; is = is i }) ∙ (λ i. record (view i) { is = Some q }),
      (λ i. record { id = id; routes = keeps i; is = now i }) ∙ (λ i. record (seen_his i) { is = Some t }),
    )
  where
    one_routes : {x y : List (List (List ℕ))} → Some x ≡ Some y → x ≡ y
    one_routes e = cc
