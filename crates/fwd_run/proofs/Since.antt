-- A part of the relay is after a history what it was at its own last event.
use Rattle.std.proofs.Common.{◌≡◌, ℕ, ◌==◌, ◌||◌, Bool, true, false, eqb, List, [], ◌∷◌, ◌++◌, Option, Some, None, refl, ap, sym, subst, ◌∙◌}
use Rattle.std.specs.Prelude.{◌&&◌, option_map, slice_get}
use Rattle.std.specs.List.{list_any}
use Rattle.std.proofs.lemmas.Bool.{and_parts, or_parts}
use Rattle.fwd_modes.specs.declared.origin.Origin.{Origin}
use Rattle.fwd_model.specs.declared.config.Config.{Config}
use Rattle.fwd_model.specs.declared.event.Event.{Event}
use Rattle.fwd_model.specs.Live.{LiveLane, LiveRelay}
use Rattle.fwd_model.specs.Names.{Named, Connection, Output, Session, is_same, names, does_name, is_accept}
use Rattle.fwd_model.proofs.Orders.Changes.{same_number}
use Rattle.fwd_history.specs.Histories.{count_of, Went}
use Rattle.fwd_history.proofs.Entries.{step_untouched, same}
use Rattle.fwd_run.specs.Runs.{RunEvent, Opens, Relay, Leave, lane_left, lane_moved, next, moved, run_after, seen, output_at, worker_at, source_at, last_id, output_in, worker_in, source_in, key_of, id_key, touches}
use Rattle.fwd_run.proofs.Staying.{impossible, put_seen, put_worker, output_stays, worker_stays, source_stays, last_stays}

-- ---- a part that has no part in an event by its number is not named by it

keyed : (n part : Named) → is_same n part ≡ true → (key_of part == key_of n) ≡ true
keyed (Connection a) (Connection b) e = ap (λ k. key_of (Connection b) == key_of (Connection k)) (same_number a b e) ∙ same (key_of (Connection b))
keyed (Output a) (Output b) e = ap (λ k. key_of (Output b) == key_of (Output k)) (same_number a b e) ∙ same (key_of (Output b))
keyed (Session a v) (Session b w) e =
    let h = and_parts (eqb a b) (eqb v w) e in
    ap (λ k. key_of (Session b w) == key_of (Session k v)) (same_number a b h.0)
    ∙ (ap (λ k. key_of (Session b w) == key_of (Session b k)) (same_number v w h.1) ∙ same (key_of (Session b w)))
keyed (Connection a) (Output b) e = absurd (cc e)
keyed (Connection a) (Session b w) e = absurd (cc e)
keyed (Output a) (Connection b) e = absurd (cc e)
keyed (Output a) (Session b w) e = absurd (cc e)
keyed (Session a v) (Connection b) e = absurd (cc e)
keyed (Session a v) (Output b) e = absurd (cc e)

none_of : (part : Named) (ns : List Named) → list_any (λ n. key_of part == key_of n) ns ≡ false → list_any (λ n. is_same n part) ns ≡ false
none_of part [] h = refl
none_of part (n ∷ ns) h =
    let parts = or_parts (key_of part == key_of n) (list_any (λ n. key_of part == key_of n) ns) h in
    let rest = none_of part ns parts.1 in
    by rest parts.0 (is_same n part) refl
  where
    by : list_any (λ n. is_same n part) ns ≡ false → (key_of part == key_of n) ≡ false → (b : Bool) → is_same n part ≡ b → (is_same n part || list_any (λ n. is_same n part) ns) ≡ false
    by rest off true is = absurd (cc (sym off ∙ keyed n part is))
    by rest off false is = ap (λ b. b || list_any (λ n. is_same n part) ns) is ∙ rest

unnamed : (part : Named) (e : Event) → touches (key_of part) (Relay e) ≡ false → does_name e part ≡ false
unnamed part e h = none_of part (names e) (or_parts (list_any (λ n. key_of part == key_of n) (names e)) ((key_of part == id_key) && is_accept e) h).0

no_accept : (e : Event) → touches id_key (Relay e) ≡ false → is_accept e ≡ false
no_accept e h = ap (λ b. b && is_accept e) (sym (same id_key)) ∙ (or_parts (list_any (λ n. id_key == key_of n) (names e)) ((id_key == id_key) && is_accept e) h).1

-- ---- one event

-- an output's own event leaves the other outputs as they are
own_output : (r : LiveRelay) (o p : ℕ) (f : LiveLane → LiveLane) → (key_of (Output p) == key_of (Output o)) ≡ false
    → output_in (lane_moved o f r (slice_get r.lanes o)) p ≡ output_in r p
own_output r o p f off = by (slice_get r.lanes o) refl
  where
    apart : eqb o p ≡ true → (key_of (Output p) == key_of (Output o)) ≡ true
    apart on = keyed (Output o) (Output p) on

    by : (l : Option LiveLane) → slice_get r.lanes o ≡ l → output_in (lane_moved o f r l) p ≡ output_in r p
    by None here = refl
    by (Some l) here = put_seen (λ (k : LiveLane). k.output) o p l (f l) r.lanes here (λ on. impossible (key_of (Output p) == key_of (Output o)) (apart on) off)

-- and its workers
own_worker : (r : LiveRelay) (o p v : ℕ) (f : LiveLane → LiveLane) → ((l : LiveLane) → (f l).workers ≡ l.workers)
    → worker_in (lane_moved o f r (slice_get r.lanes o)) p v ≡ worker_in r p v
own_worker r o p v f same = by (slice_get r.lanes o) refl
  where
    by : (l : Option LiveLane) → slice_get r.lanes o ≡ l → worker_in (lane_moved o f r l) p v ≡ worker_in r p v
    by None here = refl
    by (Some l) here = put_worker o p v l (f l) r.lanes here (λ on. ap (λ ws. slice_get ws v) (same l))

pub own_far : {X : Type 0} (see : LiveRelay → X) (r : LiveRelay) (o : ℕ) (f : LiveLane → LiveLane)
    → ((l : LiveLane) → see (lane_moved o f r (Some l)) ≡ see r) → see (lane_moved o f r (slice_get r.lanes o)) ≡ see r
own_far see r o f stays = by (slice_get r.lanes o)
  where
    by : (l : Option LiveLane) → see (lane_moved o f r l) ≡ see r
    by None = refl
    by (Some l) = stays l

-- ---- a history

-- the relay that has begun is there still, and what is seen of it is the same
pub record Same {X : Type 0} (see : LiveRelay → X) (r : LiveRelay) (past : List RunEvent) : Type 0 where
  pub relay : LiveRelay
  pub after : run_after past ≡ Some relay
  pub is : see relay ≡ see r

module _ {X : Type 0} (k : ℕ) (see : LiveRelay → X) (stays : (r : LiveRelay) (e : RunEvent) → touches k e ≡ false → see (next r e) ≡ see r) where
  past_stays : (more old : List RunEvent) (r : LiveRelay) → run_after old ≡ Some r → count_of touches k (more ++ old) ≡ count_of touches k old → Same see r (more ++ old)
  past_stays [] old r begun h = record { relay = r; after = begun; is = refl }
  past_stays (e ∷ more) old r begun h =
      let u = step_untouched touches k e more old h in
      let rest = past_stays more old r begun u.1 in
      record { relay = next rest.relay e; after = ap (λ x. moved x e) rest.after; is = stays rest.relay e u.0 ∙ rest.is }

  pub since : (old past : List RunEvent) (r : LiveRelay) → run_after old ≡ Some r → Went touches k old past → Same see r past
  since old past r begun w = subst (Same see r) w.1 (past_stays w.0 old r begun (ap (count_of touches k) w.1 ∙ w.2))

output_step : (o : ℕ) (r : LiveRelay) (e : RunEvent) → touches (key_of (Output o)) e ≡ false → output_in (next r e) o ≡ output_in r o
output_step o r (Opens config) off = refl
output_step o r (Relay e) off = output_stays o r e (unnamed (Output o) e off)
output_step o r (Leave a origins) off = own_output r a o (lane_left origins) off

worker_step : (o w : ℕ) (r : LiveRelay) (e : RunEvent) → touches (key_of (Session o w)) e ≡ false → worker_in (next r e) o w ≡ worker_in r o w
worker_step o w r (Opens config) off = refl
worker_step o w r (Relay e) off = worker_stays o w r e (unnamed (Session o w) e off)
worker_step o w r (Leave a origins) off = own_worker r a o w (lane_left origins) (λ l. refl)

pub source_step : (id : ℕ) (r : LiveRelay) (e : RunEvent) → touches (key_of (Connection id)) e ≡ false → source_in (next r e) id ≡ source_in r id
source_step id r (Opens config) off = refl
source_step id r (Relay e) off = source_stays id r e (unnamed (Connection id) e off)
source_step id r (Leave a origins) off = own_far (λ s. source_in s id) r a (lane_left origins) (λ l. refl)

last_step : (r : LiveRelay) (e : RunEvent) → touches id_key e ≡ false → (next r e).last ≡ r.last
last_step r (Opens config) off = refl
last_step r (Relay e) off = last_stays r e (no_accept e off)
last_step r (Leave a origins) off = own_far (λ s. s.last) r a (lane_left origins) (λ l. refl)

-- what is seen behind a history is what was seen, where that is the same
shown : {X : Type 0} (see : LiveRelay → Option X) (r : LiveRelay) (old past : List RunEvent) → run_after old ≡ Some r → Same see r past
    → seen see (run_after past) ≡ seen see (run_after old)
shown see r old past begun s = ap (seen see) s.after ∙ s.is ∙ sym (ap (seen see) begun)

pub output_since : (o : ℕ) (old past : List RunEvent) (r : LiveRelay) → run_after old ≡ Some r → Went touches (key_of (Output o)) old past → output_at past o ≡ output_at old o
output_since o old past r begun went = shown (λ r. output_in r o) r old past begun (since (key_of (Output o)) (λ r. output_in r o) (output_step o) old past r begun went)

pub worker_since : (o w : ℕ) (old past : List RunEvent) (r : LiveRelay) → run_after old ≡ Some r → Went touches (key_of (Session o w)) old past → worker_at past o w ≡ worker_at old o w
worker_since o w old past r begun went = shown (λ r. worker_in r o w) r old past begun (since (key_of (Session o w)) (λ r. worker_in r o w) (worker_step o w) old past r begun went)

pub source_since : (id : ℕ) (old past : List RunEvent) (r : LiveRelay) → run_after old ≡ Some r → Went touches (key_of (Connection id)) old past → source_at past id ≡ source_at old id
source_since id old past r begun went = shown (λ r. source_in r id) r old past begun (since (key_of (Connection id)) (λ r. source_in r id) (source_step id) old past r begun went)

pub last_since : (old past : List RunEvent) (r : LiveRelay) → run_after old ≡ Some r → Went touches id_key old past → last_id past ≡ last_id old
last_since old past r begun went = shown (λ r. r.last) r old past begun (since id_key (λ r. r.last) last_step old past r begun went)
