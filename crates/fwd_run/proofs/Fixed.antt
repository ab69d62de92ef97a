-- No event changes with what a run began.
use Rattle.std.proofs.Common.{◌≡◌, ℕ, List, [], ◌∷◌, ◌++◌, Option, Some, None, refl, sym, ap, subst, ◌∙◌}
use Rattle.std.specs.Prelude.{slice_get}
use Rattle.fwd_msgpack.specs.declared.limits.Limits.{Limits}
use Rattle.fwd_handshake.specs.declared.credentials.Security.{Security}
use Rattle.fwd_source.specs.Live.{LiveSource}
use Rattle.fwd_model.specs.declared.event.Event.{Event}
use Rattle.fwd_model.specs.declared.event.Event.TheVariants as event
use Rattle.fwd_model.specs.Outcome.{Outcome, state_of}
use Rattle.fwd_model.specs.Step as steps
use Rattle.fwd_model.specs.Step.{step}
use Rattle.fwd_model.specs.Live.{LiveLane, LiveRelay, lives}
use Rattle.fwd_model.proofs.Onward.{to, past, past_found}
use Rattle.fwd_history.specs.Histories.{Comes}
use Rattle.fwd_run.specs.Runs.{RunEvent, Opens, Relay, Leave, lane_left, next, moved, run_after, seen}
use Rattle.fwd_run.proofs.Staying.{always, kept, source_keeps, lane_keeps, both_keeps}
use Rattle.fwd_run.proofs.Since.{own_far}

pub record Begun : Type 0 where
  pub routes : List (List (List ℕ))
  pub security : Security
  pub limits : Limits

abbrev pub begun_with : LiveRelay → Begun
begun_with r = record { routes = r.routes; security = r.security; limits = r.limits }

module _ (r : LiveRelay) where
  lane : (o : ℕ) (f : LiveLane → Outcome LiveLane) → begun_with (state_of r (steps.at_lane lives r o f)) ≡ begun_with r
  lane o f = lane_keeps begun_with r o f (λ l here. always (f l) (λ a m. refl))

  both : (id o : ℕ) (f : LiveSource → LiveLane → Outcome (LiveSource × LiveLane)) → begun_with (state_of r (steps.at_both lives r id o f)) ≡ begun_with r
  both id o f = both_keeps begun_with r id o f (λ s l here. always (f s l) (λ a two. refl))

  source : (id : ℕ) (f : LiveSource → Outcome LiveSource) → begun_with (state_of r (steps.at_source lives r id f)) ≡ begun_with r
  source id f = source_keeps begun_with r id f (λ u. refl)

  event_keeps : (e : Event) → begun_with (state_of r (step lives r e)) ≡ begun_with r
  event_keeps (event.Accept id nonce auth) = kept begun_with r (step lives r (event.Accept id nonce auth)) (past _ (λ fresh. to refl))
  event_keeps (event.Piece id bytes) = source id (λ s. steps.piece lives s bytes)
  event_keeps (event.Admit id o now) = both id o (steps.admit lives r.routes id o now)
  event_keeps (event.Flush o now kind) = lane o (λ l. steps.flush lives l now kind)
  event_keeps (event.Choose o w now) = lane o (λ l. steps.choose lives l w now)
  event_keeps (event.Up o w server salt now) = lane o (λ l. steps.at_worker lives l w (steps.up lives l.config server salt now))
  event_keeps (event.Take o w now wanted) = lane o (λ l. steps.take lives l w wanted now)
  event_keeps (event.Load o w now) = lane o (λ l. steps.at_worker lives l w (steps.load lives now))
  event_keeps (event.Wrote o w count) = lane o (λ l. steps.at_worker lives l w (λ x. steps.at_session lives x (steps.wrote lives count)))
  event_keeps (event.Heard o w bytes) = lane o (λ l. steps.at_worker lives l w (λ x. steps.at_session lives x (steps.heard lives bytes)))
  event_keeps (event.Settle o w) = lane o (λ l. steps.settle lives l w)
  event_keeps (event.Late o w now) = lane o (λ l. steps.at_worker lives l w (λ x. steps.at_session lives x (steps.late lives now)))
  event_keeps (event.End o w kind now) = lane o (λ l. steps.end lives l w kind now)
  event_keeps (event.Collect id o) = both id o (steps.collect lives id)
  event_keeps (event.Forget id o) = lane o (λ l. steps.forget lives l id)
  event_keeps (event.Drained id count) = source id (λ s. steps.drained lives s count)
  event_keeps (event.Shut id) = kept begun_with r (step lives r (event.Shut id)) (past_found _ (λ s known. to refl))

next_keeps : (r : LiveRelay) (e : RunEvent) → begun_with (next r e) ≡ begun_with r
next_keeps r (Opens config) = refl
next_keeps r (Relay e) = event_keeps r e
next_keeps r (Leave o origins) = own_far begun_with r o (lane_left origins) (λ l. refl)

pub record Still (r : LiveRelay) (past : List RunEvent) : Type 0 where
  pub relay : LiveRelay
  pub after : run_after past ≡ Some relay
  pub is : begun_with relay ≡ begun_with r

still_on : (more old : List RunEvent) (r : LiveRelay) → run_after old ≡ Some r → Still r (more ++ old)
still_on [] old r begun = record { relay = r; after = begun; is = refl }
still_on (e ∷ more) old r begun =
    let rest = still_on more old r begun in
    record { relay = next rest.relay e; after = ap (λ x. moved x e) rest.after; is = next_keeps rest.relay e ∙ rest.is }

pub begun_still : {X : Type 0} (see : Begun → X) (old past : List RunEvent) (r : LiveRelay) → run_after old ≡ Some r → Comes old past
    → seen (λ k. Some (see (begun_with k))) (run_after past) ≡ seen (λ k. Some (see (begun_with k))) (run_after old)
begun_still see old past r begun comes = subst (λ l. seen (λ k. Some (see (begun_with k))) (run_after l) ≡ seen (λ k. Some (see (begun_with k))) (run_after old)) comes.1 (by (still_on comes.0 old r begun))
  where
    by : Still r (comes.0 ++ old) → seen (λ k. Some (see (begun_with k))) (run_after (comes.0 ++ old)) ≡ seen (λ k. Some (see (begun_with k))) (run_after old)
    by k = ap (seen (λ s. Some (see (begun_with s)))) k.after ∙ ap (λ b. Some (see b)) k.is ∙ sym (ap (seen (λ s. Some (see (begun_with s)))) begun)
