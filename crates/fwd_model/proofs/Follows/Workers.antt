-- Where there is a worker, there is a place for its session, and its chunk is the one that it took
-- and did not load.
use Rattle.std.proofs.Common.{◌≡◌, ℕ, Option, Some, None, refl, sym, ap, ◌∙◌}
use Rattle.std.specs.Prelude.{option_map, slice_get}
use Rattle.fwd_model.specs.Layers.{Worker}
use Rattle.fwd_session.specs.History.{SessionHistory}
use Rattle.fwd_session.specs.Live.{live_session}
use Rattle.fwd_model.specs.History.{Lane, taken_by, history_worker, histories}
use Rattle.fwd_model.specs.Live as model

-- a worker whose session is seen through a map
abbrev pub worker_map : {S T : Type 0} → (S → T) → Worker S → Worker T
worker_map f x = record { taken = x.taken; session = option_map f x.session }

pub worker_seen : (l : Lane) (w : ℕ) (s : Option (Option SessionHistory))
    → option_map (λ t. model.live_worker l.output w t) s ≡ option_map (worker_map live_session)
    (option_map (history_worker l w) s)
worker_seen l w None = refl
worker_seen l w (Some s) = refl

pub record IsWorker (l : Lane) (w : ℕ) (x : Worker SessionHistory) : Type 0 where
  pub here : slice_get l.sessions w ≡ Some x.session
  pub is : history_worker l w x.session ≡ x

pub worker_is : (l : Lane) (w : ℕ) (x : Worker SessionHistory)
    → histories.worker_at l w ≡ Some x → IsWorker l w x
worker_is l w x e = at (slice_get l.sessions w) refl e
  where
    at : (s : Option (Option SessionHistory)) → slice_get l.sessions w ≡ s
        → option_map (history_worker l w) s ≡ Some x → IsWorker l w x
    at None f e = absurd cc
    at (Some s) f e =
        let is : history_worker l w s ≡ x = cc in
        record { here = f ∙ ap (λ y. Some y.session) is; is = ap (λ y. history_worker l w y.session) (sym is) ∙ is }

pub session_here : (l : Lane) (w : ℕ) (x : Worker SessionHistory) (s : SessionHistory)
    → histories.worker_at l w ≡ Some x → x.session ≡ Some s
    → slice_get l.sessions w ≡ Some (Some s)
session_here l w x s e f = (worker_is l w x e).here ∙ ap Some f

-- a worker's chunk is the one that it took and did not load
pub taken_is : (l : Lane) (w : ℕ) (x : Worker SessionHistory) → IsWorker l w x
    → taken_by l.output.buffer w x.session ≡ x.taken
taken_is l w x at = ap (λ (y : Worker SessionHistory). y.taken) at.is
