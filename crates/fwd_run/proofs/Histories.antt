-- All that ever came in a run, which what the run leads to is the live part of.
use Rattle.std.proofs.Common.{◌≡◌, ℕ, List, [], ◌∷◌, Option, Some, None, refl, sym, ap, ◌∙◌}
use Rattle.std.specs.Prelude.{option_map, slice_get}
use Rattle.fwd_modes.specs.declared.origin.Origin.{Origin}
use Rattle.fwd_chunks.specs.Live.{live_buffer}
use Rattle.fwd_failover.specs.Live.{live_servers}
use Rattle.fwd_book.specs.History as book
use Rattle.fwd_book.specs.History.{BookHistory, leaves}
use Rattle.fwd_book.specs.Live.{live_book}
use Rattle.fwd_book.proofs.Following.{follows-forgets}
use Rattle.fwd_model.specs.declared.config.Config.{Config}
use Rattle.fwd_model.specs.Outcome.{state_of}
use Rattle.fwd_model.specs.Step.{step, after}
use Rattle.fwd_model.specs.Outputs.{live_output}
use Rattle.fwd_model.specs.History.{Lane, History, histories, opening, with_book, with_lane}
use Rattle.fwd_model.specs.Live.{LiveLane, LiveRelay, live, live_lane, lives, with_live_book, with_live_lane}
use Rattle.fwd_model.proofs.Places.{live_workers-same}
use Rattle.fwd_model.proofs.Reached.{IsSane, IsSaneLane, AllSane-at}
use Rattle.fwd_model.proofs.Settled.{numbers_in}
use Rattle.fwd_model.proofs.Follows.{run_agrees, reached_sane}
use Rattle.fwd_model.proofs.Follows.Outputs.{lane_at-live, with_lane-live, with_lane-sane}
use Rattle.fwd_run.specs.Runs.{RunEvent, Opens, Relay, Leave, lane_left, lane_moved, next, moved, run_after}

-- nobody is to be told any more of the requests of these origins
abbrev pub lane_forgets : List Origin → Lane → Lane
lane_forgets origins l = with_book l (book.forgets l.output.book origins)

-- another lane stands in the place of one, if there is one
abbrev pub put_at : ℕ → (Lane → Lane) → History → Option Lane → History
put_at o f h None = h
put_at o f h (Some l) = with_lane o (f l) h

abbrev pub history_next : History → RunEvent → History
history_next h (Opens config) = h
history_next h (Relay e) = after histories h (e ∷ [])
history_next h (Leave o origins) = put_at o (lane_forgets origins) h (slice_get h.lanes o)

abbrev pub history_moved : Option History → RunEvent → Option History
history_moved None (Opens config) = Some (opening config)
history_moved None (Relay e) = None
history_moved None (Leave o origins) = None
history_moved (Some h) e = Some (history_next h e)

-- all that came, as a history of the relay
abbrev pub run_history : List RunEvent → Option History
run_history [] = None
run_history (e ∷ past) = history_moved (run_history past) e

-- ---- requests that leave

forgets_live : (origins : List Origin) (l : Lane) → live_lane (lane_forgets origins l) ≡ lane_left origins (live_lane l)
unfolding live_lane live_output
forgets_live origins l = λ i. record {
  config = l.config;
  output = record { buffer = live_buffer l.output.buffer; book = follows-forgets l.output.book origins i; servers = live_servers l.output.setting l.output.servers };
  workers = live_workers-same (record (l.output) { book = book.forgets l.output.book origins }) l.output 0 l.sessions (λ k. refl) i;
}

forgets_sane : (origins : List Origin) (l : Lane) → IsSaneLane l → IsSaneLane (lane_forgets origins l)
unfolding leaves
forgets_sane origins l own = record {
  buffer = own.buffer;
  apart = own.apart;
  marks = own.marks;
  waits = own.waits;
  workers = own.workers;
}

-- ---- a run

-- a relay that has begun is the live part of a history that is sane
abbrev pub Agrees : Option History → Option LiveRelay → Type 0
Agrees None None = Unit {0}
Agrees None (Some r) = ⊥
Agrees (Some h) None = ⊥
Agrees (Some h) (Some r) = IsSane h × (live h ≡ r)

own_agrees : (o : ℕ) (f : Lane → Lane) (g : LiveLane → LiveLane) (h : History) → IsSane h
    → ((l : Lane) → IsSaneLane l → IsSaneLane (f l)) → ((l : Lane) → IsSaneLane l → live_lane (f l) ≡ g (live_lane l))
    → IsSane (put_at o f h (slice_get h.lanes o)) × (live (put_at o f h (slice_get h.lanes o)) ≡ lane_moved o g (live h) (slice_get (live h).lanes o))
own_agrees o f g h sane keeps is = by (slice_get h.lanes o) refl
  where
    by : (x : Option Lane) → slice_get h.lanes o ≡ x
        → IsSane (put_at o f h x) × (live (put_at o f h x) ≡ lane_moved o g (live h) (slice_get (live h).lanes o))
    by None here = (sane, sym (ap (lane_moved o g (live h)) (lane_at-live o h ∙ ap (option_map live_lane) here)))
    by (Some l) here =
        let own = AllSane-at h.lanes o l sane.lanes here in (
          with_lane-sane o (f l) h sane (keeps l own),
          with_lane-live o (f l) h
              ∙ ap (λ m. with_live_lane o m (live h)) (is l own)
              ∙ sym (ap (lane_moved o g (live h)) (lane_at-live o h ∙ ap (option_map live_lane) here)),
        )

next_agrees : (h : History) (e : RunEvent) → IsSane h → IsSane (history_next h e) × (live (history_next h e) ≡ next (live h) e)
next_agrees h (Opens config) sane = (sane, refl)
next_agrees h (Relay e) sane = let one = run_agrees (e ∷ []) h sane in (one.sane, one.after)
next_agrees h (Leave o origins) sane = own_agrees o (lane_forgets origins) (lane_left origins) h sane (λ l own. forgets_sane origins l own) (λ l own. forgets_live origins l)

moved_agrees : (x : Option History) (y : Option LiveRelay) (e : RunEvent) → Agrees x y → Agrees (history_moved x e) (moved y e)
moved_agrees None None (Opens config) agrees = (reached_sane config (opening config) ([], refl), refl)
moved_agrees None None (Relay e) agrees = tt
moved_agrees None None (Leave o origins) agrees = tt
moved_agrees None (Some r) e agrees = absurd agrees
moved_agrees (Some h) None e agrees = absurd agrees
moved_agrees (Some h) (Some r) e agrees =
    let one = next_agrees h e agrees.0 in
    (one.0, one.1 ∙ ap (λ r. next r e) agrees.1)

pub run_follows : (past : List RunEvent) → Agrees (run_history past) (run_after past)
run_follows [] = tt
run_follows (e ∷ past) = moved_agrees (run_history past) (run_after past) e (run_follows past)
