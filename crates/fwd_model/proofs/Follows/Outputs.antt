-- The live part follows the history at the events of outputs and workers.
use Rattle.std.proofs.Common.{◌≡◌, ℕ, refl, ap, ◌∙◌, zero-add, max}
use Rattle.std.specs.Prelude.{option_map, slice_get}
use Rattle.std.proofs.lemmas.List.{map-set}
use Rattle.std.proofs.lemmas.Option.{slice_get-map}
use Rattle.fwd_chunks.specs.declared.flush.FlushKind.{FlushKind}
use Rattle.fwd_chunks.specs.History.{flushes}
use Rattle.fwd_chunks.specs.Live.{live_buffer, live_flushes}
use Rattle.fwd_chunks.proofs.Follows as buffer
use Rattle.fwd_chunks.proofs.Sane as sane
use Rattle.fwd_failover.specs.Live.{live_servers}
use Rattle.fwd_failover.proofs.Kept.{live-looked}
use Rattle.fwd_failover.proofs.Orders.{choice_kept}
use Rattle.fwd_book.specs.Live.{live_book}
use Rattle.fwd_model.specs.Outputs.{live_output, output_history_choice, output_history_looks, output_choice, output_looks}
use Rattle.fwd_model.specs.History.{Lane, History, with_lane, with_buffer, with_output}
use Rattle.fwd_model.specs.Live.{live_worker, live_lane, live, with_live_lane, with_live_buffer, with_live_output}
use Rattle.fwd_model.proofs.Places.{live_workers-same, live_workers-at}
use Rattle.fwd_model.proofs.Reached.{IsSaneLane, IsSane, AllSane-set}

-- ---- lanes

pub with_lane-live : (o : ℕ) (l : Lane) (h : History)
    → live (with_lane o l h) ≡ with_live_lane o (live_lane l) (live h)
unfolding live
with_lane-live o l h = λ i. record (live h) { lanes = map-set live_lane h.lanes o l i }

pub lane_at-live : (o : ℕ) (h : History)
    → slice_get (live h).lanes o ≡ option_map live_lane (slice_get h.lanes o)
unfolding live
lane_at-live o h = slice_get-map live_lane h.lanes o

pub worker_at-live : (w : ℕ) (l : Lane)
    → slice_get (live_lane l).workers w
    ≡ option_map (λ s. live_worker l.output w s) (slice_get l.sessions w)
unfolding live_lane
worker_at-live w l = live_workers-at l.output 0 w l.sessions ∙ ap (λ k. option_map (λ s. live_worker l.output k s) (slice_get l.sessions w)) (zero-add w)

pub with_lane-sane : (o : ℕ) (l : Lane) (h : History) → IsSane h → IsSaneLane l
    → IsSane (with_lane o l h)
with_lane-sane o l h sane own = record { ids = sane.ids; once = sane.once; sources = sane.sources; lanes = AllSane-set h.lanes o l sane.lanes own }

-- ---- flush

pub flushes-live : (l : Lane) (now : ℕ) (kind : FlushKind) → IsSaneLane l
    → live_lane (with_buffer l (flushes l.output.buffer now kind))
    ≡ with_live_buffer (live_lane l) (live_flushes (live_lane l).output.buffer now kind)
unfolding live_lane live_output
flushes-live l now kind own = λ i. record {
  config = l.config;
  output = record { buffer = buffer.flushes-live l.output.buffer now kind own.buffer i; book = live_book l.output.book; servers = live_servers l.output.setting l.output.servers };
  workers = live_workers-same (record (l.output) { buffer = flushes l.output.buffer now kind }) l.output 0 l.sessions (λ k. refl) i;
}

pub flushes-sane : (l : Lane) (now : ℕ) (kind : FlushKind) → IsSaneLane l
    → IsSaneLane (with_buffer l (flushes l.output.buffer now kind))
flushes-sane l now kind own = record {
  buffer = sane.flushes-sane l.output.buffer now kind own.buffer;
  apart = own.apart;
  marks = own.marks;
  waits = own.waits;
  workers = own.workers;
}

-- ---- choose

-- the same server is chosen
pub choice-same : (l : Lane) (w now : ℕ) → IsSaneLane l
    → output_history_choice l.output w now ≡ output_choice (live_lane l).output w now
unfolding live_lane live_output live_servers live_buffer
choice-same l w now own =
    choice_kept l.output.setting l.output.servers w (max l.output.servers.moment (max l.output.buffer.moment now)) own.waits

pub watches-live : (l : Lane) (now : ℕ)
    → live_lane (with_output l (output_history_looks l.output now))
    ≡ with_live_output (live_lane l) (output_looks (live_lane l).output now)
unfolding live_lane live_output live_servers live_buffer
watches-live l now = λ i. record {
  config = l.config;
  output = record {
    buffer = buffer.looks-live l.output.buffer now i;
    book = live_book l.output.book;
    servers = live-looked l.output.setting l.output.servers (max l.output.buffer.moment now) i;
  };
  workers = live_workers-same (output_history_looks l.output now) l.output 0 l.sessions (λ k. refl) i;
}

pub watches-sane : (l : Lane) (now : ℕ) → IsSaneLane l
    → IsSaneLane (with_output l (output_history_looks l.output now))
watches-sane l now own = record {
  buffer = sane.looks-sane l.output.buffer now own.buffer;
  apart = own.apart;
  marks = own.marks;
  waits = own.waits;
  workers = own.workers;
}
