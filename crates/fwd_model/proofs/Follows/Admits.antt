-- The live part follows the history where an output enters a connection's first waiting request.
use Rattle.std.proofs.Common.{◌≡◌, ℕ, Bool, true, false, cond, List, [], ◌∷◌, refl, sym, ap, subst, ◌∙◌}
use Rattle.std.specs.Prelude.{not, ◌==◌}
use Rattle.std.proofs.Common.{arith}
use Rattle.std.proofs.lemmas.Bool.Decides.{nat_tests}
use Rattle.std.specs.List.{list_all}
use Rattle.fwd_modes.specs.Requests.{Request}
use Rattle.fwd_modes.specs.Frames.{chunk_name}
use Rattle.fwd_modes.specs.declared.origin.Origin.{Origin}
use Rattle.fwd_chunks.specs.Cells.{Carry, entries_of, first_tag, has_number, is_carried}
use Rattle.fwd_chunks.specs.History.{BufferHistory, carried_chunk_of, enters, spans_of}
use Rattle.fwd_chunks.proofs.Follows as buffer
use Rattle.fwd_chunks.proofs.Sane as sane
use Rattle.fwd_chunks.proofs.News.{enters-acknowledged, enters-carried, enters-setting, carried-stays, spans-unacked}
use Rattle.fwd_book.specs.History.{entered_as, are_fresh}
use Rattle.fwd_book.specs.Live as kept
use Rattle.fwd_book.specs.Live.{live_book}
use Rattle.fwd_failover.specs.Live.{live_servers}
use Rattle.fwd_model.specs.Outputs.{carries_of, carried_by, output_history_enters, live_output, output_enters}
use Rattle.fwd_model.specs.History.{Lane, with_output}
use Rattle.fwd_model.specs.Live.{live_lane, with_live_output}
use Rattle.fwd_model.proofs.Places.{live_workers-same}
use Rattle.fwd_model.proofs.Settling.{AreApart, loads_of}
use Rattle.fwd_book.proofs.Following.{follows-enters}
use Rattle.fwd_model.proofs.Settled.{unsettled-fresh}
use Rattle.fwd_model.proofs.Reached.{IsSaneLane, IsSaneWorker}

-- ---- what a worker has stays

load-stays : (h : BufferHistory) (origin : Origin) (r : Request) (now k : ℕ) → sane.IsSane h
    → is_carried k h.carried ≡ true → carried_chunk_of (enters h origin r now) k ≡ carried_chunk_of h k
load-stays h origin r now k own has =
    let cells = carried-stays h origin r now k own has in
    let setting = enters-setting h origin r now in λ i. record {
      number = k;
      tag = first_tag (cells i);
      entries = entries_of (cells i);
      name = chunk_name (setting i).run (setting i).output k;
    }

-- each of these is carried
abbrev AreIn : BufferHistory → List Carry → Type 0
AreIn h [] = Unit {0}
AreIn h (c ∷ cs) = (is_carried c.number h.carried ≡ true) × AreIn h cs

all_stay : (h : BufferHistory) (origin : Origin) (r : Request) (now : ℕ) (cs : List Carry)
    → sane.IsSane h → AreIn h cs → loads_of (enters h origin r now) cs ≡ loads_of h cs
all_stay h origin r now [] own has = refl
all_stay h origin r now (c ∷ cs) own has = λ i. load-stays h origin r now c.number own has.0 i ∷ all_stay h origin r now cs own has.1 i

-- what a worker carries is carried
own_carried : (h : BufferHistory) (w : ℕ) (cs : List Carry)
    → ((k : ℕ) → is_carried k cs ≡ true → is_carried k h.carried ≡ true) → AreIn h (carries_of w cs)
own_carried h w [] within = tt
own_carried h w (c ∷ cs) within = by (c.worker == w) (own_carried h w cs (λ k e. within k (later k e)))
  where
    later : (k : ℕ) → is_carried k cs ≡ true → is_carried k (c ∷ cs) ≡ true
    later k e = grind (arith, nat_tests, e)

    here : is_carried c.number (c ∷ cs) ≡ true
    here = grind (arith, nat_tests)

    by : (b : Bool) → AreIn h (carries_of w cs)
        → AreIn h (cond b (c ∷ carries_of w cs) (carries_of w cs))
    by true rest = (within c.number here, rest)
    by false rest = rest

pub worker_stays : (h : BufferHistory) (origin : Origin) (r : Request) (now w : ℕ)
    → sane.IsSane h
    → carried_by (enters h origin r now) w ≡ carried_by h w
worker_stays h origin r now w own =
    ap (λ cs. loads_of (enters h origin r now) (carries_of w cs)) (enters-carried h origin r now)
    ∙ all_stay h origin r now (carries_of w h.carried) own (own_carried h w h.carried (λ k e. e))

-- ---- the output

pub enters-live : (l : Lane) (origin : Origin) (r : Request) (now : ℕ) → IsSaneLane l
    → live_lane (with_output l (output_history_enters l.output origin r now)) ≡ with_live_output
    (live_lane l) (output_enters (live_lane l).output origin r now)
unfolding live_lane live_output
enters-live l origin r now own =
    let h = l.output.buffer in
    let spans = spans_of h origin r now in
    let fresh : are_fresh l.output.book.settled spans ≡ true =
    unsettled-fresh l.output.book.settled spans (ap (λ ns. list_all (λ s. not (has_number s.number ns)) spans) own.marks ∙ spans-unacked h origin r now own.buffer) in λ i. record {
      config = l.config;
      output = record {
        buffer = buffer.enters-live h origin r now own.buffer i;
        book = (follows-enters l.output.book (entered_as r origin spans) fresh
            ∙ ap (λ ss. kept.live_enters (live_book l.output.book) (entered_as r origin ss)) (buffer.spans-live h origin r now own.buffer)) i;
        servers = live_servers l.output.setting l.output.servers;
      };
      workers = live_workers-same (output_history_enters l.output origin r now) l.output 0 l.sessions (λ w. worker_stays h origin r now w own.buffer) i;
    }

-- ---- an output stays sane

pub enters-sane : (l : Lane) (origin : Origin) (r : Request) (now : ℕ) → IsSaneLane l
    → IsSaneLane (with_output l (output_history_enters l.output origin r now))
enters-sane l origin r now own =
    let h = l.output.buffer in
    let same = sym (enters-carried h origin r now) in record {
      buffer = sane.enters-sane h origin r now own.buffer;
      apart = subst AreApart same own.apart;
      marks = own.marks ∙ sym (enters-acknowledged h origin r now);
      waits = own.waits;
      workers = λ w x e. subst (λ cs. IsSaneWorker l.config.acks.window cs x) (sym (worker_stays h origin r now w own.buffer)) (own.workers w x e);
    }
