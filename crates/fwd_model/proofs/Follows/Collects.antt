-- The live part follows the history where a connection is told, and where it is forgotten.
use Rattle.std.proofs.Common.{◌≡◌, ℕ, refl, ap, ◌∙◌}
use Rattle.fwd_chunks.specs.Live.{live_buffer}
use Rattle.fwd_book.specs.History.{BookHistory, leaves, tells_due, forgets_of}
use Rattle.fwd_book.specs.Live.{live_book, live_tells_due, live_forgets_of}
use Rattle.fwd_failover.specs.Live.{live_servers}
use Rattle.fwd_model.specs.Outputs.{live_output}
use Rattle.fwd_model.specs.History.{Lane, with_book}
use Rattle.fwd_model.specs.Live.{live_lane, with_live_book}
use Rattle.fwd_model.proofs.Places.{live_workers-same}
use Rattle.fwd_book.proofs.Following.{follows-tells_due, follows-forgets_of}
use Rattle.fwd_model.proofs.Reached.{IsSaneLane}
use Rattle.fwd_model.proofs.Settled.{numbers_in}

-- another book leaves all else
with_book-live : (l : Lane) (b : BookHistory)
    → live_lane (with_book l b) ≡ with_live_book (live_lane l) (live_book b)
unfolding live_lane live_output
with_book-live l b = λ i. record {
  config = l.config;
  output = record { buffer = live_buffer l.output.buffer; book = live_book b; servers = live_servers l.output.setting l.output.servers };
  workers = live_workers-same (record (l.output) { book = b }) l.output 0 l.sessions (λ k. refl) i;
}

with_book-sane : (l : Lane) (b : BookHistory)
    → numbers_in b.settled ≡ numbers_in l.output.book.settled
    → IsSaneLane l → IsSaneLane (with_book l b)
with_book-sane l b same own = record {
  buffer = own.buffer;
  apart = own.apart;
  marks = same ∙ own.marks;
  waits = own.waits;
  workers = own.workers;
}

pub tells-live : (conn : ℕ) (l : Lane)
    → live_lane (with_book l (tells_due l.output.book conn))
    ≡ with_live_book (live_lane l) (live_tells_due (live_lane l).output.book conn)
unfolding live_lane live_output
tells-live conn l =
    with_book-live l (tells_due l.output.book conn)
    ∙ ap (with_live_book (live_lane l)) (follows-tells_due l.output.book conn)

pub tells-sane : (conn : ℕ) (l : Lane) → IsSaneLane l
    → IsSaneLane (with_book l (tells_due l.output.book conn))
unfolding leaves
tells-sane conn l own = with_book-sane l (tells_due l.output.book conn) refl own

pub forgets-live : (conn : ℕ) (l : Lane)
    → live_lane (with_book l (forgets_of l.output.book conn))
    ≡ with_live_book (live_lane l) (live_forgets_of (live_lane l).output.book conn)
unfolding live_lane live_output
forgets-live conn l =
    with_book-live l (forgets_of l.output.book conn)
    ∙ ap (with_live_book (live_lane l)) (follows-forgets_of l.output.book conn)

pub forgets-sane : (conn : ℕ) (l : Lane) → IsSaneLane l
    → IsSaneLane (with_book l (forgets_of l.output.book conn))
unfolding leaves
forgets-sane conn l own = with_book-sane l (forgets_of l.output.book conn) refl own
