use Rattle.std.proofs.Common.{◌≡◌, take}
use Rattle.std.specs.Prelude.{map}
use Rattle.fwd_book.specs.Live.{BookState, live_leaves}
use Rattle.fwd_output.proofs.output.tell.Given as goal

-- the requests of the receipts so far left
abbrev pub invariant-loop-receipt : goal.invariant-loop-receipt
invariant-loop-receipt l = ◌≡◌ {A = BookState} l.book (record {
  live = live_leaves l.fn.book.live (map (λ r. r.origin) (take l.receipt-index l.given));
  ready = l.fn.book.ready;
})
