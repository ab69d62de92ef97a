use Rattle.std.proofs.Common.{◌≡◌, ◌≤◌, take}
use Rattle.fwd_book.specs.Live.{BookState, live_leaves, live_owed}
use Rattle.fwd_book.proofs.book.Book.forget.Given as goal

-- the requests of the origins so far left, and are counted
abbrev pub invariant-loop-origin : goal.invariant-loop-origin
invariant-loop-origin l = record {
  left : ◌≡◌ {A = BookState} l.self (record { live = live_leaves l.fn.self.live (take l.origin-index l.origins); ready = l.fn.self.ready });
  count : l.count ≡ live_owed l.fn.self.live (take l.origin-index l.origins);
  few : l.count ≤ l.origin-index;
}
