use Rattle.std.proofs.Common.{◌≡◌, ◌+◌}
use Rattle.fwd_book.specs.Live.{live_forgets_of, live_owed_of}
use Rattle.fwd_book.proofs.book.Book.forget_of.Given as goal

-- so many left, and the others of the connection are still to leave
abbrev pub invariant-loop-count : goal.invariant-loop-count
invariant-loop-count l = record {
  same : l.self ≡ record (l.fn.self) { live = l.self.live };
  left : live_forgets_of l.self.live l.conn ≡ live_forgets_of l.fn.self.live l.conn;
  count : l.count + live_owed_of l.self.live l.conn ≡ live_owed_of l.fn.self.live l.conn;
}

abbrev pub decreases-loop-count : goal.decreases-loop-count
decreases-loop-count l = live_owed_of l.self.live l.conn
