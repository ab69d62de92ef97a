use Rattle.std.proofs.Common.{◌≡◌, take}
use Rattle.fwd_book.specs.Gathering.{receipts_at}
use Rattle.fwd_book.proofs.book.Book.receipts.Given as goal

-- the receipts of the origins so far are given
abbrev pub invariant-loop-origin : goal.invariant-loop-origin
invariant-loop-origin l = l.given.items ≡ receipts_at l.self.live.settled l.self.live.requests (take l.origin-index l.origins)
