use Rattle.std.proofs.Common.{◌≡◌, None, drop}
use Rattle.fwd_book.specs.Gathering.{rise_behind}
use Rattle.fwd_book.proofs.book.are_rising.Given as goal

-- the origins rise where those that are left do
abbrev pub invariant-loop-origin : goal.invariant-loop-origin
invariant-loop-origin l = rise_behind None l.origins ≡ rise_behind l.before (drop l.origin-index l.origins)
