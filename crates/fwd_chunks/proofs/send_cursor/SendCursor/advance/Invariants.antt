use Rattle.std.proofs.Common.{◌≡◌, ◌≤◌, ◌-◌, length, drop}
use Rattle.fwd_chunks.proofs.send_cursor.SendCursor.advance.Given as goal

-- what is still to be passed is there, and the rest is passed
abbrev pub invariant-loop-rest : goal.invariant-loop-rest
invariant-loop-rest l = record {
  whole : l.rest ≤ l.count;
  there : l.rest ≤ length l.self;
  passed : l.self ≡ drop (l.count - l.rest) l.fn.self;
}

abbrev pub decreases-loop-rest : goal.decreases-loop-rest
decreases-loop-rest l = l.rest
