use Rattle.std.proofs.Common.{◌≡◌, length, drop}
use Rattle.std.specs.List.{concat}
use Rattle.fwd_chunks.specs.Rows.{joined, AreLong, IsBegun}
use Rattle.fwd_chunks.proofs.Sending.{IsFilled}
use Rattle.fwd_chunks.proofs.send_cursor.SendCursor.gather.Given as goal

-- so many bytes are in the room, and those of the slices to come are the ones behind them
abbrev pub invariant-loop-slice : goal.invariant-loop-slice
invariant-loop-slice l = record {
  filled : IsFilled l.self l.fn.room l.room l.filled;
  long : AreLong l.rest;
  begun : IsBegun l.sent l.rest;
  behind : drop l.filled l.self ≡ drop l.sent (concat (joined l.rest));
}

abbrev pub decreases-loop-slice : goal.decreases-loop-slice
decreases-loop-slice l = length l.rest
