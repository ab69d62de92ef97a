use Rattle.std.proofs.Common.{length, drop}
use Rattle.std.specs.List.{concat}
use Rattle.fwd_chunks.specs.Rows.{joined, AreLong, IsBegun}
use Rattle.fwd_chunks.proofs.Lending.{GoesOn}
use Rattle.fwd_chunks.proofs.send_cursor.SendCursor.lend.Given as goal

-- the bytes of the slices to come are those that are left to lend
abbrev pub invariant-loop-slice : goal.invariant-loop-slice
invariant-loop-slice l = record {
  long : AreLong l.rest;
  begun : IsBegun l.sent l.rest;
  goes : GoesOn l.fn.pieces l.self l.lent (drop l.sent (concat (joined l.rest)));
}

abbrev pub decreases-loop-slice : goal.decreases-loop-slice
decreases-loop-slice l = length l.rest
