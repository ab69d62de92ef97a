use Rattle.std.proofs.Common.{◌≡◌, drop}
use Rattle.fwd_output.specs.ChunkStarts.{begun_after}
use Rattle.fwd_output.proofs.chunk_starts.ChunkStarts.enter.Given as goal

-- what the runs make of it that are still to be entered is what all make of what was there
abbrev pub invariant-loop-span : goal.invariant-loop-span
invariant-loop-span l =
    begun_after l.now l.self (drop l.span-index l.spans) ≡ begun_after l.now l.fn.self l.spans
