use Rattle.std.proofs.Common.{◌≡◌, ◌+◌, ◌≤◌, drop}
use Rattle.fwd_monitor.specs.Lines.{head_lines, lines_from}
use Rattle.fwd_monitor.proofs.judging.head_lines.Given as goal

-- the lines so far, and those that are still to be counted
abbrev pub invariant-loop-byte : goal.invariant-loop-byte
invariant-loop-byte l = record {
  all : l.lines + lines_from l.begun (drop l.byte-index l.heard) ≡ head_lines l.heard;
  few : l.lines ≤ l.byte-index;
}
