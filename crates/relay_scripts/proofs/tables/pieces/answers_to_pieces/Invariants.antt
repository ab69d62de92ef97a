use Rattle.std.proofs.Common.{◌≡◌, None}
use Rattle.fwd_msgpack.specs.Scans.{verdict_of, whole_len}
use Rattle.relay_scripts.proofs.tables.pieces.answers_to_pieces.Given as goal

abbrev pub invariant-loop-piece : goal.invariant-loop-piece
invariant-loop-piece l = whole_len (verdict_of l.scanner.state) ≡ None
