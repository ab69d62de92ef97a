use Rattle.std.proofs.Common.{◌≡◌, None, length}
use Rattle.fwd_msgpack.specs.Scans.{verdict_of, whole_len}
use Rattle.relay_scripts.proofs.pieces.feed_piece.Given as goal

abbrev pub invariant-values : goal.invariant-values
invariant-values l = whole_len (verdict_of l.scanner.state) ≡ None

abbrev pub decreases-values : goal.decreases-values
decreases-values l = length l.rest
