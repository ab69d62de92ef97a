use Rattle.std.proofs.Common.{◌≡◌, None, length}
use Rattle.fwd_msgpack.specs.Scans.{verdict_of, whole_len}
use Rattle.relay_scripts.proofs.pieces.feed_pieces.Given as goal

abbrev pub invariant-pieces : goal.invariant-pieces
invariant-pieces l = whole_len (verdict_of l.scanner.state) ≡ None

abbrev pub decreases-pieces : goal.decreases-pieces
decreases-pieces l = length l.rest
