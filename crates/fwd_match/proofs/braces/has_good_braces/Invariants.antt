use Rattle.std.proofs.Common.{◌≡◌, drop}
use Rattle.std.specs.Prelude.{filter}
use Rattle.fwd_match.specs.Patterns.{has_good_braces, is_brace}
use Rattle.fwd_match.proofs.Pairs.{pairs_from}
use Rattle.fwd_match.proofs.braces.has_good_braces.Given as goal

abbrev pub invariant-loop-byte : goal.invariant-loop-byte
invariant-loop-byte l =
    has_good_braces l.word ≡ pairs_from l.inside (filter is_brace (drop l.byte-index l.word))
