use Rattle.std.proofs.Common.{◌≡◌, Bool, drop}
use Rattle.fwd_match.specs.Asterisks.{Front, further, each_front}
use Rattle.fwd_match.proofs.stars.Fronts.behind.Given as goal

abbrev pub invariant-loop-byte : goal.invariant-loop-byte
invariant-loop-byte l = (test : Front → Bool) →
    each_front l.fn.self (λ front. test (further front l.bytes))
    ≡ each_front l.fronts (λ front. test (further front (drop l.byte-index l.bytes)))
