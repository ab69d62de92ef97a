use Rattle.std.proofs.Common.{◌≡◌, ℕ, Some, length, take, ◌≤◌}
use Rattle.fwd_handshake.specs.Verdicts.{ping_verdict}
use Rattle.fwd_source.specs.Judged.{judged_of}
use Rattle.fwd_msgpack.specs.Scanners.{IsBehind}
use Rattle.fwd_source.specs.Hearing.{IsEndOf}
use Rattle.fwd_source.proofs.greeting.greet.Given as goal

-- what the rest says is what all of the bytes say
abbrev pub invariant-values : goal.invariant-values
invariant-values l = record {
  said : (n : ℕ)
      → judged_of l.fn.scanner.limits (Some (ping_verdict l.fn.security l.fn.nonces)) n l.fn.unparsed.bytes.now
      ≡ judged_of l.fn.scanner.limits (Some (ping_verdict l.fn.security l.fn.nonces)) n l.rest;
  end : IsEndOf l.rest l.fn.unparsed.bytes.now;
  limits : l.scanner.limits ≡ l.fn.scanner.limits;
  within : l.scanned ≤ length l.rest;
  behind : IsBehind l.fn.scanner.limits (take l.scanned l.rest) l.scanner;
}

abbrev pub decreases-values : goal.decreases-values
decreases-values l = length l.rest
