use Rattle.std.proofs.Common.{◌≡◌, ◌+◌, ◌^◌, ◌<◌, None, [], length, take, ◌≤◌}
use Rattle.fwd_source.specs.Asked.{IsRefused}
use Rattle.fwd_source.specs.Judged.{judged_of, joined}
use Rattle.fwd_msgpack.specs.Scanners.{IsBehind}
use Rattle.fwd_source.specs.Hearing.{IsEndOf}
use Rattle.fwd_source.proofs.hearing.hear.Given as goal

-- what was read, and what the rest says, is what all of the bytes say
abbrev pub invariant-values : goal.invariant-values
invariant-values l = record {
  said : judged_of l.fn.scanner.limits None l.fn.count l.fn.unparsed.bytes.now
      ≡ joined l.requests.items []
      (judged_of l.fn.scanner.limits None (l.fn.count + length l.requests.items) l.rest);
  end : IsEndOf l.rest l.fn.unparsed.bytes.now;
  limits : l.scanner.limits ≡ l.fn.scanner.limits;
  within : l.scanned ≤ length l.rest;
  behind : IsBehind l.fn.scanner.limits (take l.scanned l.rest) l.scanner;
  room : l.fn.count + length l.requests.items < 2 ^ 64;
  first : IsRefused l.fn.scanner.limits l.fn.unparsed.bytes.now → l.rest ≡ l.fn.unparsed.bytes.now;
}

abbrev pub decreases-values : goal.decreases-values
decreases-values l = length l.rest
