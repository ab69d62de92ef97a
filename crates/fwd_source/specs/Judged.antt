-- What a connection's bytes say.
use Rattle.std.specs.Prelude.{ℕ, ◌+◌, ◌^◌, Bool, false, List, [], ◌∷◌, ◌++◌, Option, Some, None, is_some, nat_lt, if◌then◌else◌}
use Rattle.fwd_msgpack.specs.declared.limits.Limits.{Limits}
use Rattle.fwd_msgpack.specs.Scans.{Split, split_of, is_nil}
use Rattle.fwd_msgpack.specs.Scans.Split.{Open, Broken}
use Rattle.fwd_modes.specs.Requests.{Request, Reading, request_of}
use Rattle.fwd_modes.specs.Requests.Reading.{Heartbeat, Asks, Fails}
use Rattle.fwd_handshake.specs.declared.verdict.PingVerdict.{PingVerdict}
use Rattle.fwd_handshake.specs.declared.verdict.PingVerdict.TheVariants as ping
use Rattle.fwd_source.specs.declared.fault.SourceFault.{SourceFault}
use Rattle.fwd_source.specs.declared.fault.SourceFault.TheVariants.{Scan, Input, NotPing, Denied, Closed}

-- The requests of a stream, the bytes of an unfinished value after them, the PONG that the stream
-- asks for (none is the empty text), whether a PING is still awaited, and the leftmost fault.
-- Behind a fault nothing counts.
pub record Judged : Type 0 where
  pub requests : List Request
  pub rest : List ℕ
  pub pong : List ℕ
  pub awaits : Bool
  pub fault : Option SourceFault

-- what a connection has to pass before its requests count: nothing, or a PING with its verdict
abbrev pub AwaitedPing : Type 0
AwaitedPing = Option (List ℕ → PingVerdict)

-- nothing but a fault
abbrev pub failed : SourceFault → Judged
failed f = record { requests = []; rest = []; pong = []; awaits = false; fault = Some f }

-- nothing but the bytes of an unfinished value
abbrev pub resting : AwaitedPing → List ℕ → Judged
resting awaited rest = record {
  requests = [];
  rest = rest;
  pong = [];
  awaits = is_some awaited;
  fault = None;
}

-- a request, and what comes after it
abbrev pub ahead : Request → Judged → Judged
ahead r j = record j { requests = r ∷ j.requests }

-- a PONG, and what comes after it
abbrev pub greeted : List ℕ → Judged → Judged
greeted pong j = record j { pong = pong ++ j.pong }

-- what came, and what comes after it
abbrev pub joined : List Request → List ℕ → Judged → Judged
joined requests pong j = record j { requests = requests ++ j.requests; pong = pong ++ j.pong }

-- a PING, judged, and what comes after it: a denied one has its PONG, and what is no PING has none
abbrev pub welcomed : PingVerdict → Judged → Judged
welcomed (ping.Pass pong) others = greeted pong others
welcomed (ping.Deny pong denial) others = greeted pong (failed Denied)
welcomed ping.NotPing others = failed NotPing

-- a request, read, and what comes after it: a heartbeat is
-- skipped, and no request has a number past the last
abbrev pub asked : ℕ → Reading → (ℕ → Judged) → Judged
asked count reading others =
    elim reading [
      | Heartbeat ↦ others count
      | Asks r ↦
          if nat_lt (count + 1) (2 ^ 64) then ahead r (others (count + 1)) else failed Closed
      | Fails f ↦ failed (Input f)
    ]

-- a value, and what comes after it. Where a PING is awaited,
-- nil is skipped, and the first other value has to be one
abbrev pub value_then : ℕ → AwaitedPing → ℕ → List ℕ → (AwaitedPing → ℕ → Judged) → Judged
value_then deep None count v others = asked count (request_of deep v) (others None)
value_then deep (Some verdict) count v others =
    if is_nil v then others (Some verdict) count else welcomed (verdict v) (others None count)

-- what the values of a stream say where this PING is awaited, or none, and so many requests came
-- before on the connection
abbrev pub judge : ℕ → AwaitedPing → ℕ → List (List ℕ) → (AwaitedPing → Judged) → Judged
judge deep awaited count [] end = end awaited
judge deep awaited count (v ∷ vs) end =
    value_then deep awaited count v (λ g k. judge deep g k vs end)

-- a stream's values one after the other, and then what is behind them: an unfinished value, or
-- the fault
abbrev pub judge_stream : ℕ → AwaitedPing → ℕ → Split → Judged
judge_stream deep awaited count (Open values rest) =
    judge deep awaited count values (λ g. resting g rest)
judge_stream deep awaited count (Broken values fault) =
    judge deep awaited count values (λ g. failed (Scan fault))

-- what bytes say
unfoldable pub judged_of : Limits → AwaitedPing → ℕ → List ℕ → Judged
judged_of limits awaited count bytes =
    judge_stream limits.depth awaited count (split_of limits.bytes limits.depth bytes)
