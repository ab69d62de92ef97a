-- What the parts of a hearing show, in the words of the definitions.
use Rattle.std.specs.Prelude.{◌≡◌, if◌then◌else◌, option_map, ℕ, ◌+◌, ◌-◌, ◌<◌, ◌≤◌, false, List, [], ◌++◌, length, take, drop, Option, Some, None}
use Rattle.fwd_msgpack.specs.declared.limits.Limits.{Limits}
use Rattle.fwd_msgpack.specs.declared.fault.ScanFault.{ScanFault}
use Rattle.fwd_msgpack.specs.declared.scanner.Fed.{Fed}
use Rattle.fwd_msgpack.specs.declared.scanner.Fed.TheVariants as feds
use Rattle.fwd_msgpack.specs.Scans.{Verdict, Whole, Short, Bad, first_of}
use Rattle.fwd_msgpack.specs.Scanners.{Standing, IsBehind, fresh}
use Rattle.fwd_modes.specs.Requests.{Request, Reading, request_of}
use Rattle.fwd_modes.specs.Requests.Reading.{Asks}
use Rattle.fwd_handshake.specs.declared.verdict.PingVerdict.{PingVerdict}
use Rattle.fwd_handshake.specs.declared.verdict.PingVerdict.TheVariants.{Pass}
use Rattle.fwd_source.specs.declared.fault.SourceFault.{SourceFault}
use Rattle.fwd_source.specs.Judged.{Judged, AwaitedPing, greeted, joined, welcomed, asked, judged_of}
use Rattle.fwd_source.specs.Live.{LiveSource}
use Rattle.fwd_source.specs.declared.hearing.SourceHeard.{SourceHeard}
use Rattle.fwd_source.specs.declared.greeting.Greeting.{Greeting}
use Rattle.fwd_source.specs.declared.taking.RequestContext.{RequestContext}
use Rattle.fwd_source.specs.declared.taking.Parsed.{Parsed}
use Rattle.fwd_handshake.specs.Verdicts.{ping_verdict}
use Rattle.fwd_source.specs.declared.greeting.Greeting.TheVariants as greeting

-- what was heard, with its lists as lists
abbrev pub shown : SourceHeard → Judged
shown h = record {
  requests = h.requests.items;
  rest = h.rest.now;
  pong = h.pong;
  awaits = h.awaits;
  fault = h.fault;
}

-- the fault of a verdict, if it is one
abbrev pub fault_in : Verdict → Option ScanFault
fault_in (Bad fault) = Some fault
fault_in Short = None
fault_in (Whole n) = None

-- a source as before the bytes that it keeps
abbrev pub emptied : LiveSource → LiveSource
emptied s = record s { rest = [] }

-- these are the last of the bytes
abbrev pub IsEndOf : List ℕ → List ℕ → Type 0
IsEndOf end bytes = (length end ≤ length bytes) × (drop (length bytes - length end) bytes ≡ end)

-- what is kept: these bytes, if there are any, and else all
abbrev pub kept_of : List ℕ → Option (List ℕ) → List ℕ
kept_of all None = all
kept_of all (Some apart) = apart

-- what the value and all that follows say, with the requests before it
abbrev pub TakesIn : List Request → List Request → ℕ → Reading → Option SourceFault
    → Type 0
TakesIn old new count reading None =
    (others : ℕ → Judged)
    → joined old [] (asked (count + length old) reading others)
    ≡ joined new [] (others (count + length new))
TakesIn old new count reading (Some fault) =
    (others : ℕ → Judged)
    → joined old [] (asked (count + length old) reading others)
    ≡ record { requests = new; rest = []; pong = []; awaits = false; fault = Some fault }

-- the bytes begin, within the limits, with a value of so many bytes that asks for this
pub record BeginsAsking (limits : Limits) (bytes : List ℕ) (request : Request) (len : ℕ)
    : Type 0 where
  pub whole : first_of limits.bytes limits.depth bytes ≡ Whole len
  pub asks : request_of limits.depth (take len bytes) ≡ Asks request
  pub some : 0 < len
  pub within : len ≤ length bytes

-- what a greeting says of the bytes where a PING is awaited
abbrev pub Greets : Limits → (List ℕ → PingVerdict) → ℕ → List ℕ → Greeting
    → Type 0
Greets limits verdict n bytes (greeting.Passed pong behind) =
    judged_of limits (Some verdict) n bytes ≡ greeted pong (judged_of limits None n behind.now)
Greets limits verdict n bytes (greeting.Ended heard) =
    (judged_of limits (Some verdict) n bytes ≡ shown heard) × (heard.requests.items ≡ [])

-- what a greeting leaves is the end of the bytes
abbrev pub EndsIn : List ℕ → Greeting → Type 0
EndsIn bytes (greeting.Passed pong behind) = IsEndOf behind.now bytes
EndsIn bytes (greeting.Ended heard) = IsEndOf heard.rest.now bytes

-- a greeting that ended has a fault
abbrev pub Faults : Greeting → Type 0
Faults (greeting.Passed pong behind) = Unit {0}
Faults (greeting.Ended heard) = heard.fault ≡ None → ⊥

-- where a scan stands once bytes were heard: behind those of an unfinished value. Behind a fault
-- it does not matter.
abbrev pub StandsOver : Limits → SourceHeard → Standing → Type 0
StandsOver limits heard standing = heard.fault ≡ None → IsBehind limits heard.rest.now standing

-- where a scan stands after a greeting: behind a PING the next value begins
abbrev pub StandsIn : Limits → Greeting → Standing → Type 0
StandsIn limits (greeting.Passed pong behind) standing = standing ≡ fresh limits
StandsIn limits (greeting.Ended heard) standing = StandsOver limits heard standing

-- what became of a greeting, by the verdict on the value, before these bytes
abbrev pub Welcomes : PingVerdict → List ℕ → Greeting → Type 0
Welcomes verdict bytes (greeting.Passed pong behind) =
    (verdict ≡ Pass pong) × (behind.now ≡ bytes)
Welcomes verdict bytes (greeting.Ended heard) =
    ((others : Judged) → welcomed verdict others ≡ shown heard) × (heard.requests.items ≡ [])

-- the PING that is awaited, if one is
abbrev pub awaited_by : RequestContext → AwaitedPing
awaited_by a = if a.awaits then Some (ping_verdict a.security.now a.nonces.now) else None

-- what the bytes came to is what they say, but for the requests
pub record AreTaken (said : Judged) (bytes : List ℕ) (taken : Parsed) : Type 0 where
  pub rest : kept_of bytes (option_map (λ v. v.items) taken.rest) ≡ said.rest
  pub pong : taken.out ≡ said.pong
  pub awaits : taken.awaits ≡ said.awaits
  pub fault : taken.fault ≡ said.fault

-- what became of bytes behind the front of an unfinished value: all are put behind it, or those
-- that end it, or there is a fault
abbrev pub Feeds : Limits → List ℕ → List ℕ → Fed → List ℕ → Standing → Type 0
Feeds limits front bytes feds.More all standing =
    (all ≡ front ++ bytes) × IsBehind limits all standing
    × (first_of limits.bytes limits.depth (front ++ bytes) ≡ Short)
Feeds limits front bytes (feds.End used) all standing =
    (all ≡ front ++ take used bytes) × (used ≤ length bytes)
    × (first_of limits.bytes limits.depth (front ++ bytes) ≡ Whole (length all))
    × (standing ≡ fresh limits)
Feeds limits front bytes (feds.Bad fault) all standing =
    first_of limits.bytes limits.depth (front ++ bytes) ≡ Bad fault
