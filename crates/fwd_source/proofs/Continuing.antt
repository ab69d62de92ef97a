-- An unfinished value that goes on: where a scan stands, and what its end and the bytes behind it say.
use Rattle.std.proofs.Common.{◌≡◌, ℕ, ◌+◌, ◌<◌, ◌^◌, Bool, true, false, cond, List, ◌++◌, length, take, drop, Option, Some, None, Vec, Global, refl, sym, ap, subst, ◌∙◌, arith}
use Rattle.std.specs.Prelude.{option_and_then}
use Rattle.std.proofs.lemmas.Bool.{lt-ltb}
use Rattle.std.proofs.lemmas.List.{append_assoc, take-append-drop, take_at, drop_at}
use Rattle.fwd_msgpack.specs.declared.limits.Limits.{Limits}
use Rattle.fwd_msgpack.specs.Scans.{Whole, first_of, is_nil, elements_of, verdict_of, whole_len}
use Rattle.fwd_msgpack.specs.Scanners.{Standing, IsBehind, onward, standing_behind}
use Rattle.fwd_msgpack.proofs.Pieces.{joined}
use Rattle.fwd_msgpack.proofs.Wholes.{Front-from}
use Rattle.fwd_modes.specs.Requests as requests
use Rattle.fwd_modes.specs.declared.fault.InputFault.{InputFault}
use Rattle.fwd_modes.specs.Requests.{Request, request_of, parts_in, of_parts, first_fault, faults_of, unless_fault}
use Rattle.fwd_modes.specs.Requests.Reading.{Heartbeat, Asks, Fails}
use Rattle.fwd_source.specs.declared.fault.SourceFault.TheVariants.{Input}
use Rattle.fwd_source.specs.declared.hearing.SourceHeard.{SourceHeard}
use Rattle.fwd_source.specs.declared.taking.Parsed.{Parsed}
use Rattle.fwd_source.specs.Judged.{Judged, AwaitedPing, judged_of, value_then, asked, ahead, failed}
use Rattle.fwd_source.specs.Hearing.{AreTaken, shown}
use Rattle.fwd_source.proofs.Judging.{judged_of-whole}

-- ---- where a scan stands

pub behind_more : (limits : Limits) (front bytes all : List ℕ) (old new : Standing)
    → old ≡ standing_behind limits front → new ≡ onward old bytes → all ≡ front ++ bytes
    → whole_len (verdict_of new.state) ≡ None
    → IsBehind limits all new
behind_more limits front bytes all old new is on e going =
    (on ∙ ap (λ (s : Standing). onward s bytes) is ∙ joined limits front bytes ∙ ap (standing_behind limits) (sym e), going)

-- ---- what is nil, by what it asks for

unless_no : (fault : Option InputFault) (parts : requests.RequestFields) → unless_fault fault parts ≡ Heartbeat → ⊥
unless_no None parts e = cc
unless_no (Some fault) parts e = cc

parts_no : (parts : Option requests.RequestFields) → of_parts parts ≡ Heartbeat → ⊥
parts_no None e = cc
parts_no (Some parts) e = unless_no (first_fault (faults_of parts)) parts e

module _ (deep count : ℕ) (v : List ℕ) where
  -- how many requests came before what is behind a value
  abbrev pub behind_it : ℕ
  behind_it = cond (is_nil v) count (count + 1)

  -- a heartbeat is nil, and counts for nothing
  pub beat_count : Heartbeat ≡ request_of deep v → behind_it ≡ count
  unfolding request_of
  beat_count e = by (is_nil v) (sym e)
    where
      by : (b : Bool)
          → cond b Heartbeat (of_parts (option_and_then (parts_in deep) (elements_of v))) ≡ Heartbeat
          → cond b count (count + 1) ≡ count
      by true h = refl
      by false h = absurd (parts_no (option_and_then (parts_in deep) (elements_of v)) h)

  -- what asks for something is not nil
  pub asks_count : (r : Request) → Asks r ≡ request_of deep v → behind_it ≡ count + 1
  unfolding request_of
  asks_count r e = by (is_nil v) (sym e)
    where
      by : (b : Bool)
          → cond b Heartbeat (of_parts (option_and_then (parts_in deep) (elements_of v))) ≡ Asks r
          → cond b count (count + 1) ≡ count + 1
      by true h = absurd cc
      by false h = refl

-- ---- what a value and the bytes behind it say

module _ (deep count : ℕ) (v : List ℕ) (others : AwaitedPing → ℕ → Judged) where
  pub beat_said : Heartbeat ≡ request_of deep v
      → value_then deep None count v others ≡ others None count
  beat_said e = ap (λ (r : requests.Reading). asked count r (others None)) (sym e)

  pub asks_said : (r : Request) → count + 1 < 2 ^ 64 → Asks r ≡ request_of deep v
      → value_then deep None count v others ≡ ahead r (others None (count + 1))
  asks_said r lt e =
      ap (λ (r : requests.Reading). asked count r (others None)) (sym e)
      ∙ counted
    where
      counted : asked count (Asks r) (others None) ≡ ahead r (others None (count + 1))
      counted = rw (lt-ltb (count + 1) (2 ^ 64) lt) refl

  pub fails_said : (fault : InputFault) → Fails fault ≡ request_of deep v
      → value_then deep None count v others ≡ failed (Input fault)
  fails_said fault e = ap (λ (r : requests.Reading). asked count r (others None)) (sym e)

-- the same of a value within limits that are these, by how many requests came before what is
-- behind it
module _ (limits own : Limits) (same : own ≡ limits) (count : ℕ) (v behind : List ℕ) where
  abbrev pub said : Judged
  said = value_then limits.depth None count v (λ g k. judged_of limits g k behind)

  abbrev pub said_behind : Judged
  said_behind = judged_of limits None (behind_it limits.depth count v) behind

  pub beat_then : Heartbeat ≡ request_of own.depth v → said ≡ said_behind
  beat_then e =
      let is = e ∙ ap (λ (l : Limits). request_of l.depth v) same in
      beat_said limits.depth count v (λ g k. judged_of limits g k behind) is
      ∙ ap (λ (k : ℕ). judged_of limits None k behind) (sym (beat_count limits.depth count v is))

  pub asks_then : (r : Request) → count + 1 < 2 ^ 64 → Asks r ≡ request_of own.depth v
      → said ≡ ahead r said_behind
  asks_then r lt e =
      let is = e ∙ ap (λ (l : Limits). request_of l.depth v) same in
      asks_said limits.depth count v (λ g k. judged_of limits g k behind) r lt is
      ∙ ap (λ (k : ℕ). ahead r (judged_of limits None k behind)) (sym (asks_count limits.depth count v r is))

  pub fails_then : (fault : InputFault) → Fails fault ≡ request_of own.depth v
      → said ≡ failed (Input fault)
  fails_then fault e = fails_said limits.depth count v (λ g k. judged_of limits g k behind) fault (e ∙ ap (λ (l : Limits). request_of l.depth v) same)

-- a value that ends within the bytes
module _ (limits : Limits) (front bytes all : List ℕ) (used : ℕ)
    (is : all ≡ front ++ take used bytes)
    (ends : first_of limits.bytes limits.depth (front ++ bytes) ≡ Whole (length all)) where
  whole : front ++ bytes ≡ all ++ drop used bytes
  whole =
      ap (λ (xs : List ℕ). front ++ xs) (sym (take-append-drop used bytes))
      ∙ sym (append_assoc front (take used bytes) (drop used bytes))
      ∙ ap (λ (xs : List ℕ). xs ++ drop used bytes) (sym is)

  own : take (length all) (front ++ bytes) ≡ all
  own = ap (take (length all)) whole ∙ take_at all (drop used bytes) (length all) refl

  others : drop (length all) (front ++ bytes) ≡ drop used bytes
  others = ap (drop (length all)) whole ∙ drop_at all (drop used bytes) (length all) refl

  -- it is one by itself
  pub ended_alone : first_of limits.bytes limits.depth all ≡ Whole (length all)
  ended_alone =
      let front' = Front-from limits.bytes limits.depth limits.bytes limits.depth (omega arith) (omega arith) (front ++ bytes) (length all) ends in
      subst (λ (xs : List ℕ). first_of limits.bytes limits.depth xs ≡ Whole (length xs)) own front'.alone

  -- what it says, with the bytes behind it
  pub ended_says : (count : ℕ)
      → value_then limits.depth None count all (λ g k. judged_of limits g k (drop used bytes))
      ≡ judged_of limits None count (front ++ bytes)
  ended_says count =
      sym (judged_of-whole limits None count (front ++ bytes) (length all) ends
      ∙ (λ i. value_then limits.depth None count (own i) (λ g k. judged_of limits g k (others i))))

-- ---- what was taken of it

-- what was heard
pub as_heard : (j : Judged) (bytes : List ℕ) (heard : SourceHeard) (rest : Vec ℕ Global)
    → shown heard ≡ j → rest.items ≡ heard.rest.now
    → AreTaken j bytes (record { rest = Some rest; out = heard.pong; awaits = heard.awaits; fault = heard.fault })
as_heard j bytes heard rest e kept = record {
  rest = kept ∙ ap (λ (k : Judged). k.rest) e;
  pong = ap (λ (k : Judged). k.pong) e;
  awaits = ap (λ (k : Judged). k.awaits) e;
  fault = ap (λ (k : Judged). k.fault) e;
}

-- a request before it changes nothing of that
pub taken_ahead : (r : Request) (j : Judged) (bytes : List ℕ) (taken : Parsed) → AreTaken j bytes taken
    → AreTaken (ahead r j) bytes taken
taken_ahead r j bytes taken are = record {
  rest = are.rest;
  pong = are.pong;
  awaits = are.awaits;
  fault = are.fault;
}
