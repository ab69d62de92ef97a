-- What a connection's bytes say is what its values say, each by itself.
use Rattle.std.proofs.Common.{◌≡◌, ℕ, ◌+◌, ◌^◌, ◌<◌, cond, List, [], ◌∷◌, length, map, None, refl, sym, ap, ◌∙◌, arith}
use Rattle.std.specs.Prelude.{filter_map, take_while}
use Rattle.std.proofs.lemmas.Bool.{lt-ltb}
use Rattle.std.proofs.lemmas.List.Sums.{take_while-cons}
use Rattle.fwd_msgpack.specs.declared.limits.Limits.{Limits}
use Rattle.fwd_msgpack.specs.Scans.{Split, split_of, values_of}
use Rattle.fwd_msgpack.specs.Scans.Split.{Open, Broken}
use Rattle.fwd_modes.specs.Requests.{Request, Reading, request_of}
use Rattle.fwd_modes.specs.Requests.Reading.{Heartbeat, Asks, Fails}
use Rattle.fwd_source.specs.declared.fault.SourceFault.TheVariants.{Scan, Closed}
use Rattle.fwd_source.specs.Asked.{asked_by, is_good, first_wrong, requests_in, leftmost_fault}
use Rattle.fwd_source.specs.Judged.{Judged, AwaitedPing, failed, resting, ahead, asked, judge, judge_stream, judged_of}

module _ (deep : ℕ) (end : AwaitedPing → Judged) where
  -- what these values say, and then what is behind them
  abbrev said : ℕ → List (List ℕ) → Judged
  said n vs = judge deep None n vs end

  -- the number of a request is not past the last
  counted : (n : ℕ) (r : Request) (vs : List (List ℕ)) → n + 1 < 2 ^ 64
      → asked n (Asks r) (λ k. said k vs) ≡ ahead r (said (n + 1) vs)
  counted n r vs lt = ap (λ b. cond b (ahead r (said (n + 1) vs)) (failed Closed)) (lt-ltb (n + 1) (2 ^ 64) lt)

  asks : (n : ℕ) (vs : List (List ℕ)) → (end None).requests ≡ [] → n + length vs < 2 ^ 64
      → (said n vs).requests ≡ filter_map asked_by (take_while is_good (map (request_of deep) vs))
  asks n [] none lt = none
  asks n (v ∷ vs) none lt = by (request_of deep v) (λ k l. asks k vs none l)
    where
      by : (reading : Reading)
          → ((k : ℕ) → k + length vs < 2 ^ 64
          → (said k vs).requests
          ≡ filter_map asked_by (take_while is_good (map (request_of deep) vs)))
          → (asked n reading (λ k. said k vs)).requests
          ≡ filter_map asked_by (take_while is_good (reading ∷ map (request_of deep) vs))
      by Heartbeat more = more n (omega (arith, lt)) ∙ ap (filter_map asked_by) (sym (take_while-cons is_good Heartbeat (map (request_of deep) vs)))
      by (Asks r) more = ap (λ (j : Judged). j.requests) (counted n r vs (omega (arith, lt))) ∙ ap (λ rs. r ∷ rs) (more (n + 1) (omega (arith, lt))) ∙ ap (filter_map asked_by) (sym (take_while-cons is_good (Asks r) (map (request_of deep) vs)))
      by (Fails f) more = refl

  goes_wrong : (n : ℕ) (vs : List (List ℕ)) → n + length vs < 2 ^ 64
      → (said n vs).fault ≡ first_wrong (map (request_of deep) vs) (end None).fault
  goes_wrong n [] lt = refl
  goes_wrong n (v ∷ vs) lt = by (request_of deep v) (λ k l. goes_wrong k vs l)
    where
      by : (reading : Reading)
          → ((k : ℕ) → k + length vs < 2 ^ 64
          → (said k vs).fault ≡ first_wrong (map (request_of deep) vs) (end None).fault)
          → (asked n reading (λ k. said k vs)).fault
          ≡ first_wrong (reading ∷ map (request_of deep) vs) (end None).fault
      by Heartbeat more = more n (omega (arith, lt))
      by (Asks r) more = ap (λ (j : Judged). j.fault) (counted n r vs (omega (arith, lt))) ∙ more (n + 1) (omega (arith, lt))
      by (Fails f) more = refl

-- the requests are those of the values
pub judged_requests : (limits : Limits) (n : ℕ) (bytes : List ℕ)
    → n + length (values_of (split_of limits.bytes limits.depth bytes)) < 2 ^ 64
    → (judged_of limits None n bytes).requests
    ≡ requests_in limits.depth (split_of limits.bytes limits.depth bytes)
unfolding judged_of
judged_requests limits n bytes lt = by (split_of limits.bytes limits.depth bytes) lt
  where
    by : (s : Split) → n + length (values_of s) < 2 ^ 64
        → (judge_stream limits.depth None n s).requests ≡ requests_in limits.depth s
    by (Open vs rest) l = asks limits.depth (λ g. resting g rest) n vs refl l
    by (Broken vs fault) l = asks limits.depth (λ g. failed (Scan fault)) n vs refl l

-- and so is the fault
pub judged_fault : (limits : Limits) (n : ℕ) (bytes : List ℕ)
    → n + length (values_of (split_of limits.bytes limits.depth bytes)) < 2 ^ 64
    → (judged_of limits None n bytes).fault
    ≡ leftmost_fault limits.depth (split_of limits.bytes limits.depth bytes)
unfolding judged_of
judged_fault limits n bytes lt = by (split_of limits.bytes limits.depth bytes) lt
  where
    by : (s : Split) → n + length (values_of s) < 2 ^ 64
        → (judge_stream limits.depth None n s).fault ≡ leftmost_fault limits.depth s
    by (Open vs rest) l = goes_wrong limits.depth (λ g. resting g rest) n vs l
    by (Broken vs fault) l = goes_wrong limits.depth (λ g. failed (Scan fault)) n vs l
