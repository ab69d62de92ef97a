-- What more bytes of a connection say: the requests and the PONG
-- so far stay, and the bytes of the unfinished value go on.
use Rattle.std.proofs.Common.{◌≡◌, ℕ, suc, ◌+◌, ◌^◌, Bool, true, false, cond, ltb, List, [], ◌∷◌, ◌++◌, length, take, drop, Some, None, refl, sym, ap, subst, ◌∙◌, add-zero, arith}
use Rattle.std.specs.Prelude.{is_some}
use Rattle.std.proofs.lemmas.List.{append_assoc}
use Rattle.fwd_msgpack.specs.declared.limits.Limits.{Limits}
use Rattle.fwd_msgpack.specs.Scans.{Split, split_of, is_nil, Whole, Short, Bad, first_of, with_front, continued}
use Rattle.fwd_msgpack.specs.Scans.Split.{Open, Broken}
use Rattle.fwd_modes.specs.Requests.{Reading, request_of}
use Rattle.fwd_modes.specs.Requests.Reading.{Heartbeat, Asks, Fails}
use Rattle.fwd_handshake.specs.declared.verdict.PingVerdict.{PingVerdict}
use Rattle.fwd_handshake.specs.declared.verdict.PingVerdict.TheVariants as ping
use Rattle.fwd_source.specs.declared.fault.SourceFault.{SourceFault}
use Rattle.fwd_source.specs.declared.fault.SourceFault.TheVariants.{Scan, Closed}
use Rattle.fwd_source.specs.Judged.{Judged, AwaitedPing, failed, resting, ahead, greeted, joined, welcomed, asked, value_then, judge, judge_stream, judged_of}
use Rattle.fwd_msgpack.specs.declared.fault.ScanFault.{ScanFault}
use Rattle.fwd_msgpack.specs.declared.stream.Next.{Next}
use Rattle.fwd_msgpack.specs.declared.stream.Next.TheVariants as next
use Rattle.fwd_msgpack.specs.Values.{bytes_of}
use Rattle.fwd_msgpack.specs.Walks.{split_by}
use Rattle.fwd_msgpack.proofs.Rows.{by_first, told_first, split_first, split_append}

-- the PING that is awaited behind what was judged
abbrev pub awaited_behind : AwaitedPing → Bool → AwaitedPing
awaited_behind awaited true = awaited
awaited_behind awaited false = None

none_behind : (b : Bool) → awaited_behind None b ≡ None
none_behind true = refl
none_behind false = refl

-- what comes behind a front that has no fault
abbrev pub Continues : (AwaitedPing → ℕ → Judged) → AwaitedPing → ℕ → Judged → Judged → Type 0
Continues behind awaited n front all =
    all
    ≡ joined front.requests front.pong
    (behind (awaited_behind awaited front.awaits) (n + length front.requests))

-- ---- one value

-- no PING is awaited behind it
asked_open : (n : ℕ) (reading : Reading) (front : ℕ → Judged)
    → ((k : ℕ) → (front k).fault ≡ None → (front k).awaits ≡ false)
    → (asked n reading front).fault ≡ None → (asked n reading front).awaits ≡ false
asked_open n Heartbeat front h e = h n e
asked_open n (Asks r) front h e = counted (ltb (n + 1) (2 ^ 64)) e
  where
    counted : (b : Bool) → (cond b (ahead r (front (n + 1))) (failed Closed)).fault ≡ None
        → (cond b (ahead r (front (n + 1))) (failed Closed)).awaits ≡ false
    counted true f = h (n + 1) f
    counted false f = absurd cc
asked_open n (Fails f) front h e = absurd cc

judge_open : (deep n : ℕ) (vs : List (List ℕ)) (rest : List ℕ)
    → (judge deep None n vs (λ g. resting g rest)).fault ≡ None
    → (judge deep None n vs (λ g. resting g rest)).awaits ≡ false
judge_open deep n [] rest e = refl
judge_open deep n (v ∷ vs) rest e = asked_open n (request_of deep v) (λ k. judge deep None k vs (λ g. resting g rest)) (λ k f. judge_open deep k vs rest f) e

asked_joined : (n : ℕ) (reading : Reading) (front all : ℕ → Judged)
    (behind : AwaitedPing → ℕ → Judged)
    → ((k : ℕ) → (front k).fault ≡ None → Continues behind None k (front k) (all k))
    → (asked n reading front).fault ≡ None
    → Continues behind None n (asked n reading front) (asked n reading all)
asked_joined n Heartbeat front all behind h e = h n e
asked_joined n (Asks r) front all behind h e = counted (ltb (n + 1) (2 ^ 64)) e
  where
    counted : (b : Bool) → (cond b (ahead r (front (n + 1))) (failed Closed)).fault ≡ None
        → Continues behind None n (cond b (ahead r (front (n + 1))) (failed Closed))
        (cond b (ahead r (all (n + 1))) (failed Closed))
    counted true f =
        let tail = h (n + 1) f in
        let count : (n + 1) + length (front (n + 1)).requests ≡ n + suc (length (front (n + 1)).requests) = omega arith in
        ap (ahead r) tail ∙ ap (λ k. ahead r (joined (front (n + 1)).requests (front (n + 1)).pong (behind (awaited_behind None (front (n + 1)).awaits) k))) count
    counted false f = absurd cc
asked_joined n (Fails f) front all behind h e = absurd cc

welcome_joined : (awaited : AwaitedPing) (n : ℕ) (verdict : PingVerdict) (front all : Judged)
    (behind : AwaitedPing → ℕ → Judged)
    → (front.fault ≡ None → Continues behind None n front all)
    → (front.fault ≡ None → front.awaits ≡ false)
    → (welcomed verdict front).fault ≡ None
    → Continues behind awaited n (welcomed verdict front) (welcomed verdict all)
welcome_joined awaited n (ping.Pass pong) front all behind h ends e =
    let closed = ends e in
    let awaited_alike : awaited_behind None front.awaits ≡ awaited_behind awaited front.awaits = ap (awaited_behind None) closed ∙ ap (awaited_behind awaited) (sym closed) in
    let tail = h e in
    ap (greeted pong) tail
    ∙ (λ i. record {
      requests = front.requests ++ (behind (awaited_alike i) (n + length front.requests)).requests;
      rest = (behind (awaited_alike i) (n + length front.requests)).rest;
      pong = sym (append_assoc pong front.pong (behind (awaited_alike i) (n + length front.requests)).pong) i;
      awaits = (behind (awaited_alike i) (n + length front.requests)).awaits;
      fault = (behind (awaited_alike i) (n + length front.requests)).fault;
    })
welcome_joined awaited n (ping.Deny pong denial) front all behind h ends e = absurd cc
welcome_joined awaited n ping.NotPing front all behind h ends e = absurd cc

value_joined : (deep : ℕ) (awaited : AwaitedPing) (n : ℕ) (v : List ℕ)
    (front all behind : AwaitedPing → ℕ → Judged)
    → ((g : AwaitedPing) (k : ℕ) → (front g k).fault ≡ None
    → Continues behind g k (front g k) (all g k))
    → ((k : ℕ) → (front None k).fault ≡ None → (front None k).awaits ≡ false)
    → (value_then deep awaited n v front).fault ≡ None
    → Continues behind awaited n (value_then deep awaited n v front)
    (value_then deep awaited n v all)
value_joined deep None n v front all behind h ends e = asked_joined n (request_of deep v) (front None) (all None) behind (h None) e
value_joined deep (Some verdict) n v front all behind h ends e = by (is_nil v) e
  where
    by : (b : Bool)
        → (cond b (front (Some verdict) n) (welcomed (verdict v) (front None n))).fault ≡ None
        → Continues behind (Some verdict) n
        (cond b (front (Some verdict) n) (welcomed (verdict v) (front None n)))
        (cond b (all (Some verdict) n) (welcomed (verdict v) (all None n)))
    by true f = h (Some verdict) n f
    by false f = welcome_joined (Some verdict) n (verdict v) (front None n) (all None n) behind (h None n) (ends n) f

-- ---- values

stays : (awaited : AwaitedPing) (rest : List ℕ)
    → awaited_behind awaited (resting awaited rest).awaits ≡ awaited
stays None rest = refl
stays (Some verdict) rest = refl

judge-append :
    (deep : ℕ) (awaited : AwaitedPing) (vs ws : List (List ℕ)) (rest : List ℕ) (end : AwaitedPing → Judged)
    (n : ℕ)
    → (judge deep awaited n vs (λ g. resting g rest)).fault ≡ None
    → Continues (λ g k. judge deep g k ws end) awaited n
    (judge deep awaited n vs (λ g. resting g rest)) (judge deep awaited n (vs ++ ws) end)
judge-append deep awaited [] ws rest end n e = ap (λ k. judge deep awaited k ws end) (sym (add-zero n)) ∙ ap (λ g. judge deep g (n + 0) ws end) (sym (stays awaited rest))
judge-append deep awaited (v ∷ vs) ws rest end n e =
    value_joined deep awaited n v (λ g k. judge deep g k vs (λ g. resting g rest)) (λ g k. judge deep g k (vs ++ ws) end) (λ g k. judge deep g k ws end)
    (λ g k f. judge-append deep g vs ws rest end k f) (λ k f. judge_open deep k vs rest f) e

-- ---- the bytes of the unfinished value

asked_rests : (n : ℕ) (reading : Reading) (front : ℕ → Judged) (rest : List ℕ)
    → ((k : ℕ) → (front k).fault ≡ None → (front k).rest ≡ rest)
    → (asked n reading front).fault ≡ None → (asked n reading front).rest ≡ rest
asked_rests n Heartbeat front rest h e = h n e
asked_rests n (Asks r) front rest h e = counted (ltb (n + 1) (2 ^ 64)) e
  where
    counted : (b : Bool) → (cond b (ahead r (front (n + 1))) (failed Closed)).fault ≡ None
        → (cond b (ahead r (front (n + 1))) (failed Closed)).rest ≡ rest
    counted true f = h (n + 1) f
    counted false f = absurd cc
asked_rests n (Fails f) front rest h e = absurd cc

welcome_rests : (verdict : PingVerdict) (front : Judged) (rest : List ℕ)
    → (front.fault ≡ None → front.rest ≡ rest) → (welcomed verdict front).fault ≡ None
    → (welcomed verdict front).rest ≡ rest
welcome_rests (ping.Pass pong) front rest h e = h e
welcome_rests (ping.Deny pong denial) front rest h e = absurd cc
welcome_rests ping.NotPing front rest h e = absurd cc

value_rests :
    (deep : ℕ) (awaited : AwaitedPing) (n : ℕ) (v : List ℕ) (front : AwaitedPing → ℕ → Judged)
    (rest : List ℕ)
    → ((g : AwaitedPing) (k : ℕ) → (front g k).fault ≡ None → (front g k).rest ≡ rest)
    → (value_then deep awaited n v front).fault ≡ None
    → (value_then deep awaited n v front).rest ≡ rest
value_rests deep None n v front rest h e = asked_rests n (request_of deep v) (front None) rest (h None) e
value_rests deep (Some verdict) n v front rest h e = by (is_nil v) e
  where
    by : (b : Bool)
        → (cond b (front (Some verdict) n) (welcomed (verdict v) (front None n))).fault ≡ None
        → (cond b (front (Some verdict) n) (welcomed (verdict v) (front None n))).rest ≡ rest
    by true f = h (Some verdict) n f
    by false f = welcome_rests (verdict v) (front None n) rest (h None n) f

rest-judge : (deep : ℕ) (awaited : AwaitedPing) (vs : List (List ℕ)) (rest : List ℕ) (n : ℕ)
    → (judge deep awaited n vs (λ g. resting g rest)).fault ≡ None
    → (judge deep awaited n vs (λ g. resting g rest)).rest ≡ rest
rest-judge deep awaited [] rest n e = refl
rest-judge deep awaited (v ∷ vs) rest n e = value_rests deep awaited n v (λ g k. judge deep g k vs (λ g. resting g rest)) rest (λ g k f. rest-judge deep g vs rest k f) e

-- ---- behind a fault nothing counts

asked_fails : (n : ℕ) (reading : Reading) (front all : ℕ → Judged)
    → ((k : ℕ) → is_some (front k).fault ≡ true → all k ≡ front k)
    → is_some (asked n reading front).fault ≡ true
    → asked n reading all ≡ asked n reading front
asked_fails n Heartbeat front all h e = h n e
asked_fails n (Asks r) front all h e = counted (ltb (n + 1) (2 ^ 64)) e
  where
    counted : (b : Bool)
        → is_some (cond b (ahead r (front (n + 1))) (failed Closed)).fault ≡ true
        → cond b (ahead r (all (n + 1))) (failed Closed)
        ≡ cond b (ahead r (front (n + 1))) (failed Closed)
    counted true f = ap (ahead r) (h (n + 1) f)
    counted false f = refl
asked_fails n (Fails f) front all h e = refl

welcome_fails : (verdict : PingVerdict) (front all : Judged)
    → (is_some front.fault ≡ true → all ≡ front)
    → is_some (welcomed verdict front).fault ≡ true
    → welcomed verdict all ≡ welcomed verdict front
welcome_fails (ping.Pass pong) front all h e = ap (greeted pong) (h e)
welcome_fails (ping.Deny pong denial) front all h e = refl
welcome_fails ping.NotPing front all h e = refl

value_fails :
    (deep : ℕ) (awaited : AwaitedPing) (n : ℕ) (v : List ℕ) (front all : AwaitedPing → ℕ → Judged)
    → ((g : AwaitedPing) (k : ℕ) → is_some (front g k).fault ≡ true → all g k ≡ front g k)
    → is_some (value_then deep awaited n v front).fault ≡ true
    → value_then deep awaited n v all ≡ value_then deep awaited n v front
value_fails deep None n v front all h e = asked_fails n (request_of deep v) (front None) (all None) (h None) e
value_fails deep (Some verdict) n v front all h e = by (is_nil v) e
  where
    by : (b : Bool)
        → is_some (cond b (front (Some verdict) n) (welcomed (verdict v) (front None n))).fault
        ≡ true
        → cond b (all (Some verdict) n) (welcomed (verdict v) (all None n))
        ≡ cond b (front (Some verdict) n) (welcomed (verdict v) (front None n))
    by true f = h (Some verdict) n f
    by false f = welcome_fails (verdict v) (front None n) (all None n) (h None n) f

judge-fails :
    (deep : ℕ) (awaited : AwaitedPing) (vs ws : List (List ℕ)) (rest : List ℕ) (end : AwaitedPing → Judged)
    (n : ℕ)
    → is_some (judge deep awaited n vs (λ g. resting g rest)).fault ≡ true
    → judge deep awaited n (vs ++ ws) end ≡ judge deep awaited n vs (λ g. resting g rest)
judge-fails deep awaited [] ws rest end n e = absurd cc
judge-fails deep awaited (v ∷ vs) ws rest end n e =
    value_fails deep awaited n v (λ g k. judge deep g k vs (λ g. resting g rest)) (λ g k. judge deep g k (vs ++ ws) end) (λ g k f. judge-fails deep g vs ws rest end k f) e

-- a broken stream has a fault
asked_broken : (n : ℕ) (reading : Reading) (front : ℕ → Judged)
    → ((k : ℕ) → (front k).fault ≡ None → ⊥) → (asked n reading front).fault ≡ None
    → ⊥
asked_broken n Heartbeat front h e = h n e
asked_broken n (Asks r) front h e = counted (ltb (n + 1) (2 ^ 64)) e
  where
    counted : (b : Bool) → (cond b (ahead r (front (n + 1))) (failed Closed)).fault ≡ None
        → ⊥
    counted true f = h (n + 1) f
    counted false f = cc
asked_broken n (Fails f) front h e = cc

welcome_broken : (verdict : PingVerdict) (front : Judged) → (front.fault ≡ None → ⊥)
    → (welcomed verdict front).fault ≡ None → ⊥
welcome_broken (ping.Pass pong) front h e = h e
welcome_broken (ping.Deny pong denial) front h e = cc
welcome_broken ping.NotPing front h e = cc

value_broken : (deep : ℕ) (awaited : AwaitedPing) (n : ℕ) (v : List ℕ)
    (front : AwaitedPing → ℕ → Judged)
    → ((g : AwaitedPing) (k : ℕ) → (front g k).fault ≡ None → ⊥)
    → (value_then deep awaited n v front).fault ≡ None → ⊥
value_broken deep None n v front h e = asked_broken n (request_of deep v) (front None) (h None) e
value_broken deep (Some verdict) n v front h e = by (is_nil v) e
  where
    by : (b : Bool)
        → (cond b (front (Some verdict) n) (welcomed (verdict v) (front None n))).fault ≡ None
        → ⊥
    by true f = h (Some verdict) n f
    by false f = welcome_broken (verdict v) (front None n) (h None n) f

judge-broken : (deep : ℕ) (awaited : AwaitedPing) (vs : List (List ℕ)) (fault : SourceFault) (n : ℕ)
    → (judge deep awaited n vs (λ g. failed fault)).fault ≡ None → ⊥
judge-broken deep awaited [] fault n e = cc
judge-broken deep awaited (v ∷ vs) fault n e = value_broken deep awaited n v (λ g k. judge deep g k vs (λ g. failed fault)) (λ g k f. judge-broken deep g vs fault k f) e

-- ---- streams

stream_behind :
    (deep : ℕ) (awaited : AwaitedPing) (n : ℕ) (vs : List (List ℕ)) (rest : List ℕ) (s : Split)
    → (judge deep awaited n vs (λ g. resting g rest)).fault ≡ None
    → Continues (λ g k. judge_stream deep g k s) awaited n
    (judge deep awaited n vs (λ g. resting g rest)) (judge_stream deep awaited n (with_front vs s))
stream_behind deep awaited n vs rest (Open ws r) e = judge-append deep awaited vs ws rest (λ g. resting g r) n e
stream_behind deep awaited n vs rest (Broken ws f) e = judge-append deep awaited vs ws rest (λ g. failed (Scan f)) n e

stream-append : (deep : ℕ) (awaited : AwaitedPing) (n : ℕ) (s t : Split) (u : List ℕ → Split)
    → (judge_stream deep awaited n s).fault ≡ None
    → ((vs : List (List ℕ)) (rest : List ℕ) → s ≡ Open vs rest
    → t ≡ with_front vs (u rest))
    → Continues (λ g k. judge_stream deep g k (u (judge_stream deep awaited n s).rest)) awaited n
    (judge_stream deep awaited n s) (judge_stream deep awaited n t)
stream-append deep awaited n (Open vs rest) t u e h =
    let front = judge deep awaited n vs (λ g. resting g rest) in
    ap (judge_stream deep awaited n) (h vs rest refl) ∙ stream_behind deep awaited n vs rest (u rest) e
    ∙ ap (λ r. joined front.requests front.pong (judge_stream deep (awaited_behind awaited front.awaits) (n + length front.requests) (u r))) (sym (rest-judge deep awaited vs rest n e))
stream-append deep awaited n (Broken vs f) t u e h = absurd (judge-broken deep awaited vs (Scan f) n e)

stream_fails :
    (deep : ℕ) (awaited : AwaitedPing) (n : ℕ) (vs : List (List ℕ)) (rest : List ℕ) (s : Split)
    → is_some (judge deep awaited n vs (λ g. resting g rest)).fault ≡ true
    → judge_stream deep awaited n (with_front vs s) ≡ judge deep awaited n vs (λ g. resting g rest)
stream_fails deep awaited n vs rest (Open ws r) e = judge-fails deep awaited vs ws rest (λ g. resting g r) n e
stream_fails deep awaited n vs rest (Broken ws f) e = judge-fails deep awaited vs ws rest (λ g. failed (Scan f)) n e

continued_fails : (deep : ℕ) (limit : ℕ) (awaited : AwaitedPing) (n : ℕ) (s : Split) (b : List ℕ)
    → is_some (judge_stream deep awaited n s).fault ≡ true
    → judge_stream deep awaited n (continued limit deep s b) ≡ judge_stream deep awaited n s
continued_fails deep limit awaited n (Open vs rest) b e = stream_fails deep awaited n vs rest (split_of limit deep (rest ++ b)) e
continued_fails deep limit awaited n (Broken vs f) b e = refl

-- what more bytes say, where no fault came yet
pub judged_of-append : (limits : Limits) (awaited : AwaitedPing) (n : ℕ) (a b : List ℕ)
    → (judged_of limits awaited n a).fault ≡ None
    → judged_of limits awaited n (a ++ b)
    ≡ joined (judged_of limits awaited n a).requests (judged_of limits awaited n a).pong
    (judged_of limits (awaited_behind awaited (judged_of limits awaited n a).awaits)
    (n + length (judged_of limits awaited n a).requests) ((judged_of limits awaited n a).rest ++ b))
unfolding judged_of
judged_of-append limits awaited n a b e =
    stream-append limits.depth awaited n (split_of limits.bytes limits.depth a) (split_of limits.bytes limits.depth (a ++ b)) (λ rest. split_of limits.bytes limits.depth (rest ++ b)) e
    (λ vs rest h. split_append limits.bytes limits.depth a b ∙ ap (λ s. continued limits.bytes limits.depth s b) h)

-- and where one came
pub judged_of-fails : (limits : Limits) (awaited : AwaitedPing) (n : ℕ) (a b : List ℕ)
    → is_some (judged_of limits awaited n a).fault ≡ true
    → judged_of limits awaited n (a ++ b) ≡ judged_of limits awaited n a
unfolding judged_of
judged_of-fails limits awaited n a b e =
    ap (judge_stream limits.depth awaited n) (split_append limits.bytes limits.depth a b) ∙ continued_fails limits.depth limits.bytes awaited n (split_of limits.bytes limits.depth a) b e

-- ---- by the verdict on the front

stream_front : (deep : ℕ) (awaited : AwaitedPing) (n : ℕ) (v : List ℕ) (s : Split)
    → judge_stream deep awaited n (with_front (v ∷ []) s)
    ≡ value_then deep awaited n v (λ g k. judge_stream deep g k s)
stream_front deep awaited n v (Open ws rest) = refl
stream_front deep awaited n v (Broken ws f) = refl

-- a whole value at the front, and what comes after it
pub judged_of-whole : (limits : Limits) (awaited : AwaitedPing) (n : ℕ) (bytes : List ℕ) (used : ℕ)
    → first_of limits.bytes limits.depth bytes ≡ Whole used
    → judged_of limits awaited n bytes
    ≡ value_then limits.depth awaited n (take used bytes) (λ g k.
    judged_of limits g k (drop used bytes))
unfolding judged_of
judged_of-whole limits awaited n bytes used e =
    ap (judge_stream limits.depth awaited n) (split_first limits.bytes limits.depth bytes used e) ∙ stream_front limits.depth awaited n (take used bytes) (split_of limits.bytes limits.depth (drop used bytes))

-- less than a value
pub judged_of-short : (limits : Limits) (awaited : AwaitedPing) (n : ℕ) (bytes : List ℕ)
    → first_of limits.bytes limits.depth bytes ≡ Short
    → judged_of limits awaited n bytes ≡ resting awaited bytes
unfolding judged_of split_of
judged_of-short limits awaited n bytes e = ap (judge_stream limits.depth awaited n) (told_first limits.bytes limits.depth [] bytes ∙ ap (by_first limits.bytes limits.depth [] bytes) e)

-- no value within the limits
pub judged_of-bad : (limits : Limits) (awaited : AwaitedPing) (n : ℕ) (bytes : List ℕ)
    (fault : ScanFault)
    → first_of limits.bytes limits.depth bytes ≡ Bad fault
    → judged_of limits awaited n bytes ≡ failed (Scan fault)
unfolding judged_of split_of
judged_of-bad limits awaited n bytes fault e = ap (judge_stream limits.depth awaited n) (told_first limits.bytes limits.depth [] bytes ∙ ap (by_first limits.bytes limits.depth [] bytes) e)

-- what bytes say, by what comes next in them
abbrev pub by_next : Limits → AwaitedPing → ℕ → List ℕ → Next → Judged
by_next limits awaited n bytes next.Unfinished = resting awaited bytes
by_next limits awaited n bytes (next.Fault fault) = failed (Scan fault)
by_next limits awaited n bytes (next.Value value behind) =
    value_then limits.depth awaited n (bytes_of value) (λ g k. judged_of limits g k behind.now)

pub judged_next : (limits : Limits) (awaited : AwaitedPing) (n : ℕ) (bytes : List ℕ) (what : Next)
    → split_of limits.bytes limits.depth bytes ≡ split_by limits.bytes limits.depth bytes what
    → judged_of limits awaited n bytes ≡ by_next limits awaited n bytes what
unfolding judged_of
judged_next limits awaited n bytes next.Unfinished e = ap (judge_stream limits.depth awaited n) e
judged_next limits awaited n bytes (next.Fault fault) e = ap (judge_stream limits.depth awaited n) e
judged_next limits awaited n bytes (next.Value value behind) e =
    ap (judge_stream limits.depth awaited n) e ∙ stream_front limits.depth awaited n (bytes_of value) (split_of limits.bytes limits.depth behind.now)

-- the same, of limits that are these
pub judged_at : (limits own : Limits) → own ≡ limits → (awaited : AwaitedPing) (n : ℕ)
    (bytes : List ℕ) (what : Next)
    → split_of own.bytes own.depth bytes ≡ split_by own.bytes own.depth bytes what
    → judged_of limits awaited n bytes ≡ by_next limits awaited n bytes what
judged_at limits own same awaited n bytes what e =
    judged_next limits awaited n bytes what (subst (λ (l : Limits). split_of l.bytes l.depth bytes ≡ split_by l.bytes l.depth bytes what) same e)

-- where no PING is awaited, none is awaited behind it
pub judged_of-open : (limits : Limits) (n : ℕ) (a : List ℕ)
    → (judged_of limits None n a).fault ≡ None → (judged_of limits None n a).awaits ≡ false
unfolding judged_of
judged_of-open limits n a e = by (split_of limits.bytes limits.depth a) e
  where
    by : (s : Split) → (judge_stream limits.depth None n s).fault ≡ None
        → (judge_stream limits.depth None n s).awaits ≡ false
    by (Open vs rest) f = judge_open limits.depth n vs rest f
    by (Broken vs fault) f = absurd (judge-broken limits.depth None vs (Scan fault) n f)

-- before the first byte
pub judged_of-nothing : (limits : Limits) (awaited : AwaitedPing) (n : ℕ)
    → judged_of limits awaited n [] ≡ resting awaited []
unfolding judged_of split_of
judged_of-nothing limits awaited n = refl
