-- A request at the front of some bytes.
use Rattle.std.proofs.Common.{◌≡◌, ℕ, List, take, drop, None, sym, ap, subst, ◌∙◌}
use Rattle.fwd_msgpack.specs.declared.limits.Limits.{Limits}
use Rattle.fwd_msgpack.specs.Scans.{Whole, first_of}
use Rattle.fwd_modes.specs.Requests.{Reading, Request, request_of}
use Rattle.fwd_modes.specs.Requests.Reading.{Asks, Fails}
use Rattle.fwd_source.specs.Asked.{IsRefused}
use Rattle.fwd_source.specs.Hearing.{BeginsAsking}
use Rattle.fwd_source.specs.Judged.{asked, judged_of}
use Rattle.fwd_source.proofs.Judging.{judged_of-whole}

-- what such bytes say, where no PING is awaited
pub front_says : (limits own : Limits) → own ≡ limits → (n : ℕ) (bytes : List ℕ) (request : Request) (len : ℕ)
    → BeginsAsking own bytes request len
    → judged_of limits None n bytes ≡ asked n (Asks request) (λ k. judged_of limits None k (drop len bytes))
front_says limits own same n bytes request len begins =
    let b = subst (λ (l : Limits). BeginsAsking l bytes request len) same begins in
    judged_of-whole limits None n bytes len b.whole
    ∙ ap (λ (r : Reading). asked n r (λ k. judged_of limits None k (drop len bytes))) b.asks

-- a first value that is no request is none that asks for something
pub no_front : (limits own : Limits) → own ≡ limits → (bytes all : List ℕ) → bytes ≡ all
    → (request : Request) (len : ℕ) → BeginsAsking own bytes request len → IsRefused limits all → ⊥
no_front limits own same bytes all is request len begins refused =
    let b = subst (λ (l : Limits). BeginsAsking l bytes request len) same begins in
    let both : Whole len ≡ Whole refused.size = sym b.whole ∙ ap (first_of limits.bytes limits.depth) is ∙ refused.whole in
    let size : len ≡ refused.size = cc in
    let fails : request_of limits.depth (take len bytes) ≡ Fails refused.fault =
    ap (request_of limits.depth) (ap (λ (k : ℕ). take k bytes) size ∙ ap (take refused.size) is) ∙ refused.fails in
    let no : Asks request ≡ Fails refused.fault = sym b.asks ∙ fails in
    cc
