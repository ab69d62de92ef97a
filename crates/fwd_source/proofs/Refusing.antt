-- A first value that is no request.
use Rattle.std.proofs.Common.{◌≡◌, ℕ, Bool, false, cond, List, [], ◌∷◌, take, drop, Some, None, sym, ap, subst, ◌∙◌}
use Rattle.std.specs.Borrow.{Bor}
use Rattle.fwd_msgpack.specs.declared.limits.Limits.{Limits}
use Rattle.fwd_msgpack.specs.declared.stream.Next.TheVariants as next
use Rattle.fwd_msgpack.specs.declared.value.Value.{Value}
use Rattle.fwd_msgpack.specs.Scans.{Whole, first_of, split_of, values_of}
use Rattle.fwd_msgpack.specs.Values.{bytes_of}
use Rattle.fwd_msgpack.specs.Walks.{split_by}
use Rattle.fwd_msgpack.proofs.Rows.{split_first, values_front}
use Rattle.fwd_handshake.specs.Verdicts.{ping_verdict}
use Rattle.fwd_modes.specs.Requests.{Reading, request_of}
use Rattle.fwd_modes.specs.Requests.Reading.{Fails}
use Rattle.fwd_source.specs.declared.fault.SourceFault.TheVariants.{Input}
use Rattle.fwd_source.specs.declared.taking.RequestContext.{RequestContext}
use Rattle.fwd_source.specs.Asked.{IsRefused}
use Rattle.fwd_source.specs.Hearing.{awaited_by}
use Rattle.fwd_source.specs.Judged.{AwaitedPing, asked, failed, judged_of}
use Rattle.fwd_source.proofs.Judging.{judged_of-whole}

front_value : List (List ℕ) → List ℕ
front_value [] = []
front_value (v ∷ vs) = v

-- what comes next in the bytes, by their verdict
value_is : (limits : Limits) (bytes : List ℕ) (value : Value) (behind : Bor (List ℕ)) (size : ℕ)
    → split_of limits.bytes limits.depth bytes ≡ split_by limits.bytes limits.depth bytes (next.Value value behind)
    → first_of limits.bytes limits.depth bytes ≡ Whole size
    → bytes_of value ≡ take size bytes
unfolding front_value
value_is limits bytes value behind size split whole =
    let left = split_of limits.bytes limits.depth behind.now in
    let right = split_of limits.bytes limits.depth (drop size bytes) in
    let both = sym split ∙ split_first limits.bytes limits.depth bytes size whole in
    ap front_value (sym (values_front (bytes_of value ∷ []) left) ∙ ap values_of both ∙ values_front (take size bytes ∷ []) right)

-- the value that comes next is no request, where the bytes begin so
pub refuses : (limits own : Limits) → own ≡ limits → (bytes all : List ℕ) → bytes ≡ all
    → (value : Value) (behind : Bor (List ℕ))
    → split_of own.bytes own.depth bytes ≡ split_by own.bytes own.depth bytes (next.Value value behind)
    → (refused : IsRefused limits all)
    → request_of limits.depth (bytes_of value) ≡ Fails refused.fault
refuses limits own same bytes all is value behind split refused =
    let split' = subst (λ (l : Limits). split_of l.bytes l.depth bytes ≡ split_by l.bytes l.depth bytes (next.Value value behind)) same split in
    let whole = subst (λ (xs : List ℕ). first_of limits.bytes limits.depth xs ≡ Whole refused.size) (sym is) refused.whole in
    ap (request_of limits.depth) (value_is limits bytes value behind refused.size split' whole ∙ ap (take refused.size) is)
    ∙ refused.fails

-- what such bytes say, where no PING is awaited
pub refused_says : (limits : Limits) (context : RequestContext) → context.awaits ≡ false → (bytes : List ℕ)
    → (refused : IsRefused limits bytes)
    → judged_of limits (awaited_by context) context.count bytes ≡ failed (Input refused.fault)
refused_says limits context passed bytes refused =
    let none : awaited_by context ≡ None = ap (λ (b : Bool). cond b (Some (ping_verdict context.security.now context.nonces.now)) None) passed in
    ap (λ (g : AwaitedPing). judged_of limits g context.count bytes) none
    ∙ judged_of-whole limits None context.count bytes refused.size refused.whole
    ∙ ap (λ (r : Reading). asked context.count r (λ k. judged_of limits None k (drop refused.size bytes))) refused.fails
