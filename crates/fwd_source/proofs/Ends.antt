-- The last of some bytes, and the last of those.
use Rattle.std.proofs.Common.{◌≡◌, ℕ, ◌+◌, ◌-◌, List, [], ◌++◌, length, drop, sym, ap, ◌∙◌, arith}
use Rattle.std.proofs.lemmas.List.{drop-drop, drop_at, length-append}
use Rattle.fwd_source.specs.declared.greeting.Greeting.{Greeting}
use Rattle.fwd_source.specs.declared.greeting.Greeting.TheVariants as greetings
use Rattle.fwd_msgpack.specs.declared.limits.Limits.{Limits}
use Rattle.fwd_msgpack.specs.Scans.{verdict_of, whole_len}
use Rattle.fwd_msgpack.specs.Scanners.{Standing, IsBehind, fresh}
use Rattle.fwd_source.specs.Hearing.{IsEndOf, EndsIn, Faults, StandsIn}

-- what is behind others
pub end_behind : (front end bytes : List ℕ) → bytes ≡ front ++ end → IsEndOf end bytes
end_behind front end bytes e =
    let size : length bytes ≡ length front + length end = ap length e ∙ length-append front end in
    let count : length front ≡ length bytes - length end = omega (arith, size) in
    (omega (arith, size), ap (drop (length bytes - length end)) e ∙ drop_at front end (length bytes - length end) count)

-- the end of an end
pub end_of_end : (end middle bytes : List ℕ) → IsEndOf end middle → IsEndOf middle bytes
    → IsEndOf end bytes
end_of_end end middle bytes e m =
    let front = length bytes - length middle in
    let more = length middle - length end in
    let count : length bytes - length end ≡ front + more = omega (arith, e.0, m.0) in (
      omega (arith, e.0, m.0),
      ap (λ k. drop k bytes) count
          ∙ sym (drop-drop more front bytes)
          ∙ ap (drop more) m.1
          ∙ e.1,
    )

-- the end of a greeting's end
pub greeting_ends : (greeting : Greeting) (middle bytes : List ℕ) → EndsIn middle greeting
    → IsEndOf middle bytes → EndsIn bytes greeting
greeting_ends (greetings.Passed pong behind) middle bytes e m = end_of_end behind.now middle bytes e m
greeting_ends (greetings.Ended heard) middle bytes e m = end_of_end heard.rest.now middle bytes e m

-- ---- where a scan stands

-- before the first byte
pub behind_none : (limits : Limits) (s : Standing) → s ≡ fresh limits → IsBehind limits [] s
behind_none limits s e = (e, ap (λ (t : Standing). whole_len (verdict_of t.state)) e)

-- behind a greeting that is passed, or that faults
pub stands_in : (limits : Limits) (g : Greeting) (s : Standing) → Faults g → s ≡ fresh limits
    → StandsIn limits g s
stands_in limits (greetings.Passed pong behind) s faulty e = e
stands_in limits (greetings.Ended heard) s faulty e = λ none. absurd (faulty none)
