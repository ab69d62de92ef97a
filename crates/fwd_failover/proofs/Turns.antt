-- Whose turn it is in a worker's order.
use Rattle.std.proofs.Common.{◌≡◌, ℕ, ◌+◌, ◌-◌, ◌*◌, ◌/◌, ◌%◌, ◌<◌, ◌≤◌, List, length, get_or, take, drop, sym, ap, ◌∙◌, inl, inr, arith}
use Rattle.std.proofs.Math.Nat.{mod-eq_of_lt, mod-eq-sub-mod, mod-lt, mod-add-div', add-mul-mod_self_right}
use Rattle.std.proofs.lemmas.Bool.{cases_lt}
use Rattle.std.proofs.lemmas.List.{length-append, length-take, length-drop, get_or-take, get_or-drop, get_or_append_left, get_or-append_right}
use Rattle.fwd_failover.specs.Choices.{round_from, order_of}

pub length-round : (place : ℕ) (servers : List ℕ) → place ≤ length servers
    → length (round_from place servers) ≡ length servers
length-round place servers le =
    omega (arith, length-append (drop place servers) (take place servers), length-drop place servers, length-take place servers)

-- a sum counts round from the remainder of the first part
remainder_on : (worker turn n : ℕ) → (worker + turn) % n ≡ (worker % n + turn) % n
remainder_on worker turn n =
    let split : worker + turn ≡ worker % n + turn + worker / n * n = omega (arith, mod-add-div' worker n) in
    ap (λ k. k % n) split ∙ add-mul-mod_self_right (worker % n + turn) (worker / n) n

round_at : (place turn : ℕ) (servers : List ℕ) → place < length servers
    → turn < length servers
    → get_or (round_from place servers) turn 0
    ≡ get_or servers ((place + turn) % length servers) 0
round_at place turn servers place_fits turn_fits =
    let ahead = drop place servers in
    let passed = take place servers in
    let left : length ahead ≡ length servers - place = length-drop place servers in
    elim (cases_lt (place + turn) (length servers)) [
      | inl lt ↦
          (let here : turn < length ahead = omega (arith, left) in
          get_or_append_left ahead passed 0 turn here ∙ get_or-drop place servers turn 0
          ∙ ap (λ k. get_or servers k 0) (sym (mod-eq_of_lt lt)))
      | inr ge ↦
          (let past : length servers - place ≤ turn = omega arith in
          let behind : turn - (length servers - place) < place = omega arith in
          let back : turn - (length servers - place) ≡ place + turn - length servers = omega arith in
          let below : place + turn - length servers < length servers = omega arith in
          get_or-append_right ahead passed (length servers - place) turn 0 left past
          ∙ get_or-take place servers (turn - (length servers - place)) 0 behind
          ∙ ap (λ k. get_or servers k 0) (back ∙ sym (mod-eq-sub-mod ge ∙ mod-eq_of_lt below)))
    ]

-- the primary at the place that is the worker's number and the turn, counted round
pub order_round : (first second : List ℕ) (worker turn : ℕ) → turn < length first
    → get_or (order_of first second worker) turn 0
    ≡ get_or first ((worker + turn) % length first) 0
order_round first second worker turn lt =
    let some : 0 < length first = omega arith in
    let place = worker % length first in
    let within : place < length first = mod-lt worker some in
    let inside : turn < length (round_from place first) = omega (arith, length-round place first (omega arith)) in
    get_or_append_left (round_from place first) second 0 turn inside
    ∙ round_at place turn first within lt
    ∙ ap (λ k. get_or first k 0) (sym (remainder_on worker turn (length first)))

-- and then the others, as they stand
pub order_then : (first second : List ℕ) (worker turn : ℕ) → 0 < length first
    → get_or (order_of first second worker) (length first + turn) 0 ≡ get_or second turn 0
order_then first second worker turn some =
    let place = worker % length first in
    let within : place < length first = mod-lt worker some in
    let whole : length (round_from place first) ≡ length first = length-round place first (omega arith) in
    let after : length first + turn - length first ≡ turn = omega arith in
    get_or-append_right (round_from place first) second (length first) (length first + turn) 0 whole (omega arith)
    ∙ ap (λ k. get_or second k 0) after
