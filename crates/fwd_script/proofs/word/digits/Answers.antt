use Rattle.std.proofs.Common.{ℕ, inl, inr, false, ◌≤◌, ◌<◌, ◌^◌, ◌≡◌, get_or, arith, refl}
use Rattle.std.specs.Char.{is_ascii_digit}
use Rattle.std.proofs.lemmas.Bool.{cases_lt}
use Rattle.fwd_script.proofs.WordLemmas.{no_digit, digits-overflow, digits-more, is_digit-range, MatchOption-none}
use Rattle.fwd_script.proofs.word.digits.Goals as goal

-- what is not below 2^64, with what stands above it
over : {n : ℕ} (m : ℕ) → (n < 2 ^ 64 → ⊥) → n ≤ m → 2 ^ 64 ≤ m
over {n} m h le =
    elim (cases_lt n (2 ^ 64)) [
      | inl below ↦ absurd (h below)
      | inr above ↦ omega arith
    ]

pub returns-then-not-is_ascii_digit : goal.returns-then-not-is_ascii_digit
returns-then-not-is_ascii_digit c =
    let other : is_ascii_digit (get_or c.args.word.now c.loop-digit.digit-index 0) ≡ false = cc in
    λ all. absurd (no_digit c.args.word.now c.loop-digit.digit-index (get_or c.args.word.now c.loop-digit.digit-index 0) c.loop-digit-test.true refl other all)

pub returns-in_err-checked_mul : goal.returns-in_err-checked_mul
returns-in_err-checked_mul c =
    let range = is_digit-range (get_or c.args.word.now c.loop-digit.digit-index 0) cc in
    MatchOption-none _ c.from_residual.result c.from_residual.ensures (λ all.
    digits-overflow c.args.word.now c.loop-digit.digit-index c.loop-digit.n (get_or c.args.word.now c.loop-digit.digit-index 0) c.loop-digit-test.true refl c.loop-digit.invariant.1 range.0 range.1 (over _ (c.in_err-checked_mul.ensures {u = tt}) (omega arith)))

pub returns-in_err-n : goal.returns-in_err-n
returns-in_err-n c =
    let range = is_digit-range (get_or c.args.word.now c.loop-digit.digit-index 0) cc in
    let product = c.in_ok-checked_mul.ensures in
    MatchOption-none _ c.from_residual-in_err-n.result c.from_residual-in_err-n.ensures (λ all.
    digits-overflow c.args.word.now c.loop-digit.digit-index c.loop-digit.n (get_or c.args.word.now c.loop-digit.digit-index 0) c.loop-digit-test.true refl c.loop-digit.invariant.1 range.0 range.1 (over _ (c.in_err-n.ensures {u = tt}) (omega arith)))

pub loop-digit-preserved : goal.loop-digit-preserved
loop-digit-preserved c =
    let range = is_digit-range (get_or c.args.word.now c.loop-digit.digit-index 0) cc in
    let product = c.in_ok-checked_mul.ensures in
    let total = c.in_ok-n.ensures in
    let more = digits-more c.args.word.now c.loop-digit.digit-index c.loop-digit.n (get_or c.args.word.now c.loop-digit.digit-index 0) c.loop-digit-test.true refl c.loop-digit.invariant.0 c.loop-digit.invariant.1 range.0 range.1 in
    (more.0, omega arith)
