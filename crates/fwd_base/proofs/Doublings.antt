-- Waits in 64 bits: a product that is cut off at 2^64 - 1 is past every longest wait.
use Rattle.std.proofs.Common.{◌≡◌, ℕ, zero, suc, ◌+◌, ◌-◌, ◌*◌, ◌^◌, ◌<◌, ◌≤◌, inl, inr, min, refl, sym, ap, ◌∙◌, arith}
use Rattle.std.proofs.lemmas.Bool.{cases_lt}
use Rattle.std.proofs.Math.Pow.{pow_mono}
use Rattle.fwd_base.specs.Waits.{wait_after}

-- a factor from 2^64 - 1 on takes each wait but 0 to the longest
past_longest : (wait factor longest : ℕ) → longest < 2 ^ 64 → 2 ^ 64 - 1 ≤ factor
    → min (suc wait * factor) longest ≡ longest
past_longest wait factor longest fits past =
    let product : suc wait * factor ≡ factor + wait * factor = grind arith in
    omega (arith, product)

cut_off : (product longest : ℕ) → longest < 2 ^ 64
    → min (min product (2 ^ 64 - 1)) longest ≡ min product longest
cut_off product longest fits = omega arith

-- the factor may be cut off, and then the product
pub product_cut_off : (wait factor longest : ℕ) → longest < 2 ^ 64
    → min (min (wait * min factor (2 ^ 64 - 1)) (2 ^ 64 - 1)) longest
    ≡ min (wait * factor) longest
product_cut_off zero factor longest fits = grind arith
product_cut_off (suc wait) factor longest fits =
    cut_off (suc wait * min factor (2 ^ 64 - 1)) longest fits
    ∙ elim (cases_lt factor (2 ^ 64 - 1)) [
      | inl lt ↦ (let same : min factor (2 ^ 64 - 1) ≡ factor = omega arith in ap (λ f. min (suc wait * f) longest) same)
      | inr ge ↦ past_longest wait (min factor (2 ^ 64 - 1)) longest fits (omega arith) ∙ sym (past_longest wait factor longest fits ge)
    ]

-- no more than 64 doublings need be made
pub doublings_cut_off : (wait n longest : ℕ) → longest < 2 ^ 64
    → min (wait * 2 ^ min n 64) longest ≡ min (wait * 2 ^ n) longest
doublings_cut_off zero n longest fits = grind arith
doublings_cut_off (suc wait) n longest fits =
    elim (cases_lt n 64) [
      | inl lt ↦ (let same : min n 64 ≡ n = omega arith in ap (λ k. min (suc wait * 2 ^ k) longest) same)
      | inr ge ↦
          (let same : min n 64 ≡ 64 = omega arith in
          let past : 2 ^ 64 ≤ 2 ^ n = pow_mono ge in
          ap (λ k. min (suc wait * 2 ^ k) longest) same ∙ past_longest wait (2 ^ 64) longest fits (omega arith) ∙ sym (past_longest wait (2 ^ n) longest fits (omega arith)))
    ]

-- as the code computes it
pub wait_cut_off : (wait longest n : ℕ) → longest < 2 ^ 64
    → min (min (wait * min (2 ^ min n 64) (2 ^ 64 - 1)) (2 ^ 64 - 1)) longest
    ≡ wait_after wait longest (suc n)
unfolding wait_after
wait_cut_off wait longest n fits = product_cut_off wait (2 ^ min n 64) longest fits ∙ doublings_cut_off wait n longest fits

-- from the 65th loss on the wait stays the same
pub wait_settles : (wait longest n : ℕ) → longest < 2 ^ 64
    → wait_after wait longest (min 65 n) ≡ wait_after wait longest n
unfolding wait_after
wait_settles wait longest zero fits = refl
wait_settles wait longest (suc n) fits =
    let cut : min 65 (suc n) ≡ suc (min n 64) = omega arith in
    ap (wait_after wait longest) cut ∙ doublings_cut_off wait n longest fits
