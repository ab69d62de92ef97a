-- What is handed back changes no count of a buffer.
use Rattle.std.proofs.Common.{arith, ◌≡◌, ℕ, zero, suc, List, [], ◌∷◌, Option, Some, None, refl, ap, ◌∙◌}
use Rattle.fwd_chunks.specs.Live.{LiveBuffer, live_frees}
use Rattle.fwd_output.specs.HandedBack.{Handed, IsHandedBack}
use Rattle.fwd_model.specs.Outputs.{moment_if}

-- what cannot be unequal is equal
stable : (m n : ℕ) → ((m ≡ n → ⊥) → ⊥) → m ≡ n
stable zero zero f = refl
stable zero (suc n) f = absurd (f (λ e. omega (arith, e)))
stable (suc m) zero f = absurd (f (λ e. omega (arith, e)))
stable (suc m) (suc n) f = ap suc (stable m n (λ g. f (λ e. g (omega (arith, e)))))

frees-accepted : (b : LiveBuffer) (number : ℕ) (loss : Option ℕ)
    → (live_frees b number loss).accepted ≡ b.accepted
frees-accepted b number None = refl
frees-accepted b number (Some now) = refl

frees-settled : (b : LiveBuffer) (number : ℕ) (loss : Option ℕ)
    → (live_frees b number loss).settled ≡ b.settled
frees-settled b number None = refl
frees-settled b number (Some now) = refl

pub handed-accepted : (b d : LiveBuffer) (handed : List Handed) (now : ℕ)
    → IsHandedBack b handed now d → d.accepted ≡ b.accepted
handed-accepted b d [] now is = ap (λ (x : LiveBuffer). x.accepted) is
handed-accepted b d (h ∷ handed) now is =
    stable d.accepted b.accepted (λ no.
    no (handed-accepted b d handed now
    (is.1 (λ carried. no (
    handed-accepted (live_frees b h.chunk.number (moment_if h.lost now)) d handed now (is.0 carried)
    ∙ frees-accepted b h.chunk.number (moment_if h.lost now))))))

pub handed-settled : (b d : LiveBuffer) (handed : List Handed) (now : ℕ)
    → IsHandedBack b handed now d → d.settled ≡ b.settled
handed-settled b d [] now is = ap (λ (x : LiveBuffer). x.settled) is
handed-settled b d (h ∷ handed) now is =
    stable d.settled b.settled (λ no.
    no (handed-settled b d handed now
    (is.1 (λ carried. no (
    handed-settled (live_frees b h.chunk.number (moment_if h.lost now)) d handed now (is.0 carried)
    ∙ frees-settled b h.chunk.number (moment_if h.lost now))))))
