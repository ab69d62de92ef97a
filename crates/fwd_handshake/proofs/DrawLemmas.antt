-- What filling sixteen bytes takes from a generator.
use Rattle.std.proofs.Common.{◌≡◌, ℕ, ◌+◌, ◌%◌, ◌^◌, List, refl, ap, ◌∙◌, arith}
use Rattle.std.proofs.Math.Nat.{mod-add-mod}
use Rattle.rand_core.specs.Steps.{fill_via_u32, word_bytes, first_words}
use Rattle.rand_chacha.specs.ChaCha.{ChaCha, next_word}
use Rattle.fwd_handshake.specs.Draws.{double_rounds, drawn, moved}

-- one step more round m
step : (n k m : ℕ) → ((n + k) % m + 1) % m ≡ (n + (k + 1)) % m
step n k m = mod-add-mod (n + k) m 1 ∙ ap (λ (x : ℕ). x % m) (omega arith)

-- four steps round m
one_by_one : (n m : ℕ) → ((((n + 1) % m + 1) % m + 1) % m + 1) % m ≡ (n + 4) % m
one_by_one n m = rw (step n 1 m, step n 2 m, step n 3 m) refl

-- the generator has moved four words further
fill_moves : (g : ChaCha) → (fill_via_u32 (next_word double_rounds) 16 g).1 ≡ moved 4 g
unfolding word_bytes
fill_moves g = ap (λ (n : ℕ). record g { word_pos = n }) (one_by_one g.word_pos (2 ^ 68))

-- the bytes are the next four words'
pub filled : (g : ChaCha) → (fill_via_u32 (next_word double_rounds) 16 g).0 ≡ drawn 0 4 g
unfolding word_bytes first_words
filled g = refl

-- sixteen bytes
pub one_fill : (g h : ChaCha) (bytes : List ℕ)
    → (bytes, h) ≡ fill_via_u32 (next_word double_rounds) 16 g
    → (bytes ≡ drawn 0 4 g) × (h ≡ moved 4 g)
one_fill g h bytes e = (ap (λ (p : List ℕ × ChaCha). p.0) e ∙ filled g, ap (λ (p : List ℕ × ChaCha). p.1) e ∙ fill_moves g)

-- what the next four words are after four words
drawn_later : (g : ChaCha)
    → drawn 0 4 (fill_via_u32 (next_word double_rounds) 16 g).1 ≡ drawn 4 4 g
unfolding word_bytes first_words
drawn_later g = refl

-- eight words further
moved_twice : (g : ChaCha) → moved 4 (moved 4 g) ≡ moved 8 g
moved_twice g = ap (λ (n : ℕ). record g { word_pos = n }) (rw (mod-add-mod (g.word_pos + 4) (2 ^ 68) 4) (ap (λ (n : ℕ). n % 2 ^ 68) (omega arith)))

-- sixteen bytes more
pub second_fill : (g h k : ChaCha) (first bytes : List ℕ)
    → (first, h) ≡ fill_via_u32 (next_word double_rounds) 16 g
    → (bytes, k) ≡ fill_via_u32 (next_word double_rounds) 16 h
    → (bytes ≡ drawn 4 4 g) × (k ≡ moved 8 g)
second_fill g h k first bytes e f =
    let after : h ≡ (fill_via_u32 (next_word double_rounds) 16 g).1 = ap (λ (p : List ℕ × ChaCha). p.1) e in
    let now = one_fill h k bytes f in (
      now.0 ∙ ap (λ (s : ChaCha). drawn 0 4 s) after ∙ drawn_later g,
      now.1 ∙ ap (λ (s : ChaCha). moved 4 s) (after ∙ fill_moves g) ∙ moved_twice g,
    )
