-- Times as most are spelled.
use Rattle.std.proofs.Common.{◌≡◌, ℕ, ◌≤◌, true, List, [], ◌∷◌, length, get_or, refl, sym, subst, arith}
use Rattle.std.proofs.lemmas.Bool.{le-ltb}
use Rattle.fwd_msgpack.specs.Heads.{reading_of, row_of, named_rows}
use Rattle.fwd_msgpack.specs.Scans.{parts_of}
use Rattle.fwd_modes.specs.Times.{is_time}

seconds_at : (rest : List ℕ) → 4 ≤ length rest → is_time (0xce ∷ rest) ≡ true
unfolding parts_of reading_of row_of named_rows
seconds_at rest long = rw (le-ltb (length rest) 4 long) refl

event_at : (rest : List ℕ) → length rest ≡ 8 → is_time (0xd7 ∷ 0 ∷ rest) ≡ true
unfolding parts_of reading_of row_of named_rows
event_at rest len = rw (le-ltb (length (0 ∷ rest)) 1 (omega arith), len) refl

-- seconds of 32 bits
pub are_seconds : (bytes : List ℕ) → length bytes ≡ 5 → get_or bytes 0 0 ≡ 0xce
    → is_time bytes ≡ true
are_seconds [] len first = absurd (omega arith)
are_seconds (b ∷ rest) len first =
    subst (λ (x : ℕ). is_time (x ∷ rest) ≡ true) (sym first) (seconds_at rest (omega arith))

-- an EventTime of a fixed length
pub is_event : (bytes : List ℕ) → length bytes ≡ 10 → get_or bytes 0 0 ≡ 0xd7
    → get_or bytes 1 0 ≡ 0 → is_time bytes ≡ true
is_event [] len first second = absurd (omega arith)
is_event (a ∷ []) len first second = absurd (omega arith)
is_event (a ∷ b ∷ rest) len first second =
    subst (λ (x : ℕ). is_time (x ∷ b ∷ rest) ≡ true) (sym first)
    (subst (λ (x : ℕ). is_time (0xd7 ∷ x ∷ rest) ≡ true) (sym second) (event_at rest (omega arith)))
