-- A greeting that waits alone: no frame waits behind it.
use Rattle.std.proofs.Common.{◌≡◌, ℕ, nat_eq, true, zero, suc, ◌+◌, ◌-◌, ◌<◌, ◌≤◌, List, [], ◌∷◌, ◌++◌, length, take, refl, arith}
use Rattle.std.specs.Prelude.{All, replicate}
use Rattle.std.specs.List.{AllByRecursion}
use Rattle.std.proofs.lemmas.Bool.Decides.{nat_tests}
use Rattle.std.proofs.lemmas.List.Elements.{recursion_from_All}
use Rattle.fwd_session.specs.Live.{LiveLoaded}
use Rattle.fwd_session.specs.Flights.{InFlightChunk, ends_behind, with_left, loaded_of}
use Rattle.fwd_session.proofs.Unsent.{AreFull}

-- no byte waits through the frame of a chunk
abbrev pub HasLeft : LiveLoaded → Type 0
HasLeft l = l.left ≡ 0

first_left : (k : ℕ) (flights : List InFlightChunk) (n : ℕ) (left : List ℕ) → k < length flights
    → AllByRecursion HasLeft (with_left flights (replicate k 0 ++ n ∷ left)) → n ≡ 0
first_left k [] n left within none = absurd (omega (arith, within))
first_left zero (f ∷ flights) n left within none = none.0
first_left (suc k) (f ∷ flights) n left within none =
    first_left k flights n left (omega (arith, within)) none.1

-- where no byte waits through the frame of a chunk, no frame waits
pub no_frame : (before : ℕ) (frames : List (List ℕ)) (flights : List InFlightChunk) → AreFull frames
    → length frames ≤ length flights → All (λ l. l.left ≡ 0) (loaded_of before frames flights)
    → frames ≡ []
no_frame before [] flights full few none = refl
no_frame before (f ∷ frames) flights full few none =
    let n = before + length f in
    let left = ends_behind n frames in
    let k = length flights - suc (length frames) in
    let within : k < length flights = omega (arith, few) in
    let sent = recursion_from_All HasLeft (loaded_of before (f ∷ frames) flights) none in
    let empty : n ≡ 0 = first_left k flights n left within sent in
    absurd (omega (arith, empty, full.0))

pub no_bytes : (bytes : List ℕ) → nat_eq (length bytes) 0 ≡ true → bytes ≡ []
no_bytes [] empty = refl
no_bytes (b ∷ bytes) empty = absurd (grind (arith, nat_tests, empty))

-- of no bytes no front has any
pub take_none : (n : ℕ) → let none : List ℕ = [] in take n none ≡ none
take_none zero = refl
take_none (suc n) = refl
