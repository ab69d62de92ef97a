-- What readers collect of all outputs: at each receipts are collected, and their sources are told.
use Rattle.std.specs.Prelude.{◌≡◌, ◌⊎◌, ◌||◌, ◌≤◌, ℕ, zero, suc, Bool, false, List, Some, length, map, min, All, slice_set}
use Rattle.std.specs.List.{slice_get}
use Rattle.fwd_reader.specs.declared.open_tickets.OpenTickets.{OpenTickets}
use Rattle.fwd_reader.specs.Collections.{CollectsInPart, CollectsWhole}
use Rattle.fwd_reader.specs.OpenTickets.{AreQuiet, TellsDue, all_due}
use Rattle.fwd_reader.specs.Tellings.{Sources}

-- the most rounds in which an output is collected at a time
abbrev pub most_rounds : ℕ
most_rounds = 16

-- An output is collected, with the memory that is to be had: in full, and it is told whether
-- tickets are to be handed in still. Or memory is refused behind some rounds, and it is told that
-- none are.
abbrev pub CollectsNow : OpenTickets → Sources → (more : Bool) → OpenTickets → Sources → Type 0
CollectsNow s told more t told_then =
    (CollectsWhole most_rounds s told t told_then × TellsDue more t)
    ⊎ (CollectsInPart s told t told_then × (more ≡ false))

-- an output is collected in full; or memory is refused behind some rounds, and it is collected
-- once more
abbrev pub CollectsOnce : OpenTickets → Sources → (more : Bool) → OpenTickets → Sources → Type 0
CollectsOnce s told more t told_then =
    (CollectsWhole most_rounds s told t told_then × TellsDue more t)
    ⊎ ((between : OpenTickets) × ((told_between : Sources)
    × (CollectsInPart s told between told_between
    × CollectsNow between told_between more t told_then)))

-- the tickets of the output at a place become others so; no other output's tickets change
pub record ChangesAt (P : OpenTickets → OpenTickets → Type 0) (stores : List OpenTickets)
    (place : ℕ) (after : List OpenTickets) : Type 0 where
  pub store : OpenTickets
  pub there : slice_get stores place ≡ Some store
  pub changed : OpenTickets
  pub is : P store changed
  pub others : after ≡ slice_set stores place changed

-- The first so many outputs are collected once, one after the other, and it is told whether tickets
-- are to be handed in still at one of them.
unfoldable pub CollectsFirst : (count : ℕ) → List OpenTickets → Sources → (more : Bool)
    → List OpenTickets → Sources → Type 0
CollectsFirst zero stores told more after told_then =
    (after ≡ stores) × (told_then ≡ told) × (more ≡ false)
CollectsFirst (suc count) stores told more after told_then =
    (between : List OpenTickets) × ((told_between : Sources) × ((before : Bool) × ((here : Bool)
    × (CollectsFirst count stores told before between told_between
    × ChangesAt (λ s t. CollectsOnce s told_between here t told_then) between count after
    × (more ≡ (here || before))))))

-- Each output is collected once, in their order. A number has 16 bits: no output stands above.
abbrev pub CollectsEach : List OpenTickets → Sources → (more : Bool) → List OpenTickets → Sources
    → Type 0
CollectsEach stores told more after told_then =
    CollectsFirst (min (length stores) 65535) stores told more after told_then

-- each output is collected so many times, and each time there are tickets to be handed in
unfoldable pub CollectsTimes : (times : ℕ) → List OpenTickets → Sources → List OpenTickets → Sources
    → Type 0
CollectsTimes zero stores told after told_then = (after ≡ stores) × (told_then ≡ told)
CollectsTimes (suc times) stores told after told_then =
    (between : List OpenTickets) × ((told_between : Sources) × ((more : Bool)
    × (CollectsTimes times stores told between told_between × ¬ (All AreQuiet between)
    × CollectsEach between told_between more after told_then)))

-- All tickets are to be handed in, and each output is collected so many times at most: there are
-- that many, or nothing is to be handed in behind them.
pub record CollectsAll (most : ℕ) (stores : List OpenTickets) (told : Sources)
    (after : List OpenTickets) (told_then : Sources) : Type 0 where
  pub times : ℕ
  pub each : CollectsTimes times (map all_due stores) told after told_then
  pub within : times ≤ most
  pub whole : All AreQuiet after ⊎ (times ≡ most)
