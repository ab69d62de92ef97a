-- What stands under an output's lock, and what a turn there does.
use Rattle.std.specs.Prelude.{
  ◌≡◌,
  ℕ,
  ◌⊎◌,
  ◌+◌,
  ◌-◌,
  ◌^◌,
  min,
  nat_lt,
  Bool,
  true,
  false,
  Option,
  Some,
  None,
  List,
  [],
  ◌∷◌,
  ◌++◌,
  length,
  map,
}
use Rattle.fwd_modes.specs.Requests.{Request}
use Rattle.fwd_modes.specs.declared.origin.Origin.{Origin}
use Rattle.fwd_book.specs.History.{is_among}
use Rattle.fwd_book.specs.Live.{LiveBook, live_leaves}
use Rattle.fwd_book.specs.Receipts.{Receipt}
use Rattle.fwd_model.specs.Outputs.{LiveOutput, output_enters}
use Rattle.fwd_output.specs.Tickets.{Ticket, IsDue, receipt_for}

-- an output, the totals of its two counters, and the moment up to which free chunks are left to a
-- worker that claims them
pub record LockedState : Type 0 where
  pub output : LiveOutput
  pub accepted : ℕ
  pub settled : ℕ
  pub claimed : ℕ

-- a request is admitted: its entries are accepted
abbrev pub locked_admits : LockedState → Origin → Request → ℕ → LockedState
locked_admits s origin r now = record s {
  output = output_enters s.output origin r now;
  accepted = s.accepted + length r.entries;
}

-- the output is another, and nothing was accepted or settled
abbrev pub locked_with : LockedState → LiveOutput → LockedState
locked_with s o = record s { output = o }

-- the output is another, and so many entries were settled
abbrev pub locked_settles : LockedState → LiveOutput → ℕ → LockedState
locked_settles s o count = record s { output = o; settled = s.settled + count }

-- at a moment a worker claims the free chunks for the next 100 milliseconds
abbrev pub locked_claims : LockedState → (now : ℕ) → LockedState
locked_claims s now = record s { claimed = min (now + 100) (2 ^ 64 - 1) }

-- nobody claims them
abbrev pub locked_releases : LockedState → LockedState
locked_releases s = record s { claimed = 0 }

-- a worker claims them at a moment
abbrev pub is_claimed_at : LockedState → (now : ℕ) → Bool
is_claimed_at s now = nat_lt now s.claimed

-- requests of these origins leave the output's book
abbrev pub locked_tells : LockedState → List Origin → LockedState
locked_tells s origins =
    locked_with s (record (s.output) { book = live_leaves s.output.book origins })

-- What comes of tickets, of which these origins' were given their receipts before: each that is
-- due, and whose origin's was not given one before, is given its receipt; each other comes back.
abbrev pub AreCollected : LiveBook → (before : List Origin) → List Ticket → (given : List Ticket)
    → (back : List Ticket) → Type 0
AreCollected b before [] given back = (given ≡ []) × (back ≡ [])
AreCollected b before (t ∷ ts) given back =
    (IsDue b t × (is_among before t.origin ≡ false)
    × ((rest : List Ticket) × (given ≡ t ∷ rest)
    × AreCollected b (before ++ t.origin ∷ []) ts rest back))
    ⊎ ((IsDue b t → is_among before t.origin ≡ true)
    × ((rest : List Ticket) × (back ≡ t ∷ rest) × AreCollected b before ts given rest))

-- the origins of tickets
abbrev pub origins_of : List Ticket → List Origin
origins_of ts = map (λ t. t.origin) ts

-- the receipts of tickets that are due
abbrev pub receipts_for : LiveBook → List Ticket → List Receipt
receipts_for b ts = map (receipt_for b) ts

-- for each of some tickets its receipt, if it is due
abbrev pub AreDue : LiveBook → List Ticket → List (Option Receipt) → Type 0
AreDue b [] [] = Unit {0}
AreDue b (t ∷ ts) (Some r ∷ due) = (IsDue b t × (r ≡ receipt_for b t)) × AreDue b ts due
AreDue b (t ∷ ts) (None ∷ due) = ¬ (IsDue b t) × AreDue b ts due
AreDue b [] (d ∷ due) = ⊥
AreDue b (t ∷ ts) [] = ⊥
