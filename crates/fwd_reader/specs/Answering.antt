-- What outputs answer while they are collected: what the requests took beside their entries that
-- are answered at an output is owed there no more, and nothing else is less.
use Rattle.std.specs.Prelude.{◌≡◌, ◌+◌, ℕ, zero, suc, List, [], ◌∷◌, Option, Some, None, length, map, min}
use Rattle.fwd_book.specs.Receipts.{Receipt}
use Rattle.fwd_peers.specs.Costs.{bounded}
use Rattle.fwd_reader.specs.declared.open_tickets.OpenTickets.{OpenTickets}
use Rattle.fwd_reader.specs.Collections.{AreHandedIn, AreRefused}
use Rattle.fwd_reader.specs.OpenTickets.{all_due}
use Rattle.fwd_reader.specs.Owing.{owes_less, upkeep_of}
use Rattle.fwd_reader.specs.Rounds.{ChangesAt}
use Rattle.fwd_reader.specs.Routers.{RouterShown}
use Rattle.fwd_reader.specs.Tellings.{Sources, AreTold}

-- the receipts of a round in which an output is collected, if memory is not refused for it
abbrev pub Round : Type 0
Round = Option (List Receipt)

-- tickets of an output are handed in, which gives these receipts; or memory is refused
abbrev pub IsAnswered : OpenTickets → Round → OpenTickets → Type 0
IsAnswered s None t = AreRefused s t
IsAnswered s (Some receipts) t = AreHandedIn s receipts t

-- each receipt of a round is told
abbrev pub AreToldIn : Sources → Round → Sources → Type 0
AreToldIn told None told_then = told_then ≡ told
AreToldIn told (Some receipts) told_then = AreTold told receipts told_then

-- an output answers in some rounds, one after the other
abbrev pub AnswersBy : List Round → OpenTickets → Sources → OpenTickets → Sources → Type 0
AnswersBy [] s told t told_then = (t ≡ s) × (told_then ≡ told)
AnswersBy (round ∷ rounds) s told t told_then =
    (between : OpenTickets) × ((told_between : Sources) × (IsAnswered s round between
    × AreToldIn told round told_between × AnswersBy rounds between told_between t told_then))

-- so many bytes, and what the requests took beside their entries that are answered in these rounds
abbrev pub added_up : (bytes : ℕ) → List Round → ℕ
added_up bytes [] = bytes
added_up bytes (None ∷ rounds) = added_up bytes rounds
added_up bytes (Some receipts ∷ rounds) = added_up (bounded (bytes + upkeep_of receipts)) rounds

-- an output answers in some rounds, and what the requests took is added to so many bytes
pub record AnswersSome (s : OpenTickets) (told : Sources) (before : ℕ)
    (t : OpenTickets) (told_then : Sources) (after : ℕ) : Type 0 where
  pub rounds : List Round
  pub each : AnswersBy rounds s told t told_then
  pub added : after ≡ added_up before rounds

-- the output of a number answers some, and owes so much less; no other owes another amount
pub record AnswersAt (number : ℕ) (o : RouterShown) (told : Sources) (p : RouterShown)
    (told_then : Sources) : Type 0 where
  pub bytes : ℕ
  pub answers : ChangesAt (λ s t. AnswersSome s told 0 t told_then bytes) o.stores number p.stores
  pub owed : p.owed ≡ owes_less number bytes o.owed

-- the first so many outputs do, one after the other
unfoldable pub AnswersFirst : (count : ℕ) → RouterShown → Sources → RouterShown → Sources → Type 0
AnswersFirst zero o told p told_then =
    (p.stores ≡ o.stores) × (p.owed ≡ o.owed) × (told_then ≡ told)
AnswersFirst (suc count) o told p told_then =
    (between : RouterShown) × ((told_between : Sources)
    × (AnswersFirst count o told between told_between
    × AnswersAt count between told_between p told_then))

-- each output does, in their order
abbrev pub AnswersEach : RouterShown → Sources → RouterShown → Sources → Type 0
AnswersEach o told p told_then = AnswersFirst (min (length o.stores) 65535) o told p told_then

-- each output does so many times
unfoldable pub AnswersTimes : (times : ℕ) → RouterShown → Sources → RouterShown → Sources → Type 0
AnswersTimes zero o told p told_then =
    (p.stores ≡ o.stores) × (p.owed ≡ o.owed) × (told_then ≡ told)
AnswersTimes (suc times) o told p told_then =
    (between : RouterShown) × ((told_between : Sources)
    × (AnswersTimes times o told between told_between
    × AnswersEach between told_between p told_then))

-- all tickets are to be handed in, and each output answers some times
abbrev pub AnswersAll : RouterShown → Sources → RouterShown → Sources → Type 0
AnswersAll o told p told_then =
    (times : ℕ) × AnswersTimes times (record o { stores = map all_due o.stores }) told p told_then
