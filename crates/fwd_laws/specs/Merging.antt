-- Two lists in one: what stands in either, in its order. And lists that are one list at each part
-- of the relay.
use Rattle.std.specs.Prelude.{◌≡◌, ◌⊎◌, Bool, not, ◌&&◌, List, [], ◌∷◌, filter, if◌then◌else◌}
use Rattle.std.specs.List.{list_all}
use Rattle.fwd_model.specs.declared.event.Event.{Event}
use Rattle.fwd_model.specs.declared.answer.Answer.{Answer}
use Rattle.fwd_model.specs.Outcome.{answer_of}
use Rattle.fwd_model.specs.Step.{step, after}
use Rattle.fwd_model.specs.History.{History, histories}
use Rattle.fwd_model.specs.Names.{Named, does_name, are_unrelated, is_accept}

-- the third list has the elements of the first and of the second, each in their order
abbrev pub Merges : {X : Type 0} → List X → List X → List X → Type 0
Merges xs ys [] = (xs ≡ []) × (ys ≡ [])
Merges {X} xs ys (z ∷ zs) =
    ((rest : List X) × (xs ≡ z ∷ rest) × Merges rest ys zs)
    ⊎ ((rest : List X) × (ys ≡ z ∷ rest) × Merges xs rest zs)

-- the two events name nothing in common, and do not both accept a connection
abbrev pub are_free : Event → Event → Bool
are_free e f = are_unrelated e f && not (is_accept e && is_accept f)

-- each of the first list is free of each of the second
abbrev pub all_free : List Event → List Event → Bool
all_free es fs = list_all (λ e. list_all (λ f. are_free e f) fs) es

-- the events that name a part, in their order
abbrev pub at_part : Named → List Event → List Event
at_part part es = filter (λ e. does_name e part) es

-- what these are answered
abbrev pub answers_at : Named → History → List Event → List Answer
answers_at part h [] = []
answers_at part h (e ∷ es) =
    if does_name e part
    then answer_of (step histories h e) ∷ answers_at part (after histories h (e ∷ [])) es
    else answers_at part (after histories h (e ∷ [])) es

-- two lists have the same events at each part, in one order, and accept connections in one order
pub record AreOneAtEach (es fs : List Event) : Type 0 where
  pub parts : (part : Named) → at_part part es ≡ at_part part fs
  pub accepts : filter is_accept es ≡ filter is_accept fs
