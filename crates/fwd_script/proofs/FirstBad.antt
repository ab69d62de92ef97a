-- The events of lines, and the first line that is none.
use Rattle.std.proofs.Common.{◌≡◌, ℕ, ◌+◌, List, [], ◌∷◌, map, Option, Some, None, refl, sym, ap, subst, arith}
use Rattle.std.specs.Prelude.{MatchOption}
use Rattle.fwd_model.specs.declared.event.Event.{Event}
use Rattle.fwd_script.specs.Lines.{event_of}
use Rattle.fwd_script.specs.Replay.{events_of, bad_line, SplitsAtBad, AllAreEvents, IsBadLine}

abbrev just : {A : Type 0} → A → Option A
just x = Some x

bad_line-more : (count : ℕ) (line : List ℕ) (lines : List (List ℕ)) (event : Event)
    → event_of line ≡ Some event → (b : Option ℕ)
    → MatchOption b (AllAreEvents lines) (IsBadLine (count + 1) lines)
    → MatchOption b (AllAreEvents (line ∷ lines)) (IsBadLine count (line ∷ lines))
bad_line-more count line lines event e None h =
    rw e (ap (λ (es : List (Option Event)). Some event ∷ es) h)
bad_line-more count line lines event e (Some n) h =
    let number = h.number in
    record {
      front = line ∷ h.front;
      line = h.line;
      rest = h.rest;
      parts = ap (λ (ls : List (List ℕ)). line ∷ ls) h.parts;
      are_events = rw e (ap (λ (es : List (Option Event)). Some event ∷ es) h.are_events);
      is_none = h.is_none;
      number = omega arith;
    }

pub bad_line-first : (count : ℕ) (lines : List (List ℕ)) → SplitsAtBad count lines
bad_line-first count [] = refl
bad_line-first count (line ∷ lines) =
    let P : Option Event → Type 0 = λ o. event_of line ≡ o → SplitsAtBad count (line ∷ lines) in
    let Q : Option ℕ → Type 0 = λ b. MatchOption b (AllAreEvents (line ∷ lines)) (IsBadLine count (line ∷ lines)) in
    (elim (event_of line) as P [
      | Some event ↦ λ e.
          let same : bad_line count (line ∷ lines) ≡ bad_line (count + 1) lines = rw e refl in
          subst Q (sym same) (bad_line-more count line lines event e (bad_line (count + 1) lines) (bad_line-first (count + 1) lines))
      | None ↦ λ e.
          let same : bad_line count (line ∷ lines) ≡ Some (count + 1) = rw e refl in
          let nothing : events_of (line ∷ lines) ≡ [] = rw e refl in
          let here : IsBadLine count (line ∷ lines) (count + 1) = record { front = []; line = line; rest = lines; parts = refl; are_events = sym (ap (map (λ (x : Event). just x)) nothing); is_none = e; number = omega arith } in
          subst Q (sym same) here
    ]) refl
