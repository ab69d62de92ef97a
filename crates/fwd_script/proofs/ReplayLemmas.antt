-- A run over lines: what was written for those so far, and how it ends.
use Rattle.std.proofs.Common.{◌≡◌, ℕ, ◌+◌, List, [], ◌∷◌, ◌++◌, length, map, Option, Some, None, Result, Ok, Err, ◌⊎◌, inl, inr, refl, sym, ap, ◌∙◌, arith, append_assoc, length-append}
use Rattle.std.specs.Prelude.{IfOk, IsErr}
use Rattle.std.specs.List.{flat_map}
use Rattle.std.specs.Io.KnownBytes.{Appends, Keeps}
use Rattle.std.proofs.lemmas.List.{append-nil}
use Rattle.fwd_model.specs.declared.event.Event.{Event}
use Rattle.fwd_model.specs.declared.answer.Answer.{Answer}
use Rattle.fwd_script.specs.Stops.{Stops, stop_status}
use Rattle.fwd_script.specs.declared.stepping.StopReason.{StopReason}
use Rattle.fwd_script.specs.declared.stepping.StopReason.TheVariants as stops
use Rattle.fwd_script.specs.declared.status.Status.{Status}
use Rattle.fwd_script.specs.declared.status.Status.TheVariants.{Done, BadSettings, BadLine, Memory, Input, Output}
use Rattle.fwd_script.specs.declared.writing.WriteFailed.{WriteFailed}
use Rattle.fwd_script.specs.Lines.{event_of}
use Rattle.fwd_script.specs.Replay.{events_of, bad_line, answers, answer_line, output, after, AllAreEvents, StopsAtLine, MeetsMemory, Ends}
use Rattle.fwd_script.specs.Writes.{AppendsFront}

-- ---- writes, one after the other

pub Appends-none : (old : Option (List ℕ)) → Appends old old []
Appends-none None = tt
Appends-none (Some xs) = sym (append-nil xs)

pub Appends-then : (a b c : Option (List ℕ)) (x y : List ℕ) → Appends a b x → Appends b c y
    → Appends a c (x ++ y)
Appends-then None b c x y p q = tt
Appends-then (Some as_) None c x y p q = absurd p
Appends-then (Some as_) (Some bs) None x y p q = absurd q
Appends-then (Some as_) (Some bs) (Some cs) x y p q = q ∙ ap (λ (t : List ℕ). t ++ y) p ∙ append_assoc as_ x y

pub Appends-keeps : (a b c : Option (List ℕ)) (x : List ℕ) → Appends a b x → Keeps b c
    → Appends a c x
Appends-keeps None b c x p q = tt
Appends-keeps (Some as_) None c x p q = absurd p
Appends-keeps (Some as_) (Some bs) None x p q = absurd q
Appends-keeps (Some as_) (Some bs) (Some cs) x p q = q ∙ p

-- all of some bytes is a front of them, and so is what they begin with
pub AppendsFront-all : (old new : Option (List ℕ)) (bytes : List ℕ) → Appends old new bytes
    → AppendsFront old new bytes
AppendsFront-all old new bytes h = (bytes, [], sym (append-nil bytes), h)

pub AppendsFront-more : (old new : Option (List ℕ)) (bytes more : List ℕ)
    → AppendsFront old new bytes → AppendsFront old new (bytes ++ more)
AppendsFront-more old new bytes more h =
    (h.0, h.1 ++ more, ap (λ (t : List ℕ). t ++ more) h.2 ∙ append_assoc h.0 h.1 more, h.3)

pub AppendsFront-then : (a b c : Option (List ℕ)) (x y : List ℕ) → Appends a b x
    → AppendsFront b c y → AppendsFront a c (x ++ y)
AppendsFront-then a b c x y p q =
    (x ++ q.0, q.1, ap (λ (t : List ℕ). x ++ t) q.2 ∙ sym (append_assoc x q.0 q.1), Appends-then a b c x q.0 p q.3)

pub AppendsFront-keeps : (a b c : Option (List ℕ)) (x : List ℕ) → AppendsFront a b x
    → Keeps b c → AppendsFront a c x
AppendsFront-keeps a b c x p keeps = (p.0, p.1, p.2, Appends-keeps a b c p.0 p.3 keeps)

-- ---- lines that are events, and then more

-- each line is an event
abbrev pub AreEvents : List (List ℕ) → Type 0
AreEvents [] = Unit {0}
AreEvents (line ∷ lines) = ((event : Event) × (event_of line ≡ Some event)) × AreEvents lines

AreEvents-all : (lines : List (List ℕ)) → AreEvents lines → AllAreEvents lines
AreEvents-all [] h = refl
AreEvents-all (line ∷ lines) h = rw h.0.1 (ap (λ (es : List (Option Event)). Some h.0.0 ∷ es) (AreEvents-all lines h.1))

AllAreEvents-tail : (line : List ℕ) (lines : List (List ℕ)) (o : Option Event)
    → event_of line ≡ o → AllAreEvents (line ∷ lines)
    → ((event : Event) × (o ≡ Some event)) × AllAreEvents lines
AllAreEvents-tail line lines (Some event) e h =
    let all : Some event ∷ map event_of lines ≡ Some event ∷ map Some (events_of lines) = rw e at h in
    ((event, refl), cc)
AllAreEvents-tail line lines None e h =
    let all : None ∷ map event_of lines ≡ [] = rw e at h in
    absurd cc

AreEvents-of : (lines : List (List ℕ)) → AllAreEvents lines → AreEvents lines
AreEvents-of [] h = tt
AreEvents-of (line ∷ lines) h =
    let parts = AllAreEvents-tail line lines (event_of line) refl h in
    (parts.0, AreEvents-of lines parts.1)

AreEvents-push : (lines : List (List ℕ)) (line : List ℕ) (event : Event) → AreEvents lines
    → event_of line ≡ Some event → AreEvents (lines ++ line ∷ [])
AreEvents-push [] line event h e = ((event, e), tt)
AreEvents-push (first ∷ lines) line event h e = (h.0, AreEvents-push lines line event h.1 e)

bad_line-append : (count : ℕ) (front rest : List (List ℕ)) → AreEvents front
    → bad_line count (front ++ rest) ≡ bad_line (count + length front) rest
bad_line-append count [] rest h = ap (λ (n : ℕ). bad_line n rest) (omega arith)
bad_line-append count (line ∷ front) rest h =
    rw h.0.1 (bad_line-append (count + 1) front rest h.1 ∙ ap (λ (n : ℕ). bad_line n rest) (omega arith))

events_of-append : (front rest : List (List ℕ)) → AreEvents front
    → events_of (front ++ rest) ≡ events_of front ++ events_of rest
events_of-append [] rest h = refl
events_of-append (line ∷ front) rest h = rw h.0.1 (ap (λ (es : List Event). h.0.0 ∷ es) (events_of-append front rest h.1))

answers-append : {S : Type 0} (answer_to : S → Event → Answer) (next : S → Event
    → S) (s : S) (front rest : List Event)
    → answers answer_to next s (front ++ rest) ≡ answers answer_to next s front
    ++ answers answer_to next (after next s front) rest
answers-append answer_to next s [] rest = refl
answers-append answer_to next s (event ∷ front) rest = ap (λ (as_ : List Answer). answer_to s event ∷ as_) (answers-append answer_to next (next s event) front rest)

after-append : {S : Type 0} (next : S → Event → S) (s : S) (front rest : List Event)
    → after next s (front ++ rest) ≡ after next (after next s front) rest
after-append next s [] rest = refl
after-append next s (event ∷ front) rest = after-append next (next s event) front rest

lines-append : (front rest : List Answer)
    → flat_map answer_line (front ++ rest) ≡ flat_map answer_line front
    ++ flat_map answer_line rest
lines-append [] rest = refl
lines-append (answer ∷ front) rest = ap (λ (t : List ℕ). answer_line answer ++ t) (lines-append front rest) ∙ sym (append_assoc (answer_line answer) (flat_map answer_line front) (flat_map answer_line rest))

output-append : {S : Type 0} (answer_to : S → Event → Answer) (next : S → Event
    → S) (s : S) (front rest : List (List ℕ)) → AreEvents front
    → output answer_to next s (front ++ rest) ≡ output answer_to next s front
    ++ output answer_to next (after next s (events_of front)) rest
output-append answer_to next s front rest h =
    ap (λ (es : List Event). flat_map answer_line (answers answer_to next s es)) (events_of-append front rest h)
    ∙ ap (flat_map answer_line) (answers-append answer_to next s (events_of front) (events_of rest))
    ∙ lines-append (answers answer_to next s (events_of front)) (answers answer_to next (after next s (events_of front)) (events_of rest))

-- ---- the lines answered so far

pub record IsAnswered {S : Type 0} (answer_to : S → Event → Answer) (next : S → Event → S) (first : S) (before : ℕ) (lines : List (List ℕ)) (old : Option (List ℕ)) (s : S) (number : ℕ) (rest : List (List ℕ)) (new : Option (List ℕ)) : Type 0 where
  pub front : List (List ℕ)
  pub parts : lines ≡ front ++ rest
  pub are_events : AreEvents front
  pub state : s ≡ after next first (events_of front)
  pub wrote : Appends old new (output answer_to next first front)
  pub counted : number ≡ before + length front

pub IsAnswered-none : {S : Type 0} (answer_to : S → Event → Answer) (next : S → Event
    → S) (s : S) (before : ℕ) (lines : List (List ℕ)) (old : Option (List ℕ))
    → IsAnswered answer_to next s before lines old s before lines old
IsAnswered-none answer_to next s before lines old = record { front = []; parts = refl; are_events = tt; state = refl; wrote = Appends-none old; counted = omega arith }

pub IsAnswered-more : {S : Type 0} (answer_to : S → Event → Answer) (next : S → Event
    → S) (first : S) (before : ℕ) (lines : List (List ℕ)) (old : Option (List ℕ)) (s : S)
    (number : ℕ) (line : List ℕ) (rest : List (List ℕ)) (new : Option (List ℕ))
    (event : Event) (t : S) (newer : Option (List ℕ))
    → IsAnswered answer_to next first before lines old s number (line ∷ rest) new
    → event_of line ≡ Some event → t ≡ next s event
    → Appends new newer (answer_line (answer_to s event))
    → IsAnswered answer_to next first before lines old t (number + 1) rest newer
IsAnswered-more {S = S} answer_to next first before lines old s number line rest new event t newer a e goes writes =
    let one : events_of (line ∷ []) ≡ event ∷ [] = rw e refl in
    let all : events_of (a.front ++ line ∷ []) ≡ events_of a.front ++ event ∷ [] = events_of-append a.front (line ∷ []) a.are_events ∙ ap (λ (es : List Event). events_of a.front ++ es) one in
    let text : output answer_to next first (a.front ++ line ∷ []) ≡ output answer_to next first a.front ++ answer_line (answer_to s event) =
    output-append answer_to next first a.front (line ∷ []) a.are_events
    ∙ ap (λ (es : List Event). output answer_to next first a.front ++ flat_map answer_line (answers answer_to next (after next first (events_of a.front)) es)) one
    ∙ ap (λ (u : S). output answer_to next first a.front ++ flat_map answer_line (answers answer_to next u (event ∷ []))) (sym a.state)
    ∙ ap (λ (u : List ℕ). output answer_to next first a.front ++ u) (append-nil (answer_line (answer_to s event))) in
    let counted = a.counted in
    record {
      front = a.front ++ line ∷ [];
      parts = a.parts ∙ sym (append_assoc a.front (line ∷ []) rest);
      are_events = AreEvents-push a.front line event a.are_events e;
      state = goes ∙ ap (λ (u : S). next u event) a.state ∙ sym (ap (after next first) all ∙ after-append next first (events_of a.front) (event ∷ []));
      wrote = rw text (Appends-then old new newer (output answer_to next first a.front) (answer_line (answer_to s event)) a.wrote writes);
      counted = omega (arith, length-append a.front (line ∷ []));
    }

pub IsAnswered-all : {S : Type 0} (answer_to : S → Event → Answer) (next : S → Event
    → S) (first : S) (before : ℕ) (lines : List (List ℕ)) (old : Option (List ℕ)) (s : S)
    (number : ℕ) (new : Option (List ℕ))
    → IsAnswered answer_to next first before lines old s number [] new
    → Ends Done answer_to next first before lines old new
IsAnswered-all answer_to next first before lines old s number new a =
    let whole : lines ≡ a.front = a.parts ∙ append-nil a.front in
    (ap (bad_line before) a.parts ∙ bad_line-append before a.front [] a.are_events, rw whole a.wrote)

pub IsAnswered-bad : {S : Type 0} (answer_to : S → Event → Answer) (next : S → Event
    → S) (first : S) (before : ℕ) (lines : List (List ℕ)) (old : Option (List ℕ)) (s : S)
    (number : ℕ) (line : List ℕ) (rest : List (List ℕ)) (new newer : Option (List ℕ))
    → IsAnswered answer_to next first before lines old s number (line ∷ rest) new
    → event_of line ≡ None → Keeps new newer
    → Ends (BadLine (number + 1)) answer_to next first before lines old newer
IsAnswered-bad answer_to next first before lines old s number line rest new newer a none keeps =
    let here : bad_line (before + length a.front) (line ∷ rest) ≡ Some (before + length a.front + 1) = rw none refl in
    let counted = a.counted in
    let nothing : events_of (line ∷ rest) ≡ [] = rw none refl in
    let text : output answer_to next first lines ≡ output answer_to next first a.front =
    ap (output answer_to next first) a.parts
    ∙ output-append answer_to next first a.front (line ∷ rest) a.are_events
    ∙ ap (λ (es : List Event). output answer_to next first a.front ++ flat_map answer_line (answers answer_to next (after next first (events_of a.front)) es)) nothing
    ∙ append-nil (output answer_to next first a.front) in
    (ap (bad_line before) a.parts ∙ bad_line-append before a.front (line ∷ rest) a.are_events ∙ here ∙ ap Some (omega arith), rw text (Appends-keeps old new newer (output answer_to next first a.front) a.wrote keeps))

-- what is written for a front of the lines is a front of what is written for all
output-front : {S : Type 0} (answer_to : S → Event → Answer) (next : S → Event
    → S) (s : S) (front rest : List (List ℕ)) (old new : Option (List ℕ)) → AreEvents front
    → Appends old new (output answer_to next s front)
    → AppendsFront old new (output answer_to next s (front ++ rest))
output-front answer_to next s front rest old new are h =
    let more = output answer_to next (after next s (events_of front)) rest in
    rw (output-append answer_to next s front rest are)
    (AppendsFront-more old new (output answer_to next s front) more (AppendsFront-all old new (output answer_to next s front) h))

pub IsAnswered-memory : {S : Type 0} (answer_to : S → Event → Answer) (next : S → Event
    → S) (first : S) (before : ℕ) (lines : List (List ℕ)) (old : Option (List ℕ)) (s : S)
    (number : ℕ) (line : List ℕ) (rest : List (List ℕ)) (new : Option (List ℕ)) (t : S)
    (newer : Option (List ℕ))
    → IsAnswered answer_to next first before lines old s number (line ∷ rest) new → Keeps new newer
    → (t ≡ s) ⊎ ((event : Event) × (event_of line ≡ Some event) × (t ≡ next s event))
    → MeetsMemory answer_to next first t lines old newer
IsAnswered-memory {S = S} answer_to next first before lines old s number line rest new t newer a keeps state =
    record {
      stops = record {
        front = a.front;
        line = line;
        rest = rest;
        parts = a.parts;
        are_events = AreEvents-all a.front a.are_events;
        wrote = Appends-keeps old new newer (output answer_to next first a.front) a.wrote keeps;
      };
      state = elim state [
        | inl same ↦ inl (same ∙ a.state)
        | inr went ↦ inr (more went.0 went.1 went.2)
      ];
    }
  where
    more : (event : Event) → event_of line ≡ Some event → t ≡ next s event
        → t ≡ after next first (events_of (a.front ++ line ∷ []))
    more event e goes =
        let one : events_of (line ∷ []) ≡ event ∷ [] = rw e refl in
        let all : events_of (a.front ++ line ∷ []) ≡ events_of a.front ++ event ∷ [] = events_of-append a.front (line ∷ []) a.are_events ∙ ap (λ (es : List Event). events_of a.front ++ es) one in
        goes ∙ ap (λ (u : S). next u event) a.state ∙ sym (ap (after next first) all ∙ after-append next first (events_of a.front) (event ∷ []))

pub IsAnswered-output : {S : Type 0} (answer_to : S → Event → Answer) (next : S → Event
    → S) (first : S) (before : ℕ) (lines : List (List ℕ)) (old : Option (List ℕ)) (s : S)
    (number : ℕ) (line : List ℕ) (rest : List (List ℕ)) (new : Option (List ℕ))
    (event : Event) (newer : Option (List ℕ)) (failed : WriteFailed)
    → IsAnswered answer_to next first before lines old s number (line ∷ rest) new
    → event_of line ≡ Some event → AppendsFront new newer (answer_line (answer_to s event))
    → Ends (Output failed) answer_to next first before lines old newer
IsAnswered-output {S = S} answer_to next first before lines old s number line rest new event newer failed a e wrote =
    let here : output answer_to next s (line ∷ rest) ≡ answer_line (answer_to s event) ++ output answer_to next (next s event) rest = rw e refl in
    let text : output answer_to next first lines ≡ output answer_to next first a.front ++ (answer_line (answer_to s event) ++ output answer_to next (next s event) rest) =
    ap (output answer_to next first) a.parts
    ∙ output-append answer_to next first a.front (line ∷ rest) a.are_events
    ∙ ap (λ (u : S). output answer_to next first a.front ++ output answer_to next u (line ∷ rest)) (sym a.state)
    ∙ ap (λ (u : List ℕ). output answer_to next first a.front ++ u) here in
    rw text (AppendsFront-then old new newer (output answer_to next first a.front) _ a.wrote
    (AppendsFront-more new newer (answer_line (answer_to s event)) (output answer_to next (next s event) rest) wrote))

-- ---- a flush keeps how a run ended, or turns it into a failed write

pub StopsAtLine-keeps : {S : Type 0} (answer_to : S → Event → Answer) (next : S → Event
    → S) (first : S) (lines : List (List ℕ)) (old new newer : Option (List ℕ))
    → StopsAtLine answer_to next first lines old new → Keeps new newer
    → StopsAtLine answer_to next first lines old newer
StopsAtLine-keeps answer_to next first lines old new newer a keeps =
    record {
      front = a.front;
      line = a.line;
      rest = a.rest;
      parts = a.parts;
      are_events = a.are_events;
      wrote = Appends-keeps old new newer (output answer_to next first a.front) a.wrote keeps;
    }

pub MeetsMemory-keeps : {S : Type 0} (answer_to : S → Event → Answer) (next : S → Event
    → S) (first t : S) (lines : List (List ℕ)) (old new newer : Option (List ℕ))
    → MeetsMemory answer_to next first t lines old new → Keeps new newer
    → MeetsMemory answer_to next first t lines old newer
unfolding StopsAtLine-keeps
MeetsMemory-keeps answer_to next first t lines old new newer a keeps =
    record { stops = StopsAtLine-keeps answer_to next first lines old new newer a.stops keeps; state = a.state }

pub Ends-keeps : {S : Type 0} (answer_to : S → Event → Answer) (next : S → Event
    → S) (first : S) (status : Status) (before : ℕ) (lines : List (List ℕ))
    (old new newer : Option (List ℕ))
    → Ends status answer_to next first before lines old new → Keeps new newer
    → Ends status answer_to next first before lines old newer
Ends-keeps answer_to next first Done before lines old new newer e keeps = (e.0, Appends-keeps old new newer _ e.1 keeps)
Ends-keeps answer_to next first (BadLine n) before lines old new newer e keeps = (e.0, Appends-keeps old new newer _ e.1 keeps)
Ends-keeps answer_to next first (BadSettings fault) before lines old new newer e keeps = absurd e
Ends-keeps answer_to next first Memory before lines old new newer e keeps = StopsAtLine-keeps answer_to next first lines old new newer e keeps
Ends-keeps answer_to next first (Input failed) before lines old new newer e keeps = absurd e
Ends-keeps answer_to next first (Output failed) before lines old new newer e keeps = AppendsFront-keeps old new newer _ e keeps

pub Ends-output : {S : Type 0} (answer_to : S → Event → Answer) (next : S → Event
    → S) (first : S) (status : Status) (failed : WriteFailed) (before : ℕ)
    (lines : List (List ℕ)) (old new : Option (List ℕ))
    → Ends status answer_to next first before lines old new
    → Ends (Output failed) answer_to next first before lines old new
Ends-output answer_to next first Done failed before lines old new e = AppendsFront-all old new _ e.1
Ends-output answer_to next first (BadLine n) failed before lines old new e = AppendsFront-all old new _ e.1
Ends-output answer_to next first (BadSettings fault) failed before lines old new e = absurd e
Ends-output answer_to next first Memory failed before lines old new e =
    rw e.parts (output-front answer_to next first e.front (e.line ∷ e.rest) old new (AreEvents-of e.front e.are_events) e.wrote)
Ends-output answer_to next first (Input unread) failed before lines old new e = absurd e
Ends-output answer_to next first (Output earlier) failed before lines old new e = e

-- ---- a line that stops the run

-- what a line was read as is what it spells
pub read-spells : {E : Type 0} (read : Result (Option Event) E) (spelled o : Option Event)
    → IfOk read (λ e. e ≡ spelled) → read ≡ Ok o → spelled ≡ o
read-spells (Ok e) spelled o is same = cc
read-spells (Err error) spelled o is same = absurd cc

-- the state where memory ran out
met-state : {E S : Type 0} (next : S → Event → S) (s t : S)
    (read : Result (Option Event) E) (spelled : Option Event) → IfOk read (λ e. e ≡ spelled)
    → ((IsErr read × (t ≡ s))
    ⊎ ((event : Event) × (read ≡ Ok (Some event)) × ((t ≡ s) ⊎ (t ≡ next s event))))
    → (t ≡ s) ⊎ ((event : Event) × (spelled ≡ Some event) × (t ≡ next s event))
met-state next s t read spelled is (inl unread) = inl unread.1
met-state next s t read spelled is (inr (event, same, inl stays)) = inl stays
met-state next s t read spelled is (inr (event, same, inr goes)) = inr (event, read-spells read spelled (Some event) is same, goes)

pub IsAnswered-stop : {E S : Type 0} (answer_to : S → Event → Answer) (next : S → Event
    → S) (first : S) (before : ℕ) (lines : List (List ℕ)) (old : Option (List ℕ)) (s : S)
    (number : ℕ) (line : List ℕ) (rest : List (List ℕ)) (new : Option (List ℕ)) (t : S)
    (newer : Option (List ℕ)) (stop : StopReason) (read : Result (Option Event) E)
    → IfOk read (λ e. e ≡ event_of line)
    → IsAnswered answer_to next first before lines old s number (line ∷ rest) new
    → Stops stop answer_to next s t read new newer
    → Ends (stop_status stop (number + 1)) answer_to next first before lines old newer
IsAnswered-stop answer_to next first before lines old s number line rest new t newer stops.Bad read is a h =
    IsAnswered-bad answer_to next first before lines old s number line rest new newer a (read-spells read (event_of line) None is h.0) h.1
IsAnswered-stop answer_to next first before lines old s number line rest new t newer stops.Memory read is a h =
    (IsAnswered-memory answer_to next first before lines old s number line rest new t newer a h.0 (met-state next s t read (event_of line) is h.1)).stops
IsAnswered-stop answer_to next first before lines old s number line rest new t newer (stops.Output failed) read is a h =
    IsAnswered-output answer_to next first before lines old s number line rest new h.0 newer failed a (read-spells read (event_of line) (Some h.0) is h.1) h.2

pub IsAnswered-met : {E S : Type 0} (answer_to : S → Event → Answer) (next : S → Event
    → S) (first : S) (before : ℕ) (lines : List (List ℕ)) (old : Option (List ℕ)) (s : S)
    (number : ℕ) (line : List ℕ) (rest : List (List ℕ)) (new : Option (List ℕ)) (t : S)
    (newer : Option (List ℕ)) (stop : StopReason) (read : Result (Option Event) E)
    → IfOk read (λ e. e ≡ event_of line)
    → IsAnswered answer_to next first before lines old s number (line ∷ rest) new
    → Stops stop answer_to next s t read new newer
    → stop_status stop (number + 1) ≡ Memory → MeetsMemory answer_to next first t lines old newer
IsAnswered-met answer_to next first before lines old s number line rest new t newer stops.Bad read is a h e = absurd cc
IsAnswered-met answer_to next first before lines old s number line rest new t newer stops.Memory read is a h e =
    IsAnswered-memory answer_to next first before lines old s number line rest new t newer a h.0 (met-state next s t read (event_of line) is h.1)
IsAnswered-met answer_to next first before lines old s number line rest new t newer (stops.Output failed) read is a h e = absurd cc
