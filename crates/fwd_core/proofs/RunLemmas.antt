-- What follows of steps one behind the other.
use Rattle.std.proofs.Common.{◌≡◌, ◌≢◌, suc, Bool, true, false, cond, List, [], ◌∷◌, ◌++◌, Some, length, refl, sym, ap, subst, ◌∙◌, inl, inr}
use Rattle.std.specs.Prelude.{not, slice_get}
use Rattle.fwd_model.specs.declared.event.Event.{Event}
use Rattle.fwd_model.specs.declared.answer.Answer.{Answer}
use Rattle.fwd_model.specs.declared.answer.Answer.TheVariants.{Memory, Accepted, Requests, Faulted, Admitted, NoRoute, Full, NumbersSpent, Closed, Chose, Done, Took, TookNothing, Frame, Quiet, Ready, Acked, SessionFaulted, Settled, Late, Ended, Told, Forgot, Refused}
use Rattle.fwd_model.specs.Live.{LiveRelay, lives}
use Rattle.fwd_model.specs.Outcome.{answer_of, state_of}
use Rattle.fwd_model.specs.Step.{step, answers as answers_to, after}
use Rattle.fwd_core.specs.Runs.{is_memory, told, kept, takes_none, is_free_at, IsAtFault, NeedsNone, IsStep, AreStepsOf}

is_told : (a : Answer) → is_memory a ≡ false → a ≢ Memory
is_told a f e = let t : is_memory a ≡ true = ap is_memory e in cc

is_want : (a : Answer) → is_memory a ≡ true → a ≡ Memory
is_want Memory t = refl
is_want (Accepted out) t = absurd cc
is_want (Requests waiting out) t = absurd cc
is_want (Faulted fault waiting out) t = absurd cc
is_want (Admitted request entries) t = absurd cc
is_want NoRoute t = absurd cc
is_want Full t = absurd cc
is_want NumbersSpent t = absurd cc
is_want (Closed chunks) t = absurd cc
is_want (Chose server) t = absurd cc
is_want Done t = absurd cc
is_want (Took number entries) t = absurd cc
is_want TookNothing t = absurd cc
is_want (Frame out) t = absurd cc
is_want (Quiet out) t = absurd cc
is_want (Ready out) t = absurd cc
is_want (Acked out) t = absurd cc
is_want (SessionFaulted fault) t = absurd cc
is_want (Settled entries) t = absurd cc
is_want (Late late) t = absurd cc
is_want (Ended number) t = absurd cc
is_want (Told requests out) t = absurd cc
is_want (Forgot requests) t = absurd cc
is_want (Refused refusal) t = absurd cc

-- what is said of one step
pub step_is : (r s : LiveRelay) (e : Event) (a : Answer)
    → (a ≢ Memory → a ≡ answer_of (step lives r e)) → (a ≢ Memory → s ≡ state_of r (step lives r e))
    → (a ≡ Memory → s ≡ r) → (takes_none e ≡ true → a ≢ Memory)
    → (is_free_at r e ≡ true → a ≢ Memory) → (IsAtFault r e → a ≢ Memory) → IsStep r e a s
step_is r s e a answer next memory none free fault =
    record { answer = answer; next = next; memory = memory; sure = by }
  where
    by : NeedsNone r e → a ≢ Memory
    by (inl is) = none is
    by (inr (inl is)) = free is
    by (inr (inr is)) = fault is

-- the steps go on by one
pub steps_more : (r s t : LiveRelay) (es : List Event) (answers : List Answer) (e : Event)
    (a : Answer) → AreStepsOf r es answers s → IsStep s e a t
    → AreStepsOf r (es ++ e ∷ []) (answers ++ a ∷ []) t
steps_more r s t [] [] e a same one = (t, subst (λ x. IsStep x e a t) same one, refl)
steps_more r s t [] (b ∷ answers) e a none one = absurd none
steps_more r s t (d ∷ es) [] e a none one = absurd none
steps_more r s t (d ∷ es) (b ∷ answers) e a steps one =
    (steps.0, steps.1, steps_more steps.0 s t es answers e a steps.2 one)

-- what was told, and the state, are those of the events that count
pub record Ran (r s : LiveRelay) (es : List Event) (answers : List Answer) : Type 0 where
  pub size : length answers ≡ length es
  pub told_is : told answers ≡ answers_to lives r (kept es answers)
  pub state_is : s ≡ after lives r (kept es answers)

-- a step before the others
step_before : (r t s : LiveRelay) (e : Event) (es : List Event) (a : Answer)
    (answers : List Answer) → IsStep r e a t → Ran t s es answers → (m : Bool) → is_memory a ≡ m
    → (cond (not m) (a ∷ told answers) (told answers)
    ≡ answers_to lives r (cond m (kept es answers) (e ∷ kept es answers)))
    × (s ≡ after lives r (cond m (kept es answers) (e ∷ kept es answers)))
step_before r t s e es a answers one ran true is =
    let same = one.memory (is_want a is) in (
      ran.told_is ∙ ap (λ x. answers_to lives x (kept es answers)) same,
      ran.state_is ∙ ap (λ x. after lives x (kept es answers)) same,
    )
step_before r t s e es a answers one ran false is =
    let some = is_told a is in (
      (λ i. one.answer some i ∷ (ran.told_is ∙ ap (λ x. answers_to lives x (kept es answers)) (one.next some)) i),
      ran.state_is ∙ ap (λ x. after lives x (kept es answers)) (one.next some),
    )

pub ran_of : (r s : LiveRelay) (es : List Event) (answers : List Answer)
    → AreStepsOf r es answers s → Ran r s es answers
ran_of r s [] [] same = record { size = refl; told_is = refl; state_is = same }
ran_of r s [] (a ∷ answers) none = absurd none
ran_of r s (e ∷ es) [] none = absurd none
ran_of r s (e ∷ es) (a ∷ answers) steps =
    let ran = ran_of steps.0 s es answers steps.2 in
    let both = step_before r steps.0 s e es a answers steps.1 ran (is_memory a) refl in record {
      size = ap suc ran.size;
      told_is = both.0;
      state_is = both.1;
    }

-- the state that a step left goes on
behind : (r t : LiveRelay) (e : Event) (es : List Event) (a : Answer) → IsStep r e a t
    → (m : Bool) → is_memory a ≡ m
    → after lives r (cond m es (e ∷ es)) ≡ after lives t es
behind r t e es a one true is = ap (λ x. after lives x es) (sym (one.memory (is_want a is)))
behind r t e es a one false is = ap (λ x. after lives x es) (sym (one.next (is_told a is)))

-- the event at a place needs no memory
abbrev pub IsSure : LiveRelay → List Event → Event → List Answer → Type 0
IsSure r before e answers =
    NeedsNone (after lives r (kept before answers)) e
    → slice_get answers (length before)
    ≡ Some (answer_of (step lives (after lives r (kept before answers)) e))

pub sure_at : (r s : LiveRelay) (before later : List Event) (e : Event) (answers : List Answer)
    → AreStepsOf r (before ++ e ∷ later) answers s → IsSure r before e answers
sure_at r s [] later e [] none = absurd none
sure_at r s [] later e (a ∷ answers) steps = λ needs. ap Some (steps.1.answer (steps.1.sure needs))
sure_at r s (d ∷ before) later e [] none = absurd none
sure_at r s (d ∷ before) later e (a ∷ answers) steps =
    let t = steps.0 in
    let same = behind r t d (kept before answers) a steps.1 (is_memory a) refl in
    let more : IsSure t before e answers = sure_at t s before later e answers steps.2 in
    subst (λ x. NeedsNone x e → slice_get answers (length before) ≡ Some (answer_of (step lives x e))) (sym same) more
