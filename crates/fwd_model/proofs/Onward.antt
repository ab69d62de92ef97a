-- What holds of all that an outcome goes on to: it went past its checks.
use Rattle.std.proofs.Common.{◌≡◌, ℕ, Bool, true, false, cond, Option, Some, None, refl}
use Rattle.fwd_model.specs.declared.answer.Answer.{Answer}
use Rattle.fwd_model.specs.declared.fault.Refusal.{Refusal}
use Rattle.fwd_model.specs.Layers.{Worker, Layers}
use Rattle.fwd_model.specs.Step as steps
use Rattle.fwd_model.specs.Outcome.{Outcome, Stays, Goes, state_of, is_refusal, within, found, refuse_if, ◌>>=◌, ◌>>◌}

abbrev pub Holds : {S : Type 0} → (Answer → S → Type 0) → Outcome S → Type 0
Holds P (Stays a) = Unit {0}
Holds P (Goes a s) = P a s

pub record Onward {S : Type 0} (P : Answer → S → Type 0) (x : Outcome S) : Type 0 where
  pub holds : Holds P x

module _ {S : Type 0} {P : Answer → S → Type 0} where
  pub to : {a : Answer} {s : S} → P a s → Onward P (Goes a s)
  to h = record { holds = h }

  pub past : (why : Refusal) {b : Bool} {p : Outcome S} → (b ≡ false → Onward P p)
      → Onward P (refuse_if b why >> p)
  past why {b = true} h = record { holds = tt }
  past why {b = false} h = h refl

  pub past_found : {X : Type 0} (why : Refusal) {x : Option X} {p : X → Outcome S}
      → ((z : X) → x ≡ Some z → Onward P (p z)) → Onward P (found x why >>= p)
  past_found why {x = None} h = record { holds = tt }
  past_found why {x = Some z} h = h z refl

  pub past_either : {b : Bool} {p q : Outcome S} → (b ≡ true → Onward P p)
      → (b ≡ false → Onward P q) → Onward P (cond b p q)
  past_either {b = true} f g = f refl
  past_either {b = false} f g = g refl

  pub past_within : {R : Type 0} (put : R → S) {x : Outcome R} → Onward (λ a r. P a (put r)) x
      → Onward P (within put x)
  past_within put {x = Stays a} h = record { holds = tt }
  past_within put {x = Goes a r} h = record { holds = h.holds }

  -- what holds of the state that stays, and of each that it goes on to, holds of the next
  pub at_next : (before : S) (x : Outcome S) (Q : S → Type 0)
      → ((a : Answer) → x ≡ Stays a → Q before) → Onward P x
      → ((a : Answer) (s : S) → x ≡ Goes a s → P a s → Q s) → Q (state_of before x)
  at_next before (Stays a) Q q onward f = q a refl
  at_next before (Goes a s) Q q onward f = f a s refl onward.holds

-- ---- where the state stays, the event is refused

abbrev pub IsResting : {S : Type 0} → Outcome S → Type 0
IsResting (Stays a) = is_refusal a ≡ true
IsResting (Goes a s) = Unit {0}

pub record Resting {S : Type 0} (x : Outcome S) : Type 0 where
  pub stays : IsResting x

module _ {S : Type 0} where
  pub rests : {a : Answer} {s : S} → Resting (Goes a s)
  rests = record { stays = tt }

  pub rest_past : {p : Outcome S} (b : Bool) (why : Refusal) → Resting p
      → Resting (refuse_if b why >> p)
  rest_past true why h = record { stays = refl }
  rest_past false why h = h

  pub rest_found : {X : Type 0} {p : X → Outcome S} (x : Option X) (why : Refusal)
      → ((z : X) → Resting (p z)) → Resting (found x why >>= p)
  rest_found None why h = record { stays = refl }
  rest_found (Some z) why h = h z

  pub rest_within : {R : Type 0} {x : Outcome R} (put : R → S) → Resting x → Resting (within put x)
  rest_within {x = Stays a} put h = record { stays = h.stays }
  rest_within {x = Goes a r} put h = record { stays = tt }

-- ---- where an event happens, over any layers

module _ (L : Layers) (r : L.Relay) where
  pub source_on : (id : ℕ) (P : Answer → L.Relay → Type 0) (p : L.Source → Outcome L.Source)
      →
      ((s : L.Source) → L.source_at r id ≡ Some s
      → Onward (λ a u. P a (L.puts_source r id u)) (p s))
      → Onward P (steps.at_source L r id p)
  source_on id P p holds = past_found _ (λ s here. past_within _ (holds s here))

  pub lane_on : (o : ℕ) (P : Answer → L.Relay → Type 0) (p : L.Lane → Outcome L.Lane)
      → ((l : L.Lane) → L.lane_at r o ≡ Some l → Onward (λ a m. P a (L.puts_lane r o m)) (p l))
      → Onward P (steps.at_lane L r o p)
  lane_on o P p holds = past_found _ (λ l lane. past_within _ (holds l lane))

  pub both_on : (id o : ℕ) (P : Answer → L.Relay → Type 0)
      (p : L.Source → L.Lane → Outcome (L.Source × L.Lane))
      →
      ((s : L.Source) (l : L.Lane) → L.source_at r id ≡ Some s → L.lane_at r o ≡ Some l
      → Onward (λ a two. P a (L.puts_lane (L.puts_source r id two.0) o two.1)) (p s l))
      → Onward P (steps.at_both L r id o p)
  both_on id o P p holds = past_found _ (λ s here. past_found _ (λ l lane. past_within _ (holds s l here lane)))

module _ (L : Layers) where
  pub worker_on : (l : L.Lane) (w : ℕ) (P : Answer → L.Lane → Type 0)
      (p : Worker L.Session → Outcome (Worker L.Session))
      →
      ((x : Worker L.Session) → L.worker_at l w ≡ Some x
      → Onward (λ a y. P a (L.puts_worker l w y)) (p x))
      → Onward P (steps.at_worker L l w p)
  worker_on l w P p holds = past_found _ (λ x at. past_within _ (holds x at))

  pub session_on : (x : Worker L.Session) (P : Answer → Worker L.Session → Type 0)
      (p : L.Session → Outcome L.Session)
      → ((s : L.Session) → x.session ≡ Some s → Onward (λ a u. P a (steps.with_session x u)) (p s))
      → Onward P (steps.at_session L x p)
  session_on x P p holds = past_found _ (λ s f. past_within _ (holds s f))
