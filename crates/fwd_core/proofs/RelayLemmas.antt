-- A step at one connection or one output is the relay's step.
use Rattle.std.proofs.Common.{◌≡◌, ℕ, zero, suc, List, [], ◌∷◌, Some, refl, sym, ap, subst, ◌∙◌}
use Rattle.std.proofs.Math.ListN.{set}
use Rattle.std.specs.Prelude.{slice_get, slice_set}
use Rattle.fwd_source.specs.Live.{LiveSource}
use Rattle.fwd_model.specs.Layers.{Worker}
use Rattle.fwd_session.specs.Live.{LiveSession}
use Rattle.fwd_model.specs.Live.{LiveConnection, LiveLane, LiveRelay, with_live_lane, with_live_connection, with_live_worker, lives}
use Rattle.fwd_model.specs.declared.fault.Refusal.TheVariants.{NoSuch}
use Rattle.fwd_model.specs.Outcome.{Outcome, Stays, Goes, answer_of, state_of, within, found, ◌>>=◌}
use Rattle.fwd_model.specs.Step.{at_source, at_lane, at_both, at_worker}
use Rattle.fwd_core.specs.Places.{IsPlace}
use Rattle.std.proofs.lemmas.Option.{same_Some}

pub set_same : {X : Type 0} (xs : List X) (i : ℕ) (x : X) → slice_get xs i ≡ Some x
    → set xs i x ≡ xs
set_same [] i x h = refl
set_same (a ∷ xs) zero x h = let e : a ≡ x = cc in ap (λ y. y ∷ xs) (sym e)
set_same (a ∷ xs) (suc i) x h = ap (λ ys. a ∷ ys) (set_same xs i x h)

-- what comes of a part, put where the part was, is what comes of the whole
put_state : {S T : Type 0} (put : S → T) (s : S) (whole : T) (x : Outcome S) → put s ≡ whole
    → put (state_of s x) ≡ state_of whole (within put x)
put_state put s whole (Stays a) stays = stays
put_state put s whole (Goes a t) stays = refl

abbrev pub with_source_at : ℕ → LiveConnection → LiveRelay → LiveRelay
with_source_at place c r = record r { connections = slice_set r.connections place c }

abbrev pub with_both : ℕ → LiveConnection → ℕ → LiveLane → LiveRelay → LiveRelay
with_both place c o l r = record r { connections = slice_set r.connections place c; lanes = slice_set r.lanes o l }

lane_stays : (r : LiveRelay) (o : ℕ) (l : LiveLane) → slice_get r.lanes o ≡ Some l
    → with_live_lane o l r ≡ r
lane_stays r o l here = λ i. record r { lanes = set_same r.lanes o l here i }

source_stays : (r : LiveRelay) (id place : ℕ) (at : IsPlace id r.connections place)
    → with_live_connection id at.source r ≡ r
source_stays r id place at = λ i. record r { connections = (at.put at.source ∙ set_same r.connections place (record { id = id; source = at.source }) at.here) i }

-- ---- as an output's methods meet them

pub worker_stays : (l : LiveLane) (w : ℕ) (x : Worker LiveSession)
    → slice_get l.workers w ≡ Some x → with_live_worker l w x ≡ l
worker_stays l w x here = λ i. record { config = l.config; output = l.output; workers = set_same l.workers w x here i }

pub worker_done : (k l : LiveLane) (same : k ≡ l) (w place : ℕ) → place ≡ w
    → (x new : Worker LiveSession) → slice_get k.workers place ≡ Some x
    → (f : Worker LiveSession → Outcome (Worker LiveSession))
    → new ≡ state_of x (f x) → with_live_worker k place new ≡ state_of l (at_worker lives l w f)
worker_done k l same w place at_w x new here f e =
    let here_w : slice_get k.workers w ≡ Some x = subst (λ n. slice_get k.workers n ≡ Some x) at_w here in
    (λ i. with_live_worker k (at_w i) (e i))
    ∙ put_state (with_live_worker k w) x k (f x) (worker_stays k w x here_w)
    ∙ ap (λ y. state_of k (found y NoSuch >>= λ z. within (with_live_worker k w) (f z))) (sym here_w)
    ∙ ap (λ y. state_of y (at_worker lives y w f)) same

-- what is answered at a worker is what its part answers
pub within_answer : {S T : Type 0} (put : S → T) (x : Outcome S)
    → answer_of (within put x) ≡ answer_of x
within_answer put (Stays a) = refl
within_answer put (Goes a t) = refl

pub worker_told : (k l : LiveLane) (same : k ≡ l) (w place : ℕ) → place ≡ w
    → (x : Worker LiveSession) → slice_get k.workers place ≡ Some x
    → (f : Worker LiveSession → Outcome (Worker LiveSession))
    → answer_of (f x) ≡ answer_of (at_worker lives l w f)
worker_told k l same w place at_w x here f =
    let here_w : slice_get k.workers w ≡ Some x = subst (λ n. slice_get k.workers n ≡ Some x) at_w here in
    sym (within_answer (with_live_worker k w) (f x))
    ∙ ap (λ y. answer_of (found y NoSuch >>= λ z. within (with_live_worker k w) (f z))) (sym here_w)
    ∙ ap (λ y. answer_of (at_worker lives y w f)) same

-- ---- as the relay's methods meet them

module _ (R S : LiveRelay) (same : R ≡ S) where
  pub lane_done : (o place : ℕ) → place ≡ o → (l new : LiveLane) → slice_get R.lanes place ≡ Some l
      → (f : LiveRelay → LiveLane → Outcome LiveLane)
      → new ≡ state_of l (f R l) → with_live_lane place new R ≡ state_of S (at_lane lives S o (f S))
  lane_done o place at_o l new here f e =
      let here_o : slice_get R.lanes o ≡ Some l = subst (λ k. slice_get R.lanes k ≡ Some l) at_o here in
      (λ i. with_live_lane (at_o i) (e i) R)
      ∙ put_state (λ m. with_live_lane o m R) l R (f R l) (lane_stays R o l here_o)
      ∙ ap (λ x. state_of R (found x NoSuch >>= λ k. within (λ m. with_live_lane o m R) (f R k))) (sym here_o)
      ∙ ap (λ x. state_of x (at_lane lives x o (f x))) same

  -- what is answered at an output is what its part answers
  pub lane_told : (o place : ℕ) → place ≡ o → (l : LiveLane) → slice_get R.lanes place ≡ Some l
      → (f : LiveRelay → LiveLane → Outcome LiveLane)
      → answer_of (f R l) ≡ answer_of (at_lane lives S o (f S))
  lane_told o place at_o l here f =
      let here_o : slice_get R.lanes o ≡ Some l = subst (λ k. slice_get R.lanes k ≡ Some l) at_o here in
      sym (within_answer (λ m. with_live_lane o m R) (f R l))
      ∙ ap (λ x. answer_of (found x NoSuch >>= λ k. within (λ m. with_live_lane o m R) (f R k))) (sym here_o)
      ∙ ap (λ x. answer_of (at_lane lives x o (f x))) same

  pub source_done : (id place : ℕ) (at : IsPlace id R.connections place) (s t : LiveSource)
      (c : LiveConnection)
      → at.source ≡ s → c ≡ record { id = id; source = t }
      → (f : LiveSource → Outcome LiveSource) → t ≡ state_of s (f s)
      → with_source_at place c R ≡ state_of S (at_source lives S id f)
  source_done id place at s t c own named f e =
      (λ i. with_source_at place (named i) R)
      ∙ (λ i. record R { connections = sym (at.put t) i })
      ∙ ap (λ x. with_live_connection id x R) (e ∙ ap (λ x. state_of x (f x)) (sym own))
      ∙ put_state (λ x. with_live_connection id x R) at.source R (f at.source) (source_stays R id place at)
      ∙ ap (λ x. state_of R (found x NoSuch >>= λ k. within (λ m. with_live_connection id m R) (f k))) (sym at.found)
      ∙ ap (λ x. state_of x (at_source lives x id f)) same

  pub both_done : (o lane_place : ℕ) → lane_place ≡ o → (l new : LiveLane)
      → slice_get R.lanes lane_place ≡ Some l
      → (id place : ℕ) (at : IsPlace id R.connections place) (s t : LiveSource) (c : LiveConnection)
      → at.source ≡ s → c ≡ record { id = id; source = t }
      → (f : LiveRelay → LiveSource → LiveLane → Outcome (LiveSource × LiveLane))
      → t ≡ (state_of (s, l) (f R s l)).0 → new ≡ (state_of (s, l) (f R s l)).1
      → with_both place c lane_place new R ≡ state_of S (at_both lives S id o (f S))
  both_done o lane_place at_o l new here id place at s t c own named f first second =
      let here_o : slice_get R.lanes o ≡ Some l = subst (λ k. slice_get R.lanes k ≡ Some l) at_o here in
      let put : LiveSource × LiveLane → LiveRelay = λ both. with_live_lane o both.1 (with_live_connection id both.0 R) in
      (λ i. with_both place (named i) (at_o i) new R)
      ∙ (λ i. record R { connections = sym (at.put t) i; lanes = slice_set R.lanes o new })
      ∙ (λ i. put (first i, second i))
      ∙ ap (λ x. put (state_of (x, l) (f R x l))) (sym own)
      ∙ put_state put (at.source, l) R (f R at.source l) (ap (with_live_lane o l) (source_stays R id place at) ∙ lane_stays R o l here_o)
      ∙ (λ i. state_of R (found (sym at.found i) NoSuch >>= λ x. found (sym here_o i) NoSuch >>= λ k. within put (f R x k)))
      ∙ ap (λ x. state_of x (at_both lives x id o (f x))) same

-- what stands at a place is what was read there
pub read_place : (id : ℕ) (cs : List LiveConnection) (place : ℕ) (at : IsPlace id cs place)
    (c : LiveConnection) → slice_get cs place ≡ Some c → (at.source ≡ c.source)
    × (c.id ≡ id)
read_place id cs place at c e =
    let both : Some (record { id = id; source = at.source }) ≡ Some c = sym at.here ∙ e in
    let one = same_Some (record { id = id; source = at.source }) c both in
    (ap (λ (x : LiveConnection). x.source) one, sym (ap (λ (x : LiveConnection). x.id) one))
