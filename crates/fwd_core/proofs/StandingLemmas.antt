-- What a relay shows stays the live part of a history that a run reaches.
use Rattle.std.proofs.Common.{◌≡◌, ◌++◌, ◌∷◌, [], refl, sym, ap, ◌∙◌}
use Rattle.fwd_model.specs.declared.config.Config.{Config}
use Rattle.fwd_model.specs.declared.event.Event.{Event}
use Rattle.fwd_model.specs.Outcome.{Outcome, Stays, Goes, state_of, within}
use Rattle.fwd_model.specs.Step.{step}
use Rattle.fwd_model.specs.History.{History, IsReached, histories, opening}
use Rattle.fwd_model.specs.Live.{LiveRelay, live, lives}
use Rattle.fwd_model.proofs.Chronicle.{after-push}
use Rattle.fwd_core.specs.Standing.{IsStanding}

-- what an outcome leaves, seen through a function
state-within : {S T : Type 0} (f : S → T) (s : S) (x : Outcome S)
    → state_of (f s) (within f x) ≡ f (state_of s x)
state-within f s (Stays a) = refl
state-within f s (Goes a t) = refl

pub standing-opening : (r : LiveRelay) (config : Config) → r ≡ live (opening config) → IsStanding r
standing-opening r config same = record { config = config; history = opening config; reached = ([], refl); is = same }

pub standing-next : (law : (config : Config) (h : History) (e : Event) → IsReached config h → within live (step histories h e) ≡ step lives (live h) e)
    (r s : LiveRelay) (e : Event) → IsStanding r → s ≡ state_of r (step lives r e) → IsStanding s
standing-next law r s e t next = record {
  config = t.config;
  history = state_of t.history (step histories t.history e);
  reached = (
    t.reached.0 ++ e ∷ [],
    after-push (opening t.config) t.reached.0 e ∙ ap (λ (h : History). state_of h (step histories h e)) t.reached.1,
  );
  is = next ∙ ap (λ (x : LiveRelay). state_of x (step lives x e)) t.is
      ∙ ap (state_of (live t.history)) (sym (law t.config t.history e t.reached))
      ∙ state-within live t.history (step histories t.history e);
}
