-- What the end of a session adds to the chronicle: its worker has none any more, and what its
-- output was told stays.
use Rattle.std.proofs.Common.{◌≡◌, ℕ, List, [], ◌∷◌, ◌++◌, Option, Some, None, sym, ap, subst, ◌∙◌, inl, inr}
use Rattle.std.specs.Prelude.{◌⊎◌, slice_get}
use Rattle.fwd_chunks.specs.Cells.{has_number}
use Rattle.fwd_session.specs.History.{SessionHistory}
use Rattle.fwd_model.specs.declared.config.Config.{Config}
use Rattle.fwd_model.specs.declared.event.Event.{Event}
use Rattle.fwd_model.specs.declared.event.Event.TheVariants as event
use Rattle.fwd_model.specs.declared.event.EndKind.{EndKind}
use Rattle.fwd_model.specs.Outputs.{Return, output_history_ends}
use Rattle.fwd_model.specs.History.{Connection, Lane, with_output, with_place}
use Rattle.fwd_model.proofs.Reached.{slice_get-set}
use Rattle.fwd_model.proofs.Follows.Ends.{Keeps, back-keeps}
use Rattle.fwd_model.proofs.Chronicle.{Stands, SessionStory, NumberStory, AllTold, has_origin, LaneStory, session_still, number_still}

none_some : {X : Type 0} {x : X} → None ≡ Some x → ⊥
none_some e = cc

pub lane_ends : (config : Config) (es : List Event) (cs : List Connection) (o w : ℕ)
    (kind : EndKind) (now : ℕ) (l : Lane) (back : List Return) (server : Option ℕ)
    → LaneStory config es cs o l
    → LaneStory config (es ++ event.End o w kind now ∷ []) cs o
    (with_place w None (with_output l (output_history_ends l.output back server now)))
lane_ends config es cs o w kind now l back server t = record {
  sessions = λ j u h. at j u (slice_get-set l.sessions w j None (Some u) h);
  numbers = λ k h. subst (λ cells. NumberStory config (es ++ e ∷ []) o cells k) (sym keeps.cells)
      (number_still config es e o l.output.buffer.cells k (t.numbers k (ap (has_number k) (sym keeps.acknowledged) ∙ h)));
  own = λ id r h. t.own id r (ap (has_origin id r) (sym keeps.cells) ∙ h);
  requests = subst (λ cells. AllTold config.routes cs o cells l.output.book.admissions) (sym keeps.cells) t.requests;
  numbered = t.numbered;
  named = (ap (λ s. s.run) keeps.setting ∙ t.named.0, ap (λ s. s.output) keeps.setting ∙ t.named.1);
}
  where
    e : Event
    e = event.End o w kind now

    keeps : Keeps l.output.buffer (output_history_ends l.output back server now).buffer
    keeps = back-keeps l.output.buffer now back

    another : (j : ℕ) → (w ≡ j → ⊥) → Stands config es e o j
    another j differ kind' moment numbers is done = differ cc

    at : (j : ℕ) (u : SessionHistory)
        → ((w ≡ j) × (None ≡ Some u)) ⊎ ((w ≡ j → ⊥) × (slice_get l.sessions j ≡ Some (Some u)))
        → SessionStory config (es ++ e ∷ []) o j u
    at j u (inl x) = absurd (none_some x.1)
    at j u (inr x) = session_still config es e o j u (another j x.0) (t.sessions j u x.1)
