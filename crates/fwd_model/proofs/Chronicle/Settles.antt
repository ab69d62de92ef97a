-- What settling and telling add to the chronicle.
use Rattle.std.proofs.Common.{◌≡◌, ℕ, Bool, true, false, eqb, List, [], ◌∷◌, ◌++◌, Some, refl, sym, ap, subst, ◌∙◌, inl, inr}
use Rattle.std.specs.Prelude.{◌⊎◌, map, ◌||◌, slice_get, ◌&&◌}
use Rattle.fwd_chunks.specs.Cells.{Cell, has_number}
use Rattle.fwd_chunks.proofs.Numbers.{has_number-push}
use Rattle.fwd_model.specs.declared.config.Config.{Config}
use Rattle.fwd_model.specs.declared.event.Event.{Event}
use Rattle.fwd_modes.specs.Frames.{chunk_name}
use Rattle.fwd_chunks.specs.History.{BufferHistory, CarriedChunk}
use Rattle.fwd_session.specs.ServerAcks.{Accepted, frame_of, evidence_of}
use Rattle.fwd_session.specs.History as session
use Rattle.fwd_session.specs.History.{SessionHistory, first_in}
use Rattle.fwd_model.specs.Delivered.{WasAcknowledged}
use Rattle.fwd_model.proofs.Lists.{all_first}
use Rattle.fwd_model.proofs.Settling.{IsHis}
use Rattle.fwd_book.specs.History.{Fate, Told, Forgotten, Admission, BookHistory, is_untold, is_due, is_owed_to, becomes, leaves, tells_due, forgets_of}
use Rattle.fwd_model.specs.Outputs.{output_history_settles}
use Rattle.fwd_model.specs.History.{Connection, Lane, with_place, with_output, with_book}
use Rattle.fwd_model.proofs.Chronicle.{Quiet, IsNamed, frame_at, frame_is, LaneStory, NumberStory, RequestStory, AllTold, Extends, extends_same, lane_still, number_still, AckedStory, SessionStory, AreNumbered, numbered-becomes}
use Rattle.fwd_model.proofs.Chronicle.Sessions.{put_session, unloads}
use Rattle.std.proofs.lemmas.Bool.{eqb-true}

-- the number of an accepted acknowledgement was acknowledged
pub acked_number_is : (config : Config) (es : List Event) (o w : ℕ) (b : BufferHistory)
    (s : SessionHistory) (a : Accepted) → SessionStory config es o w s → IsHis b w a.chunk
    → IsNamed config o b → first_in s.accepted ≡ Some a
    → NumberStory config es o b.cells a.chunk.number
acked_number_is config es o w b s a t is named e =
    let c = a.chunk in
    let frame : frame_of c ≡ frame_at config o b.cells c.number = ap frame_of (sym is.same) ∙ frame_is config o c.number b named in
    let name : c.name ≡ chunk_name config.run o c.number = ap (λ (x : CarriedChunk). x.name) (sym is.same) ∙ (λ i. chunk_name (named.0 i) (named.1 i) c.number) in
    (w, subst (λ n. WasAcknowledged config es o w (frame_at config o b.cells c.number) n) name (subst (λ f. WasAcknowledged config es o w f c.name) frame (all_first (AckedStory config es o w) s.accepted a t.acked e)))

either : (a b : Bool) → (a || b) ≡ true → (a ≡ true) ⊎ (b ≡ true)
either true b h = inl refl
either false b h = inr h

pub lane_settles : (config : Config) (es : List Event) (e : Event) (cs : List Connection)
    (o w server : ℕ) (l : Lane) (s : SessionHistory) (a : Accepted)
    → slice_get l.sessions w ≡ Some (Some s) → IsHis l.output.buffer w a.chunk
    → first_in s.accepted ≡ Some a
    → Quiet config es e o → LaneStory config es cs o l
    → LaneStory config (es ++ e ∷ []) cs o (with_place w (Some (session.unloads s))
    (with_output l (output_history_settles l.output (evidence_of server a))))
lane_settles config es e cs o w server l s a here his is quiet t =
    let own = t.sessions w s here in
    let cells = l.output.buffer.cells in
    let k = a.chunk.number in
    let put = put_session config es e o cs l w (session.unloads s) quiet t (unloads config es o w e s (quiet w) own) in record {
      sessions = put.sessions;
      numbers = λ j h. elim (either (has_number j l.output.buffer.acknowledged) (eqb k j) (sym (has_number-push j k l.output.buffer.acknowledged) ∙ h)) [
        | inl x ↦ put.numbers j x
        | inr x ↦ subst (λ n. NumberStory config (es ++ e ∷ []) o cells n) (eqb-true k j x) (number_still config es e o cells k (acked_number_is config es o w l.output.buffer s a own his t.named is))
      ];
      own = put.own;
      requests = put.requests;
      numbered = put.numbered;
      named = put.named;
    }

one_becomes : (routes : List (List (List ℕ))) (cs : List Connection) (o : ℕ) (cells : List Cell)
    (fate : Fate) (b : Bool) (a : Admission) → RequestStory routes cs o cells a.request
    → RequestStory routes cs o cells (becomes fate b a).request
one_becomes routes cs o cells fate true a t = t
one_becomes routes cs o cells fate false a t = t

all_become : (routes : List (List (List ℕ))) (cs : List Connection) (o : ℕ) (cells : List Cell)
    (fate : Fate) (p : Admission → Bool) (admissions : List Admission)
    → AllTold routes cs o cells admissions
    → AllTold routes cs o cells (map (λ a. becomes fate (p a) a) admissions)
all_become routes cs o cells fate p [] all = tt
all_become routes cs o cells fate p (a ∷ admissions) all = (one_becomes routes cs o cells fate (p a) a all.0, all_become routes cs o cells fate p admissions all.1)

-- another book with the same requests
lane_becomes : (config : Config) (es : List Event) (e : Event) (cs ds : List Connection)
    (o : ℕ) (l : Lane) (b : BookHistory) → Extends cs ds → Quiet config es e o
    → LaneStory config es cs o l
    →
    (AllTold config.routes ds o l.output.buffer.cells l.output.book.admissions
    → AllTold config.routes ds o l.output.buffer.cells b.admissions)
    → (AreNumbered l.output.book.admissions → AreNumbered b.admissions)
    → LaneStory config (es ++ e ∷ []) ds o (with_book l b)
lane_becomes config es e cs ds o l b ext quiet t same rising =
    let still = lane_still config es e cs ds o l ext quiet t in record {
      sessions = still.sessions;
      numbers = still.numbers;
      own = still.own;
      requests = same still.requests;
      numbered = rising still.numbered;
      named = still.named;
    }

pub lane_tells : (config : Config) (es : List Event) (e : Event) (cs ds : List Connection)
    (o id : ℕ) (l : Lane) → Extends cs ds → Quiet config es e o
    → LaneStory config es cs o l
    → LaneStory config (es ++ e ∷ []) ds o (with_book l (tells_due l.output.book id))
unfolding leaves
lane_tells config es e cs ds o id l ext quiet t =
    lane_becomes config es e cs ds o l (tells_due l.output.book id) ext quiet t
    (λ all. all_become config.routes ds o l.output.buffer.cells Told (λ a. is_untold a.fate && is_due id l.output.book.settled a) l.output.book.admissions all)
    (λ own. numbered-becomes Told (λ a. is_untold a.fate && is_due id l.output.book.settled a) l.output.book.admissions own)

pub lane_forgets : (config : Config) (es : List Event) (e : Event) (cs : List Connection)
    (o id : ℕ) (l : Lane) → Quiet config es e o → LaneStory config es cs o l
    → LaneStory config (es ++ e ∷ []) cs o (with_book l (forgets_of l.output.book id))
unfolding leaves
lane_forgets config es e cs o id l quiet t =
    lane_becomes config es e cs cs o l (forgets_of l.output.book id) (extends_same cs) quiet t
    (λ all. all_become config.routes cs o l.output.buffer.cells Forgotten (λ a. is_untold a.fate && is_owed_to id a) l.output.book.admissions all)
    (λ own. numbered-becomes Forgotten (λ a. is_untold a.fate && is_owed_to id a) l.output.book.admissions own)
