-- The request that waits first at a connection was never entered before.
use Rattle.std.proofs.Common.{◌≡◌, ℕ, ◌+◌, ◌≤◌, Bool, true, false, cond, eqb, List, [], ◌∷◌, Option, Some, None, refl, sym, ap, subst, ◌∙◌, arith}
use Rattle.std.specs.Prelude.{map, filter, ◌&&◌, option_map, slice_get}
use Rattle.std.proofs.lemmas.Bool.Decides.{nat_tests}
use Rattle.std.proofs.lemmas.Option.{slice_get-map}
use Rattle.fwd_modes.specs.declared.origin.Origin.{Origin}
use Rattle.fwd_chunks.specs.Cells.{Cell}
use Rattle.fwd_source.specs.History.{SourceHistory}
use Rattle.fwd_source.specs.Live.{LiveSource, live_source}
use Rattle.fwd_book.specs.History.{Entered, Admission, is_untold, is_origin, request_at, untold}
use Rattle.fwd_book.specs.Live.{live_book}
use Rattle.fwd_model.specs.declared.config.Config.{Config}
use Rattle.fwd_model.specs.Outputs.{live_output}
use Rattle.fwd_model.specs.History.{Connection, ever_at, source_at, Lane, History, IsReached}
use Rattle.fwd_model.specs.Delivered.{reached}
use Rattle.fwd_model.specs.Live.{LiveLane, live, live_lane, live_source_at}
use Rattle.fwd_model.proofs.Follows.{live_source_here, reached_sane}
use Rattle.fwd_model.proofs.Chronicle.{RequestStory, AllTold, ever_from}
use Rattle.fwd_model.proofs.Deliver.{every_story}
use Rattle.std.proofs.lemmas.Option.{same_Some}

module _ (routes : List (List (List ℕ))) (cs : List Connection) (o : ℕ) (all : List Cell) (id : ℕ) (s : SourceHistory) (here : ever_at id cs ≡ Some s) where
  abbrev first : Origin
  first = record { conn = id; request = s.admitted + 1 }

  another : (q : Entered) → RequestStory routes cs o all q → is_origin first q.origin ≡ false
  another q t = by (eqb id q.origin.conn) (eqb (s.admitted + 1) q.origin.request) refl refl
    where
      by : (a b : Bool) → eqb id q.origin.conn ≡ a → eqb (s.admitted + 1) q.origin.request ≡ b
          → is_origin first q.origin ≡ false
      by true true conn number =
          let same_conn : q.origin.conn ≡ id = grind (arith, nat_tests, conn) in
          let same_number : q.origin.request ≡ s.admitted + 1 = grind (arith, nat_tests, number) in
          let same : t.source ≡ s = same_Some _ _ (sym t.stands ∙ ap (λ x. ever_at x cs) same_conn ∙ here) in
          let le : q.origin.request ≤ s.admitted = subst (λ x. q.origin.request ≤ x.admitted) same t.admitted in
          absurd (omega (arith, le, same_number))
      by true false conn number = λ i. conn i && number i
      by false b conn number = λ i. conn i && eqb (s.admitted + 1) q.origin.request

  none_of : (admissions : List Admission) → AllTold routes cs o all admissions
      → request_at (map (λ a. a.request) (filter (λ a. is_untold a.fate) admissions)) first ≡ None
  none_of [] told = refl
  none_of (a ∷ admissions) told = by (is_untold a.fate) (none_of admissions told.1)
    where
      by : (b : Bool)
          → request_at (map (λ a. a.request) (filter (λ a. is_untold a.fate) admissions)) first ≡ None
          → request_at (map (λ (x : Admission). x.request) (cond b (a ∷ filter (λ x. is_untold x.fate) admissions) (filter (λ x. is_untold x.fate) admissions))) first ≡ None
      by true rest =
          ap (λ b. cond b (Some a.request) (request_at (map (λ (x : Admission). x.request) (filter (λ x. is_untold x.fate) admissions)) first)) (another a.request told.0) ∙ rest
      by false rest = rest

-- in the history
pub first-new : (config : Config) (h : History) (id o : ℕ) (s : SourceHistory) (l : Lane)
    → IsReached config h → source_at id h.connections ≡ Some s → slice_get h.lanes o ≡ Some l
    → request_at (untold l.output.book) (record { conn = id; request = s.admitted + 1 }) ≡ None
first-new config h id o s l (es, is) stands here =
    let story = every_story config es in
    let at : slice_get (reached config es).lanes o ≡ Some l = subst (λ (k : History). slice_get k.lanes o ≡ Some l) (sym is) here in
    let known : source_at id (reached config es).connections ≡ Some s = subst (λ (k : History). source_at id k.connections ≡ Some s) (sym is) stands in
    none_of config.routes (reached config es).connections o l.output.buffer.cells id s (ever_from id (reached config es).connections s known) l.output.book.admissions (story.lanes o l at).requests

mapped : {X Y : Type 0} (f : X → Y) (o : Option X) (y : Y) → option_map f o ≡ Some y
    → (x : X) × (o ≡ Some x) × (f x ≡ y)
mapped f None y h = absurd cc
mapped f (Some x) y h = (x, refl, same_Some _ _ h)

admitted-live : (s : SourceHistory) → (live_source s).admitted ≡ s.admitted
unfolding live_source
admitted-live s = refl

requests-live : (l : Lane) → (live_lane l).output.book.requests ≡ untold l.output.book
unfolding live_lane live_output live_book
requests-live l = refl

lanes-live : (h : History) (o : ℕ) → slice_get (live h).lanes o ≡ option_map live_lane (slice_get h.lanes o)
unfolding live
lanes-live h o = slice_get-map live_lane h.lanes o

-- and in its live part
pub first-new-live : (config : Config) (h : History) (id o : ℕ) (s : LiveSource) (l : LiveLane)
    → IsReached config h → live_source_at id (live h).connections ≡ Some s
    → slice_get (live h).lanes o ≡ Some l
    → request_at l.output.book.requests (record { conn = id; request = s.admitted + 1 }) ≡ None
first-new-live config h id o s l is stands here =
    let t = mapped live_source (source_at id h.connections) s (sym (live_source_here h (reached_sane config h is) id) ∙ stands) in
    let m = mapped live_lane (slice_get h.lanes o) l (sym (lanes-live h o) ∙ here) in
    let requests : l.output.book.requests ≡ untold m.0.output.book = ap (λ (x : LiveLane). x.output.book.requests) (sym m.2) ∙ requests-live m.0 in
    let number : s.admitted ≡ t.0.admitted = ap (λ (x : LiveSource). x.admitted) (sym t.2) ∙ admitted-live t.0 in
    (λ i. request_at (requests i) (record { conn = id; request = number i + 1 }))
    ∙ first-new config h id o t.0 m.0 is t.1 m.1
