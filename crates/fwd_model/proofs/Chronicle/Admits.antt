-- What an admitted request adds to the chronicle.
use Rattle.std.proofs.Common.{◌≡◌, ℕ, ◌+◌, ◌≤◌, Bool, true, false, cond, eqb, List, [], ◌∷◌, ◌++◌, Some, refl, sym, ap, subst, ◌∙◌, inl, inr, arith}
use Rattle.std.specs.Prelude.{◌⊎◌, ◌<◌, ◌&&◌, ◌||◌, ◌==◌, slice_get}
use Rattle.std.proofs.lemmas.Bool.Decides.{nat_tests}
use Rattle.std.proofs.lemmas.List.{append-nil}
use Rattle.std.proofs.lemmas.List.Elements.{filter-append}
use Rattle.fwd_modes.specs.Requests.{Request}
use Rattle.fwd_modes.specs.Frames.{chunk_frame, chunk_name}
use Rattle.fwd_match.specs.Patterns.{route}
use Rattle.fwd_modes.specs.declared.origin.Origin.{Origin}
use Rattle.fwd_source.specs.History.{SourceHistory, judged}
use Rattle.fwd_chunks.specs.Cells.{Cell, cells_at, entries_of, first_tag, has_number}
use Rattle.fwd_chunks.specs.History.{BufferHistory, looks, enters as buffer_enters, spans_of}
use Rattle.fwd_chunks.proofs.News.{AreOf, news, enters-cells, enters-setting, acked-stays, news-entries, news-own, spans-give, spans-need}
use Rattle.fwd_book.specs.History.{Entered, Untold, Admission, entered_as}
use Rattle.fwd_model.specs.declared.config.Config.{Config}
use Rattle.fwd_model.specs.declared.event.Event.{Event}
use Rattle.fwd_model.specs.Outputs.{output_history_enters}
use Rattle.fwd_model.specs.History.{Connection, ever_at, Lane, with_output}
use Rattle.fwd_model.specs.Delivered.{cells_from, WasAcknowledged}
use Rattle.fwd_model.proofs.Reached.{IsSaneLane}
use Rattle.fwd_model.proofs.Chronicle.{Quiet, frame_at, has_origin, Admitted, RequestStory, AllTold, LaneStory, Extends, AllBefore, numbered-push, admitted_still, lane_still}
use Rattle.std.proofs.lemmas.Option.{same_Some}

-- ---- whose the new cells are

module _ (tag : List ℕ) (origin : Origin) where
  new_origin-by : (id r : ℕ) (c : Cell) (rest a b : Bool) → c.origin ≡ origin
      → eqb c.origin.conn id ≡ a → eqb c.origin.request r ≡ b
      → (rest ≡ true → (origin.conn ≡ id) × (origin.request ≡ r)) → ((a && b) || rest) ≡ true
      → (origin.conn ≡ id) × (origin.request ≡ r)
  new_origin-by id r c rest true true own f g later h =
      let conn : c.origin.conn ≡ id = grind (arith, nat_tests, f) in
      let request : c.origin.request ≡ r = grind (arith, nat_tests, g) in
      (ap (λ o. o.conn) (sym own) ∙ conn, ap (λ o. o.request) (sym own) ∙ request)
  new_origin-by id r c rest true false own f g later h = later h
  new_origin-by id r c rest false b own f g later h = later h

  new_origin : (id r : ℕ) (cells : List Cell) → AreOf tag origin cells
      → has_origin id r cells ≡ true → (origin.conn ≡ id) × (origin.request ≡ r)
  new_origin id r [] all h = absurd cc
  new_origin id r (c ∷ cells) all h = new_origin-by id r c (has_origin id r cells) (eqb c.origin.conn id) (eqb c.origin.request r) all.1 refl refl (λ g. new_origin id r cells all.2 g) h

  all_own : (cells : List Cell) → AreOf tag origin cells
      → cells_from origin.conn origin.request cells ≡ cells
  all_own [] all = refl
  all_own (c ∷ cells) all =
      let conn : eqb c.origin.conn origin.conn ≡ true = grind (arith, nat_tests, ap (λ o. o.conn) all.1) in
      let request : eqb c.origin.request origin.request ≡ true = grind (arith, nat_tests, ap (λ o. o.request) all.1) in
      (λ i. cond (conn i && request i) (c ∷ cells_from origin.conn origin.request cells) (cells_from origin.conn origin.request cells)) ∙ ap (λ cs. c ∷ cs) (all_own cells all.2)

  none_of_another : (id r : ℕ) (cells : List Cell) → AreOf tag origin cells
      → (origin.conn ≡ id → origin.request ≡ r → ⊥) → cells_from id r cells ≡ []
  none_of_another id r [] all other = refl
  none_of_another id r (c ∷ cells) all other = by (none_of_another id r cells all.2 other) (eqb c.origin.conn id) (eqb c.origin.request r) refl refl
    where
      by : cells_from id r cells ≡ [] → (a b : Bool) → eqb c.origin.conn id ≡ a
          → eqb c.origin.request r ≡ b
          → cond (a && b) (c ∷ cells_from id r cells) (cells_from id r cells) ≡ []
      by none true true f g =
          let conn : c.origin.conn ≡ id = grind (arith, nat_tests, f) in
          let request : c.origin.request ≡ r = grind (arith, nat_tests, g) in
          absurd (other (ap (λ o. o.conn) (sym all.1) ∙ conn) (ap (λ o. o.request) (sym all.1) ∙ request))
      by none true false f g = none
      by none false b f g = none

none_yet : (id r : ℕ) (cells : List Cell) → has_origin id r cells ≡ false
    → cells_from id r cells ≡ []
none_yet id r [] h = refl
none_yet id r (c ∷ cells) h = grind (arith, nat_tests, none_yet id r cells)

has_origin-append : (id r : ℕ) (xs ys : List Cell)
    → has_origin id r (xs ++ ys) ≡ (has_origin id r xs || has_origin id r ys)
has_origin-append id r [] ys = refl
has_origin-append id r (c ∷ xs) ys = grind (arith, nat_tests, has_origin-append id r xs ys)

-- ---- frames stay where a number is settled or carried

frame_same : (config : Config) (o k : ℕ) (xs ys : List Cell) → cells_at k ys ≡ cells_at k xs
    → frame_at config o xs k ≡ frame_at config o ys k
frame_same config o k xs ys same = λ i. chunk_frame (first_tag (sym same i)) (entries_of (sym same i)) (chunk_name config.run o k)

-- ---- an output with one more request

module _ (config : Config) (es : List Event) (e : Event) (cs ds : List Connection) (o : ℕ) (l : Lane) (id number now : ℕ) (q : Request) where
  abbrev origin : Origin
  origin = record { conn = id; request = number }

  abbrev buffer : BufferHistory
  buffer = l.output.buffer

  abbrev more : List Cell
  more = news buffer origin q now

  abbrev all : List Cell
  all = (buffer_enters buffer origin q now).cells

  more_own : AreOf q.tag origin more
  more_own = news-own q.entries (looks buffer now) q.tag origin

  -- the cells of a request
  from_all : (i r : ℕ) → cells_from i r all ≡ cells_from i r buffer.cells ++ cells_from i r more
  from_all i r = ap (cells_from i r) (enters-cells buffer origin q now) ∙ filter-append (λ c. (c.origin.conn == i) && (c.origin.request == r)) buffer.cells more

  request_moves : (a : Entered) → (a.origin.conn ≡ id → a.origin.request ≡ number → ⊥)
      → RequestStory config.routes ds o buffer.cells a → RequestStory config.routes ds o all a
  request_moves a other t = record {
    request = t.request;
    place = t.place;
    source = t.source;
    mine = t.mine;
    stands = t.stands;
    nth = t.nth;
    admitted = t.admitted;
    asked = t.asked;
    first_match = t.first_match;
    own = from_all a.origin.conn a.origin.request
        ∙ ap (λ xs. cells_from a.origin.conn a.origin.request buffer.cells ++ xs) (none_of_another q.tag origin a.origin.conn a.origin.request more more_own (λ f g. other (sym f) (sym g)))
        ∙ append-nil (cells_from a.origin.conn a.origin.request buffer.cells) ∙ t.own;
    entries = t.entries;
    tags = t.tags;
    runs = t.runs;
    needs = t.needs;
  }

  -- the connection of a request that was entered before had admitted it
  was_before : (s : SourceHistory) → ever_at id cs ≡ Some s → number ≡ s.admitted + 1
      → (a : Entered) → RequestStory config.routes cs o buffer.cells a → a.origin.conn ≡ id
      → a.origin.request ≡ number → ⊥
  was_before s here is a t f g =
      let same : t.source ≡ s = same_Some _ _ (sym t.stands ∙ ap (λ x. ever_at x cs) f ∙ here) in
      let le : a.origin.request ≤ s.admitted = subst (λ x. a.origin.request ≤ x.admitted) same t.admitted in
      omega (arith, le, g, is)

  -- its number is above those of all that its connection asked for before
  all_before : (s : SourceHistory) → ever_at id cs ≡ Some s → number ≡ s.admitted + 1
      → (admissions : List Admission) → AllTold config.routes cs o buffer.cells admissions
      → AllBefore origin admissions
  all_before s here is [] told = tt
  all_before s here is (a ∷ admissions) told = (below, all_before s here is admissions told.1)
    where
      below : a.request.origin.conn ≡ id → a.request.origin.request < number
      below f =
          let same : told.0.source ≡ s = same_Some _ _ (sym told.0.stands ∙ ap (λ x. ever_at x cs) f ∙ here) in
          let le : a.request.origin.request ≤ s.admitted = subst (λ x. a.request.origin.request ≤ x.admitted) same told.0.admitted in
          omega (arith, le, is)

  all_move : (s : SourceHistory) → ever_at id cs ≡ Some s → number ≡ s.admitted + 1
      → (admissions : List Admission) → AllTold config.routes cs o buffer.cells admissions
      → AllTold config.routes ds o buffer.cells admissions
      → AllTold config.routes ds o all admissions
  all_move s here is [] old still = tt
  all_move s here is (a ∷ admissions) old still = (request_moves a.request (was_before s here is a.request old.0) still.0, all_move s here is admissions old.1 still.1)

  all_push : (admissions : List Admission) (a : Admission)
      → AllTold config.routes ds o all admissions → RequestStory config.routes ds o all a.request
      → AllTold config.routes ds o all (admissions ++ a ∷ [])
  all_push [] a told one = (one, tt)
  all_push (b ∷ admissions) a told one = (told.0, all_push admissions a told.1 one)

  -- the request that is entered
  abbrev entered : Entered
  entered = entered_as q origin (spans_of buffer origin q now)

  enters : (s t : SourceHistory) → ever_at id cs ≡ Some s → number ≡ s.admitted + 1
      → ever_at id ds ≡ Some t → t.admitted ≡ s.admitted + 1
      → slice_get (judged t).requests s.admitted ≡ Some q → route config.routes q.tag ≡ Some o
      → ((i r : ℕ) → has_origin i r buffer.cells ≡ true → Admitted cs i r)
      → RequestStory config.routes ds o all entered
  enters s t here is there grown asked first own = record {
    request = q;
    place = s.admitted;
    source = t;
    mine = more;
    stands = there;
    nth = is;
    admitted = omega (arith, is, grown);
    asked = asked;
    first_match = first;
    own = from_all id number ∙ (λ i. none_yet id number buffer.cells unseen i ++ all_own q.tag origin more more_own i);
    entries = news-entries q.entries (looks buffer now) q.tag origin;
    tags = more_own;
    runs = λ p k settled has. spans-give p buffer origin q now k settled has;
    needs = λ p all. spans-need p buffer origin q now all;
  }
    where
      seen : (b : Bool) → has_origin id number buffer.cells ≡ b → b ≡ false
      seen true e =
          let a = own id number e in
          let same : a.0 ≡ s = same_Some _ _ (sym a.1 ∙ here) in
          let le : number ≤ s.admitted = subst (λ x. number ≤ x.admitted) same a.2 in
          absurd (omega (arith, le, is))
      seen false e = refl

      unseen : has_origin id number buffer.cells ≡ false
      unseen = seen (has_origin id number buffer.cells) refl

  pub lane_enters : (s t : SourceHistory) → IsSaneLane l → Extends cs ds → Quiet config es e o
      → LaneStory config es cs o l → ever_at id cs ≡ Some s → number ≡ s.admitted + 1
      → ever_at id ds ≡ Some t → t.admitted ≡ s.admitted + 1
      → slice_get (judged t).requests s.admitted ≡ Some q → route config.routes q.tag ≡ Some o
      → LaneStory config (es ++ e ∷ []) ds o
      (with_output l
      (output_history_enters l.output (record { conn = id; request = number }) q now))
  lane_enters s t sane ext quiet story here is there grown asked first =
      let still = lane_still config es e cs ds o l ext quiet story in
      let setting = enters-setting buffer origin q now in record {
        sessions = still.sessions;
        numbers = λ k h. let n = still.numbers k (subst (λ ns. has_number k ns ≡ true) (enters_acknowledged) h) in
            (n.0, subst (λ f. WasAcknowledged config (es ++ e ∷ []) o n.0 f (chunk_name config.run o k)) (frame_same config o k buffer.cells all (acked-stays buffer origin q now k sane.buffer (subst (λ ns. has_number k ns ≡ true) (enters_acknowledged) h))) n.1);
        own = λ i r h. by i r (either (has_origin i r buffer.cells) (has_origin i r more) (sym (ap (has_origin i r) (enters-cells buffer origin q now) ∙ has_origin-append i r buffer.cells more) ∙ h));
        requests = all_push l.output.book.admissions (record { request = entered; fate = Untold }) (all_move s here is l.output.book.admissions story.requests still.requests) (enters s t here is there grown asked first story.own);
        numbered = numbered-push l.output.book.admissions (record { request = entered; fate = Untold }) story.numbered (all_before s here is l.output.book.admissions story.requests);
        named = (ap (λ x. x.run) setting ∙ story.named.0, ap (λ x. x.output) setting ∙ story.named.1);
      }
    where
      enters_acknowledged : (buffer_enters buffer origin q now).acknowledged ≡ buffer.acknowledged
      enters_acknowledged = Rattle.fwd_chunks.proofs.News.enters-acknowledged buffer origin q now

      either : (a b : Bool) → (a || b) ≡ true → (a ≡ true) ⊎ (b ≡ true)
      either true b h = inl refl
      either false b h = inr h

      by : (i r : ℕ) → (has_origin i r buffer.cells ≡ true) ⊎ (has_origin i r more ≡ true)
          → Admitted ds i r
      by i r (inl h) = admitted_still cs ds i r ext (story.own i r h)
      by i r (inr h) =
          let n = new_origin q.tag origin i r more more_own h in
          (t, subst (λ x. ever_at x ds ≡ Some t) n.0 there, omega (arith, n.1, is, grown))
