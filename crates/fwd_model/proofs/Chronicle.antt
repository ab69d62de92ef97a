-- What the events so far did to each session, each number and each request that an output has.
pub mod Sessions
pub mod Settles
pub mod Ends
pub mod Admits
pub mod Steps
use Rattle.std.proofs.Common.{◌≡◌, ℕ, ◌+◌, ◌≤◌, Bool, true, false, eqb, List, [], ◌∷◌, ◌++◌, Option, Some, refl, sym, ap, subst, ◌∙◌, inl, inr, arith}
use Rattle.std.specs.Prelude.{◌⊎◌, ◌<◌, length, is_some, map, ◌&&◌, ◌==◌, slice_get, slice_set}
use Rattle.std.specs.List.{list_all, list_any, AllByRecursion}
use Rattle.std.proofs.lemmas.Bool.Decides.{nat_tests}
use Rattle.std.proofs.lemmas.List.{append_assoc, append-nil}
use Rattle.fwd_modes.specs.Requests.{Request}
use Rattle.fwd_modes.specs.declared.origin.Origin.{Origin}
use Rattle.fwd_modes.specs.Frames.{chunk_frame, chunk_name}
use Rattle.fwd_chunks.specs.Cells.{Cell, cells_at, contents, entries_of, first_tag, has_number}
use Rattle.fwd_chunks.specs.History.{BufferHistory, CarriedChunk, carried_chunk_of}
use Rattle.fwd_chunks.proofs.CellLemmas.{has_cell}
use Rattle.fwd_chunks.proofs.News.{AreOf}
use Rattle.fwd_book.specs.History.{Entered, Admission, Fate, becomes}
use Rattle.fwd_model.specs.declared.config.Config.{Config}
use Rattle.fwd_model.specs.declared.event.Event.{Event}
use Rattle.fwd_model.specs.declared.event.Event.TheVariants as event
use Rattle.fwd_match.specs.Patterns.{route}
use Rattle.fwd_source.specs.History.{SourceHistory, judged}
use Rattle.fwd_model.specs.declared.answer.Answer.TheVariants as answer
use Rattle.fwd_model.specs.declared.event.EndKind.{EndKind}
use Rattle.fwd_session.specs.ServerAcks.{Accepted, frame_of}
use Rattle.fwd_session.specs.History.{Loaded, SessionHistory, IsFramed}
use Rattle.fwd_session.proofs.Lists.{all_same}
use Rattle.fwd_model.specs.Outcome.{state_of}
use Rattle.fwd_model.specs.Step.{step, after}
use Rattle.fwd_model.specs.History.{Connection, ever_at, source_at, with_source, with_gone, Lane, History, histories}
use Rattle.fwd_model.specs.Delivered.{reached, answered, NoneEnded, HasBegun, WasLoaded, WasSent, WasAcknowledged, cells_from}
use Rattle.fwd_model.proofs.Reached.{slice_get-set}
use Rattle.std.proofs.lemmas.Option.{same_Some}

-- ---- events are added at the end

pub after-push : (h : History) (es : List Event) (e : Event)
    → after histories h (es ++ e ∷ [])
    ≡ state_of (after histories h es) (step histories (after histories h es) e)
after-push h [] e = refl
after-push h (d ∷ es) e = after-push (state_of h (step histories h d)) es e

pub by_last : (P : List Event → Type 0) → P []
    → ((es : List Event) (e : Event) → P es → P (es ++ e ∷ [])) → (es : List Event)
    → P es
by_last P none more es = go [] es none
  where
    go : (done todo : List Event) → P done → P (done ++ todo)
    go done [] p = subst P (sym (append-nil done)) p
    go done (e ∷ todo) p = subst P (append_assoc done (e ∷ []) todo) (go (done ++ e ∷ []) todo (more done e p))

later_split : (es before : List Event) (x : Event) (later : List Event) (e : Event)
    → es ≡ before ++ x ∷ later → es ++ e ∷ [] ≡ before ++ x ∷ (later ++ e ∷ [])
later_split es before x later e h = ap (λ es. es ++ e ∷ []) h ∙ append_assoc before (x ∷ later) (e ∷ [])

-- a list with one more at its end, split somewhere: at that end, or before it
pub data LastSplit (later between : List Event) (x : Event) (rest : List Event) (e : Event) : Type 0 where
  AtEnd : later ≡ between → e ≡ x → LastSplit later between x rest e
  Before : (front : List Event) → later ≡ between ++ x ∷ front → LastSplit later between x rest e

cons_tails : {X : Type 0} {x y : X} {xs ys : List X} → x ∷ xs ≡ y ∷ ys → (x ≡ y)
    × (xs ≡ ys)
cons_tails h = (cc, cc)

last_split : (later between : List Event) (x : Event) (rest : List Event) (e : Event)
    → later ++ e ∷ [] ≡ between ++ x ∷ rest → LastSplit later between x rest e
last_split [] [] x rest e h = AtEnd refl (cons_tails h).0
last_split [] (b ∷ []) x rest e h = let no : [] ≡ x ∷ rest = (cons_tails h).1 in absurd cc
last_split [] (b ∷ c ∷ between) x rest e h = let no : [] ≡ c ∷ (between ++ x ∷ rest) = (cons_tails h).1 in absurd cc
last_split (d ∷ later) [] x rest e h = let head = (cons_tails h).0 in Before later (ap (λ y. y ∷ later) head)
last_split (d ∷ later) (b ∷ between) x rest e h = by (last_split later between x rest e (cons_tails h).1) (cons_tails h).0
  where
    by : LastSplit later between x rest e → d ≡ b → LastSplit (d ∷ later) (b ∷ between) x rest e
    by (AtEnd same is) head = AtEnd (λ i. head i ∷ same i) is
    by (Before front same) head = Before front (λ i. head i ∷ same i)

-- the event does not end a session of the worker
abbrev pub Stands : Config → List Event → Event → ℕ → ℕ → Type 0
Stands config es e o w = (kind : EndKind) (moment : ℕ) (numbers : List ℕ) → e ≡ event.End o w kind moment → answered config es e ≡ answer.Ended numbers → ⊥

-- the event ends no session of the output
abbrev pub Quiet : Config → List Event → Event → ℕ → Type 0
Quiet config es e o = (w : ℕ) → Stands config es e o w

module _ (config : Config) (es : List Event) (e : Event) where
  none_ended : (before later : List Event) (o w : ℕ) → es ≡ before ++ later → Stands config es e o w
      → NoneEnded config before later o w → NoneEnded config before (later ++ e ∷ []) o w
  none_ended before later o w split quiet none between rest kind moment numbers at done = by (last_split later between (event.End o w kind moment) rest e at)
    where
      by : LastSplit later between (event.End o w kind moment) rest e → ⊥
      by (AtEnd same is) =
          let here : es ≡ before ++ between = split ∙ ap (λ xs. before ++ xs) same in
          quiet kind moment numbers is ((λ i. answered config (here i) (is i)) ∙ done)
      by (Before front same) = none between front kind moment numbers same done

  -- behind one event more
  behind : (before : List Event) (x : Event) (later : List Event) → es ≡ before ++ x ∷ later
      → es ≡ (before ++ x ∷ []) ++ later
  behind before x later split = split ∙ sym (append_assoc before (x ∷ []) later)

  pub begun_still : (o w : ℕ) → Stands config es e o w → HasBegun config es o w
      → HasBegun config (es ++ e ∷ []) o w
  begun_still o w quiet b = record {
    before = b.before;
    server = b.server;
    salt = b.salt;
    moment = b.moment;
    later = b.later ++ e ∷ [];
    split = later_split es b.before (event.Up o w b.server b.salt b.moment) b.later e b.split;
    done = b.done;
    kept = none_ended (b.before ++ event.Up o w b.server b.salt b.moment ∷ []) b.later o w (behind b.before (event.Up o w b.server b.salt b.moment) b.later b.split) quiet b.kept;
  }

  pub loaded_still : (o w : ℕ) (frame : List ℕ) → Stands config es e o w
      → WasLoaded config es o w frame → WasLoaded config (es ++ e ∷ []) o w frame
  loaded_still o w frame quiet l = record {
    before = l.before;
    moment = l.moment;
    later = l.later ++ e ∷ [];
    split = later_split es l.before (event.Load o w l.moment) l.later e l.split;
    session = l.session;
    stands = l.stands;
    loads = l.loads;
    kept = none_ended (l.before ++ event.Load o w l.moment ∷ []) l.later o w (behind l.before (event.Load o w l.moment) l.later l.split) quiet l.kept;
    begun = l.begun;
  }

  pub sent_still : (o w : ℕ) (frame : List ℕ) → Stands config es e o w → WasSent config es o w frame
      → WasSent config (es ++ e ∷ []) o w frame
  sent_still o w frame quiet s = record {
    before = s.before;
    count = s.count;
    later = s.later ++ e ∷ [];
    split = later_split es s.before (event.Wrote o w s.count) s.later e s.split;
    done = s.done;
    session = s.session;
    stands = s.stands;
    loaded = s.loaded;
    taken = s.taken;
    kept = none_ended (s.before ++ event.Wrote o w s.count ∷ []) s.later o w (behind s.before (event.Wrote o w s.count) s.later s.split) quiet s.kept;
  }

  pub acked_still : (o w : ℕ) (frame name : List ℕ) → WasAcknowledged config es o w frame name
      → WasAcknowledged config (es ++ e ∷ []) o w frame name
  acked_still o w frame name a = record {
    before = a.before;
    bytes = a.bytes;
    later = a.later ++ e ∷ [];
    split = later_split es a.before (event.Heard o w a.bytes) a.later e a.split;
    session = a.session;
    stands = a.stands;
    is_up = a.is_up;
    value = a.value;
    place = a.place;
    ended = a.ended;
    names = a.names;
    sent = a.sent;
  }

-- ---- sessions and numbers

-- the frame of what stands under a number
abbrev pub frame_at : Config → ℕ → List Cell → ℕ → List ℕ
frame_at config o cells k = chunk_frame (first_tag (cells_at k cells)) (contents k cells) (chunk_name config.run o k)

-- the buffer is named for the run and the output
abbrev pub IsNamed : Config → ℕ → BufferHistory → Type 0
IsNamed config o b = (b.setting.run ≡ config.run) × (b.setting.output ≡ o)

-- that is the frame of the chunk
pub frame_is : (config : Config) (o k : ℕ) (b : BufferHistory) → IsNamed config o b
    → frame_of (carried_chunk_of b k) ≡ frame_at config o b.cells k
frame_is config o k b named = λ i. chunk_frame (first_tag (cells_at k b.cells)) (contents k b.cells) (chunk_name (named.0 i) (named.1 i) k)

-- a chunk's frame stands behind this front of what was appended, and its last byte is where the
-- chunk says
pub record IsPut (appended front : List ℕ) (l : Loaded) : Type 0 where
  pub back : List ℕ
  pub framed : appended ≡ front ++ frame_of l.chunk ++ back
  pub through : l.through ≡ length (front ++ frame_of l.chunk)

-- what was done with a chunk of a session that is not acknowledged, where these bytes were appended,
-- and so many were sent
pub record LoadedStory (config : Config) (es : List Event) (o w : ℕ) (appended : List ℕ) (sent : ℕ) (l : Loaded) : Type 0 where
  pub was_loaded : WasLoaded config es o w (frame_of l.chunk)
  pub put : IsPut appended was_loaded.session.appended l
  pub was_sent : l.through ≤ sent → WasSent config es o w (frame_of l.chunk)

-- one that is was acknowledged
abbrev pub AckedStory : Config → List Event → (o w : ℕ) → Accepted → Type 0
AckedStory config es o w a = WasAcknowledged config es o w (frame_of a.chunk) a.chunk.name

pub record SessionStory (config : Config) (es : List Event) (o w : ℕ) (s : SessionHistory) : Type 0 where
  pub begun : HasBegun config es o w
  pub framed : IsFramed s
  pub loaded : AllByRecursion (LoadedStory config es o w s.appended s.sent) s.carried
  pub acked : AllByRecursion (AckedStory config es o w) s.accepted

-- a worker had the number acknowledged
abbrev pub NumberStory : Config → List Event → ℕ → List Cell → ℕ → Type 0
NumberStory config es o cells k = (w : ℕ) × WasAcknowledged config es o w (frame_at config o cells k) (chunk_name config.run o k)

module _ (config : Config) (es : List Event) (e : Event) (o : ℕ) where
  -- also where more is appended
  pub loads_still : (w : ℕ) (appended more : List ℕ) (sent : ℕ) (ls : List Loaded)
      → Stands config es e o w → AllByRecursion (LoadedStory config es o w appended sent) ls
      → AllByRecursion (LoadedStory config (es ++ e ∷ []) o w (appended ++ more) sent) ls
  unfolding loaded_still
  loads_still w appended more sent ls quiet all = all_same (LoadedStory config es o w appended sent) (LoadedStory config (es ++ e ∷ []) o w (appended ++ more) sent) ls (λ l t. record {
    was_loaded = loaded_still config es e o w (frame_of l.chunk) quiet t.was_loaded;
    put = record {
      back = t.put.back ++ more;
      framed = ap (λ xs. xs ++ more) t.put.framed ∙ append_assoc (t.was_loaded.session.appended ++ frame_of l.chunk) t.put.back more;
      through = t.put.through;
    };
    was_sent = λ b. sent_still config es e o w (frame_of l.chunk) quiet (t.was_sent b);
  }) all

  pub acks_still : (w : ℕ) (xs : List Accepted) → AllByRecursion (AckedStory config es o w) xs
      → AllByRecursion (AckedStory config (es ++ e ∷ []) o w) xs
  acks_still w xs all = all_same (AckedStory config es o w) (AckedStory config (es ++ e ∷ []) o w) xs (λ a t. acked_still config es e o w (frame_of a.chunk) a.chunk.name t) all

  pub session_still : (w : ℕ) (s : SessionHistory) → Stands config es e o w
      → SessionStory config es o w s → SessionStory config (es ++ e ∷ []) o w s
  session_still w s quiet t = record {
    begun = begun_still config es e o w quiet t.begun;
    framed = t.framed;
    loaded = subst (λ xs. AllByRecursion (LoadedStory config (es ++ e ∷ []) o w xs s.sent) s.carried) (append-nil s.appended) (loads_still w s.appended [] s.sent s.carried quiet t.loaded);
    acked = acks_still w s.accepted t.acked;
  }

  pub number_still : (cells : List Cell) (k : ℕ) → NumberStory config es o cells k
      → NumberStory config (es ++ e ∷ []) o cells k
  number_still cells k n = (n.0, acked_still config es e o n.0 (frame_at config o cells k) (chunk_name config.run o k) n.1)

-- ---- requests

-- some entry is of this request
abbrev pub has_origin : ℕ → ℕ → List Cell → Bool
has_origin id r cells = list_any (λ c. (c.origin.conn == id) && (c.origin.request == r)) cells

-- the connection was accepted, and so many of its requests were admitted
abbrev pub Admitted : List Connection → ℕ → ℕ → Type 0
Admitted cs id r = (s : SourceHistory) × (ever_at id cs ≡ Some s) × (r ≤ s.admitted)

pub record RequestStory (routes : List (List (List ℕ))) (cs : List Connection) (o : ℕ) (cells : List Cell) (a : Entered) : Type 0 where
  pub request : Request
  pub place : ℕ
  pub source : SourceHistory
  pub mine : List Cell
  pub stands : ever_at a.origin.conn cs ≡ Some source
  pub nth : a.origin.request ≡ place + 1
  pub admitted : a.origin.request ≤ source.admitted
  pub asked : slice_get (judged source).requests place ≡ Some request
  pub first_match : route routes request.tag ≡ Some o
  pub own : cells_from a.origin.conn a.origin.request cells ≡ mine
  pub entries : entries_of mine ≡ request.entries
  pub tags : AreOf request.tag a.origin mine
  pub runs : (p : ℕ → Bool) (k : ℕ) → list_all (λ s. p s.number) a.spans ≡ true → has_cell k mine ≡ true → p k ≡ true
  pub needs : (p : ℕ → Bool) → ((k : ℕ) → has_cell k mine ≡ true → p k ≡ true) → list_all (λ s. p s.number) a.spans ≡ true

abbrev pub AllTold : List (List (List ℕ)) → List Connection → ℕ → List Cell
    → List Admission → Type 0
AllTold routes cs o cells [] = Unit {0}
AllTold routes cs o cells (a ∷ admissions) = RequestStory routes cs o cells a.request × AllTold routes cs o cells admissions

-- each of these requests of the connection has a greater number
abbrev pub AllAfter : Origin → List Admission → Type 0
AllAfter origin [] = Unit {0}
AllAfter origin (a ∷ admissions) = (a.request.origin.conn ≡ origin.conn → origin.request < a.request.origin.request) × AllAfter origin admissions

-- each of these requests of the connection has a smaller number
abbrev pub AllBefore : Origin → List Admission → Type 0
AllBefore origin [] = Unit {0}
AllBefore origin (a ∷ admissions) = (a.request.origin.conn ≡ origin.conn → a.request.origin.request < origin.request) × AllBefore origin admissions

-- a connection's requests were entered by rising number
abbrev pub AreNumbered : List Admission → Type 0
AreNumbered [] = Unit {0}
AreNumbered (a ∷ admissions) = AllAfter a.request.origin admissions × AreNumbered admissions

after-push-one : (origin : Origin) (admissions : List Admission) (a : Admission)
    → AllAfter origin admissions
    → (a.request.origin.conn ≡ origin.conn → origin.request < a.request.origin.request)
    → AllAfter origin (admissions ++ a ∷ [])
after-push-one origin [] a all one = (one, tt)
after-push-one origin (b ∷ admissions) a all one = (all.0, after-push-one origin admissions a all.1 one)

pub numbered-push : (admissions : List Admission) (a : Admission) → AreNumbered admissions
    → AllBefore a.request.origin admissions → AreNumbered (admissions ++ a ∷ [])
numbered-push [] a own before = (tt, tt)
numbered-push (b ∷ admissions) a own before = (after-push-one b.request.origin admissions a own.0 (λ same. before.0 (sym same)), numbered-push admissions a own.1 before.1)

-- what becomes of requests leaves their numbers
after-becomes : (fate : Fate) (p : Admission → Bool) (origin : Origin) (admissions : List Admission)
    → AllAfter origin admissions → AllAfter origin (map (λ a. becomes fate (p a) a) admissions)
after-becomes fate p origin [] all = tt
after-becomes fate p origin (a ∷ admissions) all = (one (p a), after-becomes fate p origin admissions all.1)
  where
    one : (b : Bool) → (becomes fate b a).request.origin.conn ≡ origin.conn → origin.request < (becomes fate b a).request.origin.request
    one true = all.0
    one false = all.0

pub numbered-becomes : (fate : Fate) (p : Admission → Bool) (admissions : List Admission)
    → AreNumbered admissions → AreNumbered (map (λ a. becomes fate (p a) a) admissions)
numbered-becomes fate p [] own = tt
numbered-becomes fate p (a ∷ admissions) own = (one (p a), numbered-becomes fate p admissions own.1)
  where
    one : (b : Bool) → AllAfter (becomes fate b a).request.origin (map (λ x. becomes fate (p x) x) admissions)
    one true = after-becomes fate p a.request.origin admissions own.0
    one false = after-becomes fate p a.request.origin admissions own.0

-- ---- outputs

pub record LaneStory (config : Config) (es : List Event) (cs : List Connection) (o : ℕ) (l : Lane) : Type 0 where
  pub sessions : (w : ℕ) (s : SessionHistory) → slice_get l.sessions w ≡ Some (Some s) → SessionStory config es o w s
  pub numbers : (k : ℕ) → has_number k l.output.buffer.acknowledged ≡ true → NumberStory config es o l.output.buffer.cells k
  pub own : (id r : ℕ) → has_origin id r l.output.buffer.cells ≡ true → Admitted cs id r
  pub requests : AllTold config.routes cs o l.output.buffer.cells l.output.book.admissions
  pub numbered : AreNumbered l.output.book.admissions
  pub named : IsNamed config o l.output.buffer

pub record Story (config : Config) (es : List Event) (h : History) : Type 0 where
  pub run : h.run ≡ config.run
  pub routes : h.routes ≡ config.routes
  pub lanes : (o : ℕ) (l : Lane) → slice_get h.lanes o ≡ Some l → LaneStory config es h.connections o l

-- ---- connections grow

-- more was admitted, and what was asked for stays
abbrev pub Grows : SourceHistory → SourceHistory → Type 0
Grows s t = (s.admitted ≤ t.admitted) × ((i : ℕ) (q : Request) → slice_get (judged s).requests i ≡ Some q → slice_get (judged t).requests i ≡ Some q)

abbrev pub Extends : List Connection → List Connection → Type 0
Extends cs ds = (id : ℕ) (s : SourceHistory) → ever_at id cs ≡ Some s → (t : SourceHistory) × (ever_at id ds ≡ Some t) × Grows s t

pub extends_same : (cs : List Connection) → Extends cs cs
extends_same cs id s h = (s, h, (omega arith, λ i q e. e))

pub ever_at-push : (id : ℕ) (cs : List Connection) (c : Connection) (s : SourceHistory)
    → ever_at id cs ≡ Some s → ever_at id (cs ++ c ∷ []) ≡ Some s
ever_at-push id [] c s h = absurd cc
ever_at-push id (d ∷ cs) c s h = grind (arith, nat_tests, ever_at-push id cs c s)

-- what is known was accepted
pub ever_from : (id : ℕ) (cs : List Connection) (s : SourceHistory) → source_at id cs ≡ Some s
    → ever_at id cs ≡ Some s
ever_from id [] s h = absurd cc
ever_from id (c ∷ cs) s h = grind (arith, nat_tests, ever_from id cs s)

ever_at-with_gone : (id j : ℕ) (cs : List Connection)
    → ever_at j (with_gone id cs) ≡ ever_at j cs
ever_at-with_gone id j [] = refl
ever_at-with_gone id j (c ∷ cs) = grind (arith, nat_tests, ever_at-with_gone id j cs)

pub extends_gone : (id : ℕ) (cs : List Connection) → Extends cs (with_gone id cs)
extends_gone id cs j s h = (s, ever_at-with_gone id j cs ∙ h, (omega arith, λ i q e. e))

pub extends_push : (cs : List Connection) (c : Connection) → Extends cs (cs ++ c ∷ [])
extends_push cs c id s h = (s, ever_at-push id cs c s h, (omega arith, λ i q e. e))

ever_at-with_same : (id : ℕ) (s t : SourceHistory) (cs : List Connection)
    → ever_at id cs ≡ Some s → ever_at id (with_source id t cs) ≡ Some t
ever_at-with_same id s t [] h = absurd cc
ever_at-with_same id s t (c ∷ cs) h = grind (arith, nat_tests, ever_at-with_same id s t cs)

ever_at-with_other : (id j : ℕ) (t : SourceHistory) (cs : List Connection) → eqb id j ≡ false
    → ever_at j (with_source id t cs) ≡ ever_at j cs
ever_at-with_other id j t [] d = refl
ever_at-with_other id j t (c ∷ cs) d = grind (arith, nat_tests, ever_at-with_other id j t cs d)

pub extends_with : (id : ℕ) (s t : SourceHistory) (cs : List Connection)
    → ever_at id cs ≡ Some s → Grows s t → Extends cs (with_source id t cs)
extends_with id s t cs here grows j u h = by_test (eqb id j) refl
  where
    by_test : (b : Bool) → eqb id j ≡ b
        → (v : SourceHistory) × (ever_at j (with_source id t cs) ≡ Some v) × Grows u v
    by_test true e =
        let same : id ≡ j = grind (arith, nat_tests, e) in
        let is : s ≡ u = same_Some _ _ (sym here ∙ ap (λ x. ever_at x cs) same ∙ h) in
        (t, subst (λ x. ever_at x (with_source id t cs) ≡ Some t) same (ever_at-with_same id s t cs here), subst (λ x. Grows x t) is grows)
    by_test false e = (u, ever_at-with_other id j t cs e ∙ h, (omega arith, λ i q f. f))

pub admitted_still : (cs ds : List Connection) (id r : ℕ) → Extends cs ds → Admitted cs id r
    → Admitted ds id r
admitted_still cs ds id r ext a =
    let g = ext id a.0 a.1 in
    (g.0, g.1, omega (arith, a.2, g.2.0))

pub request_still : (routes : List (List (List ℕ))) (cs ds : List Connection) (o : ℕ)
    (cells : List Cell) (a : Entered) → Extends cs ds → RequestStory routes cs o cells a
    → RequestStory routes ds o cells a
request_still routes cs ds o cells a ext t =
    let g = ext a.origin.conn t.source t.stands in
    record {
      request = t.request;
      place = t.place;
      source = g.0;
      mine = t.mine;
      stands = g.1;
      nth = t.nth;
      admitted = omega (arith, t.admitted, g.2.0);
      asked = g.2.1 t.place t.request t.asked;
      first_match = t.first_match;
      own = t.own;
      entries = t.entries;
      tags = t.tags;
      runs = t.runs;
      needs = t.needs;
    }

pub all_still : (routes : List (List (List ℕ))) (cs ds : List Connection) (o : ℕ)
    (cells : List Cell) (admissions : List Admission) → Extends cs ds
    → AllTold routes cs o cells admissions → AllTold routes ds o cells admissions
all_still routes cs ds o cells [] ext all = tt
all_still routes cs ds o cells (a ∷ admissions) ext all = (request_still routes cs ds o cells a.request ext all.0, all_still routes cs ds o cells admissions ext all.1)

pub lane_still : (config : Config) (es : List Event) (e : Event) (cs ds : List Connection) (o : ℕ)
    (l : Lane) → Extends cs ds → Quiet config es e o → LaneStory config es cs o l
    → LaneStory config (es ++ e ∷ []) ds o l
lane_still config es e cs ds o l ext quiet t = record {
  sessions = λ w s h. session_still config es e o w s (quiet w) (t.sessions w s h);
  numbers = λ k h. number_still config es e o l.output.buffer.cells k (t.numbers k h);
  own = λ id r h. admitted_still cs ds id r ext (t.own id r h);
  requests = all_still config.routes cs ds o l.output.buffer.cells l.output.book.admissions ext t.requests;
  numbered = t.numbered;
  named = t.named;
}

-- ---- an event that leaves the outputs, and one that changes one of them

abbrev pub with_parts : History → List Connection → List Lane → History
with_parts h cs ls = record h { connections = cs; lanes = ls }

module _ (config : Config) (es : List Event) (e : Event) (t : Story config es (reached config es)) where
  abbrev h : History
  h = reached config es

  -- the event ends no session of any output
  abbrev pub Calm : Type 0
  Calm = (o : ℕ) → Quiet config es e o

  pub still : (ds : List Connection) (o : ℕ) (l : Lane) → Extends h.connections ds
      → Quiet config es e o → slice_get h.lanes o ≡ Some l → LaneStory config (es ++ e ∷ []) ds o l
  still ds o l ext quiet here = lane_still config es e h.connections ds o l ext quiet (t.lanes o l here)

  pub lanes_stay : (ds : List Connection) → Calm → Extends h.connections ds
      → Story config (es ++ e ∷ []) (with_parts h ds h.lanes)
  lanes_stay ds calm ext = record { run = t.run; routes = t.routes; lanes = λ o l here. still ds o l ext (calm o) here }

  pub all_stays : Calm → Story config (es ++ e ∷ []) h
  all_stays calm = lanes_stay h.connections calm (extends_same h.connections)

  pub lane_put : (ds : List Connection) (o : ℕ) (m : Lane)
      → ((j : ℕ) → (o ≡ j → ⊥) → Quiet config es e j) → Extends h.connections ds
      → LaneStory config (es ++ e ∷ []) ds o m
      → Story config (es ++ e ∷ []) (with_parts h ds (slice_set h.lanes o m))
  lane_put ds o m calm ext story = record { run = t.run; routes = t.routes; lanes = λ j l here. at j l (slice_get-set h.lanes o j m l here) }
    where
      at : (j : ℕ) (l : Lane) → ((o ≡ j) × (m ≡ l)) ⊎ ((o ≡ j → ⊥) × (slice_get h.lanes j ≡ Some l))
          → LaneStory config (es ++ e ∷ []) ds j l
      at j l (inl x) = subst (λ k. LaneStory config (es ++ e ∷ []) ds k l) x.0 (subst (λ y. LaneStory config (es ++ e ∷ []) ds o y) x.1 story)
      at j l (inr x) = still ds j l ext (calm j x.0) x.1
