-- What a relay answers to events one behind the other: which events of a run counted, those not
-- answered by out of memory; and where the memory that is left has no say.
use Rattle.std.specs.Prelude.{
  ◌≡◌,
  ◌≢◌,
  ◌⊎◌,
  ℕ,
  Bool,
  true,
  false,
  not,
  List,
  [],
  ◌∷◌,
  ◌++◌,
  Some,
  None,
  filter,
  slice_get,
  if◌then◌else◌,
}
use Rattle.fwd_msgpack.specs.Scans.{Bad, first_of}
use Rattle.fwd_msgpack.specs.declared.fault.ScanFault.{ScanFault}
use Rattle.fwd_source.specs.Asked.{IsRefused}
use Rattle.fwd_source.specs.Live.{LiveSource}
use Rattle.fwd_session.specs.Live.{LiveSession, live_says}
use Rattle.fwd_session.specs.Said.{AsksForNothing, BeginsBroken}
use Rattle.fwd_model.specs.Layers.{Worker}
use Rattle.fwd_model.specs.declared.event.Event.{Event}
use Rattle.fwd_model.specs.declared.event.Event.TheVariants.{
  Flush,
  Choose,
  Wrote,
  Late,
  Settle,
  End,
  Forget,
  Drained,
  Shut,
}
use Rattle.fwd_model.specs.declared.event.Event.TheVariants as event
use Rattle.fwd_model.specs.declared.answer.Answer.{Answer}
use Rattle.fwd_model.specs.declared.answer.Answer.TheVariants.{
  Memory,
  Refused,
  NoRoute,
  Full,
  NumbersSpent,
  TookNothing,
  Told,
}
use Rattle.fwd_model.specs.Outcome.{answer_of, state_of}
use Rattle.fwd_model.specs.Step.{step}
use Rattle.fwd_model.specs.Live.{LiveLane, LiveRelay, live_source_at, lives}

-- out of memory
abbrev pub is_memory : Answer → Bool
is_memory Memory = true
is_memory _ = false

-- the answers that are not out of memory
abbrev pub told : List Answer → List Answer
told answers = filter (λ a. not (is_memory a)) answers

-- the events whose answers are not
abbrev pub kept : List Event → List Answer → List Event
kept [] answers = []
kept (e ∷ es) [] = []
kept (e ∷ es) (a ∷ answers) = if is_memory a then kept es answers else e ∷ kept es answers

-- the events that take no memory
abbrev pub takes_none : Event → Bool
takes_none (Flush output now kind) = true
takes_none (Choose output worker now) = true
takes_none (Wrote output worker count) = true
takes_none (Late output worker now) = true
takes_none (Settle output worker) = true
takes_none (End output worker kind now) = true
takes_none (Forget conn output) = true
takes_none (Drained conn count) = true
takes_none (Shut conn) = true
takes_none _ = false

-- the answers that take no memory: refusals, the faults of an admission, that no chunk is free, and
-- that nothing is told
abbrev pub is_free : Answer → Bool
is_free (Refused why) = true
is_free NoRoute = true
is_free Full = true
is_free NumbersSpent = true
is_free TookNothing = true
is_free (Told [] out) = true
is_free _ = false

-- what the event is answered takes no memory
abbrev pub is_free_at : LiveRelay → Event → Bool
is_free_at r e = is_free (answer_of (step lives r e))

-- ---- faults that are told however little memory is left

-- the value that is unfinished at a source, with what comes of it, or else the first one of the
-- piece, is none of MessagePack within the limits
pub record IsBroken (s : LiveSource) (bytes : List ℕ) : Type 0 where
  pub fault : ScanFault
  pub bad : first_of s.setup.limits.bytes s.setup.limits.depth (s.rest ++ bytes) ≡ Bad fault

-- No value is unfinished at a source and no PING is awaited, and the first value of the piece is no
-- request, by its shape, tag, option or compression.
pub record IsNoRequest (s : LiveSource) (bytes : List ℕ) : Type 0 where
  pub logged_in : s.awaits ≡ false
  pub none_unfinished : s.rest ≡ []
  pub refused : IsRefused s.setup.limits bytes

-- a piece of a connection is at fault at its front, in one way or the other
pub record IsBadPiece (r : LiveRelay) (id : ℕ) (bytes : List ℕ) : Type 0 where
  pub source : LiveSource
  pub stands : live_source_at id r.connections ≡ Some source
  pub bad : IsBroken source bytes ⊎ IsNoRequest source bytes

-- No value is unfinished at a session, and what it hears is at fault, and asks for nothing before
-- that: nothing is to be sent for it, as never once the handshake is done, and no chunk is
-- acknowledged.
pub record IsQuietFault (s : LiveSession) (bytes : List ℕ) : Type 0 where
  pub none_unfinished : s.rest ≡ []
  pub faulty : (live_says s bytes).fault ≢ None
  pub nothing : AsksForNothing (live_says s bytes)

-- what a session hears is at fault: so, or in the value that is unfinished, with what comes of it,
-- or else the first one, which is none of MessagePack within the limits
abbrev pub IsBadReply : LiveSession → List ℕ → Type 0
IsBadReply s bytes = BeginsBroken (s.rest ++ bytes) ⊎ IsQuietFault s bytes

-- it is a worker's session that hears such bytes
pub record IsBadFor (x : Worker LiveSession) (bytes : List ℕ) : Type 0 where
  pub session : LiveSession
  pub stands : x.session ≡ Some session
  pub bad : IsBadReply session bytes

-- it is the session of an output's worker
pub record IsBadAt (l : LiveLane) (w : ℕ) (bytes : List ℕ) : Type 0 where
  pub worker : Worker LiveSession
  pub here : slice_get l.workers w ≡ Some worker
  pub bad : IsBadFor worker bytes

-- it is at an output of the relay
pub record IsBadHeard (r : LiveRelay) (o w : ℕ) (bytes : List ℕ) : Type 0 where
  pub lane : LiveLane
  pub here : slice_get r.lanes o ≡ Some lane
  pub bad : IsBadAt lane w bytes

-- the event brings bytes that are at fault before anything has to grow
abbrev pub IsAtFault : LiveRelay → Event → Type 0
IsAtFault r (event.Piece id bytes) = IsBadPiece r id bytes
IsAtFault r (event.Heard o w bytes) = IsBadHeard r o w bytes
IsAtFault r _ = ⊥

-- The event needs no memory: it is one that takes none, or what it is answered takes none, or it
-- brings such a fault.
abbrev pub NeedsNone : LiveRelay → Event → Type 0
NeedsNone r e = (takes_none e ≡ true) ⊎ (is_free_at r e ≡ true) ⊎ IsAtFault r e

-- ---- steps one behind the other

-- An answer that a relay may give to an event, and what it is then: what the event comes to, or out
-- of memory and as it was; and never that, where the event needs none.
pub record IsStep (r : LiveRelay) (e : Event) (a : Answer) (s : LiveRelay) : Type 0 where
  pub answer : a ≢ Memory → a ≡ answer_of (step lives r e)
  pub next : a ≢ Memory → s ≡ state_of r (step lives r e)
  pub memory : a ≡ Memory → s ≡ r
  pub sure : NeedsNone r e → a ≢ Memory

-- Each answer is to the event at its place, from the state that the answers before it left, and the
-- last one leaves this state.
abbrev pub AreStepsOf : LiveRelay → List Event → List Answer → LiveRelay → Type 0
AreStepsOf r [] [] s = s ≡ r
AreStepsOf r [] (a ∷ answers) s = ⊥
AreStepsOf r (e ∷ es) [] s = ⊥
AreStepsOf r (e ∷ es) (a ∷ answers) s =
    (t : LiveRelay) × IsStep r e a t × AreStepsOf t es answers s
