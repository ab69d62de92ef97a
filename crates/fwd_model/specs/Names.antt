-- What an event names, and when the order of two events does not matter: those that name nothing
-- in common may come in either order, except that ids grow from connection to connection.
use Rattle.std.specs.Prelude.{
  ◌≡◌,
  ℕ,
  Bool,
  true,
  false,
  not,
  ◌&&◌,
  List,
  [],
  ◌∷◌,
  ◌==◌,
}
use Rattle.std.specs.List.{list_all, list_any}
use Rattle.fwd_model.specs.declared.event.Event.{Event}
use Rattle.fwd_model.specs.declared.event.Event.TheVariants as event
use Rattle.fwd_model.specs.Outcome.{answer_of}
use Rattle.fwd_model.specs.Step.{step, after}
use Rattle.fwd_model.specs.History.{History, histories}

-- a part of the relay that an event may name: a connection by its id, an output by its number
-- without its workers' sessions, and the session of an output's worker
pub data Named : Type 0 where
  Connection : ℕ → Named
  Output : ℕ → Named
  Session : (output worker : ℕ) → Named

-- the two are one part
abbrev pub is_same : Named → Named → Bool
is_same (Connection a) (Connection b) = a == b
is_same (Output a) (Output b) = a == b
is_same (Session a v) (Session b w) = (a == b) && (v == w)
is_same _ _ = false

-- the connection that an event names, where it names nothing else
abbrev pub names_connection : Event → List Named
names_connection (event.Accept id nonce auth) = Connection id ∷ []
names_connection (event.Piece id bytes) = Connection id ∷ []
names_connection (event.Drained id count) = Connection id ∷ []
names_connection (event.Shut id) = Connection id ∷ []
names_connection _ = []

-- what an event names; one that has no line here and none above names nothing
abbrev pub names : Event → List Named
names (event.Admit id o now) = Connection id ∷ Output o ∷ []
names (event.Flush o now kind) = Output o ∷ []
names (event.Choose o w now) = Output o ∷ []
names (event.Up o w server salt now) = Session o w ∷ []
names (event.Take o w now wanted) = Output o ∷ Session o w ∷ []
names (event.Load o w now) = Session o w ∷ []
names (event.Wrote o w count) = Session o w ∷ []
names (event.Heard o w bytes) = Session o w ∷ []
names (event.Settle o w) = Output o ∷ Session o w ∷ []
names (event.Late o w now) = Session o w ∷ []
names (event.End o w kind now) = Output o ∷ Session o w ∷ []
names (event.Collect id o) = Connection id ∷ Output o ∷ []
names (event.Forget id o) = Connection id ∷ Output o ∷ []
names e = names_connection e

-- the event names the part
abbrev pub does_name : Event → Named → Bool
does_name e part = list_any (λ named. is_same named part) (names e)

-- the two events name nothing in common
abbrev pub are_unrelated : Event → Event → Bool
are_unrelated e f = list_all (λ part. not (does_name f part)) (names e)

-- a connection comes
abbrev pub is_accept : Event → Bool
is_accept (event.Accept id nonce auth) = true
is_accept _ = false

-- in both orders each of the two events is answered alike, and they lead to one state
pub record Commute (h : History) (e f : Event) : Type 0 where
  pub first : answer_of (step histories h e)
      ≡ answer_of (step histories (after histories h (f ∷ [])) e)
  pub second : answer_of (step histories (after histories h (e ∷ [])) f)
      ≡ answer_of (step histories h f)
  pub state : after histories h (e ∷ f ∷ []) ≡ after histories h (f ∷ e ∷ [])
