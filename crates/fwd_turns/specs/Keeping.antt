-- Which sources are kept: those of which a request waits that nobody sends again.
use Rattle.std.specs.Prelude.{◌≡◌, ◌≢◌, ◌<◌, ◌⊎◌, ◌==◌, ◌&&◌, ℕ, Bool, true, false, not, length, Option, Some, None, ⊤}
use Rattle.fwd_peers.specs.Peers.{PeerShown, asks}
use Rattle.fwd_reader.specs.Admissions.{AdmitsAndRefuses, AdmitsAndWaits, AdmitsEach}
use Rattle.fwd_reader.specs.Queues.{is_queued_at, is_ready_at}
use Rattle.fwd_reader.specs.Routers.{RouterShown}
use Rattle.fwd_reader.specs.declared.connections.Connections.{Connections}
use Rattle.fwd_reader.specs.declared.peer.Peer.{Peer}
use Rattle.fwd_reader.specs.declared.peer.Peer.TheVariants as kind
use Rattle.fwd_turns.specs.declared.visiting.After.{After}
use Rattle.fwd_turns.specs.declared.visiting.After.TheVariants.{Again, Waits, Kept, Rests, Goes}

-- the connections that stand, by their keys
abbrev pub Standing : Type 0 → Type 0
Standing J = ℕ → Option (Peer J)

-- a request of a source waits, and the sender of the first asked for no acknowledgement: it does
-- not send it again
abbrev pub waits_unasked : PeerShown → Bool
waits_unasked s = not (length s.live.waiting == 0) && not (asks s)

-- a connection is this source's still, with the requests that waited before
abbrev pub IsWith : {J : Type 0} → PeerShown → Peer J → Type 0
IsWith s after =
    (t : PeerShown) × ((after ≡ kind.Source t) × (t.live.waiting ≡ s.live.waiting))

-- the same of one that stands at a key
abbrev pub StandsWith : {J : Type 0} → PeerShown → Option (Peer J) → Type 0
StandsWith s after =
    (t : PeerShown) × ((after ≡ Some (kind.Source t)) × (t.live.waiting ≡ s.live.waiting))

-- each source of which such a request waits stands afterwards, with all that waited
pub record KeepsWaiting {J : Type 0} (s t : Standing J) : Type 0 where
  pub kept : (key : ℕ) (source : PeerShown) → s key ≡ Some (kind.Source source)
      → waits_unasked source ≡ true → StandsWith source (t key)

-- the connection at a key was visited, and no other: a source stands there still, with all that
-- waited
pub record IsVisited {J : Type 0} (key : ℕ) (s t : Standing J) : Type 0 where
  pub others : (other : ℕ) → other ≢ key → t other ≡ s other
  pub there : (source : PeerShown) → s key ≡ Some (kind.Source source) → StandsWith source (t key)

-- what becomes of the connection at a key behind a visit: a source of which such a request waits
-- does not go
abbrev pub KeepsAt : {J : Type 0} → (key : ℕ) → Standing J → After → Type 0
KeepsAt key s after =
    (source : PeerShown) → s key ≡ Some (kind.Source source) → waits_unasked source ≡ true
    → after ≢ Goes

-- Once it is noted what becomes of the connection at a key, if one stands there: one that is
-- visited again stands among those that are ready, and one of which requests wait among those that
-- wait. The system tells of any other that stands.
abbrev pub IsNoted : {J : Type 0} → After → Connections J → (key : ℕ) → Type 0
IsNoted Again c key = is_ready_at c key ≢ Some false
IsNoted Waits c key = is_queued_at c key ≢ Some false
IsNoted Kept c key = is_queued_at c key ≢ Some false
IsNoted Rests c key = ⊤
IsNoted Goes c key = ⊤

-- ---- a visit that reads

-- How the requests that wait at a source are served, where none has to wait longer: they are
-- admitted, each of them, or up to the first that is refused.
abbrev pub IsDone : RouterShown → PeerShown → RouterShown → PeerShown → Type 0
IsDone o s p t = AdmitsEach o s p t ⊎ AdmitsAndRefuses o s p t

-- the same, or some of them have to wait longer
abbrev pub IsServed : RouterShown → PeerShown → RouterShown → PeerShown → Type 0
IsServed o s p t = AdmitsAndWaits o s p t ⊎ IsDone o s p t

-- A source is served, and what waits behind that waits still. Where a request of it waits that
-- nobody sends again, the source does not go, unless the relay refused one of its requests.
pub record Serves (o : RouterShown) (s : PeerShown) (after : After) (p : RouterShown)
    (t : PeerShown) : Type 0 where
  pub served : PeerShown
  pub admits : IsServed o s p served
  pub waiting : t.live.waiting ≡ served.live.waiting
  pub stays : waits_unasked t ≡ true → after ≡ Goes → AdmitsAndRefuses o s p served

-- A source is read, which gives none of its requests, and served behind that. Where requests waited
-- before, those wait then.
pub record ReadsAndServes (o : RouterShown) (s : PeerShown) (after : After) (p : RouterShown)
    (t : PeerShown) : Type 0 where
  pub read : PeerShown
  pub had : 0 < length s.live.waiting → read.live.waiting ≡ s.live.waiting
  pub none : read.live.admitted ≡ s.live.admitted
  pub serves : Serves o read after p t

-- What a visit that reads makes of a source: it stays, with all that waited, and nothing else
-- changes; or it is read and served.
abbrev pub IsReadFrom : RouterShown → PeerShown → After → RouterShown → PeerShown → Type 0
IsReadFrom o s after p t =
    ((t.live.waiting ≡ s.live.waiting) × (after ≢ Goes) × (p ≡ o)) ⊎ ReadsAndServes o s after p t

-- the same, where it is a connection
abbrev pub IsReadTo : {J : Type 0} → RouterShown → PeerShown → After → RouterShown → Peer J → Type 0
IsReadTo o s after p connection =
    (IsWith s connection × (after ≢ Goes) × (p ≡ o))
    ⊎ ((t : PeerShown) × ((connection ≡ kind.Source t) × ReadsAndServes o s after p t))

-- the connection at a key was visited so, and no other
pub record IsReadAt {J : Type 0} (key : ℕ) (o : RouterShown) (s : Standing J) (after : After) (p : RouterShown)
    (t : Standing J) : Type 0 where
  pub others : (other : ℕ) → other ≢ key → t other ≡ s other
  pub there : (source : PeerShown) → s key ≡ Some (kind.Source source)
      → (connection : Peer J) × ((t key ≡ Some connection) × IsReadTo o source after p connection)

-- what becomes of a source that was read and served: it stands, or went
abbrev pub IsServedAt : {J : Type 0} → RouterShown → PeerShown → RouterShown → Option (Peer J) → Type 0
IsServedAt o source p last =
    (after : After) × ((t : PeerShown) × (ReadsAndServes o source after p t
    × ((last ≡ Some (kind.Source t)) ⊎ ((after ≡ Goes) × (last ≡ None)))))

-- Each source stands afterwards with all that waited, or it was read and served.
pub record KeepsServed {J : Type 0} (o : RouterShown) (s : Standing J) (p : RouterShown) (t : Standing J)
    : Type 0 where
  pub each : (key : ℕ) (source : PeerShown) → s key ≡ Some (kind.Source source)
      → StandsWith source (t key) ⊎ IsServedAt o source p (t key)
