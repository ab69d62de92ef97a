-- Where a chunk goes that was lost.
use Rattle.std.specs.Prelude.{
  ℕ,
  ◌&&◌,
  ◌==◌,
  Bool,
  true,
  false,
  not,
  List,
  find,
  Option,
  Some,
  None,
  slice_index_or,
  slice_set,
  length,
  nat_lt,
  replicate,
  if◌then◌else◌,
}
use Rattle.fwd_failover.specs.Choices.{order_of}
use Rattle.fwd_failover.specs.Live.{LiveServers, is_live_usable}

-- servers as flags, by their places in the output's list: no server
abbrev pub no_server : List Bool
no_server = replicate 16 false

-- a server is among some
abbrev pub has_server : List Bool → ℕ → Bool
has_server servers server = slice_index_or servers server false

-- some servers and one more, which is one of the output's
abbrev pub with_server : List Bool → ℕ → List Bool
with_server servers server =
    if nat_lt server (length servers) then slice_set servers server true else servers

-- where a chunk was lost, once it is lost at a server more: where it was lost there before it has
-- been round, and a new round begins with that server
abbrev pub lost_at_more : List Bool → ℕ → List Bool
lost_at_more lost server =
    if has_server lost server then with_server no_server server else with_server lost server

-- a chunk may go to a server at a moment: that may be tried, and the chunk was not lost there
abbrev pub may_go : LiveServers → (now : ℕ) → (lost : List Bool) → (server : ℕ) → Bool
may_go servers now lost server = is_live_usable servers now server && not (has_server lost server)

-- the server that a chunk goes to which was lost at some: the first in the worker's order that it
-- may go to
abbrev pub elsewhere : LiveServers → (worker now : ℕ) → (lost : List Bool) → Option ℕ
elsewhere servers worker now lost =
    find (may_go servers now lost) (order_of servers.primaries servers.standbys worker)

-- the server to try, if it is another than a worker's own
abbrev pub unless_own : (try : Option ℕ) → (own : ℕ) → Option ℕ
unless_own None own = None
unless_own (Some server) own = if server == own then None else Some server

-- a server that is known to work, if there is one, and else the one to try
abbrev pub or_try : (trusted : Option ℕ) → (try : ℕ) → ℕ
or_try None try = try
or_try (Some server) try = server

-- the server that a chunk goes to in place of one, if it was lost there
abbrev pub away_from : (lost_here : Bool) → (other : Option ℕ) → Option ℕ
away_from true other = other
away_from false other = None

-- The server that a worker goes over to with a chunk from its session with its own. One that was
-- never lost goes to the server to try, if that is another. One that was lost stays, unless it was
-- lost here.
abbrev pub way_over : (losses : ℕ) → (lost_here : Bool) → (other try : Option ℕ) → (own : ℕ)
    → Option ℕ
way_over losses lost_here other try own =
    if nat_lt 0 losses then away_from lost_here other
    else unless_own try own

-- The server that a worker without a session begins one with for a chunk: where that was lost, one
-- elsewhere if there is one, else one that is known to work if there is one; and else the one to
-- try.
abbrev pub server_with : (losses : ℕ) → (other : Option ℕ) → (is_doubted : Bool)
    → (trusted : Option ℕ) → (try : ℕ) → ℕ
server_with losses (Some other) is_doubted trusted try = other
server_with losses None is_doubted trusted try =
    if nat_lt 0 losses && is_doubted then or_try trusted try else try
