-- Which servers are not known to work: what a worker asks before it chooses with which chunk it
-- tries one.
use Rattle.std.specs.Prelude.{ℕ, Bool, not, find, Option, None, is_some, slice_index_or}
use Rattle.fwd_failover.specs.Choices.{order_of}
use Rattle.fwd_failover.specs.Live.{LiveServers}

-- a server was lost since it last settled a chunk: it is not known to work
abbrev pub live_is_doubted : LiveServers → ℕ → Bool
live_is_doubted l server = is_some (slice_index_or l.losses server None)

-- the first in the worker's order that was not lost since it last settled a chunk
abbrev pub live_trusted : LiveServers → ℕ → Option ℕ
live_trusted l worker =
    find (λ s. not (live_is_doubted l s)) (order_of l.primaries l.standbys worker)
