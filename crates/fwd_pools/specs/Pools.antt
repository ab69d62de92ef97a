-- What the outputs of a relay are, as its settings say it.
use Rattle.std.specs.Prelude.{
  ◌≡◌,
  ℕ,
  ◌+◌,
  ◌++◌,
  Bool,
  true,
  false,
  List,
  [],
  ◌∷◌,
  length,
  map,
  replicate,
}
use Rattle.std.specs.declared.net.socket_addr.SocketAddr.{SocketAddr}
use Rattle.std.specs.Arc.{arc_value}
use Rattle.fwd_chunks.specs.declared.limits.BufferLimits.{BufferLimits}
use Rattle.fwd_settings.specs.declared.settings.OutputSettings.{OutputSettings}
use Rattle.fwd_settings.specs.declared.settings.WhenFull.{WhenFull}
use Rattle.fwd_settings.specs.declared.settings.WhenFull.TheVariants.{Close, Wait}
use Rattle.fwd_config.specs.Configs.{OutputParts, parts_set}
use Rattle.fwd_model.specs.declared.config.OutputConfig.{OutputConfig}
use Rattle.fwd_output.specs.Paged.{begun_by}
use Rattle.fwd_output.specs.Turns.{LockedState}
use Rattle.fwd_reader.specs.declared.output.Output.{Output}
use Rattle.fwd_pools.specs.declared.worker_pools.Pool.{Pool}

-- where an output's servers are reached, in their order, and whether sources wait where it is full
pub record Hop : Type 0 where
  pub servers : List SocketAddr
  pub waits_when_full : Bool

-- sources wait where an output is full
abbrev pub does_wait : WhenFull → Bool
does_wait Close = false
does_wait Wait = true

-- an output's next hop, as its settings say it
abbrev pub hop_of : OutputSettings → Hop
hop_of s = record {
  servers = map (λ x. x.address) s.servers;
  waits_when_full = does_wait s.full;
}

-- what is seen of an output beside its lock: its next hop, how many workers it has, and the most
-- bytes of entries that it holds
pub record OutputShown : Type 0 where
  pub hop : Hop
  pub workers : ℕ
  pub total : ℕ

-- an output
abbrev pub shown : {J : Type 0} → Output J → OutputShown
shown o = record {
  hop = record { servers = o.servers.items; waits_when_full = o.waits_when_full };
  workers = length o.wakers.items;
  total = o.total;
}

-- what is made of a configuration and a next hop
abbrev pub made_of : OutputParts → Hop → OutputShown
made_of p hop = record { hop = hop; workers = p.workers; total = p.total }

-- of each configuration with the next hop at its place
abbrev pub all_made_of : List OutputParts → List Hop → List OutputShown
all_made_of [] hops = []
all_made_of (p ∷ ps) [] = []
all_made_of (p ∷ ps) (hop ∷ hops) = made_of p hop ∷ all_made_of ps hops

-- The workers of outputs of these configurations, each known by the number of its output: as many
-- for each as its configuration says. The outputs are numbered from this one on.
abbrev pub threads_of : (number : ℕ) → List OutputParts → List ℕ
threads_of number [] = []
threads_of number (p ∷ ps) = replicate p.workers number ++ threads_of (number + 1) ps

-- the output of these settings
abbrev pub shown_by : OutputSettings → OutputShown
shown_by s = made_of (parts_set s) (hop_of s)

-- what lies under the lock of the output of this number in this run before any request: it keeps to
-- its limits, tries its servers, of which these are standbys, by its waits, and nobody claims what is
-- free
abbrev pub locked_by : BufferLimits → (standby : List Bool) → (run : List ℕ) → (number : ℕ) → LockedState
locked_by limits standby run number = record {
  output = begun_by limits run number standby;
  accepted = 0;
  settled = 0;
  claimed = 0;
}

-- what an output's workers share is of its configuration
pub record IsPoolOf (config : OutputConfig) (pool : Pool) : Type 0 where
  pub workers : pool.workers ≡ config.workers
  pub servers : pool.servers ≡ length config.standby
  pub login : arc_value pool.login ≡ config.login
  pub acks : pool.acks ≡ config.acks
