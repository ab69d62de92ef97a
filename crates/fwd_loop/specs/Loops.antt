-- What its settings set a relay to.
use Rattle.std.specs.Prelude.{◌≡◌, ℕ, ◌+◌, ◌-◌, ◌*◌, max, sum_by, List, map}
use Rattle.fwd_settings.specs.declared.settings.Settings.{Settings}
use Rattle.fwd_settings.specs.declared.settings.OutputSettings.{OutputSettings}
use Rattle.fwd_config.specs.Configs.{parts_known, parts_set, user_of}
use Rattle.fwd_pools.specs.Pools.{OutputShown, shown_by}
use Rattle.fwd_model.specs.declared.config.Config.{Config}
use Rattle.fwd_turns.specs.declared.acceptor.TheConstants.{MONITORS}

-- a relay: what each of its outputs is, and the match pattern of each, by which a request finds its
-- output
pub record LoopShown : Type 0 where
  pub outputs : List OutputShown
  pub routes : List (List (List ℕ))

-- the relay of these settings
abbrev pub relay_by : Settings → LoopShown
relay_by s = record {
  outputs = map shown_by s.outputs;
  routes = map (λ o. o.pattern) s.outputs;
}

-- What the relay is set to is what the settings say, but for the bytes that its chunks have: the
-- key and the users by which a source has to log in, the hostname that the relay answers by, how
-- long and how deep a source's values may be, where requests go, and what each output is.
pub record IsSetTo (s : Settings) (config : Config) : Type 0 where
  pub hostname : config.security.hostname ≡ s.relay.hostname
  pub shared_key : config.security.shared_key ≡ s.relay.shared_key
  pub users : config.security.users ≡ map user_of s.relay.users
  pub message_limit : config.limits.bytes ≡ s.relay.message_limit
  pub depth : config.limits.depth ≡ s.relay.depth
  pub routes : config.routes ≡ map (λ o. o.pattern) s.outputs
  pub outputs : map parts_known config.outputs ≡ map parts_set s.outputs

-- how many workers there are
abbrev pub workers_in : List OutputSettings → ℕ
workers_in outputs = sum_by (λ o. o.workers) outputs

-- the files that a relay has open beside its sources: 14 of its own, one for each monitor, two for
-- each reader and five for each worker
abbrev pub files_beside : (readers : ℕ) → List OutputSettings → ℕ
files_beside readers outputs = 14 + MONITORS + 2 * readers + 5 * workers_in outputs

-- the sources that so many files leave room for beside those: one at least
abbrev pub room_within : (files readers : ℕ) → List OutputSettings → ℕ
room_within files readers outputs = max (files - files_beside readers outputs) 1
