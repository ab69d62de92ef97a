-- What settings set the relay to.
use Rattle.std.specs.Prelude.{◌≡◌, ℕ, Bool, List, map, replicate, Option, unwrap_or}
use Rattle.fwd_settings.specs.declared.settings.Settings.{Settings}
use Rattle.fwd_settings.specs.declared.settings.OutputSettings.{OutputSettings}
use Rattle.fwd_settings.specs.declared.settings.UserSettings.{UserSettings}
use Rattle.fwd_handshake.specs.declared.credentials.User.{User}
use Rattle.fwd_model.specs.declared.config.Config.{Config}
use Rattle.fwd_model.specs.declared.config.OutputConfig.{OutputConfig}

-- what an output is set to, part by part
pub record OutputParts : Type 0 where
  pub workers : ℕ
  pub standby : List Bool
  pub chunk : ℕ
  pub total : ℕ
  pub interval : ℕ
  pub retry_wait : ℕ
  pub retry_max : ℕ
  pub first : ℕ
  pub window : ℕ
  pub ack_wait : ℕ
  pub hostname : List ℕ
  pub shared_key : Option (List ℕ)
  pub username : List ℕ
  pub password : List ℕ

-- what the relay knows of it
abbrev pub parts_known : OutputConfig → OutputParts
parts_known c = record {
  workers = c.workers;
  standby = c.standby;
  chunk = c.limits.chunk;
  total = c.limits.total;
  interval = c.limits.interval;
  retry_wait = c.limits.retry_wait;
  retry_max = c.limits.retry_max;
  first = c.limits.first;
  window = c.acks.window;
  ack_wait = c.acks.ack_wait;
  hostname = c.login.hostname;
  shared_key = c.login.shared_key;
  username = c.login.username;
  password = c.login.password;
}

-- what settings set it to; the first chunk has number 1
abbrev pub parts_set : OutputSettings → OutputParts
parts_set o = record {
  workers = o.workers;
  standby = map (λ s. s.standby) o.servers;
  chunk = o.chunk_limit;
  total = o.total_limit;
  interval = o.flush_interval;
  retry_wait = o.retry_wait;
  retry_max = o.retry_max;
  first = 1;
  window = o.window;
  ack_wait = o.ack_wait;
  hostname = o.hostname;
  shared_key = o.shared_key;
  username = o.username;
  password = o.password;
}

-- a user that a source may name
abbrev pub user_of : UserSettings → User
user_of u = record { name = u.name; password = u.password }

-- the settings set the relay to this: without a run id, zeros
pub record IsConfig (s : Settings) (config : Config) : Type 0 where
  pub run : config.run ≡ unwrap_or s.relay.run_id (replicate 6 0)
  pub routes : config.routes ≡ map (λ o. o.pattern) s.outputs
  pub hostname : config.security.hostname ≡ s.relay.hostname
  pub shared_key : config.security.shared_key ≡ s.relay.shared_key
  pub users : config.security.users ≡ map user_of s.relay.users
  pub message_limit : config.limits.bytes ≡ s.relay.message_limit
  pub depth : config.limits.depth ≡ s.relay.depth
  pub outputs : map parts_known config.outputs ≡ map parts_set s.outputs
