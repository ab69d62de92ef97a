-- The ranges of settings that are accepted.
use Rattle.std.specs.Prelude.{ℕ, Bool, true, not, ◌&&◌, nat_le, List, [], ◌∷◌, length, Option, Some, None, is_some}
use Rattle.std.specs.List.{list_all}
use Rattle.fwd_settings.specs.declared.settings.RelaySettings.{RelaySettings}
use Rattle.fwd_settings.specs.declared.settings.UserSettings.{UserSettings}
use Rattle.fwd_settings.specs.declared.settings.OutputSettings.{OutputSettings}
use Rattle.fwd_settings.specs.declared.settings.Settings.{Settings}
use Rattle.fwd_settings.specs.declared.ranges.TheConstants.{CHUNK_LIMIT_MAX, CONNECTIONS_MAX, DEPTH_MAX, DEPTH_MIN, MESSAGE_LIMIT_MAX, MESSAGE_LIMIT_MIN, NAME_MAX, OUTPUTS_MAX, READERS_MAX, SERVERS_MAX, SHARED_KEY_MAX, TOTAL_LIMIT_MAX, WAIT_MAX, WINDOW_MAX, WORKERS_MAX}
use Rattle.fwd_settings.specs.Kinds.{is_path, is_within}

-- a user's name and password have a length that is allowed
abbrev pub user_in_range : UserSettings → Bool
user_in_range u = is_within 1 NAME_MAX (length u.name) && is_within 1 NAME_MAX (length u.password)

-- a shared key, if one is set, has a length that is allowed
abbrev pub key_in_range : Option (List ℕ) → Bool
key_in_range None = true
key_in_range (Some key) = is_within 1 SHARED_KEY_MAX (length key)

-- the path of a control socket, if one is set, is one that a socket may have
abbrev pub control_in_range : Option (List ℕ) → Bool
control_in_range None = true
control_in_range (Some path) = is_path path

-- a limit of a time, if one is set, is at most a day
abbrev pub limit_in_range : Option ℕ → Bool
limit_in_range None = true
limit_in_range (Some limit) = is_within 1 WAIT_MAX limit

-- users log in by a key
abbrev pub have_key : Option (List ℕ) → List UserSettings → Bool
have_key key [] = true
have_key key (user ∷ users) = is_some key

-- the settings under `relay` are in their ranges
abbrev pub relay_in_range : RelaySettings → Bool
relay_in_range r =
    is_within 1 NAME_MAX (length r.hostname) &&
    (key_in_range r.shared_key &&
    (is_within 1 CONNECTIONS_MAX r.connections &&
    (is_within MESSAGE_LIMIT_MIN MESSAGE_LIMIT_MAX r.message_limit &&
    (is_within DEPTH_MIN DEPTH_MAX r.depth &&
    (is_within 1 READERS_MAX r.readers &&
    (list_all user_in_range r.users && (have_key r.shared_key r.users
    && (limit_in_range r.idle_limit && (control_in_range r.control
    && is_within 1 WAIT_MAX r.stop_wait)))))))))

-- an output's settings are in their ranges
abbrev pub output_in_range : OutputSettings → Bool
output_in_range o =
    is_within 1 WORKERS_MAX o.workers &&
    (is_within 1 CHUNK_LIMIT_MAX o.chunk_limit &&
    (is_within 1 TOTAL_LIMIT_MAX o.total_limit &&
    (is_within 0 WAIT_MAX o.flush_interval &&
    (is_within 1 WAIT_MAX o.retry_wait &&
    (is_within o.retry_wait WAIT_MAX o.retry_max &&
    (is_within 1 WAIT_MAX o.ack_wait &&
    (is_within 1 WINDOW_MAX o.window &&
    (is_within 1 NAME_MAX (length o.hostname) &&
    (key_in_range o.shared_key &&
    (nat_le (length o.username) NAME_MAX &&
    (nat_le (length o.password) NAME_MAX &&
    (is_within 1 SERVERS_MAX (length o.servers)
    && not (list_all (λ server. server.standby) o.servers)))))))))))))

-- all settings are in their ranges
abbrev pub in_range : Settings → Bool
in_range s =
    relay_in_range s.relay
    && (is_within 1 OUTPUTS_MAX (length s.outputs) && list_all output_in_range s.outputs)
