-- The table of keys: each with its kind, its range and its default, and the order in which they
-- are judged.
use Rattle.std.specs.Prelude.{ℕ, Bool, false, List, [], ◌∷◌, ◌++◌, map, codes, max, Option, Some, None, is_some, unwrap_or, option_and_then, if◌then◌else◌}
use Rattle.std.specs.List.{list_all}
use Rattle.std.specs.declared.net.socket_addr.SocketAddr.{SocketAddr}
use Rattle.toml.specs.Data.{Data, table, Members, no_members, get_member, as_table}
use Rattle.fwd_settings.specs.declared.fault.SettingsFault.{SettingsFault}
use Rattle.fwd_settings.specs.declared.fault.SettingsFault.TheVariants.{WrongKind, OutOfRange}
use Rattle.fwd_settings.specs.declared.table_path.TablePath.TheVariants.{Relay, User, Output, Server}
use Rattle.fwd_settings.specs.declared.tables.TableKind.{TableKind}
use Rattle.fwd_settings.specs.declared.tables.TableKind.TheVariants as kind
use Rattle.fwd_settings.specs.declared.settings.RelaySettings.{RelaySettings}
use Rattle.fwd_settings.specs.declared.settings.UserSettings.{UserSettings}
use Rattle.fwd_settings.specs.declared.settings.OutputSettings.{OutputSettings}
use Rattle.fwd_settings.specs.declared.settings.ServerSettings.{ServerSettings}
use Rattle.fwd_settings.specs.declared.settings.ListenAddress.{ListenAddress}
use Rattle.fwd_settings.specs.declared.settings.WhenFull.{WhenFull}
use Rattle.fwd_settings.specs.declared.relay.Identity.{Identity}
use Rattle.fwd_settings.specs.declared.relay.SourceLimits.{SourceLimits}
use Rattle.fwd_settings.specs.declared.output.Sizes.{Sizes}
use Rattle.fwd_settings.specs.declared.output.Waits.{Waits}
use Rattle.fwd_settings.specs.declared.output.LoginSettings.{LoginSettings}
use Rattle.fwd_settings.specs.declared.ranges.TheConstants.{ACK_WAIT_DEFAULT, CHUNK_LIMIT_DEFAULT, CHUNK_LIMIT_MAX, CONNECTIONS_DEFAULT, CONNECTIONS_MAX, CONTROL_MAX, DEPTH_DEFAULT, DEPTH_MAX, DEPTH_MIN, FLUSH_INTERVAL_DEFAULT, MESSAGE_LIMIT_DEFAULT, MESSAGE_LIMIT_MAX, MESSAGE_LIMIT_MIN, NAME_MAX, OUTPUTS_MAX, READERS_DEFAULT, READERS_MAX, RETRY_MAX_DEFAULT, RETRY_WAIT_DEFAULT, SERVERS_MAX, SHARED_KEY_MAX, STOP_WAIT_DEFAULT, TOTAL_LIMIT_DEFAULT, TOTAL_LIMIT_MAX, WAIT_MAX, WINDOW_DEFAULT, WINDOW_MAX, WORKERS_DEFAULT, WORKERS_MAX}
use Rattle.fwd_settings.specs.Addresses.{home}
use Rattle.fwd_settings.specs.Faults.{own_key, key_under}
use Rattle.fwd_settings.specs.Kinds.{Key, each, fault_at, setting_at, number_key, optional_number_key, flag_key, when_full_key, text_key, optional_text_key, required_text_key, optional_path_key, digits_key, address_key, listen_key_or, required_address_key, required_pattern_key, required_list_key, optional_list_key}

-- the first of some faults
abbrev pub first : List (Option SettingsFault) → Option SettingsFault
first [] = None
first (None ∷ more) = first more
first (Some fault ∷ more) = Some fault

-- the table that a value is, or an empty one
abbrev pub table_of : Data → Members
table_of (table members) = members
table_of _ = no_members

-- the table under a name, or an empty one
abbrev pub table_in : List ℕ → Members → Members
table_in name members = unwrap_or (option_and_then as_table (get_member name members)) no_members

-- ---- the whole text

-- the outputs: at least 1
abbrev pub outputs : Key (List Data)
outputs = required_list_key (codes "output") OUTPUTS_MAX

-- the keys at the top
abbrev pub root_names : List (List ℕ)
root_names = codes "relay" ∷ codes "output" ∷ []

-- ---- relay

-- where sources connect
abbrev pub listen : Key ListenAddress
listen = listen_key_or (codes "listen") home

-- where the monitor page is had, if anywhere
abbrev pub monitor : Key (Option SocketAddr)
monitor = address_key (codes "monitor")

-- the name that the relay gives sources in the handshake: at least 1 byte
abbrev pub relay_hostname : Key (List ℕ)
relay_hostname = text_key (codes "hostname") 1 NAME_MAX (codes "relay")

-- the key that a source has to prove, if one is set: at least 1 byte
abbrev pub shared_key : Key (Option (List ℕ))
shared_key = optional_text_key (codes "shared_key") 1 SHARED_KEY_MAX

-- what tells this run's chunks from others': 12 hexadecimal digits
abbrev pub run_id : Key (Option (List ℕ))
run_id = digits_key (codes "run_id") 6

-- the seed of nonces, salts and the run's id: 64 hexadecimal digits
abbrev pub seed : Key (Option (List ℕ))
seed = digits_key (codes "seed") 32

-- how many sources may be connected at once
abbrev pub connections : Key ℕ
connections = number_key (codes "connections") 1 CONNECTIONS_MAX CONNECTIONS_DEFAULT

-- how long a value of a source may be, in bytes
abbrev pub message_limit : Key ℕ
message_limit =
    number_key (codes "message_limit") MESSAGE_LIMIT_MIN MESSAGE_LIMIT_MAX MESSAGE_LIMIT_DEFAULT

-- how many arrays and maps may stand one in another in a value of a source
abbrev pub depth : Key ℕ
depth = number_key (codes "depth") DEPTH_MIN DEPTH_MAX DEPTH_DEFAULT

-- how many threads read sources
abbrev pub readers : Key ℕ
readers = number_key (codes "readers") 1 READERS_MAX READERS_DEFAULT

-- only where there is a `shared_key`
abbrev pub users : Members → Key (List Data)
users relay = optional_list_key (codes "user") (is_some (setting_at relay shared_key))

-- whether the monitor's listener serves the metrics page
abbrev pub metrics : Key Bool
metrics = flag_key (codes "metrics") false

-- how long a source may be silent that keeps its place where all are taken, if that is limited, in
-- milliseconds
abbrev pub idle_limit : Key (Option ℕ)
idle_limit = optional_number_key (codes "idle_limit") 1 WAIT_MAX

-- the path of the socket over which the relay is asked to stop, if there is one
abbrev pub control : Key (Option (List ℕ))
control = optional_path_key (codes "control")

-- how long the relay has to deliver what it holds once it is asked to stop, in milliseconds
abbrev pub stop_wait : Key ℕ
stop_wait = number_key (codes "stop_wait") 1 WAIT_MAX STOP_WAIT_DEFAULT

-- the keys under `relay`
abbrev pub relay_names : List (List ℕ)
relay_names =
    codes "listen" ∷ codes "monitor" ∷ codes "hostname" ∷ codes "shared_key"
    ∷ codes "run_id" ∷ codes "seed" ∷
    codes "connections" ∷ codes "message_limit" ∷ codes "depth"
    ∷ codes "readers" ∷ codes "user" ∷ codes "metrics" ∷ codes "idle_limit"
    ∷ codes "control" ∷ codes "stop_wait" ∷ []

-- ---- relay.user[i]

-- a user's name: at least 1 byte
abbrev pub user_name : Key (List ℕ)
user_name = required_text_key (codes "name") 1 NAME_MAX

-- a user's password: at least 1 byte
abbrev pub user_password : Key (List ℕ)
user_password = required_text_key (codes "password") 1 NAME_MAX

-- the keys under a user
abbrev pub user_names : List (List ℕ)
user_names = codes "name" ∷ codes "password" ∷ []

-- the faults of a user's keys, in the order in which they are judged
abbrev pub user_table : ℕ → Members → List (Option SettingsFault)
user_table user members =
    fault_at (User user) members user_name ∷
    fault_at (User user) members user_password ∷ []

-- the first fault of a user, if there is one
abbrev pub user_fault : ℕ → Data → Option SettingsFault
user_fault user (table members) = first (user_table user members)
user_fault user _ = Some (WrongKind (own_key (User user)))

-- a user, by its keys
abbrev pub user_settings : Data → UserSettings
user_settings value =
    record {
      name = setting_at (table_of value) user_name;
      password = setting_at (table_of value) user_password;
    }

-- ---- the table `relay`

-- who the relay is, and what of it is secret
abbrev pub identity_table : Members → List (Option SettingsFault)
identity_table relay =
    fault_at Relay relay relay_hostname ∷
    fault_at Relay relay shared_key ∷
    fault_at Relay relay run_id ∷
    fault_at Relay relay seed ∷ []

-- how much the relay takes of sources
abbrev pub intake_table : Members → List (Option SettingsFault)
intake_table relay =
    fault_at Relay relay connections ∷
    fault_at Relay relay message_limit ∷
    fault_at Relay relay depth ∷
    fault_at Relay relay readers ∷ []

-- its users: first the list's own range
abbrev pub users_table : Members → List (Option SettingsFault)
users_table relay =
    fault_at Relay relay (users relay) ∷
    first (each user_fault 0 (setting_at relay (users relay))) ∷ []

-- the faults of the keys under `relay`, in the order in which they are judged
abbrev pub relay_table : Members → List (Option SettingsFault)
relay_table relay =
    fault_at Relay relay listen ∷
    fault_at Relay relay monitor ∷
    (identity_table relay ++ (intake_table relay ++ (users_table relay
    ++ fault_at Relay relay metrics ∷ fault_at Relay relay idle_limit
    ∷ fault_at Relay relay control ∷ fault_at Relay relay stop_wait ∷ [])))

-- who the relay is, by its keys
abbrev pub relay_identity : Members → Identity
relay_identity relay = record {
  hostname = setting_at relay relay_hostname;
  shared_key = setting_at relay shared_key;
  run_id = setting_at relay run_id;
  seed = setting_at relay seed;
}

-- how much the relay takes of sources, by its keys
abbrev pub relay_intake : Members → SourceLimits
relay_intake relay = record {
  connections = setting_at relay connections;
  message_limit = setting_at relay message_limit;
  depth = setting_at relay depth;
  readers = setting_at relay readers;
}

-- the users, by their keys
abbrev pub users_in : Members → List UserSettings
users_in relay = map user_settings (setting_at relay (users relay))

-- the settings under `relay`, by their keys
abbrev pub relay_settings : Members → RelaySettings
relay_settings relay = record {
  listen = setting_at relay listen;
  monitor = setting_at relay monitor;
  hostname = setting_at relay relay_hostname;
  shared_key = setting_at relay shared_key;
  run_id = setting_at relay run_id;
  seed = setting_at relay seed;
  connections = setting_at relay connections;
  message_limit = setting_at relay message_limit;
  depth = setting_at relay depth;
  readers = setting_at relay readers;
  users = users_in relay;
  metrics = setting_at relay metrics;
  idle_limit = setting_at relay idle_limit;
  control = setting_at relay control;
  stop_wait = setting_at relay stop_wait;
}

-- ---- output[i].server[j]

-- where a server listens
abbrev pub address : Key SocketAddr
address = required_address_key (codes "address")

-- whether a server is tried only where no other is usable
abbrev pub standby : Key Bool
standby = flag_key (codes "standby") false

-- the keys under a server
abbrev pub server_names : List (List ℕ)
server_names = codes "address" ∷ codes "standby" ∷ []

-- the faults of a server's keys, in the order in which they are judged
abbrev pub server_table : (output server : ℕ) → Members → List (Option SettingsFault)
server_table output server members =
    fault_at (Server output server) members address ∷
    fault_at (Server output server) members standby ∷ []

-- the first fault of a server, if there is one
abbrev pub server_fault : (output server : ℕ) → Data → Option SettingsFault
server_fault output server (table members) = first (server_table output server members)
server_fault output server _ = Some (WrongKind (own_key (Server output server)))

-- a server, by its keys
abbrev pub server_settings : Data → ServerSettings
server_settings value =
    record {
      address = setting_at (table_of value) address;
      standby = setting_at (table_of value) standby;
    }

-- ---- output[i]

-- the pattern of the tags that go to an output
abbrev pub pattern : Key (List (List ℕ))
pattern = required_pattern_key (codes "match")

-- how many sessions an output has at once
abbrev pub workers : Key ℕ
workers = number_key (codes "workers") 1 WORKERS_MAX WORKERS_DEFAULT

-- how long a chunk may be, in bytes
abbrev pub chunk_limit : Key ℕ
chunk_limit = number_key (codes "chunk_limit") 1 CHUNK_LIMIT_MAX CHUNK_LIMIT_DEFAULT

-- how much an output may hold, in bytes
abbrev pub total_limit : Key ℕ
total_limit = number_key (codes "total_limit") 1 TOTAL_LIMIT_MAX TOTAL_LIMIT_DEFAULT

-- how old a chunk's first entry grows before the chunk is closed, in ms
abbrev pub flush_interval : Key ℕ
flush_interval = number_key (codes "flush_interval") 0 WAIT_MAX FLUSH_INTERVAL_DEFAULT

-- how long a chunk or a server waits after its first loss, in ms
abbrev pub retry_wait : Key ℕ
retry_wait = number_key (codes "retry_wait") 1 WAIT_MAX RETRY_WAIT_DEFAULT

-- from the output's `retry_wait` on
abbrev pub retry_max : Members → Key ℕ
retry_max output =
    let wait = setting_at output retry_wait in number_key (codes "retry_max") wait WAIT_MAX
    (max RETRY_MAX_DEFAULT wait)

-- how long an acknowledgement is awaited, in ms
abbrev pub ack_wait : Key ℕ
ack_wait = number_key (codes "ack_wait") 1 WAIT_MAX ACK_WAIT_DEFAULT

-- how many chunks may be unacknowledged
abbrev pub window : Key ℕ
window = number_key (codes "window") 1 WINDOW_MAX WINDOW_DEFAULT

-- the name that the relay gives servers in the handshake: at least 1 byte
abbrev pub output_hostname : Key (List ℕ)
output_hostname = text_key (codes "hostname") 1 NAME_MAX (codes "relay")

-- the key that a server has to prove, if one is set: at least 1 byte
abbrev pub output_shared_key : Key (Option (List ℕ))
output_shared_key = optional_text_key (codes "shared_key") 1 SHARED_KEY_MAX

-- the name that servers ask for
abbrev pub username : Key (List ℕ)
username = text_key (codes "username") 0 NAME_MAX (codes "")

-- the password that servers ask for
abbrev pub password : Key (List ℕ)
password = text_key (codes "password") 0 NAME_MAX (codes "")

-- the servers of an output: at least 1
abbrev pub servers : Key (List Data)
servers = required_list_key (codes "server") SERVERS_MAX

-- the keys under an output
abbrev pub output_names : List (List ℕ)
output_names =
    codes "match" ∷ codes "workers" ∷ codes "chunk_limit" ∷ codes "total_limit"
    ∷ codes "flush_interval" ∷
    codes "retry_wait" ∷ codes "retry_max" ∷ codes "ack_wait" ∷ codes "window"
    ∷ codes "hostname" ∷ codes "shared_key" ∷
    codes "username" ∷ codes "password" ∷ codes "server" ∷ codes "full" ∷ []

-- what becomes of a request that the output has no room for
abbrev pub full : Key WhenFull
full = when_full_key (codes "full")

-- the servers of an output, by their keys
abbrev pub servers_in : Members → List ServerSettings
servers_in output = map server_settings (setting_at output servers)

-- a member counts as a standby where its `standby` is true, whatever else is wrong with it
abbrev pub is_standby : Data → Bool
is_standby value = setting_at (table_of value) standby

-- a list of servers that are all standbys is out of range, which is judged before its members' keys
abbrev pub standby_fault : ℕ → List Data → Option SettingsFault
standby_fault output listed =
    if list_all is_standby listed
    then Some (OutOfRange (key_under (Output output) (codes "server"))) else None

-- how much an output holds
abbrev pub size_table : ℕ → Members → List (Option SettingsFault)
size_table output members =
    fault_at (Output output) members workers ∷
    fault_at (Output output) members chunk_limit ∷
    fault_at (Output output) members total_limit ∷ []

-- how long it waits, and for how many chunks
abbrev pub wait_table : ℕ → Members → List (Option SettingsFault)
wait_table output members =
    fault_at (Output output) members flush_interval ∷
    fault_at (Output output) members retry_wait ∷
    fault_at (Output output) members (retry_max members) ∷
    fault_at (Output output) members ack_wait ∷
    fault_at (Output output) members window ∷ []

-- how it logs in
abbrev pub login_table : ℕ → Members → List (Option SettingsFault)
login_table output members =
    fault_at (Output output) members output_hostname ∷
    fault_at (Output output) members output_shared_key ∷
    fault_at (Output output) members username ∷
    fault_at (Output output) members password ∷ []

-- its servers: first the list's own range
abbrev pub list_table : ℕ → Members → List (Option SettingsFault)
list_table output members =
    fault_at (Output output) members servers ∷
    standby_fault output (setting_at members servers) ∷
    first (each (server_fault output) 0 (setting_at members servers)) ∷ []

-- the faults of an output's keys, in the order in which they are judged
abbrev pub output_table : ℕ → Members → List (Option SettingsFault)
output_table output members =
    fault_at (Output output) members pattern ∷
    (size_table output members
    ++ (wait_table output members ++ (login_table output members
    ++ (list_table output members ++ fault_at (Output output) members full ∷ []))))

-- how much an output takes, by its keys
abbrev pub output_sizes : Members → Sizes
output_sizes output = record {
  workers = setting_at output workers;
  chunk_limit = setting_at output chunk_limit;
  total_limit = setting_at output total_limit;
}

-- how long an output waits, and for how many chunks, by its keys
abbrev pub output_waits : Members → Waits
output_waits output = record {
  flush_interval = setting_at output flush_interval;
  retry_wait = setting_at output retry_wait;
  retry_max = setting_at output (retry_max output);
  ack_wait = setting_at output ack_wait;
  window = setting_at output window;
}

-- what an output says of itself to servers, by its keys
abbrev pub output_login : Members → LoginSettings
output_login output = record {
  hostname = setting_at output output_hostname;
  shared_key = setting_at output output_shared_key;
  username = setting_at output username;
  password = setting_at output password;
}

-- the first fault of an output, if there is one
abbrev pub output_fault : ℕ → Data → Option SettingsFault
output_fault output (table members) = first (output_table output members)
output_fault output _ = Some (WrongKind (own_key (Output output)))

-- an output, by its keys
abbrev pub output_settings : Data → OutputSettings
output_settings value = let output = table_of value in record {
  pattern = setting_at output pattern;
  workers = setting_at output workers;
  chunk_limit = setting_at output chunk_limit;
  total_limit = setting_at output total_limit;
  flush_interval = setting_at output flush_interval;
  retry_wait = setting_at output retry_wait;
  retry_max = setting_at output (retry_max output);
  ack_wait = setting_at output ack_wait;
  window = setting_at output window;
  hostname = setting_at output output_hostname;
  shared_key = setting_at output output_shared_key;
  username = setting_at output username;
  password = setting_at output password;
  servers = servers_in output;
  full = setting_at output full;
}

-- ---- all kinds of table

-- the names of the keys of a kind of table
abbrev pub names_of : TableKind → List (List ℕ)
names_of kind.Root = root_names
names_of kind.Relay = relay_names
names_of kind.User = user_names
names_of kind.Output = output_names
names_of kind.Server = server_names
