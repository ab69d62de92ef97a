-- Settings that are accepted are in their ranges.
use Rattle.std.proofs.Common.{◌≡◌, ℕ, zero, suc, ◌+◌, Bool, true, false, cond, List, [], ◌∷◌, length, max, Option, Some, None, Ok, refl, sym, ap, subst, ◌∙◌, arith}
use Rattle.std.specs.Prelude.{map, not, ◌&&◌, nat_le, codes, ℤ, pos, negsuc, option_map, option_and_then, is_some, slice_get}
use Rattle.std.specs.List.{list_all}
use Rattle.std.proofs.lemmas.Bool.Decides.{nat_tests}
use Rattle.std.proofs.lemmas.List.{length-map}
use Rattle.std.proofs.lemmas.List.Folds.{list_all-map}
use Rattle.toml.specs.Data.{Data, string, integer, float, boolean, datetime, array, table, Members, no_members, get_member, as_str}
use Rattle.fwd_settings.specs.declared.fault.SettingsFault.{SettingsFault}
use Rattle.fwd_settings.specs.declared.table_path.TablePath.{TablePath}
use Rattle.fwd_settings.specs.declared.table_path.TablePath.TheVariants.{Root, Relay, User, Output}
use Rattle.fwd_settings.specs.declared.settings.Settings.{Settings}
use Rattle.fwd_settings.specs.declared.settings.ServerSettings.{ServerSettings}
use Rattle.fwd_settings.specs.Faults.{fault_with, key_under}
use Rattle.fwd_settings.specs.Kinds.{Key, optional, required, given, unless_out, is_within, is_path, path_flaw, number_flaw, number_of, number_key, optional_number_key, text_flaw, text_key, optional_text_key, optional_path_key, required_text_key, data_in, list_flaw, list_of, required_list_key, allowed_list_flaw, optional_list_key, each, fault_at, setting_at}
use Rattle.fwd_settings.specs.Keys.{first, table_in, outputs, relay_table, relay_settings, connections, message_limit, depth, readers, idle_limit, control, stop_wait, relay_hostname, shared_key, users, user_name, user_password, user_table, user_fault, user_settings, output_table, output_fault, output_settings, retry_wait, output_shared_key, username, password, servers, server_settings, is_standby, standby_fault}
use Rattle.fwd_settings.specs.Whole.{relay_fault, root_table, root_settings, judged, of_document, document_of, settings_of}
use Rattle.fwd_settings.specs.declared.ranges.TheConstants.{ACK_WAIT_DEFAULT, CHUNK_LIMIT_DEFAULT, CHUNK_LIMIT_MAX, CONNECTIONS_DEFAULT, CONNECTIONS_MAX, CONTROL_MAX, DEPTH_DEFAULT, DEPTH_MAX, DEPTH_MIN, FLUSH_INTERVAL_DEFAULT, MESSAGE_LIMIT_DEFAULT, MESSAGE_LIMIT_MAX, MESSAGE_LIMIT_MIN, NAME_MAX, OUTPUTS_MAX, READERS_DEFAULT, READERS_MAX, RETRY_MAX_DEFAULT, RETRY_WAIT_DEFAULT, SERVERS_MAX, SHARED_KEY_MAX, STOP_WAIT_DEFAULT, TOTAL_LIMIT_DEFAULT, TOTAL_LIMIT_MAX, WAIT_MAX, WINDOW_DEFAULT, WINDOW_MAX, WORKERS_DEFAULT, WORKERS_MAX}
use Rattle.fwd_settings.specs.Ranges.{user_in_range, key_in_range, limit_in_range, control_in_range, have_key, relay_in_range, output_in_range, in_range}

-- ---- no fault

unmapped : {A B : Type 0} (f : A → B) (x : Option A) → option_map f x ≡ None → x ≡ None
unmapped f None h = refl
unmapped f (Some a) h = absurd cc

no_flaw : {A : Type 0} (place : TablePath) (members : Members) (key : Key A)
    → fault_at place members key ≡ None → key.flaw (get_member key.name members) ≡ None
unfolding fault_at
no_flaw place members key h = unmapped (λ flaw. fault_with flaw (key_under place key.name)) (key.flaw (get_member key.name members)) h

first_none : (x : Option SettingsFault) (xs : List (Option SettingsFault))
    → first (x ∷ xs) ≡ None → (x ≡ None) × (first xs ≡ None)
first_none None xs h = (refl, h)
first_none (Some fault) xs h = absurd cc

-- where there is no first fault there is none at all
none_at : (xs : List (Option SettingsFault)) (i : ℕ) (x : Option SettingsFault)
    → first xs ≡ None → slice_get xs i ≡ Some x → x ≡ None
none_at [] i x h e = absurd cc
none_at (y ∷ ys) zero x h e = let same : y ≡ x = cc in sym same ∙ (first_none y ys h).0
none_at (y ∷ ys) (suc i) x h e = none_at ys i x (first_none y ys h).1 e

within : (b : Bool) → unless_out b ≡ None → b ≡ true
within true h = refl
within false h = absurd cc

-- ---- the kinds

number_given : (least most default : ℕ) (value : Option Data)
    → is_within least most default ≡ true → optional (number_flaw least most) value ≡ None
    → is_within least most (given number_of default value) ≡ true
number_given least most default None d h = d
number_given least most default (Some (integer (pos n))) d h = within (is_within least most n) h
number_given least most default (Some (integer (negsuc n))) d h = absurd cc
number_given least most default (Some (string x)) d h = absurd cc
number_given least most default (Some (float x)) d h = absurd cc
number_given least most default (Some (boolean x)) d h = absurd cc
number_given least most default (Some (datetime x)) d h = absurd cc
number_given least most default (Some (array x)) d h = absurd cc
number_given least most default (Some (table x)) d h = absurd cc

number_within : (place : TablePath) (members : Members) (name : List ℕ) (least most default : ℕ)
    → is_within least most default ≡ true
    → fault_at place members (number_key name least most default) ≡ None
    → is_within least most (setting_at members (number_key name least most default)) ≡ true
unfolding setting_at number_key
number_within place members name least most default d h = number_given least most default (get_member name members) d (no_flaw place members (number_key name least most default) h)

text_given : (least most : ℕ) (default : List ℕ) (value : Option Data)
    → is_within least most (length default) ≡ true
    → optional (text_flaw least most) value ≡ None
    → is_within least most (length (given as_str default value)) ≡ true
text_given least most default None d h = d
text_given least most default (Some (string x)) d h = within (is_within least most (length x)) h
text_given least most default (Some (integer x)) d h = absurd cc
text_given least most default (Some (float x)) d h = absurd cc
text_given least most default (Some (boolean x)) d h = absurd cc
text_given least most default (Some (datetime x)) d h = absurd cc
text_given least most default (Some (array x)) d h = absurd cc
text_given least most default (Some (table x)) d h = absurd cc

text_within : (place : TablePath) (members : Members) (name : List ℕ) (least most : ℕ)
    (default : List ℕ) → is_within least most (length default) ≡ true
    → fault_at place members (text_key name least most default) ≡ None
    → is_within least most (length (setting_at members (text_key name least most default))) ≡ true
unfolding setting_at text_key
text_within place members name least most default d h = text_given least most default (get_member name members) d (no_flaw place members (text_key name least most default) h)

list_given : (most : ℕ) (value : Option Data) → required (list_flaw most) value ≡ None
    → is_within 1 most (length (given list_of [] value)) ≡ true
list_given most None h = absurd cc
list_given most (Some (array x)) h = within (is_within 1 most (length (Rattle.fwd_settings.specs.Kinds.data_in x))) h
list_given most (Some (string x)) h = absurd cc
list_given most (Some (integer x)) h = absurd cc
list_given most (Some (float x)) h = absurd cc
list_given most (Some (boolean x)) h = absurd cc
list_given most (Some (datetime x)) h = absurd cc
list_given most (Some (table x)) h = absurd cc

list_within : (place : TablePath) (members : Members) (name : List ℕ) (most : ℕ)
    → fault_at place members (required_list_key name most) ≡ None
    → is_within 1 most (length (setting_at members (required_list_key name most))) ≡ true
unfolding setting_at required_list_key
list_within place members name most h = list_given most (get_member name members) (no_flaw place members (required_list_key name most) h)

key_given : (value : Option Data) → optional (text_flaw 1 SHARED_KEY_MAX) value ≡ None
    → key_in_range (option_and_then as_str value) ≡ true
key_given None h = refl
key_given (Some (string x)) h = within (is_within 1 SHARED_KEY_MAX (length x)) h
key_given (Some (integer x)) h = absurd cc
key_given (Some (float x)) h = absurd cc
key_given (Some (boolean x)) h = absurd cc
key_given (Some (datetime x)) h = absurd cc
key_given (Some (array x)) h = absurd cc
key_given (Some (table x)) h = absurd cc

key_within : (place : TablePath) (members : Members) → fault_at place members shared_key ≡ None
    → key_in_range (setting_at members shared_key) ≡ true
unfolding setting_at optional_text_key
key_within place members h = key_given (get_member (codes "shared_key") members) (no_flaw place members shared_key h)

control_given : (value : Option Data) → optional path_flaw value ≡ None
    → control_in_range (option_and_then as_str value) ≡ true
control_given None h = refl
control_given (Some (string x)) h = within (is_path x) h
control_given (Some (integer x)) h = absurd cc
control_given (Some (float x)) h = absurd cc
control_given (Some (boolean x)) h = absurd cc
control_given (Some (datetime x)) h = absurd cc
control_given (Some (array x)) h = absurd cc
control_given (Some (table x)) h = absurd cc

control_within : (place : TablePath) (members : Members) → fault_at place members control ≡ None
    → control_in_range (setting_at members control) ≡ true
unfolding setting_at optional_path_key
control_within place members h = control_given (get_member (codes "control") members) (no_flaw place members control h)

limit_given : (value : Option Data) → optional (number_flaw 1 WAIT_MAX) value ≡ None
    → limit_in_range (option_and_then number_of value) ≡ true
limit_given None h = refl
limit_given (Some (integer (pos n))) h = within (is_within 1 WAIT_MAX n) h
limit_given (Some (integer (negsuc n))) h = absurd cc
limit_given (Some (string x)) h = absurd cc
limit_given (Some (float x)) h = absurd cc
limit_given (Some (boolean x)) h = absurd cc
limit_given (Some (datetime x)) h = absurd cc
limit_given (Some (array x)) h = absurd cc
limit_given (Some (table x)) h = absurd cc

limit_within : (place : TablePath) (members : Members) → fault_at place members idle_limit ≡ None
    → limit_in_range (setting_at members idle_limit) ≡ true
unfolding setting_at optional_number_key
limit_within place members h = limit_given (get_member (codes "idle_limit") members) (no_flaw place members idle_limit h)

required_given : (least most : ℕ) (value : Option Data)
    → required (text_flaw least most) value ≡ None
    → is_within least most (length (given as_str [] value)) ≡ true
required_given least most None h = absurd cc
required_given least most (Some (string x)) h = within (is_within least most (length x)) h
required_given least most (Some (integer x)) h = absurd cc
required_given least most (Some (float x)) h = absurd cc
required_given least most (Some (boolean x)) h = absurd cc
required_given least most (Some (datetime x)) h = absurd cc
required_given least most (Some (array x)) h = absurd cc
required_given least most (Some (table x)) h = absurd cc

required_within : (place : TablePath) (members : Members) (name : List ℕ) (least most : ℕ)
    → fault_at place members (required_text_key name least most) ≡ None
    → is_within least most (length (setting_at members (required_text_key name least most))) ≡ true
unfolding setting_at required_text_key
required_within place members name least most h = required_given least most (get_member name members) (no_flaw place members (required_text_key name least most) h)

-- ---- users

both : (a b : Bool) → a ≡ true → b ≡ true → (a && b) ≡ true
both a b h g = ap (λ x. x && b) h ∙ g

second_true : (a b : Bool) → (a && b) ≡ true → b ≡ true
second_true true b h = h
second_true false b h = absurd cc

have : (key : Option (List ℕ)) (values : List Data) → is_some key ≡ true
    → have_key key (map user_settings values) ≡ true
have key [] h = refl
have key (value ∷ values) h = h

allowed_given : (key : Option (List ℕ)) (value : Option Data)
    → optional (allowed_list_flaw (is_some key)) value ≡ None
    → have_key key (map user_settings (given list_of [] value)) ≡ true
allowed_given key None h = refl
allowed_given key (Some (array x)) h =
    have key (data_in x) (second_true (nat_le 1 (length (data_in x))) (is_some key) (within (nat_le 1 (length (data_in x)) && is_some key) h))
allowed_given key (Some (string x)) h = absurd cc
allowed_given key (Some (integer x)) h = absurd cc
allowed_given key (Some (float x)) h = absurd cc
allowed_given key (Some (boolean x)) h = absurd cc
allowed_given key (Some (datetime x)) h = absurd cc
allowed_given key (Some (table x)) h = absurd cc

users_by : (members : Members) (key : Option (List ℕ))
    → fault_at Relay members (optional_list_key (codes "user") (is_some key)) ≡ None
    → have_key key
    (map user_settings (setting_at members (optional_list_key (codes "user") (is_some key)))) ≡ true
unfolding setting_at optional_list_key
users_by members key h = allowed_given key (get_member (codes "user") members) (no_flaw Relay members (optional_list_key (codes "user") (is_some key)) h)

users_allowed : (members : Members) → fault_at Relay members (users members) ≡ None
    → have_key (setting_at members shared_key)
    (map user_settings (setting_at members (users members))) ≡ true
users_allowed members h = users_by members (setting_at members shared_key) h

user_within : (user : ℕ) (value : Data) → user_fault user value ≡ None
    → user_in_range (user_settings value) ≡ true
user_within user (table members) h =
    both (is_within 1 NAME_MAX (length (setting_at members user_name))) (is_within 1 NAME_MAX (length (setting_at members user_password)))
    (required_within (User user) members (codes "name") 1 NAME_MAX (none_at (user_table user members) 0 (fault_at (User user) members user_name) h refl))
    (required_within (User user) members (codes "password") 1 NAME_MAX (none_at (user_table user members) 1 (fault_at (User user) members user_password) h refl))
user_within user (string x) h = absurd cc
user_within user (integer x) h = absurd cc
user_within user (float x) h = absurd cc
user_within user (boolean x) h = absurd cc
user_within user (datetime x) h = absurd cc
user_within user (array x) h = absurd cc

users_within : (n : ℕ) (values : List Data) → first (each user_fault n values) ≡ None
    → list_all user_in_range (map user_settings values) ≡ true
users_within n [] h = refl
users_within n (value ∷ values) h =
    let f = first_none (user_fault n value) (each user_fault (n + 1) values) h in
    both (user_in_range (user_settings value)) (list_all user_in_range (map user_settings values)) (user_within n value f.0) (users_within (n + 1) values f.1)

-- ---- the tables

relay_within : (members : Members) → first (relay_table members) ≡ None
    → relay_in_range (relay_settings members) ≡ true
relay_within members h =
    let name = text_within Relay members (codes "hostname") 1 NAME_MAX (codes "relay") refl (none_at (relay_table members) 2 (fault_at Relay members relay_hostname) h refl) in
    let key = key_within Relay members (none_at (relay_table members) 3 (fault_at Relay members shared_key) h refl) in
    let count = number_within Relay members (codes "connections") 1 CONNECTIONS_MAX CONNECTIONS_DEFAULT refl (none_at (relay_table members) 6 (fault_at Relay members connections) h refl) in
    let long = number_within Relay members (codes "message_limit") MESSAGE_LIMIT_MIN MESSAGE_LIMIT_MAX MESSAGE_LIMIT_DEFAULT refl (none_at (relay_table members) 7 (fault_at Relay members message_limit) h refl) in
    let deep = number_within Relay members (codes "depth") DEPTH_MIN DEPTH_MAX DEPTH_DEFAULT refl (none_at (relay_table members) 8 (fault_at Relay members depth) h refl) in
    let many = number_within Relay members (codes "readers") 1 READERS_MAX READERS_DEFAULT refl (none_at (relay_table members) 9 (fault_at Relay members readers) h refl) in
    let allowed = users_allowed members (none_at (relay_table members) 10 (fault_at Relay members (users members)) h refl) in
    let all = users_within 0 (setting_at members (users members)) (none_at (relay_table members) 11 (first (each user_fault 0 (setting_at members (users members)))) h refl) in
    let limit = limit_within Relay members (none_at (relay_table members) 13 (fault_at Relay members idle_limit) h refl) in
    let path = control_within Relay members (none_at (relay_table members) 14 (fault_at Relay members control) h refl) in
    let wait = number_within Relay members (codes "stop_wait") 1 WAIT_MAX STOP_WAIT_DEFAULT refl (none_at (relay_table members) 15 (fault_at Relay members stop_wait) h refl) in
    let r = relay_settings members in
    grind (arith, nat_tests, name, key, count, long, deep, many, all, allowed, limit, path, wait)

standby_none : (output : ℕ) (listed : List Data) → standby_fault output listed ≡ None
    → not (list_all (λ server. server.standby) (map server_settings listed)) ≡ true
standby_none output listed h =
    ap not (list_all-map (λ (server : ServerSettings). server.standby) server_settings listed) ∙ by (list_all is_standby listed) h
  where
    by : (b : Bool)
        → cond b
        (Some (Rattle.fwd_settings.specs.declared.fault.SettingsFault.TheVariants.OutOfRange
        (key_under (Output output) (codes "server")))) None ≡ None
        → not b ≡ true
    by true f = absurd cc
    by false f = refl

greater_default : (wait : ℕ) → is_within 1 WAIT_MAX wait ≡ true
    → is_within wait WAIT_MAX (max RETRY_MAX_DEFAULT wait) ≡ true
greater_default wait h = grind (arith, nat_tests, h)

at_most : (least most n : ℕ) → is_within least most n ≡ true → nat_le n most ≡ true
at_most least most n h = grind (arith, nat_tests, h)

module _ (output : ℕ) (members : Members) (h : first (output_table output members) ≡ None) where
  number_here : (i : ℕ) (name : List ℕ) (least most default : ℕ)
      → is_within least most default ≡ true
      → slice_get (output_table output members) i ≡ Some
      (fault_at (Output output) members (number_key name least most default))
      → is_within least most (setting_at members (number_key name least most default)) ≡ true
  number_here i name least most default d e =
      number_within (Output output) members name least most default d (none_at (output_table output members) i (fault_at (Output output) members (number_key name least most default)) h e)

  text_here : (i : ℕ) (name : List ℕ) (least : ℕ) (default : List ℕ)
      → is_within least NAME_MAX (length default) ≡ true
      → slice_get (output_table output members) i ≡ Some
      (fault_at (Output output) members (text_key name least NAME_MAX default))
      → is_within least NAME_MAX (length (setting_at members (text_key name least NAME_MAX default))) ≡ true
  text_here i name least default d e =
      text_within (Output output) members name least NAME_MAX default d (none_at (output_table output members) i (fault_at (Output output) members (text_key name least NAME_MAX default)) h e)

  members_within : output_in_range (output_settings (table members)) ≡ true
  members_within =
      let wait = number_here 5 (codes "retry_wait") 1 WAIT_MAX RETRY_WAIT_DEFAULT refl refl in
      let most = number_here 6 (codes "retry_max") (setting_at members retry_wait) WAIT_MAX (max RETRY_MAX_DEFAULT (setting_at members retry_wait)) (greater_default (setting_at members retry_wait) wait) refl in
      let key = key_within (Output output) members (none_at (output_table output members) 10 (fault_at (Output output) members output_shared_key) h refl) in
      let user = at_most 0 NAME_MAX (length (setting_at members username)) (text_here 11 (codes "username") 0 (codes "") refl refl) in
      let secret = at_most 0 NAME_MAX (length (setting_at members password)) (text_here 12 (codes "password") 0 (codes "") refl refl) in
      let listed = list_within (Output output) members (codes "server") SERVERS_MAX (none_at (output_table output members) 13 (fault_at (Output output) members servers) h refl) in
      let count = ap (is_within 1 SERVERS_MAX) (length-map (setting_at members servers) server_settings) ∙ listed in
      let usable = standby_none output (setting_at members servers) (none_at (output_table output members) 14 (standby_fault output (setting_at members servers)) h refl) in
      grind (
        arith,
        nat_tests,
        number_here 1 (codes "workers") 1 WORKERS_MAX WORKERS_DEFAULT refl refl,
        number_here 2 (codes "chunk_limit") 1 CHUNK_LIMIT_MAX CHUNK_LIMIT_DEFAULT refl refl,
        number_here 3 (codes "total_limit") 1 TOTAL_LIMIT_MAX TOTAL_LIMIT_DEFAULT refl refl,
        number_here 4 (codes "flush_interval") 0 WAIT_MAX FLUSH_INTERVAL_DEFAULT refl refl,
        wait,
        most,
        number_here 7 (codes "ack_wait") 1 WAIT_MAX ACK_WAIT_DEFAULT refl refl,
        number_here 8 (codes "window") 1 WINDOW_MAX WINDOW_DEFAULT refl refl,
        text_here 9 (codes "hostname") 1 (codes "relay") refl refl,
        key,
        user,
        secret,
        count,
        usable,
      )

output_within : (output : ℕ) (value : Data) → output_fault output value ≡ None
    → output_in_range (output_settings value) ≡ true
output_within output (table members) h = members_within output members h
output_within output (string x) h = absurd cc
output_within output (integer x) h = absurd cc
output_within output (float x) h = absurd cc
output_within output (boolean x) h = absurd cc
output_within output (datetime x) h = absurd cc
output_within output (array x) h = absurd cc

outputs_within : (n : ℕ) (values : List Data) → first (each output_fault n values) ≡ None
    → list_all output_in_range (map output_settings values) ≡ true
outputs_within n [] h = refl
outputs_within n (value ∷ values) h =
    let f = first_none (output_fault n value) (each output_fault (n + 1) values) h in
    both (output_in_range (output_settings value)) (list_all output_in_range (map output_settings values)) (output_within n value f.0) (outputs_within (n + 1) values f.1)

-- ---- the whole text

relay_here : (root : Members) → relay_fault (get_member (codes "relay") root) ≡ None
    → relay_in_range (relay_settings (table_in (codes "relay") root)) ≡ true
relay_here root h = by (get_member (codes "relay") root) h
  where
    by : (value : Option Data) → relay_fault value ≡ None
        → relay_in_range
        (relay_settings (Rattle.std.specs.Prelude.unwrap_or
        (Rattle.std.specs.Prelude.option_and_then Rattle.toml.specs.Data.as_table value) no_members))
        ≡ true
    by None f = relay_within no_members f
    by (Some (table members)) f = relay_within members f
    by (Some (string x)) f = absurd cc
    by (Some (integer x)) f = absurd cc
    by (Some (float x)) f = absurd cc
    by (Some (boolean x)) f = absurd cc
    by (Some (datetime x)) f = absurd cc
    by (Some (array x)) f = absurd cc

root_within : (root : Members) → first (root_table root) ≡ None
    → in_range (root_settings root) ≡ true
root_within root h =
    let relay = relay_here root (none_at (root_table root) 0 (relay_fault (get_member (codes "relay") root)) h refl) in
    let listed = list_within Root root (codes "output") OUTPUTS_MAX (none_at (root_table root) 1 (fault_at Root root outputs) h refl) in
    let count : is_within 1 OUTPUTS_MAX (length (map output_settings (setting_at root outputs))) ≡ true = ap (is_within 1 OUTPUTS_MAX) (length-map (setting_at root outputs) output_settings) ∙ listed in
    let all = outputs_within 0 (setting_at root outputs) (none_at (root_table root) 2 (first (each output_fault 0 (setting_at root outputs))) h refl) in
    both (relay_in_range (root_settings root).relay) (is_within 1 OUTPUTS_MAX (length (root_settings root).outputs) && list_all output_in_range (root_settings root).outputs) relay
    (both (is_within 1 OUTPUTS_MAX (length (root_settings root).outputs)) (list_all output_in_range (root_settings root).outputs) count all)

judged_within : (fault : Option SettingsFault) (settings accepted : Settings)
    → (fault ≡ None → in_range settings ≡ true) → judged fault settings ≡ Ok accepted
    → in_range accepted ≡ true
judged_within None settings accepted h e = let same : settings ≡ accepted = cc in subst (λ s. in_range s ≡ true) same (h refl)
judged_within (Some fault) settings accepted h e = absurd cc

document_within : (document : Option Members) (accepted : Settings)
    → of_document document ≡ Ok accepted → in_range accepted ≡ true
document_within None accepted e = absurd cc
document_within (Some root) accepted e = judged_within (first (root_table root)) (root_settings root) accepted (root_within root) e

pub accepted_within : (text : List ℕ) (accepted : Settings) → settings_of text ≡ Ok accepted
    → in_range accepted ≡ true
accepted_within text accepted e = document_within (document_of text) accepted e
