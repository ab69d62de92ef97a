-- The kinds of values that a key may ask for.
use Rattle.std.specs.Prelude.{◌≡◌, ◌≢◌, ℕ, not, ◌&&◌, nat_le, pos, negsuc, Bool, List, [], ◌∷◌, codes, length, ◌+◌, Option, Some, None, is_some, option_map, option_and_then, unwrap_or, Result, Ok, Err, if◌then◌else◌}
use Rattle.std.specs.List.{list_any}
use Rattle.std.specs.Option.{option_or}
use Rattle.std.specs.Result.{is_ok, result_ok}
use Rattle.std.specs.Str.{bytes_eq}
use Rattle.std.specs.declared.net.socket_addr.SocketAddr.{SocketAddr}
use Rattle.toml.specs.Data.{Data, string, integer, boolean, array, Items, no_items, item, Members, get_member, as_str, as_bool}
use Rattle.hex.specs.Hex.{decode_sized}
use Rattle.fwd_match.specs.Verdicts.{Verdict, Good, Bad, verdict}
use Rattle.fwd_settings.specs.declared.fault.SettingsFault.{SettingsFault}
use Rattle.fwd_settings.specs.declared.fault.SettingsFault.TheVariants.{Memory}
use Rattle.fwd_settings.specs.declared.table_path.TablePath.{TablePath}
use Rattle.fwd_settings.specs.declared.table_path.Flaw.{Flaw}
use Rattle.fwd_settings.specs.declared.table_path.Flaw.TheVariants.{Missing, WrongKind, OutOfRange, BadPattern}
use Rattle.fwd_settings.specs.declared.settings.ListenAddress.{ListenAddress}
use Rattle.fwd_settings.specs.declared.settings.ListenAddress.TheVariants.{Tcp, Unix}
use Rattle.fwd_settings.specs.declared.settings.WhenFull.{WhenFull}
use Rattle.fwd_settings.specs.declared.settings.WhenFull.TheVariants.{Close, Wait}
use Rattle.fwd_settings.specs.declared.ranges.TheConstants.{CONTROL_MAX}
use Rattle.fwd_settings.specs.Addresses.{address_of_text, behind_unix, is_absolute, is_zero, nowhere}
use Rattle.fwd_settings.specs.Faults.{fault_with, key_under}

-- A key: its name, what is wrong with what stands there, and the setting that it gives. Where
-- something is wrong, the setting is of no account.
pub record Key (A : Type 0) : Type 0 where
  pub name : List ℕ
  pub flaw : Option Data → Option Flaw
  pub setting : Option Data → A

-- a key that may be absent, and one that may not
abbrev pub optional : (Data → Option Flaw) → Option Data → Option Flaw
optional flaw None = None
optional flaw (Some value) = flaw value

-- a value that has to be there, with the flaw of what is
abbrev pub required : (Data → Option Flaw) → Option Data → Option Flaw
required flaw None = Some Missing
required flaw (Some value) = flaw value

-- what a value gives, or the default
abbrev pub given : {A : Type 0} → (Data → Option A) → A → Option Data → A
given reads default value = unwrap_or (option_and_then reads value) default

-- a test of a range
abbrev pub unless_out : Bool → Option Flaw
unless_out within = if within then None else Some OutOfRange

-- the number is at least and at most so great
abbrev pub is_within : (least most n : ℕ) → Bool
is_within least most n = nat_le least n && nat_le n most

-- ---- numbers: TOML's integers

-- what is wrong with a value where a whole number is asked for, in a range
abbrev pub number_flaw : ℕ → ℕ → Data → Option Flaw
number_flaw least most (integer (pos n)) = unless_out (is_within least most n)
number_flaw least most (integer (negsuc n)) = Some OutOfRange
number_flaw least most _ = Some WrongKind

-- the whole number that a value is
abbrev pub number_of : Data → Option ℕ
number_of (integer (pos n)) = Some n
number_of _ = None

-- a number in a range, or the default where there is none
unfoldable pub number_key : List ℕ → (least most default : ℕ) → Key ℕ
number_key name least most default =
    record {
      name = name;
      flaw = optional (number_flaw least most);
      setting = given number_of default;
    }

-- a number in a range, if there is one
unfoldable pub optional_number_key : List ℕ → (least most : ℕ) → Key (Option ℕ)
optional_number_key name least most =
    record {
      name = name;
      flaw = optional (number_flaw least most);
      setting = option_and_then number_of;
    }

-- ---- flags: true or false

-- what is wrong with a value where a boolean is asked for
abbrev pub flag_flaw : Data → Option Flaw
flag_flaw (boolean flag) = None
flag_flaw _ = Some WrongKind

-- a boolean, or the default where there is none
unfoldable pub flag_key : List ℕ → (default : Bool) → Key Bool
flag_key name default =
    record { name = name; flaw = optional flag_flaw; setting = given as_bool default }

-- ---- what becomes of a request that an output has no room for: `close` or `wait`

-- what a word says
abbrev pub when_full_in : List ℕ → Option WhenFull
when_full_in word =
    if bytes_eq word (codes "close") then Some Close
    else (if bytes_eq word (codes "wait") then Some Wait else None)

-- what a value says
abbrev pub when_full_of : Data → Option WhenFull
when_full_of (string text) = when_full_in text
when_full_of _ = None

-- what is wrong with a value where one of the two words is asked for
abbrev pub when_full_flaw : Data → Option Flaw
when_full_flaw (string text) = unless_out (is_some (when_full_in text))
when_full_flaw _ = Some WrongKind

-- one of the two words, or that its source is closed
unfoldable pub when_full_key : List ℕ → Key WhenFull
when_full_key name =
    record { name = name; flaw = optional when_full_flaw; setting = given when_full_of Close }

-- ---- texts, whose lengths count bytes

-- what is wrong with a value where a text of some length in bytes is asked for
abbrev pub text_flaw : ℕ → ℕ → Data → Option Flaw
text_flaw least most (string text) = unless_out (is_within least most (length text))
text_flaw least most _ = Some WrongKind

-- a text of some length in bytes, or the default where there is none
unfoldable pub text_key : List ℕ → (least most : ℕ) → (default : List ℕ)
    → Key (List ℕ)
text_key name least most default =
    record { name = name; flaw = optional (text_flaw least most); setting = given as_str default }

-- a text of some length in bytes, if there is one
unfoldable pub optional_text_key : List ℕ → (least most : ℕ) → Key (Option (List ℕ))
optional_text_key name least most =
    record { name = name; flaw = optional (text_flaw least most); setting = option_and_then as_str }

-- a text of some length in bytes, which has to be there
unfoldable pub required_text_key : List ℕ → (least most : ℕ) → Key (List ℕ)
required_text_key name least most =
    record { name = name; flaw = required (text_flaw least most); setting = given as_str [] }

-- ---- paths of sockets, which stand alone

-- a path that a socket may have: no longer than the system has room for, and without a byte of 0
abbrev pub is_path : List ℕ → Bool
is_path path = is_within 1 CONTROL_MAX (length path) && not (list_any is_zero path)

-- what is wrong with a value where such a path is asked for
abbrev pub path_flaw : Data → Option Flaw
path_flaw (string text) = unless_out (is_path text)
path_flaw _ = Some WrongKind

-- the path of a socket, if there is one
unfoldable pub optional_path_key : List ℕ → Key (Option (List ℕ))
optional_path_key name =
    record { name = name; flaw = optional path_flaw; setting = option_and_then as_str }

-- ---- so many bytes, each as two hex digits of either case

-- what is wrong with a value where the hexadecimal digits of so many bytes are asked for
abbrev pub digits_flaw : ℕ → Data → Option Flaw
digits_flaw count (string text) = unless_out (is_ok (decode_sized text count))
digits_flaw count _ = Some WrongKind

-- the bytes that a value's hexadecimal digits spell
abbrev pub bytes_of : ℕ → Data → Option (List ℕ)
bytes_of count (string text) = result_ok (decode_sized text count)
bytes_of count _ = None

-- so many bytes in hexadecimal digits, if there are any
unfoldable pub digits_key : List ℕ → (count : ℕ) → Key (Option (List ℕ))
digits_key name count =
    record {
      name = name;
      flaw = optional (digits_flaw count);
      setting = option_and_then (bytes_of count);
    }

-- ---- addresses

-- what is wrong with a value where an address is asked for
abbrev pub address_flaw : Data → Option Flaw
address_flaw (string text) = unless_out (is_some (address_of_text text))
address_flaw _ = Some WrongKind

-- the address that a value spells
abbrev pub address_of : Data → Option SocketAddr
address_of (string text) = address_of_text text
address_of _ = None

-- an address, if there is one
unfoldable pub address_key : List ℕ → Key (Option SocketAddr)
address_key name =
    record { name = name; flaw = optional address_flaw; setting = option_and_then address_of }

-- a path that a Unix socket may have: absolute, no longer than the system has room for, and without
-- a byte of 0
abbrev pub is_socket_path : List ℕ → Bool
is_socket_path path =
    is_absolute path && (is_within 2 CONTROL_MAX (length path) && not (list_any is_zero path))

-- the path of a Unix socket that a text says, if it says one
abbrev pub path_of_text : List ℕ → Option (List ℕ)
path_of_text text =
    option_and_then (λ path. if is_socket_path path then Some path else None) (behind_unix text)

-- the path of a Unix socket that a value says
abbrev pub path_of : Data → Option (List ℕ)
path_of (string text) = path_of_text text
path_of _ = None

-- where sources connect: at a Unix socket, or at an address
abbrev pub listen_of : Data → Option ListenAddress
listen_of value = option_or (option_map Unix (path_of value)) (option_map Tcp (address_of value))

-- what is wrong with a value where one of both is asked for
abbrev pub listen_flaw : Data → Option Flaw
listen_flaw value = if is_some (path_of value) then None else address_flaw value

-- where sources connect, or the default where that is not said
unfoldable pub listen_key_or : List ℕ → (default : SocketAddr) → Key ListenAddress
listen_key_or name default =
    record { name = name; flaw = optional listen_flaw; setting = given listen_of (Tcp default) }

-- an address, which has to be there
unfoldable pub required_address_key : List ℕ → Key SocketAddr
required_address_key name =
    record { name = name; flaw = required address_flaw; setting = given address_of nowhere }

-- ---- match patterns, as the list of their expanded words

-- the words of a pattern that is good
abbrev pub words_in : Verdict → Option (List (List ℕ))
words_in (Good pattern) = Some pattern
words_in (Bad fault) = None

-- a pattern that is bad is a flaw
abbrev pub unless_bad : Verdict → Option Flaw
unless_bad (Good pattern) = None
unless_bad (Bad fault) = Some BadPattern

-- what is wrong with a value where a pattern is asked for
abbrev pub pattern_flaw : Data → Option Flaw
pattern_flaw (string text) = unless_bad (verdict text)
pattern_flaw _ = Some WrongKind

-- the words of the pattern that a value spells
abbrev pub pattern_of : Data → Option (List (List ℕ))
pattern_of (string text) = words_in (verdict text)
pattern_of _ = None

-- a pattern, which has to be there
unfoldable pub required_pattern_key : List ℕ → Key (List (List ℕ))
required_pattern_key name =
    record { name = name; flaw = required pattern_flaw; setting = given pattern_of [] }

-- ---- lists, as their members in order

-- the items of a list
abbrev pub data_in : Items → List Data
data_in no_items = []
data_in (item value more) = value ∷ data_in more

-- the list that a value is
abbrev pub list_of : Data → Option (List Data)
list_of (array items) = Some (data_in items)
list_of _ = None

-- a list has at least one item, and at most so many
abbrev pub counted : ℕ → Option (List Data) → Option Flaw
counted most None = Some WrongKind
counted most (Some members) = unless_out (is_within 1 most (length members))

-- what is wrong with a value where a list of at most so many items is asked for
abbrev pub list_flaw : ℕ → Data → Option Flaw
list_flaw most value = counted most (list_of value)

-- the members of the list under a name, if there is one
abbrev pub list_in : List ℕ → Members → List Data
list_in name members = given list_of [] (get_member name members)

-- a list of at most so many items, which has to be there
unfoldable pub required_list_key : List ℕ → (most : ℕ) → Key (List Data)
required_list_key name most =
    record { name = name; flaw = required (list_flaw most); setting = given list_of [] }

-- a list that may be absent, and else has a member; where it may not stand at all it is out of
-- range
abbrev pub allowed : Bool → Option (List Data) → Option Flaw
allowed may None = Some WrongKind
allowed may (Some members) = unless_out (nat_le 1 (length members) && may)

-- what is wrong with a value where a list is asked for, or none may stand
abbrev pub allowed_list_flaw : Bool → Data → Option Flaw
allowed_list_flaw may value = allowed may (list_of value)

-- a list, if there is one and it may be there
unfoldable pub optional_list_key : List ℕ → (may : Bool) → Key (List Data)
optional_list_key name may =
    record { name = name; flaw = optional (allowed_list_flaw may); setting = given list_of [] }

-- something of each member of a list, which are numbered
abbrev pub each : {A : Type 0} → (ℕ → Data → A) → ℕ → List Data → List A
each what number [] = []
each what number (value ∷ more) = what number value ∷ each what (number + 1) more

-- ---- a key in a table

-- the fault of a key in a table, if there is one
unfoldable pub fault_at : {A : Type 0} → TablePath → Members → Key A → Option SettingsFault
fault_at place members key =
    option_map (λ flaw.
    fault_with flaw (key_under place key.name)) (key.flaw (get_member key.name members))

-- what a key in a table sets
unfoldable pub setting_at : {A : Type 0} → Members → Key A → A
setting_at members key = key.setting (get_member key.name members)

-- what a reader answers: the setting if there is no fault, or the fault, or that memory ran out
abbrev pub Answers : {A : Type 0} → Option SettingsFault → A → Result A SettingsFault
    → Type 0
Answers fault setting (Ok answer) = (fault ≡ None) × (answer ≡ setting)
Answers fault setting (Err told) = told ≢ Memory → fault ≡ Some told

-- a key was read from a table: what it sets, or its fault
abbrev pub Reads : {A : Type 0} → TablePath → Members → Key A → Result A SettingsFault
    → Type 0
Reads place members key result =
    Answers (fault_at place members key) (setting_at members key) result
