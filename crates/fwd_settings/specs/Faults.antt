-- Where a key stands, how it is written, and how a fault is told.
use Rattle.std.specs.Prelude.{ℕ, List, ◌++◌, codes}
use Rattle.std.specs.Fmt.{decimal}
use Rattle.fwd_settings.specs.declared.fault.SettingsFault.{SettingsFault}
use Rattle.fwd_settings.specs.declared.fault.SettingsFault.TheVariants.{Memory, Unreadable, NotToml, Missing, WrongKind, OutOfRange, Unknown, BadPattern}
use Rattle.fwd_settings.specs.declared.table_path.TablePath.{TablePath}
use Rattle.fwd_settings.specs.declared.table_path.TablePath.TheVariants.{Root, Relay, User, Output, Server}
use Rattle.fwd_settings.specs.declared.table_path.Flaw.{Flaw}
use Rattle.fwd_settings.specs.declared.table_path.Flaw.TheVariants as flaws

-- the text of a fault
abbrev pub fault_text : SettingsFault → List ℕ
fault_text Memory = codes "memory"
fault_text Unreadable = codes "unreadable"
fault_text NotToml = codes "not toml"
fault_text (Missing key) = codes "missing " ++ key
fault_text (WrongKind key) = codes "wrong kind " ++ key
fault_text (OutOfRange key) = codes "out of range " ++ key
fault_text (Unknown key) = codes "unknown " ++ key
fault_text (BadPattern key) = codes "bad pattern " ++ key

-- the key of a table
abbrev pub own_key : TablePath → List ℕ
own_key Root = codes ""
own_key Relay = codes "relay"
own_key (User user) = codes "relay.user[" ++ decimal user ++ codes "]"
own_key (Output output) = codes "output[" ++ decimal output ++ codes "]"
own_key (Server output server) =
    codes "output[" ++ decimal output ++ codes "].server[" ++ decimal server ++ codes "]"

-- the key of a name in a table
abbrev pub key_under : TablePath → List ℕ → List ℕ
key_under Root name = name
key_under place name = own_key place ++ (codes "." ++ name)

-- a flaw of the value under a key
abbrev pub fault_with : Flaw → List ℕ → SettingsFault
fault_with flaws.Missing key = Missing key
fault_with flaws.WrongKind key = WrongKind key
fault_with flaws.OutOfRange key = OutOfRange key
fault_with flaws.BadPattern key = BadPattern key
