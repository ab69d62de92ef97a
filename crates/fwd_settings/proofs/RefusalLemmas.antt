-- No text is refused when out of memory, or as unreadable.
use Rattle.std.proofs.Common.{◌≡◌, ◌≢◌, ℕ, ◌+◌, Bool, true, false, cond, List, [], ◌∷◌, Option, Some, None, Result, Ok, Err, refl, sym, ap, ◌∙◌, true≢false}
use Rattle.std.specs.Prelude.{◌&&◌, codes, option_map}
use Rattle.std.specs.List.{list_all}
use Rattle.toml.specs.Data.{Data, string, integer, float, boolean, datetime, array, table, Members, no_members, get_member}
use Rattle.fwd_settings.specs.declared.fault.SettingsFault.{SettingsFault}
use Rattle.fwd_settings.specs.declared.fault.SettingsFault.TheVariants.{Memory, Unreadable, NotToml, Missing, WrongKind, OutOfRange, Unknown, BadPattern}
use Rattle.fwd_settings.specs.declared.table_path.TablePath.{TablePath}
use Rattle.fwd_settings.specs.declared.table_path.TablePath.TheVariants.{Relay, User, Output, Server}
use Rattle.fwd_settings.specs.declared.table_path.Flaw.{Flaw}
use Rattle.fwd_settings.specs.declared.table_path.Flaw.TheVariants as flaws
use Rattle.fwd_settings.specs.declared.settings.Settings.{Settings}
use Rattle.fwd_settings.specs.Faults.{fault_with, key_under, own_key}
use Rattle.fwd_settings.specs.Kinds.{Key, each, fault_at}
use Rattle.fwd_settings.specs.Keys.{first, relay_table, user_table, user_fault, output_table, output_fault, server_table, server_fault, is_standby, standby_fault}
use Rattle.fwd_settings.specs.Whole.{relay_fault, root_table, root_settings, judged, of_document, document_of, settings_of}

-- whether a fault, if there is one, is of the text
of_text : Option SettingsFault → Bool
of_text None = true
of_text (Some Memory) = false
of_text (Some Unreadable) = false
of_text (Some NotToml) = true
of_text (Some (Missing key)) = true
of_text (Some (WrongKind key)) = true
of_text (Some (OutOfRange key)) = true
of_text (Some (Unknown key)) = true
of_text (Some (BadPattern key)) = true

flawed : (found : Option Flaw) (key : List ℕ)
    → of_text (option_map (λ flaw. fault_with flaw key) found) ≡ true
unfolding of_text
flawed None key = refl
flawed (Some flaws.Missing) key = refl
flawed (Some flaws.WrongKind) key = refl
flawed (Some flaws.OutOfRange) key = refl
flawed (Some flaws.BadPattern) key = refl

at_key : {A : Type 0} (place : TablePath) (members : Members) (key : Key A)
    → of_text (fault_at place members key) ≡ true
unfolding fault_at
at_key place members key = flawed (key.flaw (get_member key.name members)) (key_under place key.name)

first_of : (faults : List (Option SettingsFault)) → list_all of_text faults ≡ true
    → of_text (first faults) ≡ true
unfolding of_text
first_of [] h = refl
first_of (None ∷ more) h = first_of more h
first_of (Some fault ∷ more) h = by (of_text (Some fault)) (list_all of_text more) h
  where
    by : (b c : Bool) → (b && c) ≡ true → b ≡ true
    by true c e = refl
    by false c e = absurd (true≢false (sym e))

all_of : (what : ℕ → Data → Option SettingsFault)
    → ((number : ℕ) (value : Data) → of_text (what number value) ≡ true)
    → (number : ℕ) (values : List Data) → list_all of_text (each what number values) ≡ true
all_of what h number [] = refl
all_of what h number (value ∷ values) = ap (λ b. b && list_all of_text (each what (number + 1) values)) (h number value) ∙ all_of what h (number + 1) values

members_of : (what : ℕ → Data → Option SettingsFault)
    → ((number : ℕ) (value : Data) → of_text (what number value) ≡ true)
    → (values : List Data) → of_text (first (each what 0 values)) ≡ true
members_of what h values = first_of (each what 0 values) (all_of what h 0 values)

wrong_kind : (key : List ℕ) → of_text (Some (WrongKind key)) ≡ true
unfolding of_text
wrong_kind key = refl

in_server : (output server : ℕ) (value : Data)
    → of_text (server_fault output server value) ≡ true
in_server output server (table members) = first_of (server_table output server members) (simp (at_key) refl)
in_server output server (string x) = wrong_kind (own_key (Server output server))
in_server output server (integer x) = wrong_kind (own_key (Server output server))
in_server output server (float x) = wrong_kind (own_key (Server output server))
in_server output server (boolean x) = wrong_kind (own_key (Server output server))
in_server output server (datetime x) = wrong_kind (own_key (Server output server))
in_server output server (array x) = wrong_kind (own_key (Server output server))

standbys : (output : ℕ) (listed : List Data) → of_text (standby_fault output listed) ≡ true
standbys output listed = by (list_all is_standby listed)
  where
    out : of_text (Some (OutOfRange (key_under (Output output) (codes "server")))) ≡ true
    out = flawed (Some flaws.OutOfRange) (key_under (Output output) (codes "server"))

    none : of_text None ≡ true
    none = flawed None []

    by : (b : Bool)
        → of_text
        (cond b (Some (OutOfRange (key_under (Output output) (codes "server")))) None) ≡ true
    by true = out
    by false = none

in_output : (output : ℕ) (value : Data) → of_text (output_fault output value) ≡ true
in_output output (table members) =
    first_of (output_table output members) (simp (at_key, members_of (server_fault output) (in_server output), standbys) refl)
in_output output (string x) = wrong_kind (own_key (Output output))
in_output output (integer x) = wrong_kind (own_key (Output output))
in_output output (float x) = wrong_kind (own_key (Output output))
in_output output (boolean x) = wrong_kind (own_key (Output output))
in_output output (datetime x) = wrong_kind (own_key (Output output))
in_output output (array x) = wrong_kind (own_key (Output output))

in_user : (user : ℕ) (value : Data) → of_text (user_fault user value) ≡ true
in_user user (table members) = first_of (user_table user members) (simp (at_key) refl)
in_user user (string x) = wrong_kind (own_key (User user))
in_user user (integer x) = wrong_kind (own_key (User user))
in_user user (float x) = wrong_kind (own_key (User user))
in_user user (boolean x) = wrong_kind (own_key (User user))
in_user user (datetime x) = wrong_kind (own_key (User user))
in_user user (array x) = wrong_kind (own_key (User user))

in_relay : (members : Members) → of_text (first (relay_table members)) ≡ true
in_relay members = first_of (relay_table members) (simp (at_key, members_of user_fault in_user) refl)

under_relay : (value : Option Data) → of_text (relay_fault value) ≡ true
under_relay None = in_relay no_members
under_relay (Some (table members)) = in_relay members
under_relay (Some (string x)) = wrong_kind (own_key Relay)
under_relay (Some (integer x)) = wrong_kind (own_key Relay)
under_relay (Some (float x)) = wrong_kind (own_key Relay)
under_relay (Some (boolean x)) = wrong_kind (own_key Relay)
under_relay (Some (datetime x)) = wrong_kind (own_key Relay)
under_relay (Some (array x)) = wrong_kind (own_key Relay)

known : (found : Option (List ℕ)) → of_text (option_map Unknown found) ≡ true
unfolding of_text
known None = refl
known (Some key) = refl

in_root : (root : Members) → of_text (first (root_table root)) ≡ true
in_root root =
    first_of (root_table root) (simp (under_relay, at_key, members_of output_fault in_output, known) refl)

-- the fault of a refusal
abbrev fault_of : Result Settings SettingsFault → Option SettingsFault
fault_of (Ok settings) = None
fault_of (Err fault) = Some fault

judged_of : (found : Option SettingsFault) (settings : Settings)
    → fault_of (judged found settings) ≡ found
judged_of None settings = refl
judged_of (Some fault) settings = refl

refusal_of : (document : Option Members) → of_text (fault_of (of_document document)) ≡ true
unfolding of_text
refusal_of None = refl
refusal_of (Some root) = ap of_text (judged_of (first (root_table root)) (root_settings root)) ∙ in_root root

pub not_memory : (text : List ℕ) → settings_of text ≢ Err Memory
unfolding of_text
not_memory text e = true≢false (sym (refusal_of (document_of text)) ∙ ap (λ answer. of_text (fault_of answer)) e)

pub not_unreadable : (text : List ℕ) → settings_of text ≢ Err Unreadable
unfolding of_text
not_unreadable text e = true≢false (sym (refusal_of (document_of text)) ∙ ap (λ answer. of_text (fault_of answer)) e)

-- what no text is refused as
pub ruleset never_refused = (not_memory, not_unreadable)
