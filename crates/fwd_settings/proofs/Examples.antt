-- The definitions at work on small values and texts.
use Rattle.std.proofs.Common.{◌≡◌, [], ◌∷◌, Some, None, pos, negsuc, refl}
use Rattle.std.specs.Prelude.{codes, replicate, ◌++◌}
use Rattle.std.specs.Fmt.{digits}
use Rattle.std.specs.Net.Reader.{read_number, read_octet, read_ipv4, read_segment, read_segments, read_ipv6, read_port, read_scope_id, read_socket_v4, read_socket_v6}
use Rattle.hex.specs.Hex.{decode_pairs}
use Rattle.toml.specs.Data.{string, integer, table, no_members, member}
use Rattle.fwd_settings.specs.declared.fault.SettingsFault.TheVariants as faults
use Rattle.fwd_settings.specs.declared.table_path.TablePath.TheVariants.{Output, Server}
use Rattle.fwd_settings.specs.declared.table_path.Flaw.TheVariants.{WrongKind, OutOfRange}
use Rattle.fwd_settings.specs.Addresses.{v4_from, v6_from, socket_of, address_of_text, at_colon}
use Rattle.fwd_settings.specs.Faults.{key_under, fault_text}
use Rattle.fwd_settings.specs.Kinds.{number_flaw, flag_flaw, text_flaw, path_flaw, digits_flaw, path_of_text, fault_at, setting_at, number_key, text_key, optional_text_key, required_address_key}
use Rattle.fwd_settings.specs.Keys.{retry_max, output_shared_key, login_table, first, server_fault}
use Rattle.fwd_settings.specs.Unknown.{least}

greatest_worker : number_flaw 1 16 (integer (pos 16)) ≡ None
greatest_worker = refl

one_worker_more : number_flaw 1 16 (integer (pos 17)) ≡ Some OutOfRange
one_worker_more = refl

below_zero : number_flaw 0 16 (integer (negsuc 0)) ≡ Some OutOfRange
below_zero = refl

a_text_is_no_number : number_flaw 0 16 (string (codes "1")) ≡ Some WrongKind
a_text_is_no_number = refl

a_number_is_no_flag : flag_flaw (integer (pos 1)) ≡ Some WrongKind
a_number_is_no_flag = refl

an_empty_name : text_flaw 1 255 (string (codes "")) ≡ Some OutOfRange
an_empty_name = refl

a_control_path : path_flaw (string (codes "run/control")) ≡ None
a_control_path = refl

no_path : path_flaw (string (codes "")) ≡ Some OutOfRange
no_path = refl

-- 0 ends a path where the system reads it
a_path_with_a_zero : path_flaw (string (codes "run" ++ 0 ∷ codes "control")) ≡ Some OutOfRange
a_path_with_a_zero = refl

a_path_of_107 : path_flaw (string (replicate 107 97)) ≡ None
a_path_of_107 = refl

a_path_too_long : path_flaw (string (replicate 108 97)) ≡ Some OutOfRange
a_path_too_long = refl

a_number_is_no_path : path_flaw (integer (pos 1)) ≡ Some WrongKind
a_number_is_no_path = refl

either_case : digits_flaw 2 (string (codes "aBC9")) ≡ None
unfolding decode_pairs
either_case = refl

an_odd_length : digits_flaw 2 (string (codes "aBC")) ≡ Some OutOfRange
unfolding decode_pairs
an_odd_length = refl

no_digit : digits_flaw 2 (string (codes "aBCg")) ≡ Some OutOfRange
unfolding decode_pairs
no_digit = refl

an_address : address_of_text (codes "10.0.0.1:80")
    ≡ Some (v4_from (10 ∷ 0 ∷ 0 ∷ 1 ∷ [], 80))
unfolding address_of_text socket_of read_socket_v4 read_ipv4 read_octet read_number read_port
an_address = refl

a_long_address : address_of_text (codes "[::1]:80")
    ≡ Some (v6_from (0 ∷ 0 ∷ 0 ∷ 0 ∷ 0 ∷ 0 ∷ 0 ∷ 1 ∷ [], 80, 0, 0))
unfolding address_of_text socket_of read_socket_v4 read_socket_v6 read_ipv4 read_ipv6 read_segments read_segment read_octet read_number read_port read_scope_id
a_long_address = refl

port_nought : address_of_text (codes "10.0.0.1:0") ≡ None
unfolding address_of_text socket_of read_socket_v4 read_ipv4 read_octet read_number read_port
port_nought = refl

a_scope : address_of_text (codes "[::1%0]:80") ≡ None
unfolding address_of_text socket_of read_socket_v4 read_socket_v6 read_ipv4 read_ipv6 read_segments read_segment read_octet read_number read_port read_scope_id
a_scope = refl

a_key : key_under (Server 0 12) (codes "address") ≡ codes "output[0].server[12].address"
unfolding digits
a_key = refl

a_fault : fault_text (faults.OutOfRange (codes "output")) ≡ codes "out of range output"
a_fault = refl

-- the longest wait grows with the first
a_short_wait : setting_at no_members (retry_max no_members) ≡ 60000
unfolding setting_at number_key
a_short_wait = refl

a_long_wait : setting_at no_members
    (retry_max (member (codes "retry_wait") (integer (pos 60001)) no_members)) ≡ 60001
unfolding setting_at number_key
a_long_wait = refl

below_the_wait : fault_at (Output 0) (member (codes "retry_max") (integer (pos 999)) no_members)
    (retry_max no_members) ≡ Some (faults.OutOfRange (codes "output[0].retry_max"))
unfolding fault_at setting_at number_key digits
below_the_wait = refl

-- an output has no key of its own accord
no_key : setting_at no_members output_shared_key ≡ None
unfolding setting_at optional_text_key
no_key = refl

no_key_is_good : fault_at (Output 0) no_members output_shared_key ≡ None
unfolding fault_at optional_text_key
no_key_is_good = refl

a_key_of_servers : setting_at (member (codes "shared_key") (string (codes "k")) no_members)
    output_shared_key ≡ Some (codes "k")
unfolding setting_at optional_text_key
a_key_of_servers = refl

a_longest_key : fault_at (Output 0)
    (member (codes "shared_key") (string (replicate 1024 107)) no_members) output_shared_key
    ≡ None
unfolding fault_at optional_text_key
a_longest_key = refl

a_longer_key : fault_at (Output 0)
    (member (codes "shared_key") (string (replicate 1025 107)) no_members) output_shared_key
    ≡ Some (faults.OutOfRange (codes "output[0].shared_key"))
unfolding fault_at optional_text_key digits
a_longer_key = refl

an_empty_key : fault_at (Output 0) (member (codes "shared_key") (string []) no_members)
    output_shared_key ≡ Some (faults.OutOfRange (codes "output[0].shared_key"))
unfolding fault_at optional_text_key digits
an_empty_key = refl

a_number_is_no_key : fault_at (Output 0)
    (member (codes "shared_key") (integer (pos 1)) no_members) output_shared_key
    ≡ Some (faults.WrongKind (codes "output[0].shared_key"))
unfolding fault_at optional_text_key digits
a_number_is_no_key = refl

-- the key is judged before the user
first_the_key : first (login_table 0
    (member (codes "username") (integer (pos 1))
    (member (codes "shared_key") (integer (pos 1)) no_members)))
    ≡ Some (faults.WrongKind (codes "output[0].shared_key"))
unfolding fault_at text_key optional_text_key digits
first_the_key = refl

-- the address is judged before the flag
first_the_address : server_fault 0 1 (table (member (codes "standby") (integer (pos 1)) no_members))
    ≡ Some (faults.Missing (codes "output[0].server[1].address"))
unfolding fault_at required_address_key digits
first_the_address = refl

no_server : server_fault 0 1 (integer (pos 1))
    ≡ Some (faults.WrongKind (codes "output[0].server[1]"))
unfolding digits
no_server = refl

-- the least key by its bytes, not by its number
least_by_bytes : least (codes "output[1].b" ∷ codes "output[12].z" ∷ codes "output[2].a" ∷ [])
    ≡ Some (codes "output[12].z")
unfolding least
least_by_bytes = refl

a_path : path_of_text (codes "unix:/run/a:b") ≡ Some (codes "/run/a:b")
unfolding at_colon
a_path = refl

no_absolute_path : path_of_text (codes "unix:a") ≡ None
unfolding at_colon
no_absolute_path = refl

another_word : path_of_text (codes "tcp:/a") ≡ None
unfolding at_colon
another_word = refl
