-- What std parses is the socket address that the text spells; and where std cuts a text at a colon.
use Rattle.std.proofs.Common.{◌≡◌, ℕ, List, [], ◌∷◌, Option, Some, None, Result, Ok, Err, length, option_map, refl, sym, ◌∙◌, subst, append-nil, ne_eqb, arith}
use Rattle.std.specs.List.{position_or_len}
use Rattle.std.specs.Option.{option_or}
use Rattle.std.specs.Result.{result_ok}
use Rattle.std.specs.declared.net.socket_addr.SocketAddrV4.{SocketAddrV4}
use Rattle.std.specs.declared.net.socket_addr.SocketAddrV6.{SocketAddrV6}
use Rattle.std.specs.declared.net.socket_addr.SocketAddr.{SocketAddr}
use Rattle.std.specs.declared.net.socket_addr.SocketAddr.TheVariants.{V4, V6}
use Rattle.std.specs.Net.Grammar.{Parses, IsSocketV4Text, IsSocketV6Text, IsSocketText}
use Rattle.std.specs.Net.Reader.{Read, read_socket_v4, read_socket_v6, whole_value, v4_parts, v6_parts}
use Rattle.std.proofs.NetLemmas.Sockets.{read_socket_v4_complete, read_socket_v4_sound, read_socket_v6_complete, read_socket_v6_sound, IsSocketV4Text-not_v6}
use Rattle.std.proofs.lemmas.Bool.{lt-ltb, le-ltb}
use Rattle.std.proofs.lemmas.Str.Pattern.{IsSplitOnceResult, split_once_first}
use denote.Ref.{Bor}
use Rattle.fwd_settings.specs.Addresses.{v4_from, v6_from, socket_of, is_colon, at_colon}

-- a whole reading ends with the text
whole_none : {A : Type 0} (read : Read A) (value : A) → whole_value read ≡ Some value
    → read ≡ Some (value, [])
whole_none None value h = cc
whole_none (Some (found, [])) value h = cc
whole_none (Some (found, byte ∷ rest)) value h =
    let longer : whole_value (Some (found, byte ∷ rest)) ≡ None = rw (ne_eqb (length (byte ∷ rest)) 0 (omega arith)) in
    cc

v4_text : (text : List ℕ) (address : SocketAddrV4)
    → whole_value (read_socket_v4 text) ≡ Some (v4_parts address)
    → IsSocketV4Text text address
v4_text text address h =
    let (front, split, spelled) = read_socket_v4_sound text [] address (whole_none _ _ h) in
    subst (λ t. IsSocketV4Text t address) (sym (split ∙ append-nil front)) spelled

v6_text : (text : List ℕ) (address : SocketAddrV6)
    → whole_value (read_socket_v6 text) ≡ Some (v6_parts address)
    → IsSocketV6Text text address
v6_text text address h =
    let (front, split, spelled) = read_socket_v6_sound text [] address (whole_none _ _ h) in
    subst (λ t. IsSocketV6Text t address) (sym (split ∙ append-nil front)) spelled

read_v4 : (text : List ℕ) (address : SocketAddrV4) → IsSocketV4Text text address
    → whole_value (read_socket_v4 text) ≡ Some (v4_parts address)
read_v4 text address h = rw (read_socket_v4_complete text address h)

read_v6 : (text : List ℕ) (address : SocketAddrV6) → IsSocketV6Text text address
    → whole_value (read_socket_v6 text) ≡ Some (v6_parts address)
read_v6 text address h = rw (read_socket_v6_complete text address h)

-- a text of an IPv6 address is none of an IPv4 address
no_v4 : (text : List ℕ) (address : SocketAddrV6) → IsSocketV6Text text address
    → (read : Option (List ℕ × ℕ)) → whole_value (read_socket_v4 text) ≡ read
    → read ≡ None
no_v4 text address h None same = refl
no_v4 text address h (Some parts) same =
    let other : SocketAddrV4 = record { ip = record { octets = parts.0 }; port = parts.1 } in
    absurd (IsSocketV4Text-not_v6 text other address (v4_text text other same) h)

-- the text of an address is read as the address
pub socket_read : (text : List ℕ) (address : SocketAddr) → IsSocketText text address
    → socket_of text ≡ Some address
unfolding socket_of
socket_read text (V4 address) h = rw (read_v4 text address h)
socket_read text (V6 address) h = rw (no_v4 text address h _ refl, read_v6 text address h)

from_v6 : (text : List ℕ) (address : SocketAddr) (read : Option (List ℕ × ℕ × ℕ × ℕ))
    → whole_value (read_socket_v6 text) ≡ read → option_map v6_from read ≡ Some address
    → IsSocketText text address
from_v6 text address None same h = cc
from_v6 text address (Some parts) same h =
    let other : SocketAddrV6 = record { ip = record { segments = parts.0 }; port = parts.1; flowinfo = parts.2; scope_id = parts.3 } in
    let spelled : V6 other ≡ address = cc in
    subst (IsSocketText text) spelled (v6_text text other same)

from_either : (text : List ℕ) (address : SocketAddr) (read : Option (List ℕ × ℕ))
    → whole_value (read_socket_v4 text) ≡ read
    → option_or (option_map v4_from read)
    (option_map v6_from (whole_value (read_socket_v6 text))) ≡ Some address
    → IsSocketText text address
from_either text address None same h = from_v6 text address _ refl h
from_either text address (Some parts) same h =
    let other : SocketAddrV4 = record { ip = record { octets = parts.0 }; port = parts.1 } in
    let spelled : V4 other ≡ address = cc in
    subst (IsSocketText text) spelled (v4_text text other same)

-- what is read as an address is a text of it
pub socket_spelled : (text : List ℕ) (address : SocketAddr) → socket_of text ≡ Some address
    → IsSocketText text address
unfolding socket_of
socket_spelled text address h = from_either text address _ refl h

not_read : (text : List ℕ) (read : Option SocketAddr) → socket_of text ≡ read
    → ((address : SocketAddr) → ¬ (IsSocketText text address)) → read ≡ None
not_read text None same none = refl
not_read text (Some address) same none = absurd (none address (socket_spelled text address same))

-- what std parses
pub parsed_socket : {E : Type 0} (text : List ℕ) (parsed : Result SocketAddr E)
    → Parses IsSocketText text parsed → result_ok parsed ≡ socket_of text
parsed_socket text (Ok address) h = sym (socket_read text address h)
parsed_socket text (Err error) h = sym (not_read text _ refl h)

-- what std cuts at a colon
pub cut_at_colon : (text : List ℕ) (cut : Option (Bor (List ℕ) × Bor (List ℕ)))
    → IsSplitOnceResult 58 text cut
    → option_map (λ parts. (parts.0.now, parts.1.now)) cut ≡ at_colon text
unfolding at_colon
cut_at_colon text None h =
    let none = split_once_first 58 text None h (omega arith) in
    rw (le-ltb (position_or_len is_colon text) (length text) (omega (arith, none)))
cut_at_colon text (Some parts) h =
    let some = split_once_first 58 text (Some parts) h (omega arith) in
    rw (lt-ltb (position_or_len is_colon text) (length text) some.0, some.1, some.2)
