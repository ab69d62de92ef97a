-- What is asked for can stand in a frame: each entry is kept as it stands.
use Rattle.std.proofs.Common.{◌≡◌, ℕ, zero, suc, ◌+◌, ◌≤◌, true, false, cond, List, [], ◌∷◌, ◌++◌, length, Option, Some, None, refl, sym, ap, subst, ◌∙◌, ⊎_elim, arith}
use Rattle.std.specs.Prelude.{option_and_then, ◌&&◌, Bool, unwrap_or}
use Rattle.std.specs.List.{concat, AllByRecursion}
use Rattle.std.proofs.lemmas.List.{append-nil, length-append, drop_at}
use Rattle.fwd_msgpack.specs.declared.head.Head.{Head}
use Rattle.fwd_msgpack.specs.declared.head.Head.TheVariants.{Nil, Bool as Boolean, Int, Float, Str, Bin, Arr, Map, Ext}
use Rattle.fwd_msgpack.specs.declared.head.HeadRead.TheVariants as read
use Rattle.fwd_msgpack.specs.Heads.{head_bytes, reading_of, members, opens}
use Rattle.fwd_msgpack.specs.Scans.{Split, Open, Broken, split_of, values_of, first_of, row_of_values, parts_read, parts_of, elements_in, elements_of, text_of, head_of, is_nil, most_bytes, most_deep, IsWhole, whole_len}
use Rattle.fwd_msgpack.specs.Values.{IsPlain, InARow, IsContainer, IsValue}
use Rattle.fwd_msgpack.specs.Streams.{IsWithinLimits}
use Rattle.fwd_msgpack.proofs.Bounds.{elements_bounded}
use Rattle.fwd_msgpack.proofs.Complete.{head_more}
use Rattle.fwd_msgpack.proofs.Splittings.{values_within, whole_value, elements_are}
use Rattle.fwd_msgpack.proofs.Written.{first_value, values_row, written_elements, written_container, container_value, in_a_row}
use Rattle.fwd_modes.specs.Kinds.{is_map}
use Rattle.fwd_modes.specs.Times.{is_time}
use Rattle.fwd_modes.specs.Entries.{kept_entry, kept_if, entry_in, entry_of, before, entries_of, values_to_the_end, listed_entries, packed_entries}
use Rattle.fwd_modes.specs.Frames.{IsKept}
use Rattle.fwd_modes.specs.declared.fault.InputFault.{InputFault}
use Rattle.fwd_modes.specs.Requests.{Request, Reading, Heartbeat, Asks, RequestFields, Mode, Message, Forward, PackedForward, mode_by, one_entry, unpacked, with_option, message, parts_by, parts_in, faults_of, first_fault, asked, unless_fault, of_parts, request_of}
use Rattle.fwd_modes.proofs.FrameLemmas.{asks_same}
use Rattle.std.proofs.lemmas.Option.{same_Some}

-- ---- the members of an array

-- parts in a row are a list of parts
record Listed (P : List ℕ → Type 0) (bytes : List ℕ) : Type 0 where
  parts : List (List ℕ)
  joined : concat parts ≡ bytes
  each : AllByRecursion P parts

listed : (P : List ℕ → Type 0) (n : ℕ) (bytes : List ℕ) → InARow P n bytes
    → Listed P bytes
unfolding InARow
listed P zero bytes row = record { parts = []; joined = sym row; each = tt }
listed P (suc n) bytes row =
    let others = listed P n row.1.0 row.1.1.2 in
    record { parts = row.0 ∷ others.parts; joined = ap (λ xs. row.0 ++ xs) others.joined ∙ sym row.1.1.0; each = (row.1.1.1, others.each) }

parts_at : (head : Head) (front body bytes : List ℕ) → bytes ≡ front ++ body
    → reading_of front ≡ read.Whole head (length front) → parts_of bytes ≡ Some (head, body)
unfolding parts_of
parts_at head front body bytes parts spelled =
    ap (λ xs. parts_read (reading_of xs) xs) parts ∙ ap (λ r. parts_read r (front ++ body)) (head_more head front body spelled) ∙ ap (λ xs. Some (head, xs)) (drop_at front body (length front) refl)

no_elements : (head : Head) (body : List ℕ) (values : List (List ℕ)) → opens head ≡ false
    → elements_in head body ≡ Some values → ⊥
no_elements Nil body values shut e = cc
no_elements (Boolean b) body values shut e = cc
no_elements (Int neg mag) body values shut e = cc
no_elements (Float len) body values shut e = cc
no_elements (Str len) body values shut e = cc
no_elements (Bin len) body values shut e = cc
no_elements (Arr n) body values shut e = cc
no_elements (Map n) body values shut e = cc
no_elements (Ext kind len) body values shut e = cc

row_elements : (head : Head) (body : List ℕ) (values : List (List ℕ))
    → elements_in head body ≡ Some values → row_of_values body ≡ values
row_elements (Arr n) body values e = same_Some (row_of_values body) values e
row_elements Nil body values e = absurd cc
row_elements (Boolean b) body values e = absurd cc
row_elements (Int neg mag) body values e = absurd cc
row_elements (Float len) body values e = absurd cc
row_elements (Str len) body values e = absurd cc
row_elements (Bin len) body values e = absurd cc
row_elements (Map n) body values e = absurd cc
row_elements (Ext kind len) body values e = absurd cc

-- the members of an array nest one deep less than it
members_of : (deep : ℕ) (bytes : List ℕ) (values : List (List ℕ)) → IsValue (suc deep) bytes
    → deep ≤ most_deep → length bytes ≤ most_bytes → elements_of bytes ≡ Some values
    → AllByRecursion (IsValue deep) values
unfolding IsValue
members_of deep bytes values value shallow short e =
    ⊎_elim
    (λ (p : IsPlain bytes). absurd (no_elements p.head p.body values p.shut (sym (ap (option_and_then (λ parts. elements_in parts.0 parts.1)) (parts_at p.head p.front p.body bytes p.parts p.spelled)) ∙ e)))
    (λ (c : IsContainer (IsValue deep) bytes).
    let found = listed (IsValue deep) (members c.head) c.body c.row in
    let row = row_elements c.head c.body values (sym (ap (option_and_then (λ parts. elements_in parts.0 parts.1)) (parts_at c.head c.front c.body bytes c.parts c.spelled)) ∙ e) in
    let size = length-append c.front c.body in
    let same : found.parts ≡ values = sym (values_row deep found.parts found.each shallow (omega (arith, ap length found.joined, ap length c.parts, size, short))) ∙ ap row_of_values found.joined ∙ row in
    subst (AllByRecursion (IsValue deep)) same found.each)
    value

-- ---- one entry

two_parts : (time fields : List ℕ)
    → kept_entry time fields ≡ head_bytes (Arr 2) ++ concat (time ∷ fields ∷ [])
unfolding head_bytes
two_parts time fields = ap (λ xs. 0x92 ∷ (time ++ xs)) (sym (append-nil fields))

kept_same : (b : Bool) (kept entry : List ℕ) → cond b (Some kept) None ≡ Some entry
    → kept ≡ entry
kept_same true kept entry e = same_Some kept entry e
kept_same false kept entry e = absurd cc

-- a time and fields, each less deep
kept_one : (deep : ℕ) (time fields entry : List ℕ) → IsValue deep time → IsValue deep fields
    → suc deep ≤ most_deep → length time + length fields ≤ most_bytes
    → kept_if time fields ≡ Some entry → IsKept (suc deep) entry
unfolding entry_of
kept_one deep time fields entry t f shallow short e =
    let same : kept_entry time fields ≡ entry = kept_same (is_time time && is_map fields) (kept_entry time fields) entry e in
    let each : AllByRecursion (IsValue deep) (time ∷ fields ∷ []) = (t, (f, tt)) in
    let size = length-append time (fields ++ []) in
    let more = length-append fields [] in
    let elements : elements_of (kept_entry time fields) ≡ Some (time ∷ fields ∷ []) =
    ap elements_of (two_parts time fields) ∙ written_elements (Arr 2) (omega arith) tt (concat (time ∷ fields ∷ [])) ∙ ap Some (values_row deep (time ∷ fields ∷ []) each (omega (arith, shallow)) (omega (arith, size, more, short))) in
    let value : IsValue (suc deep) (kept_entry time fields) =
    subst (IsValue (suc deep)) (sym (two_parts time fields)) (container_value deep (head_bytes (Arr 2) ++ concat (time ∷ fields ∷ [])) (written_container (Arr 2) (omega arith) tt (IsValue deep) (concat (time ∷ fields ∷ [])) refl (in_a_row (IsValue deep) (time ∷ fields ∷ []) each))) in
    record {
      kept = ap (λ xs. option_and_then entry_in (elements_of xs)) (sym same) ∙ ap (option_and_then entry_in) elements ∙ e;
      value = subst (IsValue (suc deep)) same value;
    }

kept_in : (deep : ℕ) (values : List (List ℕ)) (entry : List ℕ)
    → AllByRecursion (IsValue deep) values → suc deep ≤ most_deep
    → length (concat values) ≤ most_bytes → entry_in values ≡ Some entry
    → IsKept (suc deep) entry
kept_in deep [] entry each shallow short e = absurd cc
kept_in deep (time ∷ []) entry each shallow short e = absurd cc
kept_in deep (time ∷ fields ∷ []) entry each shallow short e =
    kept_one deep time fields entry each.0 each.1.0 shallow (omega (arith, length-append time (fields ++ []), length-append fields [], short)) e
kept_in deep (time ∷ fields ∷ other ∷ others) entry each shallow short e = absurd cc

kept_by : (deep : ℕ) (bytes entry : List ℕ) (o : Option (List (List ℕ)))
    → elements_of bytes ≡ o → IsValue (suc deep) bytes → suc deep ≤ most_deep
    → length bytes ≤ most_bytes → option_and_then entry_in o ≡ Some entry
    → IsKept (suc deep) entry
kept_by deep bytes entry None h value shallow short e = absurd cc
kept_by deep bytes entry (Some values) h value shallow short e =
    kept_in deep values entry (members_of deep bytes values value (omega (arith, shallow)) short h) shallow (omega (arith, elements_bounded bytes values h, short)) e

-- what is kept of an entry is kept as it stands
entry_kept : (deep : ℕ) (bytes entry : List ℕ) → IsValue (suc deep) bytes
    → suc deep ≤ most_deep → length bytes ≤ most_bytes → entry_of bytes ≡ Some entry
    → IsKept (suc deep) entry
unfolding entry_of
entry_kept deep bytes entry value shallow short e = kept_by deep bytes entry (elements_of bytes) refl value shallow short e

-- ---- many entries

-- entries of values that are within the limits
entries_kept : (values entries : List (List ℕ))
    → AllByRecursion (IsWithinLimits most_bytes most_deep) values
    → entries_of values ≡ Some entries → AllByRecursion (IsKept most_deep) entries
entries_kept [] entries each e = subst (AllByRecursion (IsKept most_deep)) (same_Some [] entries e) tt
entries_kept (value ∷ values) entries each e =
    by_first (entry_of value) refl (entries_of values) refl (λ others k. entries_kept values others each.1 k) e
  where
    by_first : (o : Option (List ℕ)) → entry_of value ≡ o → (p : Option (List (List ℕ)))
        → entries_of values ≡ p
        → ((others : List (List ℕ)) → entries_of values ≡ Some others
        → AllByRecursion (IsKept most_deep) others)
        → before o p ≡ Some entries → AllByRecursion (IsKept most_deep) entries
    by_first None h p k ih f = absurd cc
    by_first (Some entry) h None k ih f = absurd cc
    by_first (Some entry) h (Some others) k ih f =
        subst (AllByRecursion (IsKept most_deep)) (same_Some (entry ∷ others) entries f) (entry_kept 127 value entry each.0.0 (omega arith) each.0.1 h, ih others k)

-- ---- lists of entries

-- a value within the limits is whole
whole_from : (deep : ℕ) (bytes : List ℕ) → IsValue deep bytes → deep ≤ most_deep
    → length bytes ≤ most_bytes → IsWhole bytes
whole_from deep bytes value shallow short =
    ap whole_len (ap (first_of most_bytes most_deep) (sym (append-nil bytes)) ∙ first_value most_bytes most_deep deep bytes [] value shallow short)

-- values that are less deep are within the limits too
all_within : (deep : ℕ) (values : List (List ℕ)) → deep ≤ most_deep
    → AllByRecursion (IsWithinLimits most_bytes deep) values
    → AllByRecursion (IsWithinLimits most_bytes most_deep) values
all_within deep [] shallow each = tt
all_within deep (value ∷ values) shallow each =
    (whole_value value (whole_from deep value each.0.0 shallow each.0.1), all_within deep values shallow each.1)

to_the_end : (split : Split) (values : List (List ℕ)) → values_to_the_end split ≡ Some values
    → values_of split ≡ values
to_the_end (Open values []) others e = same_Some values others e
to_the_end (Open values (byte ∷ rest)) others e = absurd cc
to_the_end (Broken values fault) others e = absurd cc

packed_by :
    (deep : ℕ) (packed : List ℕ) (entries : List (List ℕ)) (o : Option (List (List ℕ)))
    → deep ≤ most_deep → values_to_the_end (split_of most_bytes deep packed) ≡ o
    → option_and_then entries_of o ≡ Some entries → AllByRecursion (IsKept most_deep) entries
packed_by deep packed entries None shallow h e = absurd cc
packed_by deep packed entries (Some values) shallow h e =
    entries_kept values entries (all_within deep values shallow (subst (AllByRecursion (IsWithinLimits most_bytes deep)) (to_the_end (split_of most_bytes deep packed) values h) (values_within most_bytes deep packed))) e

pub packed_kept : (deep : ℕ) (packed : List ℕ) (entries : List (List ℕ))
    → deep ≤ most_deep → packed_entries deep packed ≡ Some entries
    → AllByRecursion (IsKept most_deep) entries
unfolding packed_entries
packed_kept deep packed entries shallow e = packed_by deep packed entries (values_to_the_end (split_of most_bytes deep packed)) shallow refl e

list_by : (list : List ℕ) (entries : List (List ℕ)) (o : Option (List (List ℕ)))
    → IsWhole list → elements_of list ≡ o → option_and_then entries_of o ≡ Some entries
    → AllByRecursion (IsKept most_deep) entries
list_by list entries None whole h e = absurd cc
list_by list entries (Some values) whole h e = entries_kept values entries (elements_are list values whole h).1.each e

pub list_kept : (list : List ℕ) (entries : List (List ℕ)) → IsWhole list
    → listed_entries list ≡ Some entries → AllByRecursion (IsKept most_deep) entries
unfolding listed_entries
list_kept list entries whole e = list_by list entries (elements_of list) whole refl e

-- ---- requests

abbrev AreKept : Option (List (List ℕ)) → Type 0
AreKept None = Unit {0}
AreKept (Some entries) = AllByRecursion (IsKept most_deep) entries

optional_kept : (o : Option (List (List ℕ)))
    → ((entries : List (List ℕ)) → o ≡ Some entries
    → AllByRecursion (IsKept most_deep) entries)
    → AreKept o
optional_kept None h = tt
optional_kept (Some entries) h = h entries refl

one_kept : (o : Option (List ℕ))
    → ((entry : List ℕ) → o ≡ Some entry → IsKept most_deep entry)
    → AreKept (one_entry o)
one_kept None h = tt
one_kept (Some entry) h = (h entry refl, tt)

abbrev PartsKept : Option RequestFields → Type 0
PartsKept None = Unit {0}
PartsKept (Some parts) = AreKept parts.entries

with_option_entries :
    (tag : List ℕ) (entries : Option (List (List ℕ))) (others : List (List ℕ)) (parts : RequestFields)
    → with_option tag entries others ≡ Some parts → AreKept entries → AreKept parts.entries
with_option_entries tag entries [] parts e kept = subst PartsKept e kept
with_option_entries tag entries (option ∷ []) parts e kept = subst PartsKept e kept
with_option_entries tag entries (option ∷ other ∷ others) parts e kept = absurd cc

-- the elements of a whole value
record Elements (values : List (List ℕ)) : Type 0 where
  each : AllByRecursion (IsValue 127) values
  within : AllByRecursion (IsWithinLimits most_bytes most_deep) values
  short : length (concat values) ≤ most_bytes

elements_at : (bytes : List ℕ) (values : List (List ℕ)) → IsWhole bytes
    → elements_of bytes ≡ Some values → Elements values
elements_at bytes values whole e =
    let value = whole_value bytes whole in
    record { each = members_of 127 bytes values value.0 (omega arith) value.1 e; within = (elements_are bytes values whole e).1.each; short = omega (arith, elements_bounded bytes values e, value.1) }

message_kept : (tag time : List ℕ) (others : List (List ℕ)) (parts : RequestFields)
    → Elements (tag ∷ time ∷ others) → message tag time others ≡ Some parts
    → AreKept parts.entries
message_kept tag time [] parts is e = absurd cc
message_kept tag time (fields ∷ others) parts is e =
    with_option_entries tag (one_entry (kept_if time fields)) others parts e
    (one_kept (kept_if time fields) (λ entry k. kept_one 127 time fields entry is.each.1.0 is.each.1.1.0 (omega arith)
    (omega (arith, length-append tag (concat (time ∷ fields ∷ others)), length-append time (concat (fields ∷ others)), length-append fields (concat others), is.short)) k))

unpacked_by : (deep : ℕ) (o : Option (List ℕ)) → deep ≤ most_deep
    → AreKept (option_and_then (packed_entries deep) o)
unpacked_by deep None shallow = tt
unpacked_by deep (Some packed) shallow = optional_kept (packed_entries deep packed) (λ entries k. packed_kept deep packed entries shallow k)

by_mode :
    (deep : ℕ) (mode : Option Mode) (tag second : List ℕ) (others : List (List ℕ))
    (parts : RequestFields)
    → deep ≤ most_deep → Elements (tag ∷ second ∷ others)
    → parts_by deep mode tag second others ≡ Some parts → AreKept parts.entries
by_mode deep None tag second others parts shallow is e = absurd cc
by_mode deep (Some Message) tag second others parts shallow is e = message_kept tag second others parts is e
by_mode deep (Some Forward) tag second others parts shallow is e =
    with_option_entries tag (listed_entries second) others parts e
    (optional_kept (listed_entries second) (λ entries k. list_kept second entries (whole_from most_deep second is.within.1.0.0 (omega arith) is.within.1.0.1) k))
by_mode deep (Some PackedForward) tag second others parts shallow is e = with_option_entries tag (unpacked deep second) others parts e (unpacked_by deep (text_of second) shallow)

parts_kept : (deep : ℕ) (values : List (List ℕ)) (parts : RequestFields) → deep ≤ most_deep
    → Elements values → parts_in deep values ≡ Some parts → AreKept parts.entries
parts_kept deep [] parts shallow is e = absurd cc
parts_kept deep (tag ∷ []) parts shallow is e = absurd cc
parts_kept deep (tag ∷ second ∷ others) parts shallow is e = by_mode deep (mode_by (head_of second)) tag second others parts shallow is e

asked_kept : (o : Option (List (List ℕ))) → AreKept o
    → AllByRecursion (IsKept most_deep) (unwrap_or o [])
asked_kept None kept = tt
asked_kept (Some entries) kept = kept

faultless : (fault : Option InputFault) (parts : RequestFields) (r : Request) → AreKept parts.entries
    → unless_fault fault parts ≡ Asks r → AllByRecursion (IsKept most_deep) r.entries
faultless (Some fault) parts r kept e = absurd cc
faultless None parts r kept e = subst (λ (q : Request). AllByRecursion (IsKept most_deep) q.entries) (asks_same (asked parts) r e) (asked_kept parts.entries kept)

of_parts_kept : (o : Option RequestFields) (r : Request)
    → ((parts : RequestFields) → o ≡ Some parts → AreKept parts.entries) → of_parts o ≡ Asks r
    → AllByRecursion (IsKept most_deep) r.entries
of_parts_kept None r h e = absurd cc
of_parts_kept (Some parts) r h e = faultless (first_fault (faults_of parts)) parts r (h parts refl) e

elements_kept : (deep : ℕ) (bytes : List ℕ) (o : Option (List (List ℕ))) (r : Request)
    → deep ≤ most_deep → IsWhole bytes → elements_of bytes ≡ o
    → of_parts (option_and_then (parts_in deep) o) ≡ Asks r
    → AllByRecursion (IsKept most_deep) r.entries
elements_kept deep bytes None r shallow whole h e = absurd cc
elements_kept deep bytes (Some values) r shallow whole h e =
    of_parts_kept (parts_in deep values) r (λ parts k. parts_kept deep values parts shallow (elements_at bytes values whole h) k) e

request_by : (b : Bool) (reading : Reading) (r : Request) → cond b Heartbeat reading ≡ Asks r
    → reading ≡ Asks r
request_by true reading r e = absurd cc
request_by false reading r e = e

-- the entries of a request can stand in a frame
pub request_kept : (deep : ℕ) (bytes : List ℕ) (r : Request) → deep ≤ most_deep
    → IsWhole bytes → request_of deep bytes ≡ Asks r
    → AllByRecursion (IsKept most_deep) r.entries
unfolding request_of
request_kept deep bytes r shallow whole e =
    elements_kept deep bytes (elements_of bytes) r shallow whole refl (request_by (is_nil bytes) (of_parts (option_and_then (parts_in deep) (elements_of bytes))) r e)
