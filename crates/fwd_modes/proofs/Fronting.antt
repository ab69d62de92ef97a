-- A request at the front of some bytes, from the values that were read of it.
use Rattle.std.proofs.Common.{◌≡◌, ℕ, suc, ◌+◌, ◌-◌, ◌≤◌, Bool, false, cond, List, [], ◌∷◌, ◌++◌, length, take, drop, Option, Some, None, Ok, refl, sym, ap, subst, ◌∙◌, append_assoc, arith}
use Rattle.std.specs.Prelude.{option_and_then}
use Rattle.std.specs.List.{concat, AllByRecursion}
use Rattle.std.specs.Option.{option_map, option_copied}
use Rattle.std.proofs.lemmas.List.{append-nil, length-append, length-take-le, length-drop, take-append-drop, drop_at, drop-drop}
use Rattle.fwd_msgpack.specs.declared.head.Head.{Head}
use Rattle.fwd_msgpack.specs.declared.head.Head.TheVariants.{Nil, Bool as Boolean, Int, Float, Str, Bin, Arr, Map, Ext}
use Rattle.fwd_msgpack.specs.declared.head.HeadRead.TheVariants as read
use Rattle.fwd_msgpack.specs.declared.value.Value.{Value}
use Rattle.fwd_msgpack.specs.Heads.{reading_of}
use Rattle.fwd_msgpack.specs.Scans.{Whole, first_of, most_bytes, most_deep, parts_of, parts_read, elements_in, elements_of, head_of, is_nil, is_nil_head, text_in, text_of}
use Rattle.fwd_msgpack.specs.Values.{AreHead, InARow, IsValue, bytes_of}
use Rattle.fwd_msgpack.proofs.Complete.{head_more}
use Rattle.fwd_msgpack.proofs.Flats.{value_there}
use Rattle.fwd_msgpack.proofs.Parts.{read_within}
use Rattle.fwd_msgpack.proofs.Pieces.{take_further}
use Rattle.fwd_msgpack.proofs.Sound.{front_alone}
use Rattle.fwd_msgpack.proofs.Written.{first_value, values_row, container_value, in_a_row}
use Rattle.fwd_modes.specs.declared.envelope.Envelope.{Envelope}
use Rattle.fwd_modes.specs.Entries.{BeginsKept, before, cut_at, entries_of, kept_if, listed_entries, packed_entries}
use Rattle.fwd_modes.specs.Fronts.{AreKeptInARow, HoldEntries, HoldWithin, IsKept, StandAt}
use Rattle.fwd_modes.specs.Moved.{optional}
use Rattle.fwd_modes.specs.Readings.{judged}
use Rattle.fwd_modes.specs.Requests.{Mode, Message, Forward, PackedForward, mode_by, of_parts, one_entry, parts_by, parts_in, request_of, unpacked, with_option}
use Rattle.fwd_modes.specs.Requests.Reading.{Heartbeat as heartbeat, Asks as asks}
use Rattle.fwd_modes.proofs.EntryLemmas.{length_ends}
use Rattle.fwd_modes.proofs.Spelled.{cut_grows, entries_grow}

-- ---- lists

concat_append : (xs ys : List (List ℕ)) → concat (xs ++ ys) ≡ concat xs ++ concat ys
concat_append [] ys = refl
concat_append (x ∷ xs) ys = ap (λ zs. x ++ zs) (concat_append xs ys) ∙ sym (append_assoc x (concat xs) (concat ys))

all_append : (P : List ℕ → Type 0) (xs ys : List (List ℕ)) → AllByRecursion P xs
    → AllByRecursion P ys → AllByRecursion P (xs ++ ys)
all_append P [] ys a b = b
all_append P (x ∷ xs) ys a b = (a.0, all_append P xs ys a.1 b)

values_of_kept : (deep : ℕ) (values : List (List ℕ)) → AllByRecursion (IsKept deep) values
    → AllByRecursion (IsValue deep) values
values_of_kept deep [] each = tt
values_of_kept deep (v ∷ values) each = (each.0.0, values_of_kept deep values each.1)

pub entries_of_kept : (deep : ℕ) (values : List (List ℕ)) → AllByRecursion (IsKept deep) values
    → entries_of values ≡ Some values
entries_of_kept deep [] each = refl
entries_of_kept deep (v ∷ values) each =
    ap (λ (o : Option (List ℕ)). before o (entries_of values)) each.0.1
    ∙ ap (before (Some v)) (entries_of_kept deep values each.1)

-- ---- values at a place

-- no value
pub stand_none : (deep : ℕ) (bytes : List ℕ) (at : ℕ) → at ≤ length bytes
    → StandAt deep bytes at at []
stand_none deep bytes at inside =
    let none : at - at ≡ 0 = omega arith in
    record {
      on = omega arith;
      within = inside;
      spelled = ap (λ (k : ℕ). take k (drop at bytes)) none;
      each = tt;
    }

-- one value, as it is spelled
pub stand_alone : (deep : ℕ) (bytes : List ℕ) (at len : ℕ) → at + len ≤ length bytes
    → IsValue deep (take len (drop at bytes))
    → StandAt deep bytes at (at + len) (take len (drop at bytes) ∷ [])
stand_alone deep bytes at len inside value =
    let size : at + len - at ≡ len = omega arith in
    record {
      on = omega arith;
      within = inside;
      spelled = ap (λ (k : ℕ). take k (drop at bytes)) size ∙ sym (append-nil (take len (drop at bytes)));
      each = (value, tt);
    }

-- one value that was cut
pub stand_cut : (limit deep : ℕ) (bytes own : List ℕ) (at len : ℕ) → at ≤ length bytes
    → first_of limit deep (drop at bytes) ≡ Whole len → own ≡ take len (drop at bytes)
    → StandAt deep bytes at (at + len) (own ∷ [])
stand_cut limit deep bytes own at len inside whole own_is =
    let there = value_there limit deep (drop at bytes) len whole in
    subst (λ (xs : List ℕ). StandAt deep bytes at (at + len) (xs ∷ [])) (sym own_is)
    (stand_alone deep bytes at len (omega (arith, there.0, length-drop at bytes, inside)) there.1)

-- values behind others
pub stand_more : (deep : ℕ) (bytes : List ℕ) (at mid end : ℕ) (xs ys : List (List ℕ))
    → StandAt deep bytes at mid xs → StandAt deep bytes mid end ys
    → StandAt deep bytes at end (xs ++ ys)
stand_more deep bytes at mid end xs ys a b =
    let size : (mid - at) + (end - mid) ≡ end - at = omega (arith, a.on, b.on) in
    let place : at + (mid - at) ≡ mid = omega (arith, a.on) in
    record {
      on = omega (arith, a.on, b.on);
      within = b.within;
      spelled =
          ap (λ (k : ℕ). take k (drop at bytes)) (sym size)
          ∙ take_further (mid - at) (end - mid) (drop at bytes)
          ∙ ap (λ (zs : List ℕ). take (mid - at) (drop at bytes) ++ take (end - mid) zs) (drop-drop (mid - at) at bytes ∙ ap (λ (k : ℕ). drop k bytes) place)
          ∙ ap (λ (zs : List ℕ). zs ++ take (end - mid) (drop mid bytes)) a.spelled
          ∙ ap (λ (zs : List ℕ). concat xs ++ zs) b.spelled
          ∙ sym (concat_append xs ys);
      each = all_append (IsValue deep) xs ys a.each b.each;
    }

-- ---- an array

module _ (deep : ℕ) (bytes : List ℕ) (n at end : ℕ) (values : List (List ℕ))
    (head : reading_of bytes ≡ read.Whole (Arr n) at) (stand : StandAt deep bytes at end values)
    (count : length values ≡ n) where
  parts : take end bytes ≡ take at bytes ++ concat values
  parts =
      let size : at + (end - at) ≡ end = omega (arith, stand.on) in
      ap (λ (k : ℕ). take k bytes) (sym size) ∙ take_further at (end - at) bytes ∙ ap (λ (xs : List ℕ). take at bytes ++ xs) stand.spelled

  head_len : length (take at bytes) ≡ at
  head_len = length-take-le at bytes (omega (arith, stand.on, stand.within))

  alone : AreHead (Arr n) (take at bytes)
  alone = front_alone bytes (Arr n) at head

  pub array_value : IsValue (suc deep) (take end bytes)
  array_value =
      container_value deep (take end bytes)
      (record {
        head = Arr n;
        front = take at bytes;
        body = concat values;
        parts = parts;
        spelled = alone;
        opened = refl;
        row = subst (λ (k : ℕ). InARow (IsValue deep) k (concat values)) count (in_a_row (IsValue deep) values stand.each);
      })

  array_parts : parts_of (take end bytes) ≡ Some (Arr n, concat values)
  unfolding parts_of
  array_parts =
      let front = take at bytes in
      ap parts_of parts
      ∙ ap (λ r. parts_read r (front ++ concat values)) (head_more (Arr n) front (concat values) alone)
      ∙ ap (λ (xs : List ℕ). Some (Arr n, xs)) (drop_at front (concat values) (length front) refl)

  pub array_head : head_of (take end bytes) ≡ Some (Arr n)
  array_head = ap (option_map (λ parts. parts.0)) array_parts

  own_len : length (take end bytes) ≡ end
  own_len = length-take-le end bytes stand.within

  pub array_elements : deep ≤ most_deep → end ≤ most_bytes
      → elements_of (take end bytes) ≡ Some values
  array_elements shallow short =
      let size : length (concat values) ≤ most_bytes = omega (arith, ap length parts, length-append (take at bytes) (concat values), own_len, short) in
      ap (option_and_then (λ parts. elements_in parts.0 parts.1)) array_parts ∙ ap Some (values_row deep values stand.each shallow size)

  pub array_whole : (limit : ℕ) → end ≤ limit → first_of limit (suc deep) bytes ≡ Whole end
  array_whole limit fits =
      ap (first_of limit (suc deep)) (sym (take-append-drop end bytes))
      ∙ first_value limit (suc deep) (suc deep) (take end bytes) (drop end bytes) array_value (omega arith) (omega (arith, own_len, fits))
      ∙ ap Whole own_len

-- ---- entries

-- no entries
pub kept_none : (deep : ℕ) (bytes : List ℕ) → AreKeptInARow deep 0 bytes [] 0
kept_none deep bytes = record { within = omega arith; cut = record { joined = refl; ending = refl }; count_is = refl; each = tt }

-- one entry more
pub kept_more : (limit deep count : ℕ) (bytes ends : List ℕ) (used len : ℕ)
    → AreKeptInARow deep count bytes ends used → BeginsKept limit deep (drop used bytes) len
    → AreKeptInARow deep (count + 1) bytes (ends ++ (used + len) ∷ []) (used + len)
kept_more limit deep count bytes ends used len row front =
    let there = value_there limit deep (drop used bytes) len front.whole in
    record {
      within = omega (arith, length-drop used bytes, there.0, row.within);
      cut = cut_grows bytes ends used len row.within row.cut there.0;
      count_is = omega (arith, length-append ends ((used + len) ∷ []), row.count_is);
      each = subst (AllByRecursion (IsKept deep)) (sym (entries_grow bytes ends used len row.within row.cut there.0)) (all_append (IsKept deep) (cut_at 0 ends (take used bytes)) (take len (drop used bytes) ∷ []) row.each ((there.1, front.kept), tt));
    }

-- an array of entries at a place
module _ (deep : ℕ) (bytes : List ℕ) (at n size used : ℕ) (ends : List ℕ) (inside : at ≤ length bytes)
    (head : reading_of (drop at bytes) ≡ read.Whole (Arr n) size)
    (row : AreKeptInARow deep n (drop (at + size) bytes) ends used)
    (shallow : deep ≤ most_deep) (short : size + used ≤ most_bytes) where
  abbrev here : List ℕ
  here = drop at bytes

  abbrev values : List (List ℕ)
  values = cut_at 0 ends (take used (drop (at + size) bytes))

  begins : size ≤ length (drop at bytes)
  begins = (read_within (drop at bytes) (Arr n) size head).1

  behind_it : drop size (drop at bytes) ≡ drop (at + size) bytes
  behind_it = drop-drop size at bytes

  rest_len : length (drop (at + size) bytes) + size ≡ length (drop at bytes)
  rest_len = omega (arith, ap length (sym behind_it), length-drop size (drop at bytes), begins)

  stand : StandAt deep (drop at bytes) size (size + used) values
  stand =
      let long : size + used - size ≡ used = omega arith in
      record {
        on = omega arith;
        within = omega (arith, rest_len, row.within);
        spelled = ap (λ (k : ℕ). take k (drop size (drop at bytes))) long ∙ ap (take used) behind_it ∙ sym row.cut.joined;
        each = values_of_kept deep values row.each;
      }

  count : length values ≡ n
  count = sym (length_ends 0 values) ∙ ap length row.cut.ending ∙ row.count_is

  abbrev listing : List ℕ
  listing = take (size + used) (drop at bytes)

  pub row_holds : HoldEntries (suc deep) bytes at (at + size + used) 1 values
  unfolding listed_entries
  row_holds =
      let place : at + (size + used) ≡ at + size + used = omega arith in
      let elements = array_elements deep (drop at bytes) n size (size + used) values head stand count shallow short in
      let listed : listed_entries listing ≡ Some values = ap (option_and_then entries_of) elements ∙ entries_of_kept deep values row.each in
      let mode : mode_by (head_of listing) ≡ Some Forward = ap mode_by (array_head deep (drop at bytes) n size (size + used) values head stand count) in
      record {
        values = listing ∷ [];
        stand = subst (λ (k : ℕ). StandAt (suc deep) bytes at k (listing ∷ [])) place (stand_alone (suc deep) bytes at (size + used) (omega (arith, stand.within, length-drop at bytes, inside)) (array_value deep (drop at bytes) n size (size + used) values head stand count));
        count_is = refl;
        parts = λ most tag others.
            ap (λ (m : Option Mode). parts_by most m tag listing others) mode
            ∙ ap (λ (e : Option (List (List ℕ))). with_option tag e others) listed;
      }

-- a time and fields
pub one_holds : (deep : ℕ) (bytes time fields entry : List ℕ) (at mid end : ℕ)
    → StandAt deep bytes at mid (time ∷ []) → StandAt deep bytes mid end (fields ∷ [])
    → mode_by (head_of time) ≡ Some Message → kept_if time fields ≡ Some entry
    → HoldEntries deep bytes at end 2 (entry ∷ [])
one_holds deep bytes time fields entry at mid end a b mode is =
    record {
      values = time ∷ fields ∷ [];
      stand = stand_more deep bytes at mid end (time ∷ []) (fields ∷ []) a b;
      count_is = refl;
      parts = λ most tag others.
          ap (λ (m : Option Mode). parts_by most m tag time (fields ∷ others)) mode
          ∙ ap (λ (e : Option (List ℕ)). with_option tag (one_entry e) others) is;
    }

-- a text tells PackedForward mode
text_mode : (p : Option (Head × List ℕ)) (text : List ℕ)
    → option_and_then (λ parts. text_in parts.0 parts.1) p ≡ Some text
    → mode_by (option_map (λ parts. parts.0) p) ≡ Some PackedForward
text_mode None text e = absurd cc
text_mode (Some (Str len, body)) text e = refl
text_mode (Some (Bin len, body)) text e = refl
text_mode (Some (Arr n, body)) text e = absurd cc
text_mode (Some (Map n, body)) text e = absurd cc
text_mode (Some (Nil, body)) text e = absurd cc
text_mode (Some (Boolean b, body)) text e = absurd cc
text_mode (Some (Int neg mag, body)) text e = absurd cc
text_mode (Some (Float len, body)) text e = absurd cc
text_mode (Some (Ext kind len, body)) text e = absurd cc

-- packed entries
pub packed_holds : (most deep : ℕ) (bytes packed text ends : List ℕ) (at end : ℕ)
    → StandAt deep bytes at end (packed ∷ []) → text_of packed ≡ Some text
    → packed_entries most text ≡ Some (cut_at 0 ends text)
    → HoldWithin most deep bytes at end 1 (cut_at 0 ends text)
packed_holds most deep bytes packed text ends at end stands own entries =
    let mode : mode_by (head_of packed) ≡ Some PackedForward = text_mode (parts_of packed) text own in
    let found : unpacked most packed ≡ Some (cut_at 0 ends text) = ap (option_and_then (packed_entries most)) own ∙ entries in
    record {
      values = packed ∷ [];
      stand = stands;
      count_is = refl;
      parts = λ tag others.
          ap (λ (m : Option Mode). parts_by most m tag packed others) mode
          ∙ ap (λ (e : Option (List (List ℕ))). with_option tag e others) found;
    }

-- how many bytes the values at a place have
pub stand_len : (deep : ℕ) (bytes own : List ℕ) (at end : ℕ)
    → StandAt deep bytes at end (own ∷ []) → at + length own ≡ end
stand_len deep bytes own at end s =
    let own_is : take (end - at) (drop at bytes) ≡ own = s.spelled ∙ append-nil own in
    omega (arith, ap length own_is, length-take-le (end - at) (drop at bytes) (omega (arith, length-drop at bytes, s.on, s.within)), s.on)

-- ---- the request

-- an option, or none
by_option : (tag : List ℕ) (entries : Option (List (List ℕ))) (option : Option Value)
    → with_option tag entries (optional option)
    ≡ Some (record { tag = tag; entries = entries; option = option_map bytes_of option })
by_option tag entries None = refl
by_option tag entries (Some option) = refl

module _ (deep : ℕ) (bytes : List ℕ) (n at mid behind end members : ℕ) (tag : List ℕ)
    (entries : List (List ℕ)) (option : Option Value) (asked : Envelope)
    (head : reading_of bytes ≡ read.Whole (Arr n) at)
    (first : StandAt deep bytes at mid (tag ∷ []))
    (held : HoldWithin (suc deep) deep bytes mid behind members entries)
    (last : StandAt deep bytes behind end (optional option))
    (count : 1 + members + length (optional option) ≡ n)
    (shallow : deep ≤ most_deep) (short : end ≤ most_bytes)
    (said : judged (Some entries) (Ok asked)
    ≡ of_parts (Some (record { tag = tag; entries = Some entries; option = option_map bytes_of option })))
  where
    all : StandAt deep bytes at end (tag ∷ (held.values ++ optional option))
    all =
        stand_more deep bytes at mid end (tag ∷ []) (held.values ++ optional option) first
        (stand_more deep bytes mid behind end held.values (optional option) held.stand last)

    all_count : length (tag ∷ (held.values ++ optional option)) ≡ n
    all_count = omega (arith, length-append held.values (optional option), held.count_is, count)

    pub front_whole : (limit : ℕ) → end ≤ limit → first_of limit (suc deep) bytes ≡ Whole end
    front_whole limit fits = array_whole deep bytes n at end (tag ∷ (held.values ++ optional option)) head all all_count limit fits

    pub front_asks : request_of (suc deep) (take end bytes)
        ≡ asks (record { tag = asked.tag.now; entries = entries; chunk = option_copied asked.chunk })
    unfolding request_of
    front_asks =
        let own = take end bytes in
        let values = tag ∷ (held.values ++ optional option) in
        let elements = array_elements deep bytes n at end values head all all_count shallow short in
        let nil : is_nil own ≡ false = ap is_nil_head (array_head deep bytes n at end values head all all_count) in
        let found = ap (option_and_then (parts_in (suc deep))) elements ∙ held.parts tag (optional option) ∙ by_option tag (Some entries) option in
        ap (λ (b : Bool). cond b heartbeat (of_parts (option_and_then (parts_in (suc deep)) (elements_of own)))) nil
        ∙ ap of_parts found ∙ sym said
