-- A frame is a request for what it was written from.
use Rattle.std.proofs.Common.{◌≡◌, ℕ, ◌<◌, ◌≤◌, ◌^◌, false, cond, List, [], ◌∷◌, ◌++◌, length, Some, None, refl, sym, ap, subst, ◌∙◌, append_assoc, arith}
use Rattle.std.specs.Prelude.{codes, option_and_then, is_none, unwrap_or}
use Rattle.std.specs.List.{concat, AllByRecursion}
use Rattle.std.proofs.lemmas.Bool.{le-leb}
use Rattle.std.proofs.lemmas.List.{append-nil, length-append}
use Rattle.fwd_msgpack.specs.declared.head.Head.TheVariants.{Int, Bin, Arr, Map}
use Rattle.fwd_msgpack.specs.Heads.{head_bytes}
use Rattle.fwd_msgpack.specs.Scans.{pair_up, most_bytes, head_of, is_nil_head, elements_of, pairs_of, text_of}
use Rattle.fwd_msgpack.specs.Values.{IsPlain, IsContainer, IsValue}
use Rattle.fwd_msgpack.specs.Texts.{text, last_under}
use Rattle.fwd_msgpack.proofs.Complete.{value_some}
use Rattle.fwd_msgpack.proofs.Written.{values_split, values_row, written_head, written_text, written_elements, written_pairs, written_plain, written_container, text_plain, text_text, head_text, plain_value, container_value, in_a_row}
use Rattle.fwd_modes.specs.declared.limits.TheConstants.{CHUNK_LIMIT, TAG_LIMIT}
use Rattle.fwd_modes.specs.Entries.{entries_of, values_to_the_end, packed_entries}
use Rattle.fwd_modes.specs.Frames.{frame_option, chunk_frame, IsKept, Frame, IsFrame}
use Rattle.fwd_modes.specs.Kinds.{fitting_text}
use Rattle.fwd_modes.specs.Options.{option_pairs, unless_nil, chunk_under, chunk_of, is_bad_chunk, are_bad_pairs, is_bad_option, is_compression, is_compressed}
use Rattle.fwd_modes.specs.declared.fault.InputFault.TheVariants.{BadTag, BadOption, Compressed, BadEntry}
use Rattle.fwd_modes.specs.Requests.{Request, Heartbeat, Asks, RequestFields, mode_by, with_option, parts_by, parts_in, tag_of, first_fault, asked, unless_fault, of_parts, request_of}
use Rattle.std.proofs.lemmas.Option.{same_Some}

five_parts : (a b c d e : List ℕ)
    → a ++ b ++ c ++ d ++ e ≡ a ++ (b ++ (c ++ (d ++ (e ++ []))))
five_parts a b c d e =
    append_assoc (a ++ b ++ c) d e ∙ append_assoc (a ++ b) c (d ++ e) ∙ append_assoc a b (c ++ (d ++ e)) ∙ ap (λ xs. a ++ (b ++ (c ++ (d ++ xs)))) (sym (append-nil e))

-- ---- the option

module _ (count : ℕ) (name : List ℕ) (small : count < 2 ^ 64) (short : length name ≤ CHUNK_LIMIT)
    (sized : length (frame_option count name) ≤ most_bytes) where
  fits : length name < 2 ^ 32
  fits = omega (arith, short)

  abbrev number : List ℕ
  number = head_bytes (Int false count)

  abbrev option_members : List (List ℕ)
  option_members = text (codes "size") ∷ number ∷ text (codes "chunk") ∷ text name ∷ []

  abbrev option_in_pairs : List (List ℕ × List ℕ)
  option_in_pairs = (text (codes "size"), number) ∷ (text (codes "chunk"), text name) ∷ []

  number_plain : IsPlain number
  number_plain = subst IsPlain (append-nil number) (written_plain (Int false count) small tt [] refl refl)

  option_values : AllByRecursion (IsValue 0) option_members
  option_values = (
    plain_value 0 (text (codes "size")) (text_plain (codes "size") (omega arith)),
    (
      plain_value 0 number number_plain,
      (plain_value 0 (text (codes "chunk")) (text_plain (codes "chunk") (omega arith)), (plain_value 0 (text name) (text_plain name fits), tt)),
    ),
  )

  option_joined : frame_option count name ≡ head_bytes (Map 2) ++ concat option_members
  option_joined = five_parts (head_bytes (Map 2)) (text (codes "size")) number (text (codes "chunk")) (text name)

  pub option_value : IsValue 1 (frame_option count name)
  option_value =
      container_value 0 (frame_option count name)
      (subst (IsContainer (IsValue 0)) (sym option_joined) (written_container (Map 2) (omega arith) tt (IsValue 0) (concat option_members) refl (in_a_row (IsValue 0) option_members option_values)))

  option_head : head_of (frame_option count name) ≡ Some (Map 2)
  option_head = ap head_of option_joined ∙ written_head (Map 2) (omega arith) tt (concat option_members)

  option_paired : pairs_of (frame_option count name) ≡ Some option_in_pairs
  option_paired =
      let size = length-append (head_bytes (Map 2)) (concat option_members) in
      ap pairs_of option_joined ∙ written_pairs (Map 2) (omega arith) tt (concat option_members)
      ∙ ap (λ vs. Some (pair_up vs)) (values_row 0 option_members option_values (omega arith) (omega (arith, ap length option_joined, size, sized)))

  option_pairs_are : option_pairs (Some (frame_option count name)) ≡ Some option_in_pairs
  option_pairs_are = ap (λ h. cond (is_nil_head h) (Some []) (pairs_of (frame_option count name))) option_head ∙ option_paired

  chunk_last : last_under (codes "chunk") option_in_pairs ≡ Some (text name)
  chunk_last = rw (text_text (codes "size") (omega arith), text_text (codes "chunk") (omega arith)) refl

  compressed_last : last_under (codes "compressed") option_in_pairs ≡ None
  compressed_last = rw (text_text (codes "size") (omega arith), text_text (codes "chunk") (omega arith)) refl

  chunk_is : chunk_under option_in_pairs ≡ Some (text name)
  chunk_is = ap (option_and_then unless_nil) chunk_last ∙ ap (λ h. cond (is_nil_head h) None (Some (text name))) (head_text name fits)

  pub option_chunk : chunk_of (Some (frame_option count name)) ≡ Some (text name)
  option_chunk = ap (option_and_then chunk_under) option_pairs_are ∙ chunk_is

  pub option_good : is_bad_option (Some (frame_option count name)) ≡ false
  option_good =
      ap are_bad_pairs option_pairs_are ∙ ap is_bad_chunk chunk_is ∙ ap (λ t. is_none (fitting_text CHUNK_LIMIT t)) (text_text name fits)
      ∙ ap (λ b. is_none (cond b (Some name) None)) (le-leb (length name) CHUNK_LIMIT short)

  pub option_plain : is_compressed (Some (frame_option count name)) ≡ false
  option_plain = ap (λ p. is_compression (option_and_then (last_under (codes "compressed")) p)) option_pairs_are ∙ ap is_compression compressed_last

-- ---- entries

kept_values : (deep : ℕ) (entries : List (List ℕ)) → AllByRecursion (IsKept deep) entries
    → AllByRecursion (IsValue deep) entries
kept_values deep [] each = tt
kept_values deep (e ∷ entries) each = (each.0.value, kept_values deep entries each.1)

kept_entries : (deep : ℕ) (entries : List (List ℕ)) → AllByRecursion (IsKept deep) entries
    → entries_of entries ≡ Some entries
kept_entries deep [] each = refl
kept_entries deep (e ∷ entries) each = rw (each.0.kept, kept_entries deep entries each.1) refl

kept_count : (deep : ℕ) (entries : List (List ℕ)) → AllByRecursion (IsKept deep) entries
    → length entries ≤ length (concat entries)
kept_count deep [] each = omega arith
kept_count deep (e ∷ entries) each = omega (arith, value_some deep e each.0.value, length-append e (concat entries), kept_count deep entries each.1)

packed_back : (deep : ℕ) (entries : List (List ℕ)) → AllByRecursion (IsKept deep) entries
    → length (concat entries) ≤ most_bytes
    → packed_entries deep (concat entries) ≡ Some entries
unfolding packed_entries
packed_back deep entries each short =
    ap (λ s. option_and_then entries_of (values_to_the_end s)) (values_split most_bytes deep deep entries (kept_values deep entries each) (omega arith) short) ∙ kept_entries deep entries each

-- ---- the frame

asks_if : (parts : RequestFields) → is_none (tag_of parts.tag) ≡ false
    → is_bad_option parts.option ≡ false → is_compressed parts.option ≡ false
    → is_none parts.entries ≡ false → of_parts (Some parts) ≡ Asks (asked parts)
asks_if parts a b c d =
    ap (λ t. unless_fault (first_fault ((t, BadTag) ∷ (is_bad_option parts.option, BadOption) ∷ (is_compressed parts.option, Compressed) ∷ (is_none parts.entries, BadEntry) ∷ [])) parts) a
    ∙ ap (λ t. unless_fault (first_fault ((false, BadTag) ∷ (t, BadOption) ∷ (is_compressed parts.option, Compressed) ∷ (is_none parts.entries, BadEntry) ∷ [])) parts) b
    ∙ ap (λ t. unless_fault (first_fault ((false, BadTag) ∷ (false, BadOption) ∷ (t, Compressed) ∷ (is_none parts.entries, BadEntry) ∷ [])) parts) c
    ∙ ap (λ t. unless_fault (first_fault ((false, BadTag) ∷ (false, BadOption) ∷ (false, Compressed) ∷ (t, BadEntry) ∷ [])) parts) d

module _ (deep : ℕ) (tag : List ℕ) (entries : List (List ℕ)) (name : List ℕ)
    (tag_short : length tag ≤ TAG_LIMIT) (name_short : length name ≤ CHUNK_LIMIT)
    (each : AllByRecursion (IsKept deep) entries)
    (sized : length (chunk_frame tag entries name) ≤ most_bytes) where
  abbrev packed : List ℕ
  packed = concat entries

  abbrev count : ℕ
  count = length entries

  abbrev bin : List ℕ
  bin = head_bytes (Bin (length packed)) ++ packed

  abbrev option : List ℕ
  option = frame_option count name

  abbrev frame_members : List (List ℕ)
  frame_members = text tag ∷ bin ∷ option ∷ []

  frame_joined : chunk_frame tag entries name ≡ head_bytes (Arr 3) ++ concat frame_members
  unfolding chunk_frame
  frame_joined =
      five_parts (head_bytes (Arr 3)) (text tag) (head_bytes (Bin (length packed))) packed option
      ∙ ap (λ xs. head_bytes (Arr 3) ++ (text tag ++ xs)) (sym (append_assoc (head_bytes (Bin (length packed))) packed (option ++ [])))

  record Sizes : Type 0 where
    all : length (concat frame_members) ≤ most_bytes
    of_packed : length packed ≤ most_bytes
    of_option : length option ≤ most_bytes
    of_count : count < 2 ^ 64

  sizes : Sizes
  sizes =
      let whole = ap length frame_joined ∙ length-append (head_bytes (Arr 3)) (concat frame_members) in
      let first = length-append (text tag) (bin ++ (option ++ [])) in
      let second = length-append bin (option ++ []) in
      let body = length-append (head_bytes (Bin (length packed))) packed in
      let last = length-append option [] in
      let count_le = kept_count deep entries each in
      record { all = omega (arith, whole, sized); of_packed = omega (arith, whole, first, second, body, sized); of_option = omega (arith, whole, first, second, last, sized); of_count = omega (arith, whole, first, second, body, sized, count_le) }

  tag_fits : length tag < 2 ^ 32
  tag_fits = omega (arith, tag_short)

  bin_fits : length packed < 2 ^ 32
  bin_fits = omega (arith, sizes.of_packed)

  frame_values : AllByRecursion (IsValue 1) frame_members
  frame_values = (
    plain_value 1 (text tag) (text_plain tag tag_fits),
    (plain_value 1 bin (written_plain (Bin (length packed)) bin_fits tt packed refl refl), (option_value count name sizes.of_count name_short sizes.of_option, tt)),
  )

  -- the frame is a value
  pub frame_value : IsValue 2 (chunk_frame tag entries name)
  frame_value =
      container_value 1 (chunk_frame tag entries name)
      (subst (IsContainer (IsValue 1)) (sym frame_joined) (written_container (Arr 3) (omega arith) tt (IsValue 1) (concat frame_members) refl (in_a_row (IsValue 1) frame_members frame_values)))

  frame_head : head_of (chunk_frame tag entries name) ≡ Some (Arr 3)
  frame_head = ap head_of frame_joined ∙ written_head (Arr 3) (omega arith) tt (concat frame_members)

  frame_elements : elements_of (chunk_frame tag entries name) ≡ Some frame_members
  frame_elements =
      ap elements_of frame_joined ∙ written_elements (Arr 3) (omega arith) tt (concat frame_members) ∙ ap Some (values_row 1 frame_members frame_values (omega arith) sizes.all)

  abbrev frame_parts : RequestFields
  frame_parts = record { tag = text tag; entries = Some entries; option = Some option }

  frame_in_parts : parts_in deep frame_members ≡ Some frame_parts
  frame_in_parts =
      ap (λ h. parts_by deep (mode_by h) (text tag) bin (option ∷ [])) (written_head (Bin (length packed)) bin_fits tt packed)
      ∙ ap (λ t. with_option (text tag) (option_and_then (packed_entries deep) t) (option ∷ [])) (written_text (Bin (length packed)) bin_fits tt packed)
      ∙ ap (λ es. with_option (text tag) es (option ∷ [])) (packed_back deep entries each sizes.of_packed)

  tag_good : is_none (tag_of (text tag)) ≡ false
  tag_good = ap (λ t. is_none (fitting_text TAG_LIMIT t)) (text_text tag tag_fits) ∙ ap (λ b. is_none (cond b (Some tag) None)) (le-leb (length tag) TAG_LIMIT tag_short)

  frame_asked : asked frame_parts
      ≡ record { tag = tag; entries = entries; chunk = Some (text name) }
  frame_asked =
      ap (λ t. record { tag = unwrap_or t []; entries = entries; chunk = chunk_of (Some option) }) (text_text tag tag_fits)
      ∙ ap (λ c. record { tag = tag; entries = entries; chunk = c }) (option_chunk count name sizes.of_count name_short sizes.of_option)

  -- a frame asks for what it was written from
  pub frame_reads_back : request_of deep (chunk_frame tag entries name)
      ≡ Asks (record { tag = tag; entries = entries; chunk = Some (text name) })
  unfolding request_of
  frame_reads_back =
      ap (λ h. cond (is_nil_head h) Heartbeat (of_parts (option_and_then (parts_in deep) (elements_of (chunk_frame tag entries name))))) frame_head
      ∙ ap (λ es. of_parts (option_and_then (parts_in deep) es)) frame_elements
      ∙ ap of_parts frame_in_parts
      ∙ asks_if frame_parts tag_good (option_good count name sizes.of_count name_short sizes.of_option) (option_plain count name sizes.of_count name_short sizes.of_option) refl
      ∙ ap Asks frame_asked

-- what a frame asks for
abbrev pub asked_by : Frame → Request
asked_by frame = record { tag = frame.tag; entries = frame.entries; chunk = Some (text frame.name) }

pub back : (deep : ℕ) (frame : Frame) → IsFrame deep frame
    → request_of deep (chunk_frame frame.tag frame.entries frame.name) ≡ Asks (asked_by frame)
back deep frame is = frame_reads_back deep frame.tag frame.entries frame.name is.tag is.name is.entries (omega (arith, is.size))

pub asks_same : (r s : Request) → Asks r ≡ Asks s → r ≡ s
asks_same r s e = cc

pub only : (deep : ℕ) (frame : Frame) (r : Request) (value : List ℕ) → IsFrame deep frame
    → request_of deep value ≡ Asks r
    → value ≡ chunk_frame frame.tag frame.entries frame.name → r ≡ asked_by frame
only deep frame r value is e same = asks_same r (asked_by frame) (sym e ∙ ap (request_of deep) same ∙ back deep frame is)

-- the text of a name tells the name
name_same : (name other : List ℕ) → length name ≤ CHUNK_LIMIT → length other ≤ CHUNK_LIMIT
    → text name ≡ text other → name ≡ other
name_same name other short small e = same_Some name other (sym (text_text name (omega (arith, short))) ∙ ap text_of e ∙ text_text other (omega (arith, small)))

pub differ : (deep : ℕ) (frame other : Frame) → IsFrame deep frame → IsFrame deep other
    → chunk_frame frame.tag frame.entries frame.name
    ≡ chunk_frame other.tag other.entries other.name
    → frame ≡ other
differ deep frame other is are e =
    let same = asks_same (asked_by frame) (asked_by other) (sym (back deep frame is) ∙ ap (request_of deep) e ∙ back deep other are) in
    let tags : frame.tag ≡ other.tag = ap (λ (r : Request). r.tag) same in
    let lists : frame.entries ≡ other.entries = ap (λ (r : Request). r.entries) same in
    let names : frame.name ≡ other.name = name_same frame.name other.name is.name are.name (same_Some (text frame.name) (text other.name) (ap (λ (r : Request). r.chunk) same)) in
    λ i. record { tag = tags i; entries = lists i; name = names i }
