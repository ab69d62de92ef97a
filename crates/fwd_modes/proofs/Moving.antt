-- Where the entries of a request in PackedForward mode stand in its value, and what is left of the
-- bytes once the tag and the chunk stand behind them.
use Rattle.std.proofs.Common.{◌≡◌, ◌≤◌, ◌+◌, ◌-◌, ℕ, Bool, false, cond, List, [], ◌∷◌, ◌++◌, length, take, drop, Option, Some, None, refl, sym, ap, subst, ◌∙◌, arith}
use Rattle.std.specs.Prelude.{option_and_then, is_some, unwrap_or, Ok}
use Rattle.std.specs.Option.{option_copied, ForSome}
use Rattle.std.specs.Borrow.{Bor}
use Rattle.fwd_modes.specs.declared.limits.TheConstants.{CHUNK_LIMIT}
use Rattle.std.specs.List.{flat_map}
use Rattle.std.proofs.lemmas.List.{append_assoc, length-append, length-take, length-take-le, length-drop, take-append-drop, take_all, take_at, drop_at, drop-append-le, take-append-le, drop-take}
use Rattle.std.proofs.lemmas.Option.{same_Some}
use Rattle.fwd_msgpack.specs.declared.head.Head.{Head}
use Rattle.fwd_msgpack.specs.declared.head.Head.TheVariants.{Arr, Map, Nil, Bool as Boolean, Int, Float, Str, Bin, Ext}
use Rattle.fwd_msgpack.specs.declared.head.HeadRead.{HeadRead}
use Rattle.fwd_msgpack.specs.declared.head.HeadRead.TheVariants as read
use Rattle.fwd_msgpack.specs.Heads.{reading_of}
use Rattle.fwd_msgpack.specs.Scans.{IsWhole, parts_of, parts_read, elements_in, elements_of, row_of_values, text_in, text_of}
use Rattle.fwd_msgpack.specs.Scans.{is_nil}
use Rattle.fwd_msgpack.specs.Values.{bytes_of}
use Rattle.fwd_msgpack.specs.declared.value.Value.{Value}
use Rattle.fwd_modes.specs.declared.envelope.Envelope.{Envelope}
use Rattle.fwd_modes.specs.declared.packed_request.PackedParts.{PackedParts}
use Rattle.fwd_modes.specs.declared.request_fields.EntriesForm.TheVariants.{Packed}
use Rattle.fwd_modes.specs.Entries.{cut_at, packed_entries}
use Rattle.fwd_modes.specs.Requests.{Mode, with_option, unpacked, parts_by, parts_in, of_parts, request_of}
use Rattle.fwd_modes.specs.Requests.Reading.{Heartbeat as heartbeat, Asks as asks}
use Rattle.fwd_modes.specs.Readings.{entries_given, parts_shown, judged}
use Rattle.fwd_modes.specs.Moved.{ArePacked, optional}
use Rattle.fwd_msgpack.proofs.Parts.{parts_row}
use Rattle.fwd_msgpack.proofs.Splittings.{row_values}

-- what stands behind a head is the end of the bytes
parts_end : (bytes : List ℕ) (r : HeadRead) (head : Head) (body : List ℕ)
    → parts_read r bytes ≡ Some (head, body) → (front : List ℕ) × (bytes ≡ front ++ body)
parts_end bytes (read.Whole head' n) head body e =
    let same : drop n bytes ≡ body = ap (λ (x : Head × List ℕ). x.1) (same_Some (head', drop n bytes) (head, body) e) in
    (take n bytes, sym (take-append-drop n bytes) ∙ ap (λ (xs : List ℕ). take n bytes ++ xs) same)
parts_end bytes read.Short head body e = absurd cc
parts_end bytes read.Reserved head body e = absurd cc

body_end : (bytes : List ℕ) (head : Head) (body : List ℕ) → parts_of bytes ≡ Some (head, body)
    → (front : List ℕ) × (bytes ≡ front ++ body)
unfolding parts_of
body_end bytes head body e = parts_end bytes (reading_of bytes) head body e

-- the members of an array are its end
elements_by : (bytes : List ℕ) (p : Option (Head × List ℕ)) (members : List (List ℕ)) → IsWhole bytes
    → parts_of bytes ≡ p → option_and_then (λ parts. elements_in parts.0 parts.1) p ≡ Some members
    → (front : List ℕ) × (bytes ≡ front ++ flat_map (λ v. v) members)
elements_by bytes None members whole h e = absurd cc
elements_by bytes (Some (Arr n, body)) members whole h e =
    let row = (parts_row bytes (Arr n) body whole h refl).row in
    let found = body_end bytes (Arr n) body h in
    let same : row_of_values body ≡ members = same_Some (row_of_values body) members e in
    (found.0, found.1 ∙ ap (λ (xs : List ℕ). found.0 ++ xs) (sym (row_values body row).0 ∙ ap (flat_map (λ v. v)) same))
elements_by bytes (Some (Map n, body)) members whole h e = absurd cc
elements_by bytes (Some (Nil, body)) members whole h e = absurd cc
elements_by bytes (Some (Boolean b, body)) members whole h e = absurd cc
elements_by bytes (Some (Int neg mag, body)) members whole h e = absurd cc
elements_by bytes (Some (Float len, body)) members whole h e = absurd cc
elements_by bytes (Some (Str len, body)) members whole h e = absurd cc
elements_by bytes (Some (Bin len, body)) members whole h e = absurd cc
elements_by bytes (Some (Ext kind len, body)) members whole h e = absurd cc

-- a text is the end of its value
text_by : (bytes : List ℕ) (p : Option (Head × List ℕ)) (text : List ℕ)
    → parts_of bytes ≡ p → option_and_then (λ parts. text_in parts.0 parts.1) p ≡ Some text
    → (front : List ℕ) × (bytes ≡ front ++ text)
text_by bytes None text h e = absurd cc
text_by bytes (Some (Str len, body)) text h e = subst (λ (xs : List ℕ). (front : List ℕ) × (bytes ≡ front ++ xs)) (same_Some body text e) (body_end bytes (Str len) body h)
text_by bytes (Some (Bin len, body)) text h e = subst (λ (xs : List ℕ). (front : List ℕ) × (bytes ≡ front ++ xs)) (same_Some body text e) (body_end bytes (Bin len) body h)
text_by bytes (Some (Arr n, body)) text h e = absurd cc
text_by bytes (Some (Map n, body)) text h e = absurd cc
text_by bytes (Some (Nil, body)) text h e = absurd cc
text_by bytes (Some (Boolean b, body)) text h e = absurd cc
text_by bytes (Some (Int neg mag, body)) text h e = absurd cc
text_by bytes (Some (Float len, body)) text h e = absurd cc
text_by bytes (Some (Ext kind len, body)) text h e = absurd cc

-- the text of the second member, and what is behind that, are the end of an array's bytes
pub text_stands : (bytes tag packed text : List ℕ) (others : List (List ℕ)) → IsWhole bytes
    → elements_of bytes ≡ Some (tag ∷ packed ∷ others) → text_of packed ≡ Some text
    → (front : List ℕ) × (bytes ≡ front ++ (text ++ flat_map (λ v. v) others))
text_stands bytes tag packed text others whole members e =
    let all = elements_by bytes (parts_of bytes) (tag ∷ packed ∷ others) whole refl members in
    let own = text_by packed (parts_of packed) text refl e in
    let rest = flat_map (λ v. v) others in
    let joined : packed ++ rest ≡ own.0 ++ (text ++ rest) = ap (λ (xs : List ℕ). xs ++ rest) own.1 ∙ append_assoc own.0 text rest in (
      all.0 ++ (tag ++ own.0),
      all.1
          ∙ ap (λ (xs : List ℕ). all.0 ++ (tag ++ xs)) joined
          ∙ ap (λ (xs : List ℕ). all.0 ++ xs) (sym (append_assoc tag own.0 (text ++ rest)))
          ∙ sym (append_assoc all.0 (tag ++ own.0) (text ++ rest)),
    )

-- such a text, by its place
pub text_at : (bytes front text rest : List ℕ) (first size behind : ℕ)
    → bytes ≡ front ++ (text ++ rest) → length text ≡ size → length rest ≡ behind
    → first ≡ length bytes - behind - size
    → (take size (drop first bytes) ≡ text) × (first + size ≤ length bytes)
text_at bytes front text rest first size behind e s b f =
    let all : length bytes ≡ length front + (length text + length rest) = omega (arith, ap length e, length-append front (text ++ rest), length-append text rest) in
    let place : length front ≡ first = omega (arith, all, s, b, f) in (
      ap (λ (xs : List ℕ). take size (drop first xs)) e
          ∙ ap (take size) (drop_at front (text ++ rest) first place)
          ∙ take_at text rest size s,
      omega (arith, all, place, s),
    )

-- ---- what the parts ask for

by_option : (deep : ℕ) (tag packed : Value) (option : Option Value)
    → with_option (bytes_of tag) (unpacked deep (bytes_of packed)) (optional option)
    ≡ Some (parts_shown deep (record { tag = tag; entries = Packed packed; option = option }))
by_option deep tag packed None = refl
by_option deep tag packed (Some option) = refl

pub found_asks : (deep : ℕ) (bytes : List ℕ) (given : PackedParts) (asked : Envelope)
    (text ends : List ℕ) → is_nil bytes ≡ false → ArePacked (elements_of bytes) given
    → judged (entries_given deep (Packed given.packed)) (Ok asked)
    ≡ of_parts (Some (parts_shown deep (record { tag = given.tag; entries = Packed given.packed; option = given.option })))
    → text_of (bytes_of given.packed) ≡ Some text
    → packed_entries deep text ≡ Some (cut_at 0 ends text)
    → request_of deep bytes
    ≡ asks (record { tag = asked.tag.now; entries = cut_at 0 ends text; chunk = option_copied asked.chunk })
unfolding request_of
found_asks deep bytes given asked text ends nil packed said own entries =
    let others = optional given.option in
    let parts : option_and_then (parts_in deep) (elements_of bytes) ≡ Some (parts_shown deep (record { tag = given.tag; entries = Packed given.packed; option = given.option })) =
    ap (option_and_then (parts_in deep)) packed.0
    ∙ ap (λ (m : Option Mode). parts_by deep m (bytes_of given.tag) (bytes_of given.packed) others) packed.1
    ∙ by_option deep given.tag given.packed given.option in
    let found : entries_given deep (Packed given.packed) ≡ Some (cut_at 0 ends text) = ap (option_and_then (packed_entries deep)) own ∙ entries in
    ap (λ (b : Bool). cond b heartbeat (of_parts (option_and_then (parts_in deep) (elements_of bytes)))) nil
    ∙ ap of_parts parts ∙ sym said ∙ ap (λ (e : Option (List (List ℕ))). judged e (Ok asked)) found

-- the tag and the chunk, one behind the other
pub tag_in : (tag chunk names : List ℕ) → names ≡ tag ++ chunk → take (length tag) names ≡ tag
tag_in tag chunk names e = ap (take (length tag)) e ∙ take_at tag chunk (length tag) refl

pub chunk_in : (tag names : List ℕ) (chunk : Option (Bor (List ℕ))) (has : Bool)
    → has ≡ is_some chunk → names ≡ tag ++ unwrap_or (option_copied chunk) []
    → cond has (Some (drop (length tag) names)) None ≡ option_copied chunk
chunk_in tag names None has h e = ap (λ (b : Bool). cond b (Some (drop (length tag) names)) None) h
chunk_in tag names (Some chunk) has h e =
    ap (λ (b : Bool). cond b (Some (drop (length tag) names)) None) h
    ∙ ap Some (ap (drop (length tag)) e ∙ drop_at tag chunk.now (length tag) refl)

pub chunk_bound : (chunk : Option (Bor (List ℕ))) → ForSome chunk (λ bytes. length bytes.now ≤ CHUNK_LIMIT + 5)
    → length (unwrap_or (option_copied chunk) []) ≤ CHUNK_LIMIT + 5
chunk_bound None fits = omega arith
chunk_bound (Some bytes) fits = fits bytes refl

-- ---- bytes cut off behind the entries, and others put there

module _ (bytes names : List ℕ) (first size : ℕ) (inside : first + size ≤ length bytes) where
  abbrev pub cut_off : List ℕ
  cut_off = take (first + size) bytes ++ names

  front_len : length (take (first + size) bytes) ≡ first + size
  front_len = length-take-le (first + size) bytes inside

  pub names_behind : drop (first + size) cut_off ≡ names
  names_behind = drop_at (take (first + size) bytes) names (first + size) front_len

  pub entries_stay : take size (drop first cut_off) ≡ take size (drop first bytes)
  entries_stay =
      let front = take (first + size) bytes in
      let some : first ≤ length front = omega (arith, front_len) in
      let long : size ≤ length (drop first front) = omega (arith, length-drop first front, front_len) in
      ap (take size) (drop-append-le first front names some)
      ∙ take-append-le size (drop first front) names long
      ∙ ap (take size) (drop-take first size bytes)
      ∙ take_all size (take size (drop first bytes)) (short size (drop first bytes))
    where
      short : (n : ℕ) (xs : List ℕ) → length (take n xs) ≤ n
      short n xs = omega (arith, length-take n xs)

  pub cut_len : length cut_off ≡ first + size + length names
  cut_len = omega (arith, length-append (take (first + size) bytes) names, front_len)
