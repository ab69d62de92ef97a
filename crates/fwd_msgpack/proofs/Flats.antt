-- An array of two whose second value is a small map.
use Rattle.std.proofs.Common.{add-one, get_or, ◌≡◌, ℕ, zero, suc, ◌+◌, ◌-◌, ◌*◌, ◌<◌, ◌≤◌, List, [], ◌∷◌, ◌++◌, length, take, drop, Some, refl, sym, ap, subst, ◌∙◌, append_assoc, arith}
use Rattle.std.specs.List.{concat, AllByRecursion}
use Rattle.std.proofs.Math.Seq.{drop-cons}
use Rattle.std.proofs.lemmas.Bool.{lt-ltb}
use Rattle.std.proofs.lemmas.List.{append-nil, length-append, length-drop, length-take-le, take-append-drop, drop-drop}
use Rattle.fwd_msgpack.specs.declared.head.Head.TheVariants.{Arr, Map}
use Rattle.fwd_msgpack.specs.Heads.{head_bytes, reading_of, payload}
use Rattle.fwd_msgpack.specs.Plain.{plain_len}
use Rattle.fwd_msgpack.specs.Scans.{Whole, IsWhole, whole_len, start, first_of, elements_of, head_of, most_bytes, most_deep}
use Rattle.fwd_msgpack.specs.Values.{IsPlain, InARow, IsValue}
use Rattle.fwd_msgpack.specs.Flat.{AreInARow, BeginsWithMap, BeginsWithPair}
use Rattle.fwd_msgpack.proofs.Fronts.{scanned}
use Rattle.fwd_msgpack.proofs.Pieces.{take_further}
use Rattle.fwd_msgpack.proofs.Plains.{ReadsPlain-from, told_here}
use Rattle.fwd_msgpack.proofs.Sizes.{text_told}
use Rattle.fwd_msgpack.proofs.Sound.{front_alone, sound}
use Rattle.fwd_msgpack.proofs.Wholes.{state_whole, Front-from}
use Rattle.fwd_msgpack.proofs.Written.{first_value, values_row, written_head, written_elements, written_container, plain_value, container_value, in_a_row}

-- ---- values in a row

-- one part more in a row
row_push : (P : List ℕ → Type 0) (n : ℕ) (xs y : List ℕ) → InARow P n xs → P y
    → InARow P (suc n) (xs ++ y)
unfolding InARow
row_push P zero xs y row is = (y, ([], (ap (λ zs. zs ++ y) row ∙ sym (append-nil y), is, refl)))
row_push P (suc n) xs y row is =
    (row.0, (row.1.0 ++ y, (ap (λ zs. zs ++ y) row.1.1.0 ∙ append_assoc row.0 row.1.0 y, row.1.1.1, row_push P n row.1.0 y row.1.1.2 is)))

-- the item behind a place, whose size was read
pub plain_there : (bytes : List ℕ) (at size : ℕ)
    → plain_len (reading_of (drop at bytes)) ≡ Some size → at + size ≤ length bytes
    → IsPlain (take size (drop at bytes))
plain_there bytes at size plain le =
    let xs = drop at bytes in
    let p = ReadsPlain-from xs size plain in
    let len = p.len in
    let parts : take size xs ≡ take p.n xs ++ take (payload p.head) (drop p.n xs) = ap (λ (k : ℕ). take k xs) (sym len) ∙ take_further p.n (payload p.head) xs in
    record {
      head = p.head;
      front = take p.n xs;
      body = take (payload p.head) (drop p.n xs);
      parts = parts;
      spelled = front_alone xs p.head p.n (sym p.reads);
      shut = p.shut;
      len = length-take-le (payload p.head) (drop p.n xs) (omega (arith, len, length-drop p.n xs, length-drop at bytes));
    }

-- a plain item is a value, however deep
pub item_there : (deep : ℕ) (bytes : List ℕ) (at size : ℕ)
    → plain_len (reading_of (drop at bytes)) ≡ Some size → at + size ≤ length bytes
    → IsValue deep (take size (drop at bytes))
item_there deep bytes at size plain le =
    plain_value deep (take size (drop at bytes)) (plain_there bytes at size plain le)

-- what begins the bytes is a value
pub value_there : (limit deep : ℕ) (bytes : List ℕ) (n : ℕ) → first_of limit deep bytes ≡ Whole n
    → (n ≤ length bytes) × IsValue deep (take n bytes)
unfolding first_of
value_there limit deep bytes n e =
    let front = Front-from limit deep limit deep (omega arith) (omega arith) bytes n e in
    (front.within, sound limit deep (take n bytes) (state_whole (scanned limit deep start (take n bytes)) (length (take n bytes)) front.alone))

-- no values at all
pub row_none : (deep : ℕ) (bytes : List ℕ) (from : ℕ) → AreInARow deep 0 bytes from from
unfolding InARow
row_none deep bytes from =
    let none : from - from ≡ 0 = omega arith in
    (omega arith, ap (λ (k : ℕ). take k (drop from bytes)) none)

-- one value more
pub row_more : (deep count : ℕ) (bytes : List ℕ) (from used size : ℕ)
    → AreInARow deep count bytes from used → IsValue deep (take size (drop used bytes))
    → AreInARow deep (suc count) bytes from (used + size)
row_more deep count bytes from used size row value =
    let on : from ≤ used = row.0 in
    let len : used + size - from ≡ (used - from) + size = omega (arith, on) in
    let place : from + (used - from) ≡ used = omega (arith, on) in
    let xs = drop from bytes in
    let parts : take (used + size - from) xs ≡ take (used - from) xs ++ take size (drop used bytes) =
    ap (λ (k : ℕ). take k xs) len ∙ take_further (used - from) size xs
    ∙ ap (λ (zs : List ℕ). take (used - from) xs ++ take size zs) (drop-drop (used - from) from bytes ∙ ap (λ (k : ℕ). drop k bytes) place) in
    (omega (arith, on), subst (λ (zs : List ℕ). InARow (IsValue deep) (suc count) zs) (sym parts) (row_push (IsValue deep) count (take (used - from) xs) (take size (drop used bytes)) row.1 value))

-- the text behind a place, by its first byte
pub key_there : (deep : ℕ) (bytes : List ℕ) (at size : ℕ) → at < length bytes
    → 0xa0 ≤ get_or bytes at 0 → get_or bytes at 0 < 0xc0 → size ≡ get_or bytes at 0 - 0x9f
    → at + size ≤ length bytes → IsValue deep (take size (drop at bytes))
key_there deep bytes at size lt low high is le =
    item_there deep bytes at size (told_here bytes at size (λ rest inside. text_told (get_or bytes at 0) size is low high rest (omega (arith, is, low)) inside) lt le) le

-- one pair more: two values
pub pair_more : (deep place : ℕ) (bytes : List ℕ) (from used key size : ℕ)
    → AreInARow deep (2 * place) bytes from used
    → IsValue deep (take key (drop used bytes)) → IsValue deep (take size (drop (used + key) bytes))
    → AreInARow deep (2 * (place + 1)) bytes from (used + key + size)
pair_more deep place bytes from used key size row first second =
    let two : suc (suc (2 * place)) ≡ 2 * (place + 1) = omega arith in
    subst (λ (k : ℕ). AreInARow deep k bytes from (used + key + size)) two
    (row_more deep (suc (2 * place)) bytes from (used + key) size (row_more deep (2 * place) bytes from used key row first) second)

-- ---- the pair

-- an item by itself is whole
pub plain_whole : (bytes : List ℕ) → IsPlain bytes → length bytes ≤ most_bytes → IsWhole bytes
plain_whole bytes plain short =
    ap whole_len (ap (first_of most_bytes most_deep) (sym (append-nil bytes)) ∙ first_value most_bytes most_deep 0 bytes [] (plain_value 0 bytes plain) (omega arith) short)

small_map : (pairs : ℕ) → pairs < 16 → head_bytes (Map pairs) ≡ (0x80 + pairs) ∷ []
unfolding head_bytes
small_map pairs few = rw (lt-ltb pairs 0x10 few) refl

-- a map of pairs
map_value : (deep pairs : ℕ) (body : List ℕ) → pairs < 16
    → InARow (IsValue deep) (2 * pairs) body → IsValue (suc deep) ((0x80 + pairs) ∷ body)
map_value deep pairs body few row =
    subst (λ (xs : List ℕ). IsValue (suc deep) (xs ++ body)) (small_map pairs few) (container_value deep (head_bytes (Map pairs) ++ body) (written_container (Map pairs) (omega (arith, few)) tt (IsValue deep) body refl row))

map_head : (pairs : ℕ) (body : List ℕ) → pairs < 16
    → head_of ((0x80 + pairs) ∷ body) ≡ Some (Map pairs)
map_head pairs body few =
    ap (λ (xs : List ℕ). head_of (xs ++ body)) (sym (small_map pairs few)) ∙ written_head (Map pairs) (omega (arith, few)) tt body

two_parts : (first second : List ℕ)
    → 0x92 ∷ first ++ second ≡ head_bytes (Arr 2) ++ concat (first ∷ second ∷ [])
unfolding head_bytes
two_parts first second = ap (λ (xs : List ℕ). 0x92 ∷ (first ++ xs)) (sym (append-nil second))

-- two values in an array
module _ (deep : ℕ) (first second : List ℕ) (a : IsValue deep first) (b : IsValue deep second) where
  each : AllByRecursion (IsValue deep) (first ∷ second ∷ [])
  each = (a, (b, tt))

  pair_value : IsValue (suc deep) (0x92 ∷ first ++ second)
  pair_value =
      subst (IsValue (suc deep)) (sym (two_parts first second)) (container_value deep (head_bytes (Arr 2) ++ concat (first ∷ second ∷ [])) (written_container (Arr 2) (omega arith) tt (IsValue deep) (concat (first ∷ second ∷ [])) refl (in_a_row (IsValue deep) (first ∷ second ∷ []) each)))

  pair_elements : deep ≤ most_deep → length first + length second ≤ most_bytes
      → elements_of (0x92 ∷ first ++ second) ≡ Some (first ∷ second ∷ [])
  pair_elements shallow short =
      let size = length-append first (second ++ []) in
      let more = length-append second [] in
      ap elements_of (two_parts first second) ∙ written_elements (Arr 2) (omega arith) tt (concat (first ∷ second ∷ [])) ∙ ap Some (values_row deep (first ∷ second ∷ []) each shallow (omega (arith, size, more, short)))

-- a byte, and those behind it
one_byte : (bytes : List ℕ) (at n : ℕ) → at < length bytes
    → take (suc n) (drop at bytes) ≡ get_or bytes at 0 ∷ take n (drop (at + 1) bytes)
one_byte bytes at n lt =
    let parts : drop at bytes ≡ get_or bytes at 0 ∷ drop (at + 1) bytes = rw add-one (drop-cons bytes at 0 lt) in
    ap (λ (xs : List ℕ). take (suc n) xs) parts

-- what was read of the bytes is such an array
module _ (limit deep : ℕ) (bytes : List ℕ) (time pairs end : ℕ)
    (bound : limit ≤ most_bytes) (shallow : 2 ≤ deep) (deepest : deep ≤ most_deep)
    (few : pairs < 16) (fits : end ≤ limit) (inside : end ≤ length bytes)
    (array : get_or bytes 0 0 ≡ 0x92)
    (plain : plain_len (reading_of (drop 1 bytes)) ≡ Some time)
    (map : get_or bytes (1 + time) 0 ≡ 0x80 + pairs)
    (row : AreInARow (deep - 2) (2 * pairs) bytes (1 + time + 1) end) where
  abbrev first : List ℕ
  first = take time (drop 1 bytes)

  abbrev behind : ℕ
  behind = end - (1 + time + 1)

  abbrev body : List ℕ
  body = take behind (drop (1 + time + 1) bytes)

  abbrev second : List ℕ
  second = (0x80 + pairs) ∷ body

  on : 1 + time + 1 ≤ end
  on = row.0

  first_is : IsValue (suc (deep - 2)) first
  first_is = item_there (suc (deep - 2)) bytes 1 time plain (omega (arith, on, inside))

  second_is : IsValue (suc (deep - 2)) second
  second_is = map_value (deep - 2) pairs body few row.1

  spelled_so : take end bytes ≡ 0x92 ∷ first ++ second
  spelled_so =
      let len : suc (time + suc behind) ≡ end = omega (arith, on) in
      ap (λ (k : ℕ). take k bytes) (sym len)
      ∙ one_byte bytes 0 (time + suc behind) (omega (arith, on, inside))
      ∙ ap (λ (b : ℕ). b ∷ take (time + suc behind) (drop 1 bytes)) array
      ∙ ap (λ (xs : List ℕ). 0x92 ∷ xs)
      (take_further time (suc behind) (drop 1 bytes)
      ∙ ap (λ (xs : List ℕ). first ++ take (suc behind) xs) (drop-drop time 1 bytes)
      ∙ ap (λ (xs : List ℕ). first ++ xs) (one_byte bytes (1 + time) behind (omega (arith, on, inside)) ∙ ap (λ (b : ℕ). b ∷ body) map))

  len_is : length (0x92 ∷ first ++ second) ≡ end
  len_is = ap length (sym spelled_so) ∙ length-take-le end bytes inside

  short : length first + length second ≤ most_bytes
  short = omega (arith, len_is, length-append first second, fits, bound)

  pub pair_found : BeginsWithPair limit deep bytes (take time (drop 1 bytes)) end
  pair_found =
      let own = 0x92 ∷ first ++ second in
      let parts : bytes ≡ own ++ drop end bytes = sym (take-append-drop end bytes) ∙ ap (λ (xs : List ℕ). xs ++ drop end bytes) spelled_so in
      record {
        second = second;
        pairs = pairs;
        whole = ap (first_of limit deep) parts ∙ first_value limit deep (suc (suc (deep - 2))) own (drop end bytes) (pair_value (suc (deep - 2)) first second first_is second_is) (omega (arith, shallow)) (omega (arith, len_is, fits)) ∙ ap Whole len_is;
        spelled = spelled_so;
        members = ap elements_of spelled_so ∙ pair_elements (suc (deep - 2)) first second first_is second_is (omega (arith, shallow, deepest)) short;
        map = map_head pairs body few;
        some = omega (arith, on);
        within = inside;
      }

-- what was read of the bytes is a map
pub map_found : (deep pairs end : ℕ) (bytes : List ℕ) → 1 ≤ deep → pairs < 16
    → end ≤ length bytes → get_or bytes 0 0 ≡ 0x80 + pairs
    → AreInARow (deep - 1) (2 * pairs) bytes 1 end → BeginsWithMap deep bytes end
map_found deep pairs end bytes some few inside first row =
    let behind = end - 1 in
    let body = take behind (drop 1 bytes) in
    let len : suc behind ≡ end = omega (arith, row.0) in
    let deeper : suc (deep - 1) ≡ deep = omega (arith, some) in
    let spelled : take end bytes ≡ (0x80 + pairs) ∷ body =
    ap (λ (k : ℕ). take k bytes) (sym len)
    ∙ one_byte bytes 0 behind (omega (arith, row.0, inside))
    ∙ ap (λ (b : ℕ). b ∷ body) first in
    record {
      pairs = pairs;
      map = ap head_of spelled ∙ map_head pairs body few;
      value = subst (λ (k : ℕ). IsValue k (take end bytes)) deeper (subst (IsValue (suc (deep - 1))) (sym spelled) (map_value (deep - 1) pairs body few row.1));
      within = inside;
    }
