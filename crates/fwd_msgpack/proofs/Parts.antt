-- A whole value has a head, and the members of an array or a map stand in a row behind it.
use Rattle.std.proofs.Common.{◌≡◌, ℕ, zero, suc, ◌+◌, ◌-◌, ◌<◌, ◌≤◌, Bool, cond, List, [], ◌∷◌, ◌++◌, length, take, drop, Option, Some, None, refl, sym, ap, subst, ◌∙◌, arith, zero-add}
use Rattle.std.proofs.lemmas.Bool.{lt-ltb, le-ltb}
use Rattle.std.proofs.lemmas.List.{length-append, length-drop, drop_at}
use Rattle.fwd_msgpack.specs.declared.fault.ScanFault.{ScanFault}
use Rattle.fwd_msgpack.specs.declared.head.Head.{Head}
use Rattle.fwd_msgpack.specs.declared.head.HeadRead.{HeadRead}
use Rattle.fwd_msgpack.specs.declared.head.HeadRead.TheVariants as read
use Rattle.fwd_msgpack.specs.Heads.{IsWithin, reading_of, payload, members}
use Rattle.fwd_msgpack.specs.Scans.{Verdict, Whole, Short, Bad, InHead, InPayload, State, Going, Ended, value_ended, payload_ended, item_begun, fault_at, unless_faulty, head_found, verdict_of, start, first_of, whole_len, split_of, rest_of, values_of, row_of_values, most_bytes, most_deep, parts_read, parts_of, IsWhole, IsRow}
use Rattle.fwd_msgpack.proofs.Fronts.{scanned, scanned-Ended, scanned-Failed, short_scanned, reserved_scanned, head_scanned, reading_within, ended_shut, ended_opened}
use Rattle.fwd_msgpack.proofs.Solo.{solo}
use Rattle.fwd_msgpack.proofs.Wholes.{scanned-append, state_whole, Front-from}
use Rattle.fwd_msgpack.proofs.Rows.{split_first, rest_front, values_front, row_starts, row_of_nothing, Nonempty-from}
use Rattle.std.proofs.lemmas.Option.{same_Some}

len_whole : (v : Verdict) (n : ℕ) → whole_len v ≡ Some n → v ≡ Whole n
len_whole (Whole m) n e = cc
len_whole Short n e = absurd cc
len_whole (Bad fault) n e = absurd cc

pub whole_first : (bytes : List ℕ) → IsWhole bytes
    → first_of most_bytes most_deep bytes ≡ Whole (length bytes)
whole_first bytes whole = len_whole (first_of most_bytes most_deep bytes) (length bytes) whole

whole_read : (bytes : List ℕ) (r : HeadRead) → reading_of bytes ≡ r
    → first_of most_bytes most_deep bytes ≡ Whole (length bytes)
    → (head : Head) × ((n : ℕ) × (r ≡ read.Whole head n))
unfolding first_of
whole_read bytes (read.Whole head n) h e = (head, (n, refl))
whole_read bytes read.Short h e =
    let short = ap verdict_of (short_scanned most_bytes most_deep 0 [] bytes h) in
    absurd cc
whole_read bytes read.Reserved h e =
    let bad = ap verdict_of (reserved_scanned most_bytes most_deep 0 [] bytes h) in
    absurd cc

-- a whole value begins with a head
pub whole_head : (bytes : List ℕ) → IsWhole bytes
    → (head : Head) × ((n : ℕ) × (reading_of bytes ≡ read.Whole head n))
whole_head bytes whole = whole_read bytes (reading_of bytes) refl (whole_first bytes whole)

pub read_within : (bytes : List ℕ) (head : Head) (n : ℕ)
    → reading_of bytes ≡ read.Whole head n → IsWithin (length bytes) (read.Whole head n)
read_within bytes head n h = subst (λ (r : HeadRead). IsWithin (length bytes) r) h (reading_within bytes)

-- ---- rows

-- so many values stand in a row, to the last byte
pub record RowOf (count : ℕ) (bytes : List ℕ) : Type 0 where
  pub row : IsRow bytes
  pub count_is : length (row_of_values bytes) ≡ count

RowOf-nothing : (bytes : List ℕ) → length bytes ≡ 0 → RowOf 0 bytes
unfolding split_of row_of_values
RowOf-nothing [] e = record { row = refl; count_is = refl }
RowOf-nothing (b ∷ bytes) e = absurd (omega arith)

-- a value, and a row behind it
RowOf-more : (own others : List ℕ) (count : ℕ)
    → first_of most_bytes most_deep own ≡ Whole (length own) → RowOf count others
    → RowOf (suc count) (own ++ others)
unfolding first_of row_of_values
RowOf-more own others count e rows =
    let state = state_whole (scanned most_bytes most_deep start own) (length own) e in
    let whole : first_of most_bytes most_deep (own ++ others) ≡ Whole (length own) =
    ap verdict_of (scanned-append most_bytes most_deep start own others ∙ ap (λ (s : State). scanned most_bytes most_deep s others) state ∙ scanned-Ended most_bytes most_deep (length own) others) in
    let split = split_first most_bytes most_deep (own ++ others) (length own) whole in
    let behind = drop_at own others (length own) refl in
    let front = take (length own) (own ++ others) in
    let after = split_of most_bytes most_deep (drop (length own) (own ++ others)) in
    let same : row_of_values (drop (length own) (own ++ others)) ≡ row_of_values others = ap row_of_values behind in
    record {
      row = ap rest_of split ∙ rest_front (front ∷ []) after ∙ ap (λ (xs : List ℕ). rest_of (split_of most_bytes most_deep xs)) behind ∙ rows.row;
      count_is = ap length (ap values_of split ∙ values_front (front ∷ []) after) ∙ ap suc (ap length same ∙ rows.count_is);
    }

-- what stands in a container that lacks so many members after the one in progress
rows_in : (lacking : ℕ) (v : ℕ) (bytes : List ℕ) (n : ℕ) → n ≡ v + length bytes
    → scanned most_bytes most_deep (Going v (lacking ∷ []) (InHead [])) bytes ≡ Ended n
    → RowOf (suc lacking) bytes
unfolding first_of
rows_in zero v bytes n size e =
    let s = solo most_bytes most_deep most_bytes most_deep (0 ∷ []) (omega arith) (omega arith) v 0 [] (InHead []) bytes n (omega arith) e in
    let ended : Ended (v + length s.own) ≡ Ended n = sym (scanned-Ended most_bytes most_deep (v + length s.own) s.others) ∙ s.after in
    let place : v + length s.own ≡ n = cc in
    let nothing : length s.others ≡ 0 = omega (arith, ap length s.parts, length-append s.own s.others) in
    let own : first_of most_bytes most_deep s.own ≡ Whole (length s.own) = ap verdict_of s.alone ∙ ap Whole (zero-add (length s.own)) in
    subst (λ (xs : List ℕ). RowOf 1 xs) (sym s.parts) (RowOf-more s.own s.others 0 own (RowOf-nothing s.others nothing))
rows_in (suc lacking) v bytes n size e =
    let s = solo most_bytes most_deep most_bytes most_deep (suc lacking ∷ []) (omega arith) (omega arith) v 0 [] (InHead []) bytes n (omega arith) e in
    let rest : n ≡ v + length s.own + length s.others = omega (arith, ap length s.parts, length-append s.own s.others) in
    let own : first_of most_bytes most_deep s.own ≡ Whole (length s.own) = ap verdict_of s.alone ∙ ap Whole (zero-add (length s.own)) in
    subst (λ (xs : List ℕ). RowOf (suc (suc lacking)) xs) (sym s.parts) (RowOf-more s.own s.others (suc lacking) own (rows_in lacking (v + length s.own) s.others n rest s.after))

-- behind the head of a container
behind_head : (bytes : List ℕ) (head : Head) (n : ℕ) (o : Option ScanFault) (m : ℕ)
    → payload head ≡ 0 → members head ≡ m → n ≤ length bytes
    → scanned most_bytes most_deep (unless_faulty o (item_begun n [] head)) (drop n bytes)
    ≡ Ended (length bytes)
    → RowOf m (drop n bytes)
unfolding item_begun
behind_head bytes head n (Some fault) m p k le e =
    let failed = scanned-Failed most_bytes most_deep fault (drop n bytes) in
    absurd cc
behind_head bytes head n None zero p k le e =
    let begun : item_begun n [] head ≡ value_ended n [] = ap (λ (b : Bool). cond b (Going n [] (InPayload (payload head))) (payload_ended n [] head)) (le-ltb 0 (payload head) (omega arith)) ∙ ended_shut n [] head (le-ltb 0 (members head) (omega arith)) in
    let ended : Ended n ≡ Ended (length bytes) = sym (scanned-Ended most_bytes most_deep n (drop n bytes)) ∙ ap (λ (s : State). scanned most_bytes most_deep s (drop n bytes)) (sym begun) ∙ e in
    let same : n ≡ length bytes = cc in
    RowOf-nothing (drop n bytes) (omega (arith, length-drop n bytes))
behind_head bytes head n None (suc m) p k le e =
    let lacking : members head - 1 ≡ m = omega arith in
    let begun : item_begun n [] head ≡ Going n ((members head - 1) ∷ []) (InHead []) = ap (λ (b : Bool). cond b (Going n [] (InPayload (payload head))) (payload_ended n [] head)) (le-ltb 0 (payload head) (omega arith)) ∙ ended_opened n [] head (lt-ltb 0 (members head) (omega arith)) in
    let going : scanned most_bytes most_deep (Going n (m ∷ []) (InHead [])) (drop n bytes) ≡ Ended (length bytes) =
    ap (λ (i : ℕ). scanned most_bytes most_deep (Going n (i ∷ []) (InHead [])) (drop n bytes)) (sym lacking) ∙ ap (λ (s : State). scanned most_bytes most_deep s (drop n bytes)) (sym begun) ∙ e in
    rows_in m n (drop n bytes) (length bytes) (omega (arith, length-drop n bytes)) going

-- the members of a whole value that is an array or a map
pub whole_row : (bytes : List ℕ) (head : Head) (n : ℕ) → IsWhole bytes
    → reading_of bytes ≡ read.Whole head n → payload head ≡ 0
    → RowOf (members head) (drop n bytes)
unfolding first_of
whole_row bytes head n whole h p =
    let state = state_whole (scanned most_bytes most_deep start bytes) (length bytes) (whole_first bytes whole) in
    let within = read_within bytes head n h in
    let here : scanned most_bytes most_deep (head_found most_bytes most_deep n [] head) (drop n bytes) ≡ Ended (length bytes) =
    ap (λ (k : ℕ). scanned most_bytes most_deep (head_found most_bytes most_deep k [] head) (drop n bytes)) (sym (zero-add n)) ∙ sym (head_scanned most_bytes most_deep 0 [] bytes head n h) ∙ state in
    behind_head bytes head n (fault_at most_bytes most_deep n [] head) (members head) p refl within.1 here

parts_by : (bytes : List ℕ) (r : HeadRead) (head : Head) (body : List ℕ)
    → reading_of bytes ≡ r → IsWhole bytes → parts_read r bytes ≡ Some (head, body)
    → payload head ≡ 0 → RowOf (members head) body
parts_by bytes (read.Whole head' n) head body h whole e p =
    let both : (head', drop n bytes) ≡ (head, body) = same_Some (head', drop n bytes) (head, body) e in
    let same : head' ≡ head = ap (λ (x : Head × List ℕ). x.0) both in
    subst (λ (x : Head × List ℕ). RowOf (members x.0) x.1) both (whole_row bytes head' n whole h (ap payload same ∙ p))
parts_by bytes read.Short head body h whole e p = absurd cc
parts_by bytes read.Reserved head body h whole e p = absurd cc

-- what stands behind the head of a whole value that is an array or a map
pub parts_row : (bytes : List ℕ) (head : Head) (body : List ℕ) → IsWhole bytes
    → parts_of bytes ≡ Some (head, body) → payload head ≡ 0 → RowOf (members head) body
unfolding parts_of
parts_row bytes head body whole e p = parts_by bytes (reading_of bytes) head body refl whole e p

-- a row of no values has no bytes
nothing_left : (bytes : List ℕ) → IsRow bytes → length (row_of_values bytes) ≡ 0
    → (n : ℕ) → length bytes ≡ n → length bytes ≡ 0
nothing_left bytes row none zero e = e
nothing_left bytes row none (suc n) e =
    let starts = row_starts bytes row (omega arith) in
    let split = Nonempty-from bytes starts.0 row starts.1 in
    absurd (omega (arith, ap length split.values))

some_by : (bytes : List ℕ) (n : ℕ) → length bytes ≡ n → 0 < length (row_of_values bytes)
    → 0 < length bytes
some_by bytes zero e lt = absurd (omega (arith, ap length (row_of_nothing bytes e)))
some_by bytes (suc n) e lt = omega arith

-- a row of some values has some bytes
pub some_row : (bytes : List ℕ) → 0 < length (row_of_values bytes) → 0 < length bytes
some_row bytes lt = some_by bytes (length bytes) refl lt

-- the only value of a row is the whole row
pub last_first : (bytes : List ℕ) → IsRow bytes → 1 ≡ length (row_of_values bytes)
    → first_of most_bytes most_deep bytes ≡ Whole (length bytes)
last_first bytes row one =
    let some : 0 < length bytes = some_row bytes (omega arith) in
    let starts = row_starts bytes row some in
    let n = starts.0 in
    let split = Nonempty-from bytes n row starts.1 in
    let front = Front-from most_bytes most_deep most_bytes most_deep (omega arith) (omega arith) bytes n starts.1 in
    let none : length (row_of_values (drop n bytes)) ≡ 0 = omega (arith, ap length split.values) in
    let ends = nothing_left (drop n bytes) split.rest none (length (drop n bytes)) refl in
    starts.1 ∙ ap Whole (omega (arith, front.within, length-drop n bytes, ends))
