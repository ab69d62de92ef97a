-- The values of a stream are values, and what stands behind them is less than one or faulty.
use Rattle.std.proofs.Common.{◌≡◌, ℕ, zero, suc, ◌+◌, List, [], ◌∷◌, ◌++◌, length, take, drop, Option, Some, None, refl, sym, ap, subst, ◌∙◌, append_assoc, arith}
use Rattle.std.specs.List.{AllByRecursion, flat_map}
use Rattle.std.proofs.lemmas.List.{append-nil, length-append, take-append-drop}
use Rattle.std.specs.Prelude.{option_and_then}
use Rattle.fwd_msgpack.specs.declared.head.Head.{Head}
use Rattle.fwd_msgpack.specs.declared.head.Head.TheVariants.{Nil, Bool as Boolean, Int, Float, Str, Bin, Arr, Map, Ext}
use Rattle.fwd_msgpack.specs.declared.head.HeadRead.{HeadRead}
use Rattle.fwd_msgpack.specs.declared.head.HeadRead.TheVariants as read
use Rattle.fwd_msgpack.specs.Heads.{reading_of, payload, members}
use Rattle.fwd_msgpack.specs.Scans.{Item, InHead, State, Going, Failed, scan_item, verdict_of, start, first_of, Split, Open, Broken, judged, hear_byte, split_of, values_of, rest_of, row_of_values, most_bytes, most_deep, parts_read, parts_of, elements_in, elements_of, pair_up, pairs_in, pairs_of, IsWhole, IsRow}
use Rattle.fwd_msgpack.specs.Streams.{AreBytes, IsFirst, IsWithinLimits, IsStream, HasMembers}
use Rattle.fwd_msgpack.proofs.Fronts.{scanned}
use Rattle.fwd_msgpack.proofs.Wholes.{scanned-append, state_whole}
use Rattle.fwd_msgpack.proofs.Sound.{sound, front_alone}
use Rattle.fwd_msgpack.proofs.Parts.{whole_first, whole_row}
use Rattle.fwd_msgpack.proofs.Rows.{Step, goes, ends, fails, one_byte, told}
use Rattle.fwd_msgpack.proofs.Fillings.{AreBytes-back}
use Rattle.fwd_msgpack.proofs.History.{here}
use Rattle.fwd_msgpack.proofs.Faults.{first_is, ended_bound}
use Rattle.std.proofs.lemmas.Option.{same_Some}

concat_push : (values : List (List ℕ)) (value : List ℕ)
    → flat_map (λ v. v) (values ++ value ∷ []) ≡ flat_map (λ v. v) values ++ value
concat_push [] value = append-nil value
concat_push (v ∷ values) value = ap (λ (xs : List ℕ). v ++ xs) (concat_push values value) ∙ sym (append_assoc v (flat_map (λ w. w) values) value)

module _ (limit deep : ℕ) where
  all_push : (values : List (List ℕ)) (value : List ℕ)
      → AllByRecursion (IsWithinLimits limit deep) values → IsWithinLimits limit deep value
      → AllByRecursion (IsWithinLimits limit deep) (values ++ value ∷ [])
  all_push [] value each is = (is, tt)
  all_push (v ∷ values) value each is = (each.0, all_push values value each.1 is)

  -- where a stream stands behind these bytes
  record Stands (bytes : List ℕ) (values : List (List ℕ)) (rest : List ℕ) (state : State)
      : Type 0 where
    joined : flat_map (λ v. v) values ++ rest ≡ bytes
    each : AllByRecursion (IsWithinLimits limit deep) values
    at : here limit deep rest ≡ state

  abbrev IsAt : List ℕ → Split → Type 0
  IsAt bytes (Open values rest) =
      (stack : List ℕ)
      × ((item : Item) × Stands bytes values rest (Going (length rest) stack item))
  IsAt bytes (Broken values fault) = (rest : List ℕ) × Stands bytes values rest (Failed fault)

  at_judged : (bytes : List ℕ) (values : List (List ℕ)) (rest : List ℕ) (state : State)
      → Step (length rest) state → Stands bytes values rest state
      → IsAt bytes (judged values rest (verdict_of state))
  at_judged bytes values rest state (goes stack item p) s =
      subst (λ (t : State). IsAt bytes (judged values rest (verdict_of t))) (sym p) (stack, (item, record { joined = s.joined; each = s.each; at = s.at ∙ p }))
  at_judged bytes values rest state (ends p) s =
      let ended = s.at ∙ p in
      let is : IsWithinLimits limit deep rest = (sound limit deep rest ended, ended_bound limit deep rest (length rest) ended) in
      subst (λ (t : State). IsAt bytes (judged values rest (verdict_of t))) (sym p)
      ([], (InHead [], record { joined = append-nil (flat_map (λ v. v) (values ++ rest ∷ [])) ∙ concat_push values rest ∙ s.joined; each = all_push values rest s.each is; at = refl }))
  at_judged bytes values rest state (fails fault p) s =
      subst (λ (t : State). IsAt bytes (judged values rest (verdict_of t))) (sym p) (rest, record { joined = s.joined; each = s.each; at = s.at ∙ p })

  at_byte : (bytes : List ℕ) (split : Split) (b : ℕ) → IsAt bytes split
      → IsAt (bytes ++ b ∷ []) (hear_byte limit deep split b)
  unfolding first_of
  at_byte bytes (Open values rest) b a =
      let s = a.1.1 in
      let state : here limit deep (rest ++ b ∷ []) ≡ scan_item limit deep (length rest) a.0 a.1.0 b = scanned-append limit deep start rest (b ∷ []) ∙ ap (λ (t : State). scanned limit deep t (b ∷ [])) s.at in
      let count : length rest + 1 ≡ length (rest ++ b ∷ []) = sym (length-append rest (b ∷ [])) in
      let step = subst (λ (n : ℕ). Step n (scan_item limit deep (length rest) a.0 a.1.0 b)) count (one_byte limit deep (length rest) a.0 a.1.0 b) in
      let joined : flat_map (λ v. v) values ++ (rest ++ b ∷ []) ≡ bytes ++ b ∷ [] = sym (append_assoc (flat_map (λ v. v) values) rest (b ∷ [])) ∙ ap (λ (xs : List ℕ). xs ++ b ∷ []) s.joined in
      subst (λ (t : State). IsAt (bytes ++ b ∷ []) (judged values (rest ++ b ∷ []) (verdict_of t))) (sym state)
      (at_judged (bytes ++ b ∷ []) values (rest ++ b ∷ []) (scan_item limit deep (length rest) a.0 a.1.0 b) step (record { joined = joined; each = s.each; at = state }))
  at_byte bytes (Broken values fault) b a =
      let s = a.1 in (
        a.0 ++ b ∷ [],
        record {
          joined = sym (append_assoc (flat_map (λ v. v) values) a.0 (b ∷ [])) ∙ ap (λ (xs : List ℕ). xs ++ b ∷ []) s.joined;
          each = s.each;
          at = scanned-append limit deep start a.0 (b ∷ []) ∙ ap (λ (t : State). scanned limit deep t (b ∷ [])) s.at;
        },
      )

  at_end : (bytes : List ℕ) (split : Split) (more : List ℕ) → IsAt bytes split
      → IsAt (bytes ++ more) (told limit deep split more)
  at_end bytes split [] a = subst (λ (xs : List ℕ). IsAt xs split) (sym (append-nil bytes)) a
  at_end bytes split (b ∷ more) a = subst (λ (xs : List ℕ). IsAt xs (told limit deep (hear_byte limit deep split b) more)) (append_assoc bytes (b ∷ []) more) (at_end (bytes ++ b ∷ []) (hear_byte limit deep split b) more (at_byte bytes split b a))

  stream_by : (bytes : List ℕ) (split : Split) → AreBytes bytes → IsAt bytes split
      → IsStream limit deep bytes split
  unfolding first_of
  stream_by bytes (Open values rest) are a =
      let s = a.1.1 in
      let rest_are = AreBytes-back (flat_map (λ v. v) values) rest (subst AreBytes (sym s.joined) are) in
      record { joined = s.joined; each = s.each; first = subst (IsFirst limit deep rest) (ap verdict_of s.at) (first_is limit deep rest rest_are) }
  stream_by bytes (Broken values fault) are a =
      let s = a.1 in
      let rest_are = AreBytes-back (flat_map (λ v. v) values) a.0 (subst AreBytes (sym s.joined) are) in
      (a.0, record { joined = s.joined; each = s.each; first = subst (IsFirst limit deep a.0) (ap verdict_of s.at) (first_is limit deep a.0 rest_are) })

  -- where the stream stands behind all the bytes
  stream_at : (bytes : List ℕ) → IsAt bytes (split_of limit deep bytes)
  unfolding split_of
  stream_at bytes = at_end [] (Open [] []) bytes ([], (InHead [], record { joined = refl; each = tt; at = refl }))

  values_by : (bytes : List ℕ) (split : Split) → IsAt bytes split
      → AllByRecursion (IsWithinLimits limit deep) (values_of split)
  values_by bytes (Open values rest) a = a.1.1.each
  values_by bytes (Broken values fault) a = a.1.each

  -- the values of a stream are within the limits
  pub values_within : (bytes : List ℕ)
      → AllByRecursion (IsWithinLimits limit deep) (values_of (split_of limit deep bytes))
  values_within bytes = values_by bytes (split_of limit deep bytes) (stream_at bytes)

  -- the stream is what it is split into
  pub stream_is : (bytes : List ℕ) → AreBytes bytes
      → IsStream limit deep bytes (split_of limit deep bytes)
  stream_is bytes are = stream_by bytes (split_of limit deep bytes) are (stream_at bytes)

-- ---- rows

row_by : (bytes : List ℕ) (split : Split) → IsAt most_bytes most_deep bytes split
    → rest_of split ≡ Some []
    → (flat_map (λ v. v) (values_of split) ≡ bytes)
    × AllByRecursion (IsWithinLimits most_bytes most_deep) (values_of split)
row_by bytes (Open values rest) a e =
    let s = a.1.1 in
    let nothing : rest ≡ [] = cc in
    (sym (append-nil (flat_map (λ v. v) values)) ∙ ap (λ (xs : List ℕ). flat_map (λ v. v) values ++ xs) (sym nothing) ∙ s.joined, s.each)
row_by bytes (Broken values fault) a e = absurd cc

-- the values of a row are values, and joined they are the row
pub row_values : (bytes : List ℕ) → IsRow bytes
    → (flat_map (λ v. v) (row_of_values bytes) ≡ bytes)
    × AllByRecursion (IsWithinLimits most_bytes most_deep) (row_of_values bytes)
unfolding row_of_values
row_values bytes row = row_by bytes (split_of most_bytes most_deep bytes) (stream_at most_bytes most_deep bytes) row

-- a whole value is a value
pub whole_value : (bytes : List ℕ) → IsWhole bytes → IsWithinLimits most_bytes most_deep bytes
unfolding first_of
whole_value bytes whole =
    let ended = state_whole (here most_bytes most_deep bytes) (length bytes) (whole_first bytes whole) in
    (sound most_bytes most_deep bytes ended, ended_bound most_bytes most_deep bytes (length bytes) ended)

members_by : (bytes : List ℕ) (r : HeadRead) (head : Head) (body : List ℕ)
    → reading_of bytes ≡ r → IsWhole bytes → parts_read r bytes ≡ Some (head, body)
    → payload head ≡ 0 → HasMembers head bytes (row_of_values body)
members_by bytes (read.Whole head' n) head body h whole e p =
    let both : (head', drop n bytes) ≡ (head, body) = same_Some (head', drop n bytes) (head, body) e in
    let same : head' ≡ head = ap (λ (x : Head × List ℕ). x.0) both in
    let rows = whole_row bytes head' n whole h (ap payload same ∙ p) in
    let values = row_values (drop n bytes) rows.row in
    let found : HasMembers head' bytes (row_of_values (drop n bytes)) = record {
      front = take n bytes;
      parts = sym (take-append-drop n bytes) ∙ ap (λ (xs : List ℕ). take n bytes ++ xs) (sym values.0);
      spelled = front_alone bytes head' n h;
      count = sym rows.count_is;
      each = values.1;
    } in
    subst (λ (x : Head × List ℕ). HasMembers x.0 bytes (row_of_values x.1)) both found
members_by bytes read.Short head body h whole e p = absurd cc
members_by bytes read.Reserved head body h whole e p = absurd cc

elements_by : (bytes : List ℕ) (o : Option (Head × List ℕ)) (values : List (List ℕ))
    → parts_of bytes ≡ o → IsWhole bytes
    → option_and_then (λ parts. elements_in parts.0 parts.1) o ≡ Some values
    → (n : ℕ) × HasMembers (Arr n) bytes values
unfolding parts_of
elements_by bytes None values h whole e = absurd cc
elements_by bytes (Some parts) values h whole e = by_head parts.0 refl e
  where
    by_head : (head : Head) → parts.0 ≡ head → elements_in head parts.1 ≡ Some values
        → (n : ℕ) × HasMembers (Arr n) bytes values
    by_head (Arr n) k e' =
        let found = members_by bytes (reading_of bytes) parts.0 parts.1 refl whole h (ap payload k) in
        (n, subst (λ (hd : Head). HasMembers hd bytes values) k (subst (HasMembers parts.0 bytes) (same_Some (row_of_values parts.1) values e') found))
    by_head Nil k e' = absurd cc
    by_head (Boolean b) k e' = absurd cc
    by_head (Int neg mag) k e' = absurd cc
    by_head (Float len) k e' = absurd cc
    by_head (Str len) k e' = absurd cc
    by_head (Bin len) k e' = absurd cc
    by_head (Map n) k e' = absurd cc
    by_head (Ext kind len) k e' = absurd cc

-- the elements of a whole value are the members of an array
pub elements_are : (bytes : List ℕ) (values : List (List ℕ)) → IsWhole bytes
    → elements_of bytes ≡ Some values → (n : ℕ) × HasMembers (Arr n) bytes values
elements_are bytes values whole e = elements_by bytes (parts_of bytes) values refl whole e

-- ---- pairs

abbrev pub in_a_row : List (List ℕ × List ℕ) → List (List ℕ)
in_a_row pairs = flat_map (λ p. p.0 ∷ p.1 ∷ []) pairs

-- an even row is its pairs, one after the other
row_pairs : (n : ℕ) (values : List (List ℕ)) → n + n ≡ length values
    → in_a_row (pair_up values) ≡ values
row_pairs zero [] e = refl
row_pairs zero (v ∷ values) e = absurd (omega (arith, e))
row_pairs (suc n) [] e = absurd (omega (arith, e))
row_pairs (suc n) (k ∷ []) e = absurd (omega (arith, e))
row_pairs (suc n) (k ∷ v ∷ values) e = ap (λ xs. k ∷ v ∷ xs) (row_pairs n values (omega (arith, e)))

pairs_by : (bytes : List ℕ) (o : Option (Head × List ℕ)) (pairs : List (List ℕ × List ℕ))
    → parts_of bytes ≡ o → IsWhole bytes
    → option_and_then (λ parts. pairs_in parts.0 parts.1) o ≡ Some pairs
    → (n : ℕ) × HasMembers (Map n) bytes (in_a_row pairs)
unfolding parts_of
pairs_by bytes None pairs h whole e = absurd cc
pairs_by bytes (Some parts) pairs h whole e = by_head parts.0 refl e
  where
    by_head : (head : Head) → parts.0 ≡ head → pairs_in head parts.1 ≡ Some pairs
        → (n : ℕ) × HasMembers (Map n) bytes (in_a_row pairs)
    by_head (Map n) k e' =
        let found = members_by bytes (reading_of bytes) parts.0 parts.1 refl whole h (ap payload k) in
        let count : members (Map n) ≡ length (row_of_values parts.1) = sym (ap members k) ∙ found.count in
        let row = row_pairs n (row_of_values parts.1) (omega (arith, count)) in
        let same : row_of_values parts.1 ≡ in_a_row pairs = sym row ∙ ap in_a_row (same_Some (pair_up (row_of_values parts.1)) pairs e') in
        (n, subst (λ (hd : Head). HasMembers hd bytes (in_a_row pairs)) k (subst (HasMembers parts.0 bytes) same found))
    by_head Nil k e' = absurd cc
    by_head (Boolean b) k e' = absurd cc
    by_head (Int neg mag) k e' = absurd cc
    by_head (Float len) k e' = absurd cc
    by_head (Str len) k e' = absurd cc
    by_head (Bin len) k e' = absurd cc
    by_head (Arr n) k e' = absurd cc
    by_head (Ext kind len) k e' = absurd cc

-- the pairs of a whole value, one after the other, are the members of a map
pub pairs_are : (bytes : List ℕ) (pairs : List (List ℕ × List ℕ)) → IsWhole bytes
    → pairs_of bytes ≡ Some pairs → (n : ℕ) × HasMembers (Map n) bytes (in_a_row pairs)
pairs_are bytes pairs whole e = pairs_by bytes (parts_of bytes) pairs refl whole e
