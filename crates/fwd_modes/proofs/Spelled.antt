-- Entries that are spelled as they are kept: an array of two in one byte, and its members.
use Rattle.std.proofs.Common.{◌≡◌, ◌<◌, ◌≤◌, ◌+◌, ℕ, Bool, true, false, cond, List, [], ◌∷◌, ◌++◌, length, take, drop, Option, Some, None, refl, sym, ap, subst, ◌∙◌, arith}
use Rattle.std.specs.Prelude.{option_and_then, is_some, ◌&&◌}
use Rattle.std.specs.List.{flat_map}
use Rattle.std.proofs.lemmas.Bool.{le-ltb}
use Rattle.std.proofs.lemmas.List.{append-nil, length-take-le, drop-drop}
use Rattle.std.proofs.lemmas.Option.{same_Some}
use Rattle.fwd_msgpack.specs.declared.head.Head.{Head}
use Rattle.fwd_msgpack.specs.declared.head.Head.TheVariants.{Arr}
use Rattle.fwd_msgpack.specs.Heads.{reading_of, row_of, named_rows}
use Rattle.fwd_msgpack.specs.Scans.{Split, Open, Broken, IsWhole, IsRow, Whole, first_of, most_bytes, most_deep, split_of, rest_of, values_of, parts_of, elements_in, row_of_values}
use Rattle.fwd_msgpack.specs.Flat.{BeginsWithPair}
use Rattle.fwd_msgpack.proofs.Parts.{parts_row}
use Rattle.fwd_msgpack.proofs.Pieces.{take_further}
use Rattle.fwd_msgpack.proofs.Splittings.{row_values}
use Rattle.fwd_modes.specs.Kinds.{is_map, is_map_head}
use Rattle.fwd_modes.specs.Times.{is_time}
use Rattle.fwd_modes.specs.Entries.{AreCut, BeginsKept, before, cut_at, kept_entry, entry_in, entry_of, entries_of, values_to_the_end, packed_entries}
use Rattle.fwd_modes.proofs.EntryLemmas.{AreCut-push, behind, behind-more, cut_push, packed_whole}

-- what stands behind the head of an array of two
two : (rest : List ℕ) → parts_of (0x92 ∷ rest) ≡ Some (Arr 2, rest)
unfolding parts_of reading_of row_of named_rows
two rest = rw (le-ltb (length rest) 0 (omega arith)) refl

-- a time and fields that are kept, and that are these bytes
joined_is : (rest entry : List ℕ) (values : List (List ℕ)) → flat_map (λ v. v) values ≡ rest
    → entry_in values ≡ Some entry → entry ≡ 0x92 ∷ rest
joined_is rest entry [] joined e = absurd cc
joined_is rest entry (time ∷ []) joined e = absurd cc
joined_is rest entry (time ∷ fields ∷ []) joined e = by (is_time time && is_map fields) e
  where
    by : (b : Bool) → cond b (Some (kept_entry time fields)) None ≡ Some entry
        → entry ≡ 0x92 ∷ rest
    by true e =
        sym (same_Some (kept_entry time fields) entry e)
        ∙ ap (λ (xs : List ℕ). 0x92 ∷ xs) (ap (λ (xs : List ℕ). time ++ xs) (sym (append-nil fields)) ∙ joined)
    by false e = absurd cc
joined_is rest entry (time ∷ fields ∷ other ∷ others) joined e = absurd cc

-- an entry that begins so is kept as it is spelled
pub as_spelled : (rest entry : List ℕ) → IsWhole (0x92 ∷ rest)
    → entry_of (0x92 ∷ rest) ≡ Some entry → entry ≡ 0x92 ∷ rest
unfolding entry_of
as_spelled rest entry whole e =
    let row = (parts_row (0x92 ∷ rest) (Arr 2) rest whole (two rest) refl).row in
    joined_is rest entry (row_of_values rest) (row_values rest row).0
    (sym (ap (λ (p : Option (Head × List ℕ)). option_and_then entry_in (option_and_then (λ parts. elements_in parts.0 parts.1) p)) (two rest)) ∙ e)

-- the same, of bytes that are so
pub kept_spelled : (bytes : List ℕ) (first : ℕ) (rest : List ℕ) → bytes ≡ first ∷ rest
    → first ≡ 0x92 → IsWhole bytes → (read : Option (List ℕ)) → read ≡ entry_of bytes
    → is_some read ≡ true → entry_of bytes ≡ Some bytes
kept_spelled bytes first rest e f whole None same some = absurd cc
kept_spelled bytes first rest e f whole (Some entry) same some =
    let is : bytes ≡ 0x92 ∷ rest = e ∙ ap (λ (b : ℕ). b ∷ rest) f in
    sym same ∙ ap Some (as_spelled rest entry (subst IsWhole is whole) (ap entry_of (sym is) ∙ sym same) ∙ sym is)

-- a pair of a time and a map is an entry, and is kept as it is spelled
pub pair_kept : (limit deep : ℕ) (bytes first : List ℕ) (len : ℕ)
    → BeginsWithPair limit deep bytes first len → is_time first ≡ true
    → BeginsKept limit deep bytes len
unfolding entry_of
pair_kept limit deep bytes first len p time =
    let fields : is_map p.second ≡ true = ap is_map_head p.map in
    let both : is_time first && is_map p.second ≡ true = ap (λ (b : Bool). b && is_map p.second) time ∙ fields in
    let spelled = p.spelled in
    record {
      whole = p.whole;
      kept = ap (option_and_then entry_in) p.members ∙ ap (λ (b : Bool). cond b (Some (kept_entry first p.second)) None) both ∙ ap Some (sym spelled);
      some = p.some;
      within = p.within;
    }

-- ---- entries one after the other

-- the values of a row are those that stand one after the other to the last byte
row_by : (split : Split) → rest_of split ≡ Some []
    → option_and_then entries_of (values_to_the_end split) ≡ entries_of (values_of split)
row_by (Open values []) e = refl
row_by (Open values (b ∷ rest)) e = absurd cc
row_by (Broken values fault) e = absurd cc

pub packed_row : (bytes : List ℕ) → IsRow bytes
    → packed_entries most_deep bytes ≡ entries_of (row_of_values bytes)
unfolding packed_entries row_of_values
packed_row bytes row = row_by (split_of most_bytes most_deep bytes) row

-- one entry more, which is kept as it is spelled
module _ (packed ends : List ℕ) (used len : ℕ) (inside : used ≤ length packed)
    (cut : AreCut 0 ends (take used packed)) (within : len ≤ length (drop used packed)) where
  front_len : length (take used packed) ≡ used
  front_len = length-take-le used packed inside

  value_len : length (take len (drop used packed)) ≡ len
  value_len = length-take-le len (drop used packed) within

  place : length (take used packed) + length (take len (drop used packed)) ≡ used + len
  place = omega (arith, front_len, value_len)

  pub cut_grows : AreCut 0 (ends ++ (used + len) ∷ []) (take (used + len) packed)
  cut_grows =
      subst (λ (k : ℕ). AreCut 0 (ends ++ k ∷ []) (take (used + len) packed)) place
      (subst (AreCut 0 (ends ++ (length (take used packed) + length (take len (drop used packed))) ∷ [])) (sym (take_further used len packed)) (AreCut-push ends (take used packed) (take len (drop used packed)) cut))

  pub entries_grow : cut_at 0 (ends ++ (used + len) ∷ []) (take (used + len) packed)
      ≡ cut_at 0 ends (take used packed) ++ take len (drop used packed) ∷ []
  entries_grow =
      ap (λ (k : ℕ). cut_at 0 (ends ++ k ∷ []) (take (used + len) packed)) (sym place)
      ∙ ap (cut_at 0 (ends ++ (length (take used packed) + length (take len (drop used packed))) ∷ [])) (take_further used len packed)
      ∙ cut_push ends (take used packed) (take len (drop used packed)) cut

  pub said_grows : (deep : ℕ) → 0 < length (drop used packed)
      → first_of most_bytes deep (drop used packed) ≡ Whole len
      → entry_of (take len (drop used packed)) ≡ Some (take len (drop used packed))
      → behind (cut_at 0 ends (take used packed)) (packed_entries deep (drop used packed))
      ≡ packed_entries deep packed
      → behind (cut_at 0 (ends ++ (used + len) ∷ []) (take (used + len) packed))
      (packed_entries deep (drop (used + len) packed))
      ≡ packed_entries deep packed
  said_grows deep some verdict kept said =
      let entries = cut_at 0 ends (take used packed) in
      let value = take len (drop used packed) in
      let others = packed_entries deep (drop len (drop used packed)) in
      (λ i. behind (entries_grow i) (packed_entries deep (sym (drop-drop len used packed) i)))
      ∙ behind-more entries value others
      ∙ ap (behind entries) (sym (packed_whole deep (drop used packed) len some verdict ∙ ap (λ (o : Option (List ℕ)). before o others) kept))
      ∙ said
