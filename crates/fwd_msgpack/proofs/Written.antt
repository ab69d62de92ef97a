-- What is written is read back: values one after the other are a row of just these, and a written
-- head is read with what follows it.
use Rattle.std.proofs.Common.{◌≡◌, ℕ, zero, suc, ◌<◌, ◌≤◌, ◌^◌, true, false, List, [], ◌∷◌, ◌++◌, length, drop, Some, refl, sym, ap, ◌∙◌, inl, inr, zero-add, arith}
use Rattle.std.specs.Prelude.{option_and_then}
use Rattle.std.specs.List.{concat, AllByRecursion}
use Rattle.std.specs.Option.{option_map}
use Rattle.std.proofs.lemmas.List.{append-nil, length-append, take_at, drop_at}
use Rattle.fwd_msgpack.specs.declared.head.Head.{Head}
use Rattle.fwd_msgpack.specs.declared.head.Head.TheVariants.{Str}
use Rattle.fwd_msgpack.specs.Heads.{IsHead, IsSpelled, head_bytes, reading_of, payload, members, opens}
use Rattle.fwd_msgpack.specs.Scans.{Whole, Ended, Open, verdict_of, first_of, split_of, with_front, values_of, row_of_values, most_bytes, most_deep, parts_read, parts_of, head_of, elements_in, elements_of, pairs_in, pairs_of, text_in, text_of}
use Rattle.fwd_msgpack.specs.Texts.{text}
use Rattle.fwd_msgpack.specs.Values.{AreHead, IsPlain, InARow, IsContainer, IsValue}
use Rattle.fwd_msgpack.proofs.Complete.{over_value}
use Rattle.fwd_msgpack.proofs.Fronts.{scanned, scanned-Ended}
use Rattle.fwd_msgpack.proofs.Rows.{split_first, values_front}
use Rattle.fwd_msgpack.proofs.Spellings.{read_back}

-- ---- values in front of more

pub first_value : (limit most deep : ℕ) (own rest : List ℕ) → IsValue deep own
    → deep ≤ most → length own ≤ limit
    → first_of limit most (own ++ rest) ≡ Whole (length own)
unfolding first_of
first_value limit most deep own rest value shallow short =
    ap verdict_of (over_value deep own value limit most 0 [] rest (omega arith) (omega arith) ∙ ap (λ n. scanned limit most (Ended n) rest) (zero-add (length own)) ∙ scanned-Ended limit most (length own) rest)

-- a value in front of more is the first of a stream
split_value : (limit most deep : ℕ) (own rest : List ℕ) → IsValue deep own → deep ≤ most
    → length own ≤ limit
    → split_of limit most (own ++ rest) ≡ with_front (own ∷ []) (split_of limit most rest)
split_value limit most deep own rest value shallow short =
    split_first limit most (own ++ rest) (length own) (first_value limit most deep own rest value shallow short)
    ∙ ap (λ xs. with_front (xs ∷ []) (split_of limit most (drop (length own) (own ++ rest)))) (take_at own rest (length own) refl)
    ∙ ap (λ xs. with_front (own ∷ []) (split_of limit most xs)) (drop_at own rest (length own) refl)

-- a value in front of more stands first in a row
pub value_first : (deep : ℕ) (own rest : List ℕ) → IsValue deep own → deep ≤ most_deep
    → length own ≤ most_bytes → row_of_values (own ++ rest) ≡ own ∷ row_of_values rest
unfolding row_of_values
value_first deep own rest value shallow short =
    ap values_of (split_value most_bytes most_deep deep own rest value shallow short) ∙ values_front (own ∷ []) (split_of most_bytes most_deep rest)

-- values one after the other are a stream of just these
pub values_split : (limit most deep : ℕ) (values : List (List ℕ))
    → AllByRecursion (IsValue deep) values → deep ≤ most → length (concat values) ≤ limit
    → split_of limit most (concat values) ≡ Open values []
unfolding split_of
values_split limit most deep [] each shallow short = refl
values_split limit most deep (v ∷ values) each shallow short =
    let size = length-append v (concat values) in
    split_value limit most deep v (concat values) each.0 shallow (omega (arith, size, short))
    ∙ ap (with_front (v ∷ [])) (values_split limit most deep values each.1 shallow (omega (arith, size, short)))

pub values_row : (deep : ℕ) (values : List (List ℕ)) → AllByRecursion (IsValue deep) values
    → deep ≤ most_deep → length (concat values) ≤ most_bytes
    → row_of_values (concat values) ≡ values
unfolding row_of_values
values_row deep values each shallow short = ap values_of (values_split most_bytes most_deep deep values each shallow short)

-- ---- written heads

module _ (head : Head) (is : IsHead head) (spelled : IsSpelled head) where
  pub written_parts : (body : List ℕ) → parts_of (head_bytes head ++ body) ≡ Some (head, body)
  unfolding parts_of
  written_parts body =
      ap (λ r. parts_read r (head_bytes head ++ body)) (read_back head body is spelled) ∙ ap (λ xs. Some (head, xs)) (drop_at (head_bytes head) body (length (head_bytes head)) refl)

  pub written_head : (body : List ℕ) → head_of (head_bytes head ++ body) ≡ Some head
  written_head body = ap (option_map (λ parts. parts.0)) (written_parts body)

  pub written_text : (body : List ℕ) → text_of (head_bytes head ++ body) ≡ text_in head body
  written_text body = ap (option_and_then (λ parts. text_in parts.0 parts.1)) (written_parts body)

  pub written_elements : (body : List ℕ)
      → elements_of (head_bytes head ++ body) ≡ elements_in head body
  written_elements body = ap (option_and_then (λ parts. elements_in parts.0 parts.1)) (written_parts body)

  pub written_pairs : (body : List ℕ)
      → pairs_of (head_bytes head ++ body) ≡ pairs_in head body
  written_pairs body = ap (option_and_then (λ parts. pairs_in parts.0 parts.1)) (written_parts body)

  alone : AreHead head (head_bytes head)
  alone = ap reading_of (sym (append-nil (head_bytes head))) ∙ read_back head [] is spelled

  pub written_plain : (body : List ℕ) → opens head ≡ false → length body ≡ payload head
      → IsPlain (head_bytes head ++ body)
  written_plain body shut len = record { head = head; front = head_bytes head; body = body; parts = refl; spelled = alone; shut = shut; len = len }

  pub written_container : (P : List ℕ → Type 0) (body : List ℕ) → opens head ≡ true
      → InARow P (members head) body → IsContainer P (head_bytes head ++ body)
  written_container P body opened row = record { head = head; front = head_bytes head; body = body; parts = refl; spelled = alone; opened = opened; row = row }

-- ---- texts

pub text_plain : (bytes : List ℕ) → length bytes < 2 ^ 32 → IsPlain (text bytes)
text_plain bytes short = written_plain (Str (length bytes)) short tt bytes refl refl

pub text_text : (bytes : List ℕ) → length bytes < 2 ^ 32 → text_of (text bytes) ≡ Some bytes
text_text bytes short = written_text (Str (length bytes)) short tt bytes

pub head_text : (bytes : List ℕ) → length bytes < 2 ^ 32
    → head_of (text bytes) ≡ Some (Str (length bytes))
head_text bytes short = written_head (Str (length bytes)) short tt bytes

-- ---- rows

pub plain_value : (deep : ℕ) (bytes : List ℕ) → IsPlain bytes → IsValue deep bytes
unfolding IsValue
plain_value zero bytes plain = plain
plain_value (suc deep) bytes plain = inl plain

pub container_value : (deep : ℕ) (bytes : List ℕ) → IsContainer (IsValue deep) bytes
    → IsValue (suc deep) bytes
unfolding IsValue
container_value deep bytes container = inr container

pub in_a_row : (P : List ℕ → Type 0) (values : List (List ℕ)) → AllByRecursion P values
    → InARow P (length values) (concat values)
unfolding InARow
in_a_row P [] each = refl
in_a_row P (v ∷ values) each = (v, (concat values, (refl, each.0, in_a_row P values each.1)))
