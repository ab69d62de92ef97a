-- When the chunks of an output were begun that are not settled.
use Rattle.std.specs.Prelude.{
  ℕ,
  ◌==◌,
  nat_lt,
  List,
  [],
  ◌∷◌,
  Option,
  Some,
  None,
  if◌then◌else◌,
}
use Rattle.std.specs.List.{fold}
use Rattle.std.specs.Ordering.{nat_cmp}
use Rattle.std.specs.Map.{remove_entry}
use Rattle.std.specs.BTreeMap.{insert_entry, is_at}
use Rattle.fwd_chunks.specs.declared.span.Span.{Span}

-- the greatest number of a chunk that was begun, or 0; and each chunk that is not settled, with the
-- moment at which it was begun, by rising numbers
pub record Beginnings : Type 0 where
  pub newest : ℕ
  pub moments : List (ℕ × ℕ)

-- no chunk was begun
abbrev pub none_begun : Beginnings
none_begun = record { newest = 0; moments = [] }

-- a chunk was entered into at a moment: it was begun then, if none of its number or a greater one
-- was before
abbrev pub begun_at : (now : ℕ) → Beginnings → (chunk : ℕ) → Beginnings
begun_at now b chunk =
    if nat_lt b.newest chunk
    then record { newest = chunk; moments = insert_entry nat_cmp b.moments chunk now }
    else b

-- chunks were entered into at a moment, those of these runs
abbrev pub begun_after : (now : ℕ) → Beginnings → List Span → Beginnings
begun_after now b spans = fold (λ c span. begun_at now c span.number) b spans

-- so many entries of a chunk were settled: all that it has, or none, where it is not the output's
abbrev pub settled_from : Beginnings → (chunk entries : ℕ) → Beginnings
settled_from b chunk entries =
    if entries == 0 then b
    else record b { moments = remove_entry (is_at (nat_cmp chunk)) b.moments }

-- when the oldest was begun, if there is one: chunks are numbered as they are begun
abbrev pub oldest_of : List (ℕ × ℕ) → Option ℕ
oldest_of [] = None
oldest_of ((chunk, moment) ∷ later) = Some moment
