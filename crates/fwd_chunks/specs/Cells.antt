-- The entries that an output admitted, and what a list of them says.
use Rattle.std.specs.Prelude.{
  ℕ,
  ◌+◌,
  ◌&&◌,
  ◌==◌,
  max,
  Bool,
  not,
  List,
  [],
  ◌∷◌,
  length,
  map,
  filter,
  Option,
  Some,
  None,
  if◌then◌else◌,
}
use Rattle.std.specs.List.{list_any}
use Rattle.std.specs.Option.{option_or}
use Rattle.std.specs.Str.{bytes_eq}
use Rattle.fwd_modes.specs.declared.origin.Origin.{Origin}

-- an entry: its tag, its bytes as they are kept, the request that it came with, the number of its
-- chunk, and the moment in milliseconds
pub record Cell : Type 0 where
  pub tag : List ℕ
  pub entry : List ℕ
  pub origin : Origin
  pub number : ℕ
  pub moment : ℕ

-- the chunk of this number was sent to a server and was lost, at a moment
pub record Loss : Type 0 where
  pub number : ℕ
  pub moment : ℕ

-- a worker has the chunk of this number
pub record Carry : Type 0 where
  pub worker : ℕ
  pub number : ℕ

-- ---- entries

-- the bytes of entries
abbrev pub size_of : List (List ℕ) → ℕ
size_of [] = 0
size_of (entry ∷ entries) = length entry + size_of entries

-- the entries of cells
abbrev pub entries_of : List Cell → List (List ℕ)
entries_of cells = map (λ c. c.entry) cells

-- the cells of a number
abbrev pub cells_at : ℕ → List Cell → List Cell
cells_at number cells = filter (λ c. c.number == number) cells

-- the contents of a number: its entries, in order
abbrev pub contents : ℕ → List Cell → List (List ℕ)
contents number cells = entries_of (cells_at number cells)

-- the tag and the moment of the first cell
abbrev pub first_tag : List Cell → List ℕ
first_tag [] = []
first_tag (c ∷ cells) = c.tag

-- the moment of the first cell
abbrev pub first_moment : List Cell → ℕ
first_moment [] = 0
first_moment (c ∷ cells) = c.moment

-- ---- numbers

-- the number is among them
abbrev pub has_number : ℕ → List ℕ → Bool
has_number number numbers = list_any (λ k. k == number) numbers

-- the numbers of cells, each once, in the order of their first cells
abbrev pub numbers_of : List Cell → List ℕ
numbers_of [] = []
numbers_of (c ∷ cells) = c.number ∷ filter (λ k. not (k == c.number)) (numbers_of cells)

-- an entry of the tag has the number
abbrev pub has_entry : List ℕ → ℕ → List Cell → Bool
has_entry tag number cells = list_any (λ c. (c.number == number) && bytes_eq c.tag tag) cells

-- the number of the last entry of a tag, if it has one
abbrev pub last_number : List ℕ → List Cell → Option ℕ
last_number tag [] = None
last_number tag (c ∷ cells) =
    option_or (last_number tag cells) (if bytes_eq c.tag tag then Some c.number else None)

-- the greater of two, the second of which may be missing
abbrev pub greater : ℕ → Option ℕ → ℕ
greater n None = n
greater n (Some m) = max n m

-- the greatest number, if there is one
abbrev pub greatest : List Cell → Option ℕ
greatest [] = None
greatest (c ∷ cells) = Some (greater c.number (greatest cells))

-- one more than the greatest number, or the first number where there is none
abbrev pub number_after : ℕ → Option ℕ → ℕ
number_after first None = first
number_after first (Some number) = number + 1

-- ---- who has which chunk, and what was lost

-- some worker has the number
abbrev pub is_carried : ℕ → List Carry → Bool
is_carried number carried = list_any (λ c. c.number == number) carried

-- what is carried besides the number
abbrev pub without : ℕ → List Carry → List Carry
without number carried = filter (λ c. not (c.number == number)) carried

-- the moments at which the number was lost, the newest first as the losses are
abbrev pub losses_of : ℕ → List Loss → List ℕ
losses_of number losses = map (λ l. l.moment) (filter (λ l. l.number == number) losses)
