-- Which bytes are a value, and what borrowed values and their iterators show.
use Rattle.std.specs.Prelude.{◌≡◌, ◌⊎◌, ℤ, ℕ, zero, suc, true, false, List, [], ◌++◌, length, Option, Some, None}
use Rattle.std.specs.Borrow.{Bor}
use Rattle.fwd_msgpack.specs.declared.value.Value.{Value}
use Rattle.fwd_msgpack.specs.declared.members.Members.{Members}
use Rattle.fwd_msgpack.specs.declared.members.Pairs.{Pairs}
use Rattle.fwd_msgpack.specs.declared.head.Head.{Head}
use Rattle.fwd_msgpack.specs.declared.head.HeadRead.TheVariants as read
use Rattle.fwd_msgpack.specs.Heads.{reading_of, payload, members, opens}
use Rattle.fwd_msgpack.specs.Scans.{row_of_values, pair_up}

-- the bytes are a whole head, and no more
abbrev pub AreHead : Head → List ℕ → Type 0
AreHead head front = reading_of front ≡ read.Whole head (length front)

-- The bytes are one item that opens nothing: a head and its payload.
pub record IsPlain (bytes : List ℕ) : Type 0 where
  pub head : Head
  pub front : List ℕ
  pub body : List ℕ
  pub parts : bytes ≡ front ++ body
  pub spelled : AreHead head front
  pub shut : opens head ≡ false
  pub len : length body ≡ payload head

-- the bytes are n parts one after the other, each of which is a P
unfoldable pub InARow : (List ℕ → Type 0) → ℕ → List ℕ → Type 0
InARow P zero bytes = bytes ≡ []
InARow P (suc n) bytes =
    (first : List ℕ)
    × ((rest : List ℕ) × ((bytes ≡ first ++ rest) × P first × InARow P n rest))

-- The bytes are an array or a map: a head, and as many members as it opens, each of which is a P.
pub record IsContainer (P : List ℕ → Type 0) (bytes : List ℕ) : Type 0 where
  pub head : Head
  pub front : List ℕ
  pub body : List ℕ
  pub parts : bytes ≡ front ++ body
  pub spelled : AreHead head front
  pub opened : opens head ≡ true
  pub row : InARow P (members head) body

-- The bytes spell one value, in which arrays and maps, empty ones included, nest at most deep deep.
unfoldable pub IsValue : (deep : ℕ) → List ℕ → Type 0
IsValue zero bytes = IsPlain bytes
IsValue (suc deep) bytes = IsPlain bytes ⊎ IsContainer (IsValue deep) bytes

-- the bytes of a value
abbrev pub bytes_of : Value → List ℕ
bytes_of value = value.bytes.now

-- the bytes of the values that are still to come
abbrev pub members_left : Members → List (List ℕ)
members_left members = row_of_values members.rest.now

-- the bytes of the pairs that are still to come
abbrev pub pairs_left : Pairs → List (List ℕ × List ℕ)
pairs_left pairs = pair_up (members_left pairs.members)

-- the bytes of a text, if there is one
abbrev pub text_shown : Option (Bor (List ℕ)) → Option (List ℕ)
text_shown None = None
text_shown (Some text) = Some text.now

-- the type and the bytes of an extension, if there is one
abbrev pub ext_shown : Option (ℤ × Bor (List ℕ)) → Option (ℤ × List ℕ)
ext_shown None = None
ext_shown (Some ext) = Some (ext.0, ext.1.now)
