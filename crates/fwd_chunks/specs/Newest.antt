-- What is kept for each tag: the number of its newest chunk, which finds the tag's open chunk, and
-- what is held of it.
use Rattle.std.specs.Prelude.{◌≡◌, ◌<◌, ◌+◌, ℕ, true, List, [], ◌∷◌, length, Option, Some, None, is_some, option_map, unwrap_or, if◌then◌else◌}
use Rattle.std.specs.List.{AllByRecursion}
use Rattle.std.specs.Str.{bytes_eq}
use Rattle.fwd_chunks.specs.declared.chunk.Chunk.{Chunk}
use Rattle.fwd_chunks.specs.declared.tag_entry.TagEntry.{TagEntry}
use Rattle.fwd_chunks.specs.Cells.{size_of}
use Rattle.fwd_chunks.specs.Live.{is_open}

-- what is kept for a tag
abbrev pub tag_entry : List ℕ → List (List ℕ × TagEntry) → Option TagEntry
tag_entry tag [] = None
tag_entry tag (e ∷ es) = if bytes_eq tag e.0 then Some e.1 else tag_entry tag es

-- the number of a tag
abbrev pub tag_number : List ℕ → List (List ℕ × TagEntry) → Option ℕ
tag_number tag es = option_map (λ e. e.newest) (tag_entry tag es)

-- the entries that are kept of, none where nothing is
abbrev pub held_by : Option TagEntry → ℕ
held_by None = 0
held_by (Some e) = e.held

-- their bytes
abbrev pub bytes_by : Option TagEntry → ℕ
bytes_by None = 0
bytes_by (Some e) = e.bytes

-- so many entries and bytes more, and another newest chunk at a key, if there is one
abbrev pub raised : Option ℕ → (key count size : ℕ) → TagEntry → TagEntry
raised number key count size e = record {
  newest = unwrap_or number e.newest;
  key = if is_some number then key else e.key;
  held = e.held + count;
  bytes = e.bytes + size;
}

-- the chunk, if it is open, has its tag's number
abbrev pub HasNumber : List (List ℕ × TagEntry) → Chunk → Type 0
HasNumber es c = is_open c.stage ≡ true → tag_number c.tag es ≡ Some c.number

-- each open chunk has its tag's number
abbrev pub AreNewest : List (List ℕ × TagEntry) → List Chunk → Type 0
AreNewest es chunks = AllByRecursion (HasNumber es) chunks

-- how many entries of a tag chunks have
abbrev pub tag_held : List ℕ → List Chunk → ℕ
tag_held tag [] = 0
tag_held tag (c ∷ chunks) =
    (if bytes_eq tag c.tag then length c.entries else 0) + tag_held tag chunks

-- the bytes of these entries
abbrev pub tag_bytes : List ℕ → List Chunk → ℕ
tag_bytes tag [] = 0
tag_bytes tag (c ∷ chunks) =
    (if bytes_eq tag c.tag then size_of c.entries else 0) + tag_bytes tag chunks

-- nothing is kept for a tag without entries
abbrev pub AreSome : List (List ℕ × TagEntry) → Type 0
AreSome es = (tag : List ℕ) (e : TagEntry) → tag_entry tag es ≡ Some e → 0 < e.held

-- what is kept for each tag is what its chunks have, and nothing is kept for others
pub record AreCounted (es : List (List ℕ × TagEntry)) (chunks : List Chunk) : Type 0 where
  pub held : (tag : List ℕ) → held_by (tag_entry tag es) ≡ tag_held tag chunks
  pub bytes : (tag : List ℕ) → bytes_by (tag_entry tag es) ≡ tag_bytes tag chunks
  pub some : AreSome es
