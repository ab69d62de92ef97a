-- What is held of each tag.
use Rattle.std.specs.Prelude.{
  ◌≡◌,
  ℕ,
  ◌<◌,
  Bool,
  true,
  List,
  [],
  ◌∷◌,
  ◌++◌,
  ◌+◌,
  length,
  map,
  sum,
  filter,
  if◌then◌else◌,
}
use Rattle.std.specs.List.{AllByRecursion, IsDistinct, list_any}
use Rattle.std.specs.List.Sorted.{IsStrictlySortedBy}
use Rattle.std.specs.Str.{bytes_eq}
use Rattle.std.specs.Ordering.{nat_cmp, is_lt}
use Rattle.std.specs.Cmp.Lexicographic.{slice_cmp}
use Rattle.fwd_base.specs.declared.counts.Counts.{Counts}
use Rattle.fwd_base.specs.declared.report.Report.{Report}
use Rattle.fwd_base.specs.declared.tag_count.TagCount.{TagCount}
use Rattle.fwd_chunks.specs.declared.chunk.Chunk.{Chunk}
use Rattle.fwd_chunks.specs.Cells.{Cell, size_of}
use Rattle.fwd_chunks.specs.History.{BufferHistory, unsettled, counts}
use Rattle.fwd_chunks.specs.Live.{LiveBuffer, live_counts}

-- an entry with its tag
pub record Tagged : Type 0 where
  pub tag : List ℕ
  pub entry : List ℕ

-- the entries of a tag among these
abbrev pub of_tag : List ℕ → List Tagged → List (List ℕ)
of_tag tag held = map (λ e. e.entry) (filter (λ e. bytes_eq tag e.tag) held)

-- how many entries of a tag are among these, and their bytes
abbrev pub tag_count : List Tagged → List ℕ → TagCount
tag_count held tag = record {
  tag = tag;
  held = length (of_tag tag held);
  bytes = size_of (of_tag tag held);
}

-- a tag stands before another by its bytes
abbrev pub is_before : List ℕ → List ℕ → Bool
is_before tag other = is_lt (slice_cmp nat_cmp tag other)

-- a tag among others, which rise by their bytes and stand once each
abbrev pub with_tag : List ℕ → List (List ℕ) → List (List ℕ)
with_tag tag [] = tag ∷ []
with_tag tag (first ∷ tags) =
    if is_before tag first then tag ∷ first ∷ tags
    else if bytes_eq tag first then first ∷ tags else first ∷ with_tag tag tags

-- the tags of entries, each once, by rising bytes
abbrev pub tags_of : List Tagged → List (List ℕ)
tags_of [] = []
tags_of (e ∷ held) = with_tag e.tag (tags_of held)

-- how many entries each tag has, and their bytes, by the rising bytes of the tags
unfoldable pub tag_counts : List Tagged → List TagCount
tag_counts held = map (tag_count held) (tags_of held)

-- the entries of cells with their tags
abbrev pub tagged_cells : List Cell → List Tagged
tagged_cells cells = map (λ c. record { tag = c.tag; entry = c.entry }) cells

-- the entries of chunks with their tags
abbrev pub tagged_in : List Chunk → List Tagged
tagged_in [] = []
tagged_in (c ∷ chunks) = map (λ e. record { tag = c.tag; entry = e }) c.entries ++ tagged_in chunks

-- what an output has to do with, in all and of each tag: of a history
abbrev pub report : BufferHistory → Report
report h = record { counts = counts h; tags = tag_counts (tagged_cells (unsettled h)) }

-- the same of what of it still matters
abbrev pub live_report : LiveBuffer → Report
live_report b = record { counts = live_counts b; tags = tag_counts (tagged_in b.chunks) }

-- what an output has to do with, the tags in no order
pub record Unordered : Type 0 where
  pub counts : Counts
  pub tags : List TagCount

-- the counts are those of tags that the entries have, each tag once and none missing, in any order
pub record AreTagCounts (held : List Tagged) (listed : List TagCount) : Type 0 where
  pub told : AllByRecursion (λ t. (t ≡ tag_count held t.tag) × (0 < t.held)) listed
  pub once : IsDistinct bytes_eq (map (λ t. t.tag) listed)
  pub all : AllByRecursion (λ e. list_any (bytes_eq e.tag) (map (λ t. t.tag) listed) ≡ true) held

-- it is what a buffer has to do with
pub record IsSnapshot (b : LiveBuffer) (s : Unordered) : Type 0 where
  pub counts : s.counts ≡ live_counts b
  pub tags : AreTagCounts (tagged_in b.chunks) s.tags

-- a report adds up: what was accepted is settled or held, what is held of all tags is what is held,
-- each tag stands once, by rising bytes, and none with nothing held
pub record AddsUp (r : Report) : Type 0 where
  pub entries : r.counts.accepted ≡ r.counts.settled + r.counts.held
  pub held : sum (map (λ t. t.held) r.tags) ≡ r.counts.held
  pub bytes : sum (map (λ t. t.bytes) r.tags) ≡ r.counts.bytes
  pub rising : IsStrictlySortedBy (slice_cmp nat_cmp) (map (λ t. t.tag) r.tags)
  pub some : AllByRecursion (λ t. 0 < t.held) r.tags
