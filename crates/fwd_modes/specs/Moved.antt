-- A request that lies in its value's bytes as it is kept, and where.
use Rattle.std.specs.Prelude.{◌≡◌, ℕ, ◌+◌, ◌≤◌, List, [], ◌∷◌, length, take, drop, Option, Some, None, if◌then◌else◌}
use Rattle.fwd_msgpack.specs.Scans.{head_of}
use Rattle.fwd_msgpack.specs.Values.{bytes_of}
use Rattle.fwd_msgpack.specs.declared.value.Value.{Value}
use Rattle.fwd_modes.specs.declared.limits.TheConstants.{CHUNK_LIMIT, TAG_LIMIT}
use Rattle.fwd_modes.specs.declared.packed_request.Found.{Found}
use Rattle.fwd_modes.specs.declared.packed_request.PackedParts.{PackedParts}
use Rattle.fwd_modes.specs.Entries.{AreCut, AreFull, cut_at}
use Rattle.fwd_modes.specs.Requests.{Request, PackedForward, mode_by, request_of}
use Rattle.fwd_modes.specs.Requests.Reading.{Asks}

-- the values behind the entries
abbrev pub optional : Option Value → List (List ℕ)
optional None = []
optional (Some value) = bytes_of value ∷ []

-- the members of an array are those of a request in PackedForward mode
abbrev pub ArePacked : Option (List (List ℕ)) → PackedParts → Type 0
ArePacked members p =
    (members ≡ Some (bytes_of p.tag ∷ bytes_of p.packed ∷ optional p.option))
    × (mode_by (head_of (bytes_of p.packed)) ≡ Some PackedForward)

-- the bytes of the entries
abbrev pub entries_at : List ℕ → Found → List ℕ
entries_at bytes f = take f.size (drop f.first bytes)

-- the request that stands at these places of the bytes
abbrev pub found_in : List ℕ → Found → Request
found_in bytes f = record {
  tag = take f.tag f.names.items;
  entries = cut_at 0 f.ends.items (entries_at bytes f);
  chunk = if f.has_chunk then Some (drop f.tag f.names.items) else None;
}

-- The places lie within the bytes, the entries are cut at their ends, and the tag and the chunk are
-- within their limits.
pub record AreWithin (bytes : List ℕ) (f : Found) : Type 0 where
  pub inside : f.first + f.size ≤ length bytes
  pub cut : AreCut 0 f.ends.items (entries_at bytes f)
  pub full : AreFull (cut_at 0 f.ends.items (entries_at bytes f))
  pub tag_fits : f.tag ≤ TAG_LIMIT
  pub tag_within : f.tag ≤ length f.names.items
  pub chunk_fits : length f.names.items ≤ f.tag + (CHUNK_LIMIT + 5)

-- the bytes ask for the request that stands at these places of them
abbrev pub IsFound : (deep : ℕ) → List ℕ → Found → Type 0
IsFound deep bytes f = (request_of deep bytes ≡ Asks (found_in bytes f)) × AreWithin bytes f
