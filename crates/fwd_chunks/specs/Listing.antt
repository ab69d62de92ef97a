-- How the code lists what is held of each tag.
use Rattle.std.specs.Prelude.{ℕ, ◌+◌, List, [], ◌∷◌, map, take, drop}
use Rattle.fwd_base.specs.declared.tag_count.TagCount.{TagCount}
use Rattle.fwd_chunks.specs.declared.tag_entry.TagEntry.{TagEntry}
use Rattle.fwd_chunks.specs.declared.tag_list.TagRow.{TagRow}

-- what is held of each tag that something is kept for
abbrev pub listed : List (List ℕ × TagEntry) → List TagCount
listed es = map (λ e. record { tag = e.0; held = e.1.held; bytes = e.1.bytes }) es

-- rows, and the bytes of their tags one after the other
abbrev pub unpacked : List TagRow → List ℕ → List TagCount
unpacked [] names = []
unpacked (r ∷ rows) names =
    record { tag = take r.len names; held = r.held; bytes = r.bytes }
    ∷ unpacked rows (drop r.len names)

-- how many bytes the tags of rows have
abbrev pub names_len : List TagRow → ℕ
names_len [] = 0
names_len (r ∷ rows) = r.len + names_len rows
