-- The page of what each output has to do with.
use Rattle.std.specs.Prelude.{ℕ, List, [], ◌∷◌, ◌++◌, codes}
use Rattle.std.specs.List.{enumerate_from, flat_map, join_with_byte}
use Rattle.std.specs.Fmt.{decimal}
use Rattle.httparse.specs.Ascii.{line_feed, space}
use Rattle.hex.specs.Hex.{encode_lower}
use Rattle.fwd_base.specs.declared.counts.Counts.{Counts}
use Rattle.fwd_base.specs.declared.report.Report.{Report}
use Rattle.fwd_base.specs.declared.tag_count.TagCount.{TagCount}

-- a line: these words, with one space between each two, and a line feed
abbrev pub line_text : List (List ℕ) → List ℕ
line_text words = join_with_byte space words ++ line_feed ∷ []

-- an output's number and its counts in decimal, each behind its name
abbrev pub line_words : ℕ → Counts → List (List ℕ)
line_words output c =
    codes "output" ∷ decimal output
    ∷ codes "accepted" ∷ decimal c.accepted
    ∷ codes "settled" ∷ decimal c.settled
    ∷ codes "held" ∷ decimal c.held
    ∷ codes "bytes" ∷ decimal c.bytes
    ∷ codes "chunks" ∷ decimal c.chunks
    ∷ []

-- an output's line
abbrev pub line_of : ℕ → Counts → List ℕ
line_of output c = line_text (line_words output c)

-- bytes as pairs of lower-case hexadecimal digits, or `-` for no bytes
abbrev pub hex_text : List ℕ → List ℕ
hex_text [] = codes "-"
hex_text (b ∷ bytes) = encode_lower (b ∷ bytes)

-- a tag in hexadecimal digits and its counts in decimal, each behind its name
abbrev pub tag_words : TagCount → List (List ℕ)
tag_words t =
    codes "tag" ∷ hex_text t.tag
    ∷ codes "held" ∷ decimal t.held
    ∷ codes "bytes" ∷ decimal t.bytes
    ∷ []

-- a tag's line
abbrev pub tag_line_of : TagCount → List ℕ
tag_line_of t = line_text (tag_words t)

-- the line of an output, and those of its tags in their order
abbrev pub report_lines : ℕ × Report → List ℕ
report_lines (output, r) = line_of output r.counts ++ flat_map tag_line_of r.tags

-- the lines of all outputs, which are numbered by their places from 0
abbrev pub page_of : List Report → List ℕ
page_of reports = flat_map report_lines (enumerate_from 0 reports)
