-- The bytes at which a text is cut, as the code names them.
use Rattle.std.specs.Prelude.{ℕ, Bool, ◌&&◌, List, [], length, Option, Some, None, ◌+◌}
use Rattle.std.specs.List.{slice_split}
use Rattle.fwd_match.specs.Patterns.{is_blank, is_dot, is_comma, is_brace}
use Rattle.fwd_match.specs.declared.fields.Mark.{Mark}
use Rattle.fwd_match.specs.declared.fields.Mark.TheVariants.{Blank, Dot, Brace, Comma}

-- a byte is one of these marks; a comma is one only inside braces
abbrev pub marks : Mark → ℕ → Bool
marks Blank byte = is_blank byte
marks Dot byte = is_dot byte
marks Brace byte = is_brace byte
marks (Comma inside) byte = inside && is_comma byte

-- the fields that are left of a text
abbrev pub fields_left : (ℕ → Bool) → Option (List ℕ) → List (List ℕ)
fields_left test None = []
fields_left test (Some bytes) = slice_split test bytes

-- a size that falls with each field
abbrev pub size_left : Option (List ℕ) → ℕ
size_left None = 0
size_left (Some bytes) = length bytes + 1
