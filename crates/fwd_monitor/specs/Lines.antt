-- The lines of a head, as the code counts them.
use Rattle.std.specs.Prelude.{ℕ, suc, Bool, true, false, ◌||◌, List, [], ◌∷◌, if◌then◌else◌, ◌==◌}
use Rattle.httparse.specs.Ascii.{carriage_return, line_feed}

-- how many line feeds stand in the bytes, where those before the first line begins do not count
abbrev pub lines_from : Bool → List ℕ → ℕ
lines_from begun [] = 0
lines_from true (b ∷ bytes) =
    if b == line_feed then suc (lines_from true bytes) else lines_from true bytes
lines_from false (b ∷ bytes) =
    if b == carriage_return || b == line_feed
    then lines_from false bytes
    else lines_from true bytes

-- how many lines of a head have come, each with its end: the request line is one
abbrev pub head_lines : List ℕ → ℕ
head_lines heard = lines_from false heard
