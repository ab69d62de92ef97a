-- The lines of Prometheus' text format 0.0.4: each metric has two lines that say what it is, and
-- behind them a line for each of its samples.
use Rattle.std.specs.Prelude.{ℕ, ◌/◌, ◌%◌, ◌==◌, List, [], ◌∷◌, ◌++◌, Option, Some, None, codes, if◌then◌else◌}
use Rattle.std.specs.List.{flat_map}
use Rattle.std.specs.Fmt.{decimal}
use Rattle.httparse.specs.Ascii.{line_feed}
use Rattle.fwd_monitor.specs.Page.{line_text}

-- the lines in front of a metric's samples: what it is, and of which type
abbrev pub head_lines_of : (name kind help : List ℕ) → List ℕ
head_lines_of name kind help =
    line_text (codes "# HELP" ∷ name ∷ help ∷ []) ++ line_text (codes "# TYPE" ∷ name ∷ kind ∷ [])

-- a metric that has one value, which may fall
unfoldable pub gauge : (name help : List ℕ) → ℕ → List ℕ
gauge name help value =
    head_lines_of name (codes "gauge") help ++ line_text (name ∷ decimal value ∷ [])

-- a metric that has one value, which only rises
unfoldable pub counter : (name help : List ℕ) → ℕ → List ℕ
counter name help value =
    head_lines_of name (codes "counter") help ++ line_text (name ∷ decimal value ∷ [])

-- a metric that has one value, where that is known
unfoldable pub gauge_if : (name help : List ℕ) → Option ℕ → List ℕ
gauge_if name help None = []
gauge_if name help (Some value) = gauge name help value

-- a sample of hundredths, as a number of units with two digits behind a point
unfoldable pub hundredths_line : (name : List ℕ) → ℕ → List ℕ
hundredths_line name value =
    name ++ codes " " ++ decimal (value / 100) ++ codes "." ++ decimal (value % 100 / 10)
    ++ decimal (value % 10) ++ codes "\n"

-- a metric of seconds that has one value in hundredths, where that is known
unfoldable pub seconds_if : (name kind help : List ℕ) → Option ℕ → List ℕ
seconds_if name kind help None = []
seconds_if name kind help (Some value) =
    head_lines_of name kind help ++ hundredths_line name value

-- a sample of an output
abbrev pub output_line : (name : List ℕ) → (output value : ℕ) → List ℕ
output_line name output value =
    line_text ((name ++ codes "{output=\"" ++ decimal output ++ codes "\"}") ∷ decimal value ∷ [])

-- a byte of a label's value: a backslash and a double quote stand behind a backslash, and a line
-- feed is told by a backslash and the letter n
abbrev pub escaped_byte : ℕ → List ℕ
escaped_byte b =
    if b == 92 then 92 ∷ 92 ∷ []
    else if b == 34 then 92 ∷ 34 ∷ []
    else if b == line_feed then 92 ∷ 110 ∷ []
    else b ∷ []

-- a label's value
abbrev pub escaped : List ℕ → List ℕ
escaped text = flat_map escaped_byte text

-- a sample in which a word is the last label's value: the text in front of the word, the word, and
-- the sample's value
unfoldable pub word_line : (front word : List ℕ) → ℕ → List ℕ
word_line front word value =
    front ++ word ++ codes "\"} " ++ decimal value ++ codes "\n"
