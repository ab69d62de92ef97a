-- Asterisks, as a word is read from left to right through its braces.
use Rattle.std.specs.Prelude.{ℕ, Bool, true, false, not, ◌&&◌, ◌||◌, List, [], ◌∷◌, if◌then◌else◌}
use Rattle.std.specs.List.{fold, list_all}
use Rattle.fwd_match.specs.Patterns.{is_dot, is_asterisk}
use Rattle.fwd_match.specs.declared.stars.Fronts.{Fronts}

-- what stands behind the last dot: nothing, `*`, `**`, something without `*`, or what no good part
-- begins with, there or before that dot
pub data Front : Type 0 where
  Nothing : Front
  Star : Front
  Stars : Front
  Plain : Front
  Bad : Front

-- behind a dot
abbrev pub dotted : Front → Front
dotted Nothing = Nothing
dotted Star = Nothing
dotted Stars = Nothing
dotted Plain = Nothing
dotted Bad = Bad

-- behind an asterisk
abbrev pub starred : Front → Front
starred Nothing = Star
starred Star = Stars
starred Stars = Bad
starred Plain = Bad
starred Bad = Bad

-- behind another byte
abbrev pub lettered : Front → Front
lettered Nothing = Plain
lettered Star = Bad
lettered Stars = Bad
lettered Plain = Plain
lettered Bad = Bad

-- behind one byte more
abbrev pub one_further : Front → ℕ → Front
one_further front byte =
    if is_dot byte then dotted front else if is_asterisk byte then starred front else lettered front

-- behind more bytes, one after the other
abbrev pub further : Front → List ℕ → Front
further front bytes = fold one_further front bytes

-- a word may end there: no part before it is bad
abbrev pub is_fine : Front → Bool
is_fine Bad = false
is_fine Nothing = true
is_fine Star = true
is_fine Stars = true
is_fine Plain = true

-- whatever is chosen from the choices that are left, it ends well
abbrev pub all_fine : List (List (List ℕ)) → Front → Bool
all_fine [] front = is_fine front
all_fine (choice ∷ more) front = list_all (λ text. all_fine more (further front text)) choice

-- each of the fronts passes the test
abbrev pub each_front : Fronts → (Front → Bool) → Bool
each_front f test =
    (not f.nothing || test Nothing)
    && ((not f.star || test Star)
    && ((not f.stars || test Stars)
    && ((not f.plain || test Plain)
    && (not f.bad || test Bad))))
