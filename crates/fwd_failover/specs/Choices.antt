-- Which server a worker tries.
use Rattle.std.specs.Prelude.{ℕ, ◌%◌, List, ◌++◌, length, map, filter, find, take, drop, Bool, true, false, Option}
use Rattle.std.specs.List.{enumerate_from}
use Rattle.std.specs.Bool.{beq}
use Rattle.fwd_failover.specs.History.{ServersSetting, Happening, is_over, losses_of}

-- ---- the order in which a worker tries them

-- the numbers of the servers that are standbys, or of those that are not, in file order
abbrev pub places : Bool → List Bool → List ℕ
places kind standby = map (λ p. p.0) (filter (λ p. beq p.1 kind) (enumerate_from 0 standby))

-- the numbers of the servers that are tried first: those that are no standbys
abbrev pub primaries : ServersSetting → List ℕ
primaries s = places false s.standby

-- the numbers of the servers that are tried only behind the primaries
abbrev pub standbys : ServersSetting → List ℕ
standbys s = places true s.standby

-- once round the list, from a place on
abbrev pub round_from : ℕ → List ℕ → List ℕ
round_from place servers = drop place servers ++ take place servers

-- worker w begins with the primary at the place w modulo their number and goes once round; then
-- come the standbys in file order
abbrev pub order_of : List ℕ → List ℕ → ℕ → List ℕ
order_of first second worker = round_from (worker % length first) first ++ second

-- ---- the choice

-- a server may be tried at a moment, by its losses that count since it last settled
abbrev pub is_usable : ServersSetting → List Happening → ℕ → ℕ → Bool
is_usable s happened moment server = is_over s (losses_of s server happened) moment

-- the first in the worker's order that is usable, if there is one
abbrev pub choice : ServersSetting → List Happening → ℕ → ℕ → Option ℕ
choice s happened worker moment =
    find (is_usable s happened moment) (order_of (primaries s) (standbys s) worker)
