-- What an entry asks of the log, and what it does to the words of those who make it. A word is a
-- number of the log's own, with a key. Whoever has the pen of a word alone knows and changes it.
use Rattle.std.specs.Prelude.{
  ◌≡◌,
  ℕ,
  ◌+◌,
  ◌<◌,
  true,
  List,
  [],
  ◌∷◌,
  ◌++◌,
  length,
  slice_set,
}
use mathlib.Core.List.{IsPrefix}
use Rattle.logbook.specs.Pages.{
  Cell,
  cell,
  Right,
  no_right,
  may_write,
  may_make,
  may_make_home,
  Nib,
  nib,
}

-- an entry raises the word of a pen by 1, where that is the pen of a word that the log holds; any
-- other pen takes no part
abbrev pub raise : Right → ℕ → ℕ
raise no_right n = n
raise may_write n = n
raise may_make n = n
raise may_make_home n = n + 1

-- what a pen says after an entry
abbrev pub raised : Nib → Nib
raised p = nib p.right p.key (raise p.right p.value)

-- the words after an entry
abbrev pub with_raised : Right → ℕ → ℕ → List Cell → List Cell
with_raised no_right k n cs = cs
with_raised may_write k n cs = cs
with_raised may_make k n cs = cs
with_raised may_make_home k n cs = slice_set cs k (n + 1, true)

-- the log has the word, and where it holds it, with the value that a pen says
abbrev pub Says : Right → ℕ → ℕ → List Cell → Type 0
Says r k n cs = r ≡ may_make_home → (k < length cs) × ((cell cs k).1 ≡ true → (cell cs k).0 ≡ n)

-- the words are as a pen says
abbrev pub Knows : Nib → List Cell → Type 0
Knows p cs = Says p.right p.key p.value cs

-- the log holds the word
abbrev pub At : Right → ℕ → List Cell → Type 0
At r k cs = r ≡ may_make_home → (k < length cs) × ((cell cs k).1 ≡ true)

-- Whatever the words and the log are by now, with the values that the pens say: both words are
-- held, the rule holds with the entry too, its clients see the same, and the entry is one of those
-- meant.
abbrev pub Allowed : {E : Type 0} → (holds : List Cell → List E → Type 0)
    → (shows : List E → List E) → (meant : List E → E → Type 0) → (seen : List E) → Nib → Nib
    → E → Type 0
Allowed {E} holds shows meant seen p q e =
    (cs : List Cell) (log : List E) → holds cs log → IsPrefix seen log → Knows p cs → Knows q cs
    → At p.right p.key cs
    × At q.right q.key (with_raised p.right p.key p.value cs)
    × holds (with_raised q.right q.key q.value (with_raised p.right p.key p.value cs))
    (log ++ e ∷ [])
    × (shows (log ++ e ∷ []) ≡ shows log)
    × meant log e

-- An entry went on this log: it goes on from what was seen, the rule held, the words had the values
-- that the pens say, and the entry is one of those meant.
abbrev pub WentOn : {E : Type 0} → (holds : List Cell → List E → Type 0)
    → (meant : List E → E → Type 0) → (seen : List E) → Nib → Nib → List E → E → Type 0
WentOn holds meant seen p q log e =
    IsPrefix seen log
    × ((cs : List Cell) × holds cs log × Knows p cs × Knows q cs)
    × meant log e
