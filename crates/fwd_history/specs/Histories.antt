-- A history of several components, and what one of them knows of it. Histories are lists with the
-- newest event first.
use Rattle.std.specs.Prelude.{
  ◌≡◌,
  ℕ,
  suc,
  ◌<◌,
  Bool,
  true,
  false,
  List,
  [],
  ◌∷◌,
  ◌++◌,
  length,
  reverse,
  ◌||◌,
  ◌==◌,
}
use Rattle.logbook.specs.Pages.{Book, Cell, cell}

-- a book that was just opened, and how many pages it has
pub record OpenedBook : Type 0 where
  pub book : Book
  pub pages : ℕ

-- one more, if the event counts
abbrev pub one_if : Bool → ℕ → ℕ
one_if true n = suc n
one_if false n = n

-- the history went on
abbrev pub Comes : {E : Type 0} → List E → List E → Type 0
Comes {E} old past = (more : List E) × (more ++ old ≡ past)

module _ {E : Type 0} (touches : ℕ → E → Bool) where
  -- how many events a component has a part in
  abbrev pub count_of : ℕ → List E → ℕ
  count_of k [] = 0
  count_of k (e ∷ past) = one_if (touches k e) (count_of k past)

  -- the history went on, and a component has no part in that
  abbrev pub Went : ℕ → List E → List E → Type 0
  Went k old past = (more : List E) × (more ++ old ≡ past) × (count_of k past ≡ count_of k old)

  -- a component alone has a part in the event
  abbrev pub IsOf : ℕ → E → Type 0
  IsOf a e = (k : ℕ) → touches k e ≡ (k == a)

  -- just two components have a part in the event
  abbrev pub IsOfBoth : ℕ → ℕ → E → Type 0
  IsOfBoth a b e = (k : ℕ) → touches k e ≡ ((k == a) || (k == b))

module _ {E : Type 0} (may : List E → E → Type 0) where
  -- each event may come behind those before it
  abbrev pub IsLegal : List E → Type 0
  IsLegal [] = Unit {0}
  IsLegal (e ∷ past) = IsLegal past × may past e

-- The rule of the log that keeps a history in the order in which it came: the word of a component
-- is how many events the component has a part in, and the history is legal.
pub record IsKept {E : Type 0} (touches : ℕ → E → Bool) (may : List E → E → Type 0)
    (cells : List Cell) (log : List E) : Type 0 where
  pub words : (k : ℕ) → k < length cells
      → cell cells k ≡ (count_of touches k (reverse log), true)
  pub legal : IsLegal may (reverse log)
