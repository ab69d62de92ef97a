-- What the seats of a counter show.
use Rattle.std.specs.Prelude.{ℕ, List, sum_by}

-- the parts of the counter that a seat has, and what was added from them
pub record Seat : Type 0 where
  pub parts : ℕ
  pub count : ℕ

-- the parts of all these seats
abbrev pub parts_of : List Seat → ℕ
parts_of seats = sum_by (λ (s : Seat). s.parts) seats

-- what was added from all of them
abbrev pub counts_of : List Seat → ℕ
counts_of seats = sum_by (λ (s : Seat). s.count) seats
