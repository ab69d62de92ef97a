-- The lines of one subject, by the seconds of a clock.
use Rattle.std.specs.Prelude.{◌≡◌, ◌≢◌, ◌≤◌, ◌+◌, ◌-◌, ◌^◌, ℕ, ℤ, min, Bool, true, false, if◌then◌else◌, Option, IfSome}
use Rattle.std.specs.Ordering.{int_eq}
use Rattle.fwd_journal.specs.declared.line_limit.LineLimit.{LineLimit}

-- how many lines were told in a second
abbrev pub told_in : ℤ → LineLimit → ℕ
told_in second limit = if int_eq second limit.second then limit.told else 0

-- what a limit is behind a line in a second: a line that is told is one more of at most ten, and
-- one that is not is left out, since ten were told
abbrev pub Counts : ℤ → Bool → LineLimit → LineLimit → Type 0
Counts second true was now = (told_in second was + 1 ≤ 10)
    × (now ≡ record was { second = second; told = told_in second was + 1 })
Counts second false was now = (10 ≤ told_in second was)
    × (now ≡ record was { left_out = min (was.left_out + 1) (2 ^ 64 - 1) })

-- a limit owes: some lines are left out and not told of. As long as the run goes on, in a second,
-- those of that second itself are not owed yet.
abbrev pub Owes : Option ℤ → LineLimit → Type 0
Owes second limit = (1 ≤ limit.left_out) × IfSome second (λ now. now ≢ limit.second)

-- a limit of which nothing is owed any more
abbrev pub paid : LineLimit → LineLimit
paid limit = record limit { left_out = 0 }
