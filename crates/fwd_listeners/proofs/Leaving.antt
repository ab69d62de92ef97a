-- Where nothing is left, nothing was left before, and no output holds anything.
use Rattle.std.proofs.Common.{◌≡◌, ℕ, ◌+◌, ◌-◌, ◌^◌, ◌==◌, true, List, [], ◌∷◌, refl, All, min, arith}
use Rattle.std.proofs.lemmas.Bool.{and_parts}
use Rattle.std.proofs.lemmas.Bool.Decides.{nat_tests}
use Rattle.std.proofs.lemmas.List.Elements.{All-nil, All-cons}
use Rattle.fwd_base.specs.declared.report.Report.{Report}
use Rattle.fwd_listeners.specs.declared.left.Left.{Left}
use Rattle.fwd_listeners.specs.Endings.{entries_with, is_nothing, with_held}

-- an output that holds nothing
abbrev HoldsNothing : Report → Type 0
HoldsNothing report = report.counts.held ≡ 0

none_with : (entries : ℕ) (reports : List Report) → entries_with entries reports ≡ 0
    → (entries ≡ 0) × All HoldsNothing reports
none_with entries [] h = (h, All-nil HoldsNothing)
none_with entries (report ∷ reports) h =
    let rest = none_with (min (entries + report.counts.held) (2 ^ 64 - 1)) reports h in
    let none : entries + report.counts.held ≡ 0 = omega (arith, rest.0) in
    (omega (arith, none), All-cons HoldsNothing report reports (omega (arith, none)) rest.1)

zero_of : (n : ℕ) → (n == 0) ≡ true → n ≡ 0
zero_of n h = grind (arith, nat_tests)

pub nothing_before : (left : Left) (reports : List Report)
    → is_nothing (with_held left reports) ≡ true → is_nothing left ≡ true
nothing_before left reports h =
    let parts = and_parts _ _ h in
    let none = none_with left.entries reports (zero_of _ parts.0) in
    rw (none.0, parts.1) refl

pub nothing_held : (left : Left) (reports : List Report)
    → is_nothing (with_held left reports) ≡ true → All HoldsNothing reports
nothing_held left reports h =
    (none_with left.entries reports (zero_of _ (and_parts _ _ h).0)).1
