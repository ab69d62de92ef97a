use Rattle.std.proofs.Common.{arith, ◌≤◌, ◌-◌, refl, vec_len}
use Rattle.fwd_reader.specs.Owing.{owed_at_each}
use Rattle.fwd_reader.proofs.Owing.{line_changed, no_line, none_answered}
use Rattle.fwd_reader.proofs.Refusing.{past}
use Rattle.fwd_reader.proofs.admission.Admission.answered.Goals as goal

pub returns-then-bytes-eq0 : goal.returns-then-bytes-eq0
returns-then-bytes-eq0 g c =
    none_answered c.args.bytes c.args.output (owed_at_each c.args.self.now)
    (omega (arith, c.if-bytes-eq0.true))

pub returns-in-Some : goal.returns-in-Some
returns-in-Some g c =
    line_changed c.args.self.now.lines.items c.args.output c.in-Some.line.now
    (record c.in-Some.line.now { owed = c.fall.new.self })
    (λ owed. owed - c.args.bytes)
    (omega (arith, c.in-Some.ensures.variant.0 refl)) c.in-Some.ensures.value c.fall.ensures.owed

pub returns-in_default : goal.returns-in_default
returns-in_default g c =
    let none : vec_len c.args.self.now.lines ≤ c.args.output =
    past c.args.output (vec_len c.args.self.now.lines) c.in_default.ensures.variant.1 in
    no_line c.args.self.now.lines.items c.args.output (λ owed. owed - c.args.bytes) (omega arith)
