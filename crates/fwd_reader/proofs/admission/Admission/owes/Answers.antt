use Rattle.std.proofs.Common.{arith, ◌≤◌, ◌+◌, refl, vec_len}
use Rattle.fwd_peers.specs.Costs.{bounded}
use Rattle.fwd_reader.proofs.Owing.{line_changed, no_line}
use Rattle.fwd_reader.proofs.Refusing.{past}
use Rattle.fwd_reader.proofs.admission.Admission.owes.Goals as goal

pub returns-in-Some : goal.returns-in-Some
returns-in-Some g c =
    line_changed c.args.self.now.lines.items c.args.output c.in-Some.line.now
    (record c.in-Some.line.now { owed = c.rise.new.self })
    (λ owed. bounded (owed + c.args.bytes))
    (omega (arith, c.in-Some.ensures.variant.0 refl)) c.in-Some.ensures.value c.rise.ensures.owed

pub returns-in_default : goal.returns-in_default
returns-in_default g c =
    let none : vec_len c.args.self.now.lines ≤ c.args.output =
    past c.args.output (vec_len c.args.self.now.lines) c.in_default.ensures.variant.1 in
    no_line c.args.self.now.lines.items c.args.output (λ owed. bounded (owed + c.args.bytes)) (omega arith)
