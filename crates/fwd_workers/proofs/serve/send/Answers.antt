use Rattle.std.proofs.Common.{arith, ap, ◌≡◌, [], length}
use Rattle.fwd_workers.proofs.Keeping.{empty, sends-nothing}
use Rattle.fwd_workers.proofs.Serving.{no-write}
use Rattle.fwd_workers.proofs.serve.send.Goals as goal

pub returns-else-waiting-gt0-clause-sent : goal.returns-else-waiting-gt0-clause-sent
returns-else-waiting-gt0-clause-sent g c =
    let none : c.args.session.now.waiting ≡ [] =
    empty c.args.session.now.waiting (omega (arith, c.if-waiting-gt0.false, c.waiting.ensures)) in (
      0,
      0,
      record { within = omega arith; some = λ some. omega (arith, some, ap length none) },
      omega arith,
      sends-nothing c.args.session.now,
      no-write (g.L.Link.calls c.args.link.now),
    )
