use Rattle.std.proofs.Common.{refl}
use Rattle.fwd_turns.proofs.Keeping.{stays_so, was_served}
use Rattle.fwd_turns.proofs.visitor.Visitor.read_source.Goals as goal

pub returns-then-is_refused : goal.returns-then-is_refused
returns-then-is_refused g c =
    stays_so c.args.context.now.router.now c.args.source.now c.args.source.now refl

pub returns : goal.returns
returns g c =
    was_served c.args.context.now.router.now c.serve.new.context.router.now c.args.source.now
    c.serve.new.source c.serve.result c.serve.ensures
