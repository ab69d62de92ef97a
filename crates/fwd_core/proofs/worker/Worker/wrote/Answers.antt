use Rattle.std.proofs.Common.{sym, subst, ◌∙◌}
use Rattle.std.proofs.lemmas.Option.{same_Some}
use Rattle.fwd_session.specs.Live.{session_sends}
use Rattle.fwd_core.specs.Lanes.{IsRoomy}
use Rattle.fwd_core.proofs.WorkerLemmas.{same_work, sends-roomy, sends-same}
use Rattle.fwd_core.proofs.worker.Worker.wrote.Goals as goal

pub invariant_of-self-then-count-waiting : goal.invariant_of-self-then-count-waiting
invariant_of-self-then-count-waiting c = λ s e.
    subst (IsRoomy c.self.inside.taken) (same_Some _ _ e) (c.self.invariant c.in-Some.session c.in-Some.is)

pub invariant_of-self-2 : goal.invariant_of-self-2
invariant_of-self-2 c = λ s e.
    subst (IsRoomy c.self.inside.taken) (sym c.wrote.ensures ∙ same_Some _ _ e)
    (sends-roomy c.self.inside.taken c.in-Some.session c.args.count (c.self.invariant c.in-Some.session c.in-Some.is))

pub returns-clause-chunks : goal.returns-clause-chunks
returns-clause-chunks c =
    same_work c.args.self.now c.self.inside.taken c.self.inside.session c.in-Some.session c.wrote.new.self (session_sends c.in-Some.session c.args.count) c.self.view_is c.in-Some.is c.wrote.ensures
    (sends-same c.self.inside.taken c.in-Some.session c.args.count)
