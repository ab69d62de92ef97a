use Rattle.std.proofs.Common.{◌++◌, sym, subst, ◌∙◌}
use Rattle.fwd_session.specs.Said.{BeginsBroken}
use Rattle.fwd_session.proofs.Broken.{broken_next, broken_out, broken_told}
use Rattle.fwd_session.proofs.session.Session.hears_a_fault.Goals as goal

pub returns-clause-heard : goal.returns-clause-heard
returns-clause-heard c =
    sym (broken_told c.args.self.now c.args.bytes.now c.requires.up
    (subst (λ r. BeginsBroken (r ++ c.args.bytes.now)) c.rest.ensures (c.begins_broken.ensures.broken c.if-not-begins_broken.false)))

pub returns-clause-out : goal.returns-clause-out
returns-clause-out c =
    c.new.ensures
    ∙ sym (broken_out c.args.self.now c.args.bytes.now c.requires.up
    (subst (λ r. BeginsBroken (r ++ c.args.bytes.now)) c.rest.ensures (c.begins_broken.ensures.broken c.if-not-begins_broken.false)))

pub returns-clause-next : goal.returns-clause-next
returns-clause-next c =
    c.fall.ensures
    ∙ sym (broken_next c.args.self.now c.args.bytes.now c.requires.up
    (subst (λ r. BeginsBroken (r ++ c.args.bytes.now)) c.rest.ensures (c.begins_broken.ensures.broken c.if-not-begins_broken.false)))
