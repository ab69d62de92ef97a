use Rattle.std.proofs.Common.{sym, subst, ◌∙◌}
use Rattle.std.specs.Prelude.{OnOk, ◌≡◌}
use Rattle.fwd_session.specs.Live.{LiveSession}
use Rattle.fwd_session.proofs.Broken.{broken_faulty, broken_quiet, no_true}
use Rattle.fwd_session.proofs.Taking.{hears-by}
use Rattle.fwd_session.proofs.session.Session.hears_behind.Goals as goal

pub returns-in_err-hearing-clause-broken : goal.returns-in_err-hearing-clause-broken
returns-in_err-hearing-clause-broken c = λ broken.
    absurd (no_true (c.in_err-hearing.ensures.quiet
    (broken_quiet c.args.self.now c.args.bytes.now c.deref.result.now (c.deref.ensures.value ∙ c.in-Ok.ensures) broken)))

pub returns-clause-next : goal.returns-clause-next
returns-clause-next c =
    subst (λ (x : LiveSession). OnOk c.take_in.result (c.take_in.new.self ≡ x))
    (hears-by c.args.self.now c.args.bytes.now c.deref.result.now c.in_ok-hearing.hearing c.requires.up (sym (c.deref.ensures.value ∙ c.in-Ok.ensures)) c.in_ok-hearing.ensures.said c.in_ok-hearing.ensures.rest)
    c.take_in.ensures.next

pub returns-clause-broken : goal.returns-clause-broken
returns-clause-broken c = λ broken.
    c.take_in.ensures.sure
    (broken_faulty c.args.self.now c.args.bytes.now c.deref.result.now (c.deref.ensures.value ∙ c.in-Ok.ensures) broken c.in_ok-hearing.hearing c.in_ok-hearing.ensures.said)
