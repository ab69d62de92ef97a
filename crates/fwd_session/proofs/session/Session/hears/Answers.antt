use Rattle.std.proofs.Common.{◌≡◌, ◌-◌, length, sym, ap, subst, ◌∙◌}
use Rattle.std.specs.Prelude.{IfOk}
use Rattle.fwd_handshake.specs.Shown.{salt_bytes}
use Rattle.fwd_session.specs.Said.{AsksForNothing, Said}
use Rattle.fwd_session.specs.History.{is_done}
use Rattle.fwd_session.specs.Flights.{live_pending, pending_of}
use Rattle.fwd_session.specs.Hearing.{AreAcksOf}
use Rattle.fwd_session.specs.Live.{LiveSession}
use Rattle.fwd_session.proofs.Carrying.{loaded_pending}
use Rattle.fwd_session.proofs.Taking.{heard-said, said-same}
use Rattle.fwd_session.proofs.session.Session.hears.Goals as goal

-- the chunks that are awaited are the session's
awaits : (c : goal.After-hear) → c.of-unacked.result ≡ live_pending c.args.self.now.carried
awaits c =
    let s = c.self.inside in
    c.of-unacked.ensures
    ∙ (λ i. pending_of (c.len.ensures i - c.count.ensures i) (c.chunks.ensures i))
    ∙ sym (loaded_pending (length s.greeting) s.frames s.carried c.self.invariant.full c.self.invariant.queued)
    ∙ ap (λ (v : LiveSession). live_pending v.carried) c.self.view_is

pub returns-clause-said : goal.returns-clause-said
returns-clause-said c =
    heard-said c.hear.result c.args.self.now c.args.bytes.now c.deref.result.now (salt_bytes c.as_salt.result) c.self.inside.handshake c.of-unacked.result
    (c.deref.ensures ∙ ap (λ (v : LiveSession). v.setup.login) c.self.view_is)
    (c.as_salt.ensures ∙ ap (λ (v : LiveSession). v.setup.salt) c.self.view_is)
    (ap (λ (v : LiveSession). v.handshake) c.self.view_is)
    (awaits c) c.hear.ensures.value

pub returns-clause-acks : goal.returns-clause-acks
returns-clause-acks c =
    subst (λ n. IfOk c.hear.result (λ h. AreAcksOf n (live_pending c.args.self.now.carried) h.acks.items)) (ap (λ (v : LiveSession). v.setup.server) c.self.view_is)
    (subst (λ ps. IfOk c.hear.result (λ h. AreAcksOf c.self.inside.server ps h.acks.items)) (awaits c) c.hear.ensures.acks)

pub returns-clause-sure : goal.returns-clause-sure
returns-clause-sure c done none =
    c.hear.ensures.sure (ap (λ (v : LiveSession). is_done v.handshake) c.self.view_is ∙ done)
    (ap (λ (s : Said). s.replies) (said-same c.args.self.now c.args.bytes.now c.deref.result.now (salt_bytes c.as_salt.result) c.self.inside.handshake c.of-unacked.result
    (c.deref.ensures ∙ ap (λ (v : LiveSession). v.setup.login) c.self.view_is)
    (c.as_salt.ensures ∙ ap (λ (v : LiveSession). v.setup.salt) c.self.view_is)
    (ap (λ (v : LiveSession). v.handshake) c.self.view_is)
    (awaits c)) ∙ none)

pub returns-clause-quiet : goal.returns-clause-quiet
returns-clause-quiet c asks =
    c.hear.ensures.quiet
    (subst AsksForNothing (sym (said-same c.args.self.now c.args.bytes.now c.deref.result.now (salt_bytes c.as_salt.result) c.self.inside.handshake c.of-unacked.result
    (c.deref.ensures ∙ ap (λ (v : LiveSession). v.setup.login) c.self.view_is)
    (c.as_salt.ensures ∙ ap (λ (v : LiveSession). v.setup.salt) c.self.view_is)
    (ap (λ (v : LiveSession). v.handshake) c.self.view_is)
    (awaits c))) asks)
