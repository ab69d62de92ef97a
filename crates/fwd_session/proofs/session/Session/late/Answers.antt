use Rattle.std.proofs.Common.{◌≡◌, false, max, sym, ap, ◌∙◌}
use Rattle.std.specs.Prelude.{map}
use Rattle.fwd_session.specs.History.{is_overdue}
use Rattle.fwd_session.specs.contracts.session.Session.{the_view}
use Rattle.fwd_session.specs.Live.{LiveSession, live_is_late}
use Rattle.fwd_session.proofs.Taking.{looks-up}
use Rattle.fwd_session.proofs.session.Session.late.Goals as goal

pub returns-else-late-clause-next : goal.returns-else-late-clause-next
returns-else-late-clause-next c up =
    let old = c.args.self.now in
    let now = c.args.now in
    let moment : c.max-self-inside.result ≡ max old.moment now = c.max-self-inside.ensures ∙ ap (λ (v : LiveSession). max v.moment now) c.self.view_is in
    let none : live_is_late old now ≡ false =
    sym (ap (λ (v : LiveSession). is_overdue v.setup v.handshake (map (λ l. l.since) v.carried) (max v.moment now)) c.self.view_is)
    ∙ sym (c.is_overdue-late.ensures ∙ ap (λ n. is_overdue (the_view c.self.inside).setup (the_view c.self.inside).handshake (map (λ l. l.since) (the_view c.self.inside).carried) n) c.max-self-inside.ensures)
    ∙ c.if-late.false in
    (λ i. record (c.self.view_is i) { moment = moment i }) ∙ looks-up old now up none
