use Rattle.std.proofs.Common.{length, sym, ap, ◌∙◌}
use Rattle.fwd_session.specs.Live.{LiveSession, live_chunks}
use Rattle.fwd_session.proofs.Carrying.{loaded_chunks}
use Rattle.fwd_session.proofs.session.Session.end.Goals as goal

pub returns-clause-chunks : goal.returns-clause-chunks
returns-clause-chunks c =
    let s = c.self.inside in
    c.into_chunks.ensures ∙ sym (loaded_chunks (length s.greeting) s.frames s.carried)
    ∙ ap (λ (v : LiveSession). live_chunks v.carried) c.self.view_is
