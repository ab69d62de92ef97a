use Rattle.std.proofs.Common.{◌≡◌, ℕ, IfOk, List, ap, subst, ◌∙◌}
use Rattle.std.specs.Arc.{arc_value}
use Rattle.fwd_handshake.specs.Draws.{hex_drawn}
use Rattle.fwd_session.specs.Live.{session_begins}
use Rattle.fwd_workers.specs.Working.{setup_by}
use Rattle.fwd_workers.proofs.worker.Worker.meet.Goals as goal

pub free_upstream-free-requires-clause-begun : goal.free_upstream-free-requires-clause-begun
free_upstream-free-requires-clause-begun g c =
    let terms = c.args.self.now.terms in
    let setup = λ (salt : List ℕ). setup_by (arc_value terms.login) salt terms.acks c.args.context.now.now c.args.server in (
      setup (hex_drawn 0 4 c.args.self.now.rng),
      subst (λ up. IfOk up (λ session. session ≡ session_begins (setup c.draw_salt-salt.result))) c.in-Ok-begun.ensures.same c.up.ensures
          ∙ ap (λ (salt : List ℕ). session_begins (setup salt)) c.draw_salt-salt.ensures.salt,
      terms.acks.some,
    )
