use Rattle.std.proofs.Common.{rules, ◌≡◌, sym, ◌∙◌}
use Rattle.fwd_handshake.specs.Shown.{salt_bytes}
use Rattle.fwd_msgpack.specs.Values.{bytes_of}
use Rattle.fwd_session.specs.declared.handshake.Handshake.TheVariants.{AwaitsHelo}
use Rattle.fwd_session.specs.Flights.{awaited_of}
use Rattle.fwd_session.proofs.Silence.{no_helo}
use Rattle.fwd_session.proofs.hearing.verdict_on.Goals as goal

pub returns-in-AwaitsHelo-clause-quiet : goal.returns-in-AwaitsHelo-clause-quiet
returns-in-AwaitsHelo-clause-quiet c = λ silent.
    let at : c.args.at.now ≡ AwaitsHelo = search rules in
    c.helo_verdict.ensures.other (no_helo c.args.peer.now.login.now (salt_bytes c.args.peer.now.salt) c.args.at.now (awaited_of c.args.unacked.now) (bytes_of c.args.value) at (sym c.is_nil.ensures ∙ c.if-is_nil.false) silent)
