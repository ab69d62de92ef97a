use Rattle.std.proofs.Common.{◌≡◌, refl, sym, ◌∙◌, ap, false}
use Rattle.std.specs.Prelude.{is_some}
use Rattle.std.specs.Arc.{arc_value}
use Rattle.fwd_handshake.specs.declared.credentials.Security.{Security}
use Rattle.fwd_source.specs.History.{Setup, is_guarded, opening_text}
use Rattle.fwd_source.proofs.source.Source.new.Goals as goal

pub returns-clause-ok : goal.returns-clause-ok
returns-clause-ok c =
    let setup : Setup = record { conn = c.args.conn; security = arc_value c.args.security; nonces = c.args.nonces; limits = c.args.limits } in
    let text : c.in-Ok.unsent.items ≡ opening_text setup = c.in-Ok.ensures setup (sym c.deref-2.ensures) refl in
    let awaits : c.is_some-awaits.result ≡ is_guarded setup = c.is_some-awaits.ensures ∙ ap (λ (s : Security). is_some s.shared_key) c.deref.ensures in
    λ i. record {
      setup = record setup { limits = (c.new.ensures i).limits };
      awaits = awaits i;
      rest = c.new-2.ensures.items i;
      waiting = c.new-3.ensures.items i;
      admitted = 0;
      unsent = text i;
      shut = false;
      closed = false;
    }
