use Rattle.std.proofs.Common.{◌≡◌, [], false, cond, refl, sym, ap, ◌∙◌}
use Rattle.std.specs.Prelude.{is_some, map}
use Rattle.fwd_session.specs.Live.{falls_with}
use Rattle.fwd_session.proofs.Lists.{map_none}
use Rattle.fwd_session.proofs.session.Session.fall_for.Goals as goal

pub returns-else-is_some : goal.returns-else-is_some
returns-else-is_some c =
    let s = c.args.self.now in
    let none : false ≡ is_some c.args.fault = sym c.if-is_some.false ∙ c.is_some.ensures in
    λ i. record s {
      waiting = cond (none i) [] s.waiting;
      rest = cond (none i) [] s.rest;
      carried = (sym (map_none (falls_with false) s.carried (λ l. refl)) ∙ ap (λ b. map (falls_with b) s.carried) none) i;
      down = (c.requires ∙ none) i;
    }
