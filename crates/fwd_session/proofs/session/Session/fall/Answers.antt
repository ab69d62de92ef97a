use Rattle.std.proofs.Common.{◌≡◌, ◌++◌, true, length, sym, ap, ◌∙◌}
use Rattle.std.specs.Prelude.{map}
use Rattle.std.specs.List.{concat}
use Rattle.fwd_session.specs.Live.{LiveSession, falls_with}
use Rattle.fwd_session.specs.Flights.{loaded_of}
use Rattle.fwd_session.proofs.Carrying.{loaded_down}
use Rattle.fwd_session.proofs.session.Session.fall.Goals as goal

pub returns : goal.returns
returns c =
    let s = c.self.inside in
    let carried : loaded_of (length c.clear.new.self) c.clear-2.new.self s.carried ≡ map (falls_with true) c.args.self.now.carried =
    (λ i. loaded_of (length (c.clear.ensures i)) (c.clear-2.ensures i) s.carried)
    ∙ sym (loaded_down (length s.greeting) s.frames s.carried)
    ∙ ap (λ (v : LiveSession). map (falls_with true) v.carried) c.self.view_is in
    λ i. record (c.self.view_is i) {
      waiting = c.clear.ensures i ++ concat (c.clear-2.ensures i);
      rest = c.clear-3.ensures.items i;
      carried = carried i;
      down = true;
    }
