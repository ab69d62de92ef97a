use Rattle.std.proofs.Common.{◌≡◌, ◌+◌, ◌-◌, length, arith, ap, ◌∙◌}
use Rattle.std.specs.Prelude.{map}
use Rattle.std.specs.Arc.{arc_value}
use Rattle.fwd_session.specs.Flights.{accepted_of, loaded_of}
use Rattle.fwd_session.specs.Live.{live_room}
use Rattle.fwd_session.proofs.Carrying.{accepted_length, loaded_length}
use Rattle.fwd_session.proofs.session.Session.room.Goals as goal

pub returns : goal.returns
returns c =
    let s = c.self.inside in
    let many : c.len.result + c.len-2.result ≡ length (loaded_of (length s.greeting) s.frames s.carried) + length (accepted_of (map (λ p. (arc_value p.0, p.1)) s.accepted.items)) =
    omega (arith, c.len.ensures, c.len-2.ensures, s.accepted.ok.0, loaded_length (length s.greeting) s.frames s.carried, accepted_length (λ p. (arc_value p.0, p.1)) s.accepted.items) in
    (λ i. c.from.ensures i - many i) ∙ ap live_room c.self.view_is
