use Rattle.std.proofs.Common.{◌∙◌, ◌++◌, List, ℕ, ap}
use Rattle.std.specs.Prelude.{codes}
use Rattle.std.specs.Net.Text.{socket_text}
use Rattle.fwd_monitor.specs.Tallies.{place_front, server_front}
use Rattle.fwd_monitor.proofs.tallies.server_front.Goals as goal

pub returns : goal.returns
unfolding server_front
returns c =
    let name = c.args.name.now in
    let s = c.args.server.now in
    c.in_ok-push_address.ensures
    ∙ ap (λ (l : List ℕ). l ++ (socket_text s.address ++ codes "\""))
    (c.in_ok-push_place.ensures
    ∙ ap (λ (l : List ℕ). l ++ place_front name s.output s.place) c.new-front.ensures.bytes)
