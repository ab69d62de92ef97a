use Rattle.std.proofs.Common.{ap, ◌∙◌}
use Rattle.fwd_peers.specs.Peers.{PeerShown}
use Rattle.fwd_source.specs.Live.{LiveSource}
use Rattle.fwd_turns.proofs.Reading.{taken_gives}
use Rattle.fwd_turns.proofs.leaving.read_last.Goals as goal

pub returns : goal.returns
returns g c =
    ap (λ (p : PeerShown). p.live.admitted) c.leave_by.ensures
    ∙ ap (λ (l : LiveSource). l.admitted) c.drop_front-dropped.ensures
    ∙ taken_gives c.in-Leaves.taken _ c.args.source.now c.take_ahead.new.source
    c.take_ahead.ensures
