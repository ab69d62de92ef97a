use Rattle.std.proofs.Common.{ap, ◌∙◌}
use Rattle.fwd_peers.specs.Peers.{PeerShown}
use Rattle.fwd_turns.proofs.Reading.{judged_leaves}
use Rattle.fwd_turns.proofs.leaving.take_ahead.Goals as goal

pub returns : goal.returns
returns g c = record {
  between = c.hear_ahead.new.self;
  takes = c.hear_ahead.ensures.taken;
  closed = c.hear_ahead.ensures.closed;
  after = c.judge.ensures;
  leave =
      ap (λ (p : PeerShown). p.leave) c.judge.ensures ∙ judged_leaves c.hear_ahead.new.self
      ∙ ap (λ (p : PeerShown). p.leave) c.hear_ahead.ensures.rest;
}
