use Rattle.fwd_monitor.proofs.TextLemmas.{added}
use Rattle.fwd_monitor.specs.Tallies.{refused_lines}
use Rattle.fwd_monitor.proofs.tallies.push_refused_lines.Goals as goal

pub returns : goal.returns
unfolding refused_lines
returns c =
    added _ _ _ _ _ (added _ _ _ _ _
    (added _ _ _ _ _ c.in_ok-push_word.ensures c.in_ok-push_word-2.ensures)
    c.in_ok-push_word-3.ensures)
    c.in_ok-push_word-4.ensures
