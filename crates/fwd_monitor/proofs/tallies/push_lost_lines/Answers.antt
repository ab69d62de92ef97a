use Rattle.fwd_monitor.proofs.TextLemmas.{added}
use Rattle.fwd_monitor.specs.Tallies.{lost_lines}
use Rattle.fwd_monitor.proofs.tallies.push_lost_lines.Goals as goal

pub returns : goal.returns
unfolding lost_lines
returns c =
    added _ _ _ _ _ (added _ _ _ _ _ (added _ _ _ _ _ (added _ _ _ _ _ (added _ _ _ _ _
    (added _ _ _ _ _ (added _ _ _ _ _ (added _ _ _ _ _ (added _ _ _ _ _ (added _ _ _ _ _
    (added _ _ _ _ _ (added _ _ _ _ _ c.in_ok-push_word.ensures c.in_ok-push_word-2.ensures)
    c.in_ok-push_word-3.ensures)
    c.in_ok-push_word-4.ensures)
    c.in_ok-push_word-5.ensures)
    c.in_ok-push_word-6.ensures)
    c.in_ok-push_word-7.ensures)
    c.in_ok-push_word-8.ensures)
    c.in_ok-push_word-9.ensures)
    c.in_ok-push_word-10.ensures)
    c.in_ok-push_word-11.ensures)
    c.in_ok-push_word-12.ensures)
    c.in_ok-push_word-13.ensures
