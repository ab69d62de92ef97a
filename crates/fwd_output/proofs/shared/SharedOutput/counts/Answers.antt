use Rattle.fwd_output.proofs.shared.SharedOutput.counts.Goals as goal

pub returns-clause-buffer : goal.returns-clause-buffer
returns-clause-buffer g c =
    (c.deref.result.now.output.buffer, c.counts.ensures.sound, c.counts.ensures.counts)
