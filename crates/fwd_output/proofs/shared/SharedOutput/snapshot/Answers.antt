use Rattle.std.proofs.Common.{Ok, Err, Result, IfOk}
use Rattle.std.specs.declared.alloc.AllocError.{AllocError}
use Rattle.fwd_chunks.specs.declared.snapshot.Snapshot.{Snapshot}
use Rattle.fwd_chunks.specs.Live.{LiveBuffer}
use Rattle.fwd_chunks.specs.Soundness.{IsSound}
use Rattle.fwd_chunks.specs.TagCounts.{IsSnapshot}
use Rattle.fwd_output.proofs.shared.SharedOutput.snapshot.Goals as goal

-- a snapshot of a sound buffer is one of some sound buffer
of_some : (b : LiveBuffer) → IsSound b → (made : Result Snapshot AllocError)
    → IfOk made (λ snapshot. IsSnapshot b snapshot)
    → IfOk made (λ snapshot. (b : LiveBuffer) × IsSound b × IsSnapshot b snapshot)
of_some b sound (Ok snapshot) is = (b, sound, is)
of_some b sound (Err error) is = tt

pub returns : goal.returns
returns g c =
    of_some c.deref.result.now.output.buffer c.snapshot.ensures.sound c.snapshot.result
    c.snapshot.ensures.snapshot
