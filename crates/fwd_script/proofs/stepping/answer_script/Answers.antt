use Rattle.std.proofs.Common.{◌≡◌, Result, Ok, Err, subst, sym, ◌∙◌}
use Rattle.std.specs.Prelude.{OnOk, IfErr}
use Rattle.fwd_script.specs.declared.status.Status.{Status}
use Rattle.fwd_script.specs.declared.status.Status.TheVariants.{Output, Memory}
use Rattle.fwd_script.specs.declared.writing.WriteFailed.{WriteFailed}
use Rattle.fwd_script.specs.Script.{lines_of}
use Rattle.fwd_script.specs.Replay.{Ends}
use Rattle.fwd_script.proofs.ReplayLemmas.{Ends-keeps, Ends-output, MeetsMemory-keeps}
use Rattle.fwd_script.proofs.stepping.answer_script.Goals as goal

-- a result that is fine leaves the status, and one that is not makes it a failed write
by_flush : {T : Type 0} (r : Result T WriteFailed) (status result : Status)
    (P : Status → Type 0) → OnOk r (result ≡ status)
    → IfErr r (λ failed. result ≡ Output failed) → P status
    → ((failed : WriteFailed) → P (Output failed)) → P result
by_flush (Ok x) status result P ok err good failed = subst P (sym ok) good
by_flush (Err e) status result P ok err good failed = subst P (sym err) (failed e)

still_memory : {T : Type 0} (r : Result T WriteFailed) (status result : Status)
    → OnOk r (result ≡ status) → IfErr r (λ failed. result ≡ Output failed)
    → result ≡ Memory → status ≡ Memory
still_memory (Ok x) status result ok err h = sym ok ∙ h
still_memory (Err e) status result ok err h = absurd cc

pub returns-clause-ends : goal.returns-clause-ends
returns-clause-ends g c =
    let old = g.W.Write.contents c.args.writer.now in
    let mid = g.W.Write.contents c.answer_lines-status.new.writer in
    let new = g.W.Write.contents c.flush.new.writer in
    let lines = lines_of c.args.script.events.now in
    let ends = Ends-keeps g.S.Step.answer_to g.S.Step.next c.args.relay.now c.answer_lines-status.result c.args.script.lines_before lines old mid new c.answer_lines-status.ensures.ends c.flush.ensures in
    by_flush c.flush.result c.answer_lines-status.result c.flushed.result
    (λ s. Ends s g.S.Step.answer_to g.S.Step.next c.args.relay.now c.args.script.lines_before lines old new)
    c.flushed.ensures.ok c.flushed.ensures.err ends
    (λ failed. Ends-output g.S.Step.answer_to g.S.Step.next c.args.relay.now c.answer_lines-status.result failed c.args.script.lines_before lines old new ends)

pub returns-clause-memory : goal.returns-clause-memory
returns-clause-memory g c h =
    let met = c.answer_lines-status.ensures.memory (still_memory c.flush.result c.answer_lines-status.result c.flushed.result c.flushed.ensures.ok c.flushed.ensures.err h) in
    MeetsMemory-keeps _ _ _ _ _ _ _ _ met c.flush.ensures
