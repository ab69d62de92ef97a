use Rattle.std.proofs.Common.{sym, ap, subst, ◌∙◌}
use Rattle.std.specs.List.{concat}
use Rattle.std.specs.Arc.{arc_value}
use Rattle.fwd_modes.specs.Entries.{AreFull}
use Rattle.fwd_chunks.specs.Rows.{bytes_each}
use Rattle.fwd_chunks.proofs.Sending.{each_full, each_joined}
use Rattle.fwd_chunks.proofs.body.Body.parts.Goals as goal

pub returns-clause-joined : goal.returns-clause-joined
returns-clause-joined c =
    ap concat (c.new.ensures ∙ ap bytes_each (c.as_slice.ensures.value ∙ c.deref.ensures)) ∙ each_joined (arc_value c.self.inside.slices) ∙ ap concat c.self.view_is

pub returns-clause-full : goal.returns-clause-full
returns-clause-full c =
    subst AreFull (sym (c.new.ensures ∙ ap bytes_each c.as_slice.ensures.value)) (each_full _ c.as_slice.ensures.long)
