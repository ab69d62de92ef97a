use Rattle.std.proofs.Common.{◌∙◌, cond, None}
use Rattle.std.specs.Str.{bytes_eq}
use Rattle.fwd_chunks.specs.Newest.{tag_entry}
use Rattle.fwd_chunks.proofs.Tagging.{seen-updates}
use Rattle.fwd_chunks.proofs.tags.Tags.remove.Goals as goal

pub returns : goal.returns
returns c = λ t.
    seen-updates c.self.inside.entries c.swap_remove.new.self None (λ k. k.items) c.args.tag.now c.swap_remove.ensures.updates t
    ∙ (λ i. cond (bytes_eq c.args.tag.now t) None (tag_entry t (c.self.view_is i)))
