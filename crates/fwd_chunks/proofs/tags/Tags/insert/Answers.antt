use Rattle.std.proofs.Common.{◌∙◌, cond, Some}
use Rattle.std.specs.Str.{bytes_eq}
use Rattle.fwd_chunks.specs.Newest.{tag_entry}
use Rattle.fwd_chunks.proofs.Tagging.{seen-updates}
use Rattle.fwd_chunks.proofs.tags.Tags.insert.Goals as goal

pub returns-clause-ok : goal.returns-clause-ok
returns-clause-ok c = λ t.
    seen-updates c.self.inside.entries c.insert.new.self (Some c.args.entry) (λ k. k.items) c.in_ok-key.key.items c.in_ok-insert.ensures.updates t
    ∙ (λ i. cond (bytes_eq (c.in_ok-key.ensures.items i) t) (Some c.args.entry) (tag_entry t (c.self.view_is i)))
