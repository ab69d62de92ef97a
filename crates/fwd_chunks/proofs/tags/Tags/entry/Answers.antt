use Rattle.std.proofs.Common.{rules, ◌≡◌, sym, ap, ◌∙◌}
use Rattle.fwd_chunks.specs.Newest.{tag_entry}
use Rattle.fwd_chunks.proofs.Tagging.{named-entry, tag_entry-seen}
use Rattle.fwd_chunks.proofs.tags.Tags.entry.Goals as goal

pub returns-in-Some : goal.returns-in-Some
returns-in-Some c =
    let tag = c.args.tag.now in
    let same : c.in-Some.name.now.items ≡ tag = search rules in
    sym (ap (tag_entry tag) (sym c.self.view_is) ∙ named-entry c.self.inside.entries.entries (λ k. k.items) c.in-Some.name.now tag c.in-Some.entry.now same c.in-Some.ensures.value)

pub returns-in_default : goal.returns-in_default
returns-in_default c = c.copied.ensures ∙ c.get.ensures.value ∙ sym (tag_entry-seen c.self.inside.entries.entries (λ k. k.items) c.args.tag.now) ∙ ap (tag_entry c.args.tag.now) c.self.view_is
