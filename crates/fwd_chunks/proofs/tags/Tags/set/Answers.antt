use Rattle.std.proofs.Common.{◌≡◌, sym, ap, ◌∙◌, cond, false, refl, Some, IsSome, subst}
use Rattle.std.specs.Str.{bytes_eq}
use Rattle.std.specs.HashMap.{get_by}
use Rattle.fwd_chunks.specs.Newest.{tag_entry}
use Rattle.fwd_chunks.proofs.Numbers.{true_false}
use Rattle.fwd_chunks.proofs.Tagging.{tag_entry-seen, seen-updates}
use Rattle.fwd_chunks.specs.contracts.tags.Tags.{the_view}
use Rattle.fwd_chunks.proofs.tags.Tags.set.Goals as goal
use Rattle.fwd_chunks.proofs.tags.Tags.set.Goals.{in-Some, in_default}

pub returns : goal.returns
returns c = λ t.
    let tag = c.args.tag.now in
    let m = c.self.inside.entries in
    let same : tag_entry c.args.tag.now c.args.self.now ≡ get_by (λ k. bytes_eq c.args.tag.now k.items) c.self.inside.entries = ap (tag_entry c.args.tag.now) (sym c.self.view_is) ∙ tag_entry-seen m.entries (λ k. k.items) tag in
    let there : IsSome (get_by (λ k. bytes_eq c.args.tag.now k.items) c.self.inside.entries) = subst IsSome same c.requires in
    elim c.match-get_mut.branch [
      | in-Some w ↦
          ap (λ x. tag_entry t (the_view x)) w.self-inside-is
          ∙ seen-updates m (c.get_mut.follows.lender c.args.entry) (Some c.args.entry) (λ k. k.items) tag ((c.get_mut.follows.holds c.args.entry).3 there) t
          ∙ (λ i. cond (bytes_eq tag t) (Some c.args.entry) (tag_entry t (c.self.view_is i)))
      | in_default w ↦ absurd (true_false false (subst IsSome (sym w.in_default.ensures.value) there) refl)
    ]
