use Rattle.std.proofs.Common.{◌≡◌, ◌+◌, ◌<◌, ◌^◌, sym, ap, ◌∙◌, cond, false, refl, Some, IsSome, option_map, subst}
use Rattle.std.specs.Str.{bytes_eq}
use Rattle.std.specs.HashMap.{get_by}
use Rattle.fwd_chunks.specs.Newest.{tag_entry, held_by, bytes_by, raised}
use Rattle.fwd_chunks.proofs.Tagging.{tag_entry-seen, seen-updates}
use Rattle.fwd_chunks.proofs.Numbers.{true_false}
use Rattle.fwd_chunks.specs.contracts.tags.Tags.{the_view}
use Rattle.fwd_chunks.proofs.tags.Tags.raise.Goals as goal
use Rattle.fwd_chunks.proofs.tags.Tags.raise.Goals.{in-Some, in_default}

pub raised-requires-clause-held : goal.raised-requires-clause-held
raised-requires-clause-held c =
    let there = ap (tag_entry c.args.tag.now) (sym c.self.view_is) ∙ tag_entry-seen c.self.inside.entries.entries (λ k. k.items) c.args.tag.now ∙ sym c.in-Some.ensures.value in
    subst (λ o. held_by o + c.args.count < 2 ^ 64) there c.requires.held

pub raised-requires-clause-bytes : goal.raised-requires-clause-bytes
raised-requires-clause-bytes c =
    let there = ap (tag_entry c.args.tag.now) (sym c.self.view_is) ∙ tag_entry-seen c.self.inside.entries.entries (λ k. k.items) c.args.tag.now ∙ sym c.in-Some.ensures.value in
    subst (λ o. bytes_by o + c.args.size < 2 ^ 64) there c.requires.bytes

pub returns : goal.returns
returns c = λ t.
    let tag = c.args.tag.now in
    let m = c.self.inside.entries in
    let same : tag_entry c.args.tag.now c.args.self.now ≡ get_by (λ k. bytes_eq c.args.tag.now k.items) c.self.inside.entries = ap (tag_entry c.args.tag.now) (sym c.self.view_is) ∙ tag_entry-seen m.entries (λ k. k.items) tag in
    let there : IsSome (get_by (λ k. bytes_eq c.args.tag.now k.items) c.self.inside.entries) = subst IsSome same c.requires.there in
    elim c.match-get_mut.branch [
      | in-Some w ↦
          let entry : Some w.in-Some.place.now ≡ tag_entry c.args.tag.now c.args.self.now = w.in-Some.ensures.value ∙ sym same in
          ap (λ x. tag_entry t (the_view x)) w.self-inside-is
          ∙ seen-updates m (c.get_mut.follows.lender w.raised.result) (Some w.raised.result) (λ k. k.items) tag ((c.get_mut.follows.holds w.raised.result).3 there) t
          ∙ (λ i. cond (bytes_eq tag t) ((ap Some w.raised.ensures ∙ ap (option_map (raised c.args.number c.args.key c.args.count c.args.size)) entry) i) (tag_entry t (c.self.view_is i)))
      | in_default w ↦ absurd (true_false false (subst IsSome (sym w.in_default.ensures.value) there) refl)
    ]
