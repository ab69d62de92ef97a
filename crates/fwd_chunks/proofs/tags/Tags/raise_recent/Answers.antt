use Rattle.std.proofs.Common.{rules, ◌≡◌, ◌+◌, ◌<◌, ◌^◌, sym, ap, ◌∙◌, cond, Some, option_map, subst}
use Rattle.std.specs.Prelude.{slice_get}
use Rattle.std.specs.Str.{bytes_eq}
use Rattle.indexmap.specs.IndexMap.{with_value_at}
use Rattle.indexmap.proofs.CallerLemmas.{updates-with_value_at}
use Rattle.fwd_chunks.specs.Newest.{tag_entry, held_by, bytes_by, raised}
use Rattle.fwd_chunks.proofs.Tagging.{by_bytes, named-entry, seen-updates}
use Rattle.fwd_chunks.specs.contracts.tags.Tags.{the_view}
use Rattle.fwd_chunks.proofs.tags.Tags.raise_recent.Goals as goal
use Rattle.fwd_chunks.proofs.tags.Tags.raise_recent.Goals.{in-Some-get_index_mut, in-None}

pub raised-raised-requires-clause-held : goal.raised-raised-requires-clause-held
raised-raised-requires-clause-held c =
    let tag = c.args.tag.now in
    let same : c.in-Some.name.now.items ≡ tag = search rules in
    let there = ap (tag_entry tag) (sym c.self.view_is) ∙ named-entry c.self.inside.entries.entries (λ k. k.items) c.in-Some.name.now tag c.in-Some.entry.now same c.in-Some.ensures.value in
    subst (λ o. held_by o + c.args.count < 2 ^ 64) there c.requires.held

pub raised-raised-requires-clause-bytes : goal.raised-raised-requires-clause-bytes
raised-raised-requires-clause-bytes c =
    let tag = c.args.tag.now in
    let same : c.in-Some.name.now.items ≡ tag = search rules in
    let there = ap (tag_entry tag) (sym c.self.view_is) ∙ named-entry c.self.inside.entries.entries (λ k. k.items) c.in-Some.name.now tag c.in-Some.entry.now same c.in-Some.ensures.value in
    subst (λ o. bytes_by o + c.args.size < 2 ^ 64) there c.requires.bytes

pub returns-clause-raised : goal.returns-clause-raised
returns-clause-raised c = λ yes t.
    let tag = c.args.tag.now in
    let m = c.self.inside.entries in
    let entry = c.in-Some.entry.now in
    let same : c.in-Some.name.now.items ≡ tag = search rules in
    let there : tag_entry tag c.args.self.now ≡ Some entry = ap (tag_entry tag) (sym c.self.view_is) ∙ named-entry m.entries (λ k. k.items) c.in-Some.name.now tag entry same c.in-Some.ensures.value in
    elim c.match-get_index_mut.branch [
      | in-Some-get_index_mut w ↦
          let at : slice_get m.entries c.self.inside.recent ≡ Some (c.in-Some.name.now, entry) = sym c.in-Some.ensures.entry in
          let updates = updates-with_value_at m c.self.inside.recent c.raised-raised.result {eq = λ x y. bytes_eq x.items y.items} (by_bytes (λ k. k.items)) c.get_index_mut.ensures.unique c.in-Some.name.now entry at in
          ap (λ x. tag_entry t (the_view x)) w.self-inside-is
          ∙ seen-updates m (with_value_at m c.self.inside.recent c.raised-raised.result) (Some c.raised-raised.result) (λ k. k.items) c.in-Some.name.now.items updates t
          ∙ (λ i. cond (bytes_eq (same i) t) ((ap Some c.raised-raised.ensures ∙ ap (option_map (raised c.args.number c.args.key c.args.count c.args.size)) (sym there)) i) (tag_entry t (c.self.view_is i)))
      | in-None w ↦ absurd (let no = sym yes ∙ w.result-is in cc)
    ]
