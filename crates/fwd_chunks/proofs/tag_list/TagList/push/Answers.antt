use Rattle.std.proofs.Common.{[], ◌∷◌, ◌++◌, length, ap, ◌∙◌}
use Rattle.fwd_chunks.specs.Listing.{unpacked}
use Rattle.fwd_chunks.proofs.Unpacking.{names_len-push, unpacked-push}
use Rattle.fwd_chunks.proofs.tag_list.TagList.push.Goals as goal

pub invariant_of-self-2 : goal.invariant_of-self-2
invariant_of-self-2 c = rw (c.push_reserved.ensures.items, c.in_ok-extend_from_slice.ensures.items, c.in_ok-reserve.ensures.items) (names_len-push c.self.inside.rows.items c.self.inside.names.items c.args.tag.now c.args.held c.args.bytes c.self.invariant)

pub returns-clause-ok : goal.returns-clause-ok
returns-clause-ok c =
    (λ i. unpacked ((c.push_reserved.ensures.items ∙ ap (λ l. l ++ record { len = length c.args.tag.now; held = c.args.held; bytes = c.args.bytes } ∷ []) c.in_ok-reserve.ensures.items) i) (c.in_ok-extend_from_slice.ensures.items i))
    ∙ unpacked-push c.self.inside.rows.items c.self.inside.names.items c.args.tag.now c.args.held c.args.bytes c.self.invariant
    ∙ ap (λ l. l ++ record { tag = c.args.tag.now; held = c.args.held; bytes = c.args.bytes } ∷ []) c.self.view_is
