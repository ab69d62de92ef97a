use Rattle.std.proofs.Common.{sym, ◌∙◌, subst, rules}
use Rattle.std.proofs.lemmas.List.Sorted.{answers_always}
use Rattle.fwd_chunks.specs.TagCounts.{AreTagCounts}
use Rattle.fwd_chunks.proofs.TagOrder.{comes_before, comes_before-weak, sorted-counts}
use Rattle.fwd_chunks.proofs.tag_list.TagList.sorted.Goals as goal

pub returns : goal.returns
returns c = λ held are.
    c.from_vec.ensures
    ∙ sorted-counts held c.in_ok-counts.counts.items c.sort_unstable_by.new.self.items (subst (AreTagCounts held) (sym c.in_ok-counts.ensures) are) c.sort_unstable_by.ensures.permutation
    (c.sort_unstable_by.ensures.sorted comes_before comes_before-weak (answers_always _ _ _ (λ f a r g k. search rules)))
