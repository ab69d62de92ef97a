use Rattle.std.proofs.Common.{◌∙◌, map, refl, sym, ap, subst}
use Rattle.fwd_book.specs.Receipts.{Receipt}
use Rattle.fwd_book.specs.Live.{live_leaves}
use Rattle.fwd_output.proofs.HandingOut.{origins-of_receipts}
use Rattle.fwd_output.proofs.OutputLemmas.{with_book}
use Rattle.fwd_output.proofs.Paging.{both-as}
use Rattle.fwd_output.proofs.paged_output.PagedOutput.hand_out.Goals as goal

pub invariant_of-self : goal.invariant_of-self
invariant_of-self g c =
    let o = c.self.inside in
    let k = o.state.book in
    let h = c.hand_out-given.ensures in
    let origins = ap (map (λ (r : Receipt). r.origin)) (c.deref.ensures.value ∙ h.2) ∙ origins-of_receipts k h.0 in
    both-as o.page c.told.new.self o.trial o.servers o.state c.hand_out-given.new.state _ c.self.invariant
    (h.3 ∙ ap (λ os. with_book (live_leaves k os) o.state) (sym origins)) refl
    (c.told.ensures o.state c.self.invariant.0.is)
