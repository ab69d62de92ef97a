use Rattle.std.proofs.Common.{◌++◌, ◌∷◌, [], sym, ap, ◌∙◌, subst, map, arith}
use Rattle.std.specs.Str.{bytes_eq}
use Rattle.std.specs.List.{IsDistinct}
use Rattle.fwd_chunks.specs.Listing.{listed}
use Rattle.fwd_chunks.proofs.Tagging.{entry-at, listed-next, listed-all, seen-distinct}
use Rattle.fwd_chunks.proofs.tags.Tags.listed.Goals as goal
use Rattle.fwd_chunks.proofs.tags.Tags.listed.Goals.{in-Some+in_ok-push, in_default}

pub loop-place-init : goal.loop-place-init
loop-place-init c = c.new-list.ensures

pub loop-place-preserved : goal.loop-place-preserved
loop-place-preserved c =
    elim c.match-get_index.branch [
      | in-Some+in_ok-push w ↦
          w.list-is ∙ w.in_ok-push.ensures.ok
          ∙ (λ i. c.loop-place.invariant i ++ record { tag = w.deref.ensures.value i; held = w.in-Some.entry.now.held; bytes = w.in-Some.entry.now.bytes } ∷ [])
          ∙ listed-next c.self.inside.entries.entries (λ k. k.items) c.loop-place.place (w.in-Some.tag.now, w.in-Some.entry.now) (sym w.in-Some.ensures.entry)
      | in_default w ↦ absurd (entry-at c.self.inside.entries.entries c.loop-place.place (omega (arith, c.loop-place-test.true, c.len-place-end.ensures.len)) (sym w.in_default.ensures.entry))
    ]

pub returns-clause-list : goal.returns-clause-list
returns-clause-list c = c.loop-place.invariant
    ∙ listed-all c.self.inside.entries.entries (λ k. k.items) c.loop-place.place (omega (arith, c.loop-place-test.false, c.len-place-end.ensures.len))
    ∙ ap listed c.self.view_is

pub returns-clause-once : goal.returns-clause-once
returns-clause-once c = subst (λ es. IsDistinct bytes_eq (map (λ e. e.0) es)) c.self.view_is (seen-distinct c.self.inside.entries.entries (λ k. k.items) c.len-place-end.ensures.unique)
