use Rattle.std.proofs.Common.{◌≡◌, Some, true, false, sym, ap, subst, ◌∙◌}
use Rattle.fwd_source.specs.Live.{LiveSource, source_gives}
use Rattle.fwd_run.specs.Pages.{SourceKnown}
use Rattle.fwd_output.specs.PagedSources.{AgreesWith, SourceShown, Stands, first_asked, first_route}
use Rattle.fwd_output.proofs.Knowing.{gives_agrees, gives_first, gives_id, gives_stands, is_asked}
use Rattle.fwd_output.proofs.paged_source.PagedSource.enter.Goals as goal

true_false : true ≡ false → ⊥
true_false e = cc

pub admit-requires : goal.admit-requires
admit-requires g c =
    let stands = c.self.invariant.1 in
    let same = c.after.ensures.same stands.source stands.is in
    is_asked c.after.new.self c.self.inside.source.live c.requires.0 c.args.entrance.number (c.in-Some.origin, c.in-Some.batch)
    (ap (λ (k : SourceKnown). k.id) same ∙ c.self.invariant.0)
    (subst Stands (sym same) stands)
    (λ s at. c.self.invariant.2 c.if-self.false s (ap (λ (k : SourceKnown). k.is) (sym same) ∙ at))
    (c.after.ensures.routes stands.source c.requires.0 stands.is c.requires.1)
    (sym c.in-Some.ensures.value)
    (ap (λ (s : SourceShown). first_route c.requires.0 s.live) c.self.view_is ∙ c.requires.2)

pub invariant_of-self-in-Ok : goal.invariant_of-self-in-Ok
invariant_of-self-in-Ok g c =
    let stands = c.self.invariant.1 in
    let live = c.self.inside.source.live in
    let same = c.after.ensures.same stands.source stands.is in
    let first : first_asked live ≡ Some (c.in-Some.origin, c.in-Some.batch) = sym c.in-Some.ensures.value in
    let next : c.next.new.self.live ≡ source_gives live = c.in-Some.ensures.live ∙ gives_first live (c.in-Some.origin, c.in-Some.batch) first in
    let here : Stands c.after.new.self = subst Stands (sym same) stands in (
      gives_id c.after.new.self c.admit.new.source here c.in-Ok.ensures.gives
          ∙ ap (λ (k : SourceKnown). k.id) same ∙ c.self.invariant.0 ∙ ap (λ (s : LiveSource). s.setup.conn) (sym next),
      gives_stands c.after.new.self c.admit.new.source here c.in-Ok.ensures.gives,
      λ ok. gives_agrees c.after.new.self c.admit.new.source here c.in-Ok.ensures.gives live c.next.new.self.live
          (λ s at. c.self.invariant.2 ok s (ap (λ (k : SourceKnown). k.is) (sym same) ∙ at)) next,
    )

pub invariant_of-self-in-Err : goal.invariant_of-self-in-Err
invariant_of-self-in-Err g c =
    let stands = c.self.invariant.1 in
    let live = c.self.inside.source.live in
    let same = c.in-Err.ensures.stays ∙ c.after.ensures.same stands.source stands.is in
    let first : first_asked live ≡ Some (c.in-Some.origin, c.in-Some.batch) = sym c.in-Some.ensures.value in
    let next : c.next.new.self.live ≡ source_gives live = c.in-Some.ensures.live ∙ gives_first live (c.in-Some.origin, c.in-Some.batch) first in (
      ap (λ (k : SourceKnown). k.id) same ∙ c.self.invariant.0 ∙ ap (λ (s : LiveSource). s.setup.conn) (sym next),
      subst Stands (sym same) stands,
      λ bad. absurd (true_false bad),
    )
