use Rattle.std.proofs.Common.{◌≡◌, Bool, false, Ok, Result, List, ap, sym, subst, ◌∙◌}
use Rattle.std.specs.Prelude.{is_some, option_map}
use Rattle.fwd_session.specs.Live.{LiveSession}
use Rattle.fwd_workers.specs.declared.ending.EndReason.TheVariants as ending
use Rattle.fwd_environment.specs.Links.{Call}
use Rattle.fwd_workers.specs.Served.{IsOfLink, seen_in}
use Rattle.fwd_workers.proofs.Keeping.{looks-setup, same-window}
use Rattle.fwd_workers.proofs.Leading.{late-upstream, served-upstream, served-tended, up-upstream}
use Rattle.fwd_workers.proofs.upstream_turn.serve.Goals as goal

-- what was answered
answered : {E : Type 0} {x y : Bool} → ◌≡◌ {A = Result Bool E} (Ok x) (Ok y) → x ≡ false
    → y ≡ false
answered e f = cc

pub invariant_of-result-in_default : goal.invariant_of-result-in_default
invariant_of-result-in_default g c =
    let calls : List Call = g.L.Link.calls c.args.upstream.link in
    let on : is_some c.args.upstream.ending ≡ false = sym c.is_some.ensures ∙ c.if-is_some.false in
    let own = subst (λ b. ∥ IsOfLink c.args.upstream.session (seen_in calls) b ∥₁) on c.args.upstream.of_link in
    record {
      of_link = late-upstream c.args.upstream.session c.late-2.new.self c.args.now calls own
          (c.late-2.ensures.next (up-upstream c.args.upstream.session calls own));
      window = same-window c.args.upstream.session c.late-2.new.self
          (ap (λ (x : LiveSession). x.setup) (c.late-2.ensures.next (up-upstream c.args.upstream.session calls own))
          ∙ looks-setup c.args.upstream.session c.args.now) c.args.upstream.window;
    }

pub invariant_of-result-2 : goal.invariant_of-result-2
invariant_of-result-2 g c =
    let calls : List Call = g.L.Link.calls c.args.upstream.link in
    let on : is_some c.args.upstream.ending ≡ false = sym c.is_some.ensures ∙ c.if-is_some.false in
    let own = subst (λ b. ∥ IsOfLink c.args.upstream.session (seen_in calls) b ∥₁) on c.args.upstream.of_link in
    let up = up-upstream c.args.upstream.session calls own in
    record {
      of_link = served-upstream c.serve_in_room-served.result c.args.upstream.session c.late-2.new.self
          c.serve_in_room-served.new.session c.args.now calls
          (g.L.Link.calls c.serve_in_room-served.new.link) c.lost.result own
          (answered (c.in-Ok-false.ensures.late up) c.in-Ok-false.field-0-test)
          (c.late-2.ensures.next up) c.serve_in_room-served.ensures.served
          (c.lost.ensures ∙ ap (λ w. option_map ending.Lost w) c.loss_in.ensures);
      window = same-window c.args.upstream.session c.serve_in_room-served.new.session
          (c.serve_in_room-served.ensures.setup
          ∙ ap (λ (x : LiveSession). x.setup) (c.late-2.ensures.next up)
          ∙ looks-setup c.args.upstream.session c.args.now) c.args.upstream.window;
    }

pub returns-clause-turn : goal.returns-clause-turn
returns-clause-turn g c none =
    let calls : List Call = g.L.Link.calls c.args.upstream.link in
    let own = subst (λ o. ∥ IsOfLink c.args.upstream.session (seen_in calls) (is_some o) ∥₁) none c.args.upstream.of_link in
    let up = up-upstream c.args.upstream.session calls own in
    served-tended c.serve_in_room-served.result c.args.upstream.session c.late-2.new.self
    c.serve_in_room-served.new.session c.args.now calls
    (g.L.Link.calls c.serve_in_room-served.new.link) c.lost.result up
    (answered (c.in-Ok-false.ensures.late up) c.in-Ok-false.field-0-test)
    (c.late-2.ensures.next up) c.serve_in_room-served.ensures.turn c.serve_in_room-served.ensures.served
    (c.lost.ensures ∙ ap (λ w. option_map ending.Lost w) c.loss_in.ensures)
