use Rattle.std.proofs.Common.{◌≡◌, Some, None, IfSome, sym, ap, subst, ◌∙◌}
use Rattle.std.specs.Prelude.{is_some, option_map}
use Rattle.std.specs.Arc.{arc_value}
use Rattle.fwd_handshake.specs.Draws.{hex_drawn}
use Rattle.fwd_session.specs.History.{is_done}
use Rattle.fwd_session.specs.Live.{LiveSession}
use Rattle.fwd_run.specs.Pages.{WorkerKnown}
use Rattle.fwd_output.specs.declared.offer.Found.{Found}
use Rattle.fwd_output.specs.Paged.{taken_of}
use Rattle.fwd_workers.specs.declared.worker.SessionTerms.{SessionTerms}
use Rattle.fwd_workers.specs.Choosing.{HasGoneOver}
use Rattle.fwd_workers.specs.declared.ending.EndReason.{EndReason}
use Rattle.fwd_workers.specs.declared.upstream.WorkerState.TheVariants as state
use Rattle.fwd_workers.specs.Endings.{idle_ending, news_of}
use Rattle.fwd_workers.specs.Placed.{Becomes, Stands, with}
use Rattle.fwd_workers.specs.Working.{HasTakenNext, IsTended, setup_by}
use Rattle.fwd_workers.proofs.Placing.{becomes-then, moves-with, stands-as}
use Rattle.fwd_workers.proofs.Taking.{by-ending, goes-on, gone-over}
use Rattle.fwd_workers.proofs.worker.Worker.take_next.Goals as goal

pub returns-then-is_some-clause-taken : goal.returns-then-is_some-clause-taken
returns-then-is_some-clause-taken g c none =
    let turn = c.serve_free.ensures.turn none in
    let idle : EndReason → EndReason =
    λ why. idle_ending why (is_done c.serve_free.result.upstream.session.handshake) in
    by-ending c.serve_free.result.upstream.ending
    (λ on.
    let same = c.allow_close-free.ensures.ending ∙ ap (option_map idle) on in
    subst (λ at. HasTakenNext at c.stand.new.self.event c.args.free.upstream.session
    c.args.context.now.now (g.H.Line.Link.calls c.args.free.upstream.link)
    (setup_by (arc_value c.args.self.now.terms.login) (hex_drawn 0 4 c.args.self.now.rng)
    c.args.self.now.terms.acks c.args.context.now.now))
    (sym (c.stand.ensures.stands same).0)
    (goes-on c.args.free.upstream.session c.serve_free.result.upstream.session
    c.allow_close-free.result.upstream.session c.args.context.now.now
    (g.H.Line.Link.calls c.args.free.upstream.link)
    (g.H.Line.Link.calls c.serve_free.result.upstream.link)
    c.serve_free.result.upstream.ending c.allow_close-free.result.upstream.ending idle turn
    c.allow_close-free.ensures.session c.allow_close-free.ensures.ending (ap is_some same)))
    (λ why over.
    let same = c.allow_close-free.ensures.ending ∙ ap (option_map idle) over in
    let ends = subst (λ o. IfSome o (λ w. (c.stand.result ≡ state.Idle)
    × (c.stand.new.self.event
    ≡ news_of w c.allow_close-free.result.upstream.session.setup.server 0)))
    same c.stand.ensures.ends in
    subst (λ at. HasTakenNext at c.stand.new.self.event c.args.free.upstream.session
    c.args.context.now.now (g.H.Line.Link.calls c.args.free.upstream.link)
    (setup_by (arc_value c.args.self.now.terms.login) (hex_drawn 0 4 c.args.self.now.rng)
    c.args.self.now.terms.acks c.args.context.now.now))
    (sym ends.0) (
      c.serve_free.result.upstream.session,
      g.H.Line.Link.calls c.serve_free.result.upstream.link,
      why,
      subst (λ w. IsTended c.args.free.upstream.session c.serve_free.result.upstream.session
          c.args.context.now.now (g.H.Line.Link.calls c.args.free.upstream.link)
          (g.H.Line.Link.calls c.serve_free.result.upstream.link) w) over turn,
      ends.1 ∙ ap (λ t. news_of (idle why) t.setup.server 0) c.allow_close-free.ensures.session,
    ))

pub returns-in-Nothing-clause-taken : goal.returns-in-Nothing-clause-taken
returns-in-Nothing-clause-taken g c none =
    goes-on c.args.free.upstream.session c.serve_free.result.upstream.session
    c.allow_close-free.result.upstream.session c.args.context.now.now
    (g.H.Line.Link.calls c.args.free.upstream.link)
    (g.H.Line.Link.calls c.serve_free.result.upstream.link)
    c.serve_free.result.upstream.ending c.allow_close-free.result.upstream.ending
    (λ why. idle_ending why (is_done c.serve_free.result.upstream.session.handshake))
    (c.serve_free.ensures.turn none) c.allow_close-free.ensures.session c.allow_close-free.ensures.ending
    (sym c.is_some.ensures ∙ c.if-is_some.false)

pub returns-in-Took-clause-taken : goal.returns-in-Took-clause-taken
returns-in-Took-clause-taken g c none =
    let on = goes-on c.args.free.upstream.session c.serve_free.result.upstream.session
    c.allow_close-free.result.upstream.session c.args.context.now.now
    (g.H.Line.Link.calls c.args.free.upstream.link)
    (g.H.Line.Link.calls c.serve_free.result.upstream.link)
    c.serve_free.result.upstream.ending c.allow_close-free.result.upstream.ending
    (λ why. idle_ending why (is_done c.serve_free.result.upstream.session.handshake))
    (c.serve_free.ensures.turn none) c.allow_close-free.ensures.session c.allow_close-free.ensures.ending
    (sym c.is_some.ensures ∙ c.if-is_some.false) in
    (on.0, sym c.is_ready.ensures ∙ c.if-not-is_ready.false, on.1)

pub returns-in-Some-clause-taken : goal.returns-in-Some-clause-taken
returns-in-Some-clause-taken g c none =
    let m = c.look_for-found.new.self in
    let terms : m.terms ≡ c.args.self.now.terms = ap (λ w. w.terms) c.look_for-found.ensures.kept ∙ ap (λ w. w.terms) c.serve_free.ensures.kept in
    let rng : m.rng ≡ c.args.self.now.rng = ap (λ w. w.rng) c.look_for-found.ensures.kept ∙ ap (λ w. w.rng) c.serve_free.ensures.kept in
    let gone = subst (λ (u : SessionTerms). HasGoneOver c.go_over.result c.allow_close-free.result
    (setup_by (arc_value u.login) (hex_drawn 0 4 c.args.self.now.rng) u.acks c.args.context.now.now c.in-Some.way.server)) terms
    (subst (λ r. HasGoneOver c.go_over.result c.allow_close-free.result
    (setup_by (arc_value m.terms.login) (hex_drawn 0 4 r) m.terms.acks c.args.context.now.now c.in-Some.way.server)) rng
    c.go_over.ensures.gone) in
    gone-over c.go_over.result c.allow_close-free.result
    (setup_by (arc_value c.args.self.now.terms.login) (hex_drawn 0 4 c.args.self.now.rng)
    c.args.self.now.terms.acks c.args.context.now.now)
    c.in-Some.way.server c.go_over.new.self.event c.args.free.upstream.session
    c.args.context.now.now (g.H.Line.Link.calls c.args.free.upstream.link)
    gone
    (goes-on c.args.free.upstream.session c.serve_free.result.upstream.session
    c.allow_close-free.result.upstream.session c.args.context.now.now
    (g.H.Line.Link.calls c.args.free.upstream.link)
    (g.H.Line.Link.calls c.serve_free.result.upstream.link)
    c.serve_free.result.upstream.ending c.allow_close-free.result.upstream.ending
    (λ why. idle_ending why (is_done c.serve_free.result.upstream.session.handshake))
    (c.serve_free.ensures.turn none) c.allow_close-free.ensures.session c.allow_close-free.ensures.ending
    (sym c.is_some.ensures ∙ c.if-is_some.false))
    (sym c.is_ready.ensures ∙ c.if-not-is_ready.false)

pub go_over-requires-clause-stands : goal.go_over-requires-clause-stands
go_over-requires-clause-stands g c =
    let k = c.args.self.now.page in
    let l = c.serve_free.new.self.page in
    let m = c.look_for-found.new.self.page in
    let s = c.args.free.upstream.session in
    let t = c.serve_free.result.upstream.session in
    let x = with None (Some t) in
    let served : Becomes k l x = moves-with k l None s t c.requires.has c.serve_free.ensures.moves in
    let passed : Becomes l m x = c.look_for-found.ensures.takes x (ap (λ (n : WorkerKnown). n.has) served) ∙ ap (λ (f : Found). record l { has = Some (with (taken_of f) (Some t)) }) c.in-Passed.is in
    let own : Stands m x c.args.self.now.terms = stands-as k m (with None (Some s)) x c.args.self.now.terms c.requires (becomes-then k l m x x served passed) in
    let terms : c.args.self.now.terms ≡ c.look_for-found.new.self.terms = sym (ap (λ w. w.terms) c.look_for-found.ensures.kept ∙ ap (λ w. w.terms) c.serve_free.ensures.kept) in
    subst (λ (u : LiveSession). Stands m (with None (Some u)) c.look_for-found.new.self.terms) (sym c.allow_close-free.ensures.session)
    (subst (λ (u : SessionTerms). Stands m x u) terms own)
