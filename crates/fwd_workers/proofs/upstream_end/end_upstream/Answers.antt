use Rattle.std.proofs.Common.{◌≡◌, ◌<◌, [], ◌∷◌, List, arith, length, Some, None, Option, false, refl, ap, subst, sym, ◌∙◌}
use Rattle.std.specs.Prelude.{is_some, option_map}
use Rattle.fwd_model.specs.Live.{lives}
use Rattle.fwd_model.specs.Step.{lost_server}
use Rattle.fwd_session.specs.History.{first_in}
use Rattle.fwd_session.specs.ServerAcks.{Accepted}
use Rattle.fwd_run.specs.Pages.{WorkerKnown}
use Rattle.fwd_session.specs.Live.{LiveSession}
use Rattle.fwd_workers.proofs.Keeping.{unloads-less}
use Rattle.fwd_workers.specs.Working.{entries_in}
use Rattle.fwd_workers.specs.Placed.{with}
use Rattle.fwd_workers.proofs.Earning.{kept-parts}
use Rattle.fwd_workers.proofs.Placing.{becomes-none, becomes-then, may-end, moves-with}
use Rattle.fwd_workers.proofs.upstream_end.end_upstream.Goals as goal

pub loop-seat-smaller : goal.loop-seat-smaller
loop-seat-smaller g c =
    subst (λ (x : LiveSession). length x.accepted < length c.loop-seat.upstream.session.accepted)
    (sym c.settle_upstream-event.ensures.settled)
    (unloads-less c.loop-seat.upstream.session (sym c.is_acked.ensures ∙ c.loop-seat-test.true))

pub loop-seat-preserved : goal.loop-seat-preserved
loop-seat-preserved g c = (
  λ none.
      let before = c.loop-seat.invariant.0 none in
      let same = c.settle_upstream-event.ensures.none before.0 in
      (ap (λ (x : LiveSession). x.accepted) same.1 ∙ before.0, same.0 ∙ before.1),
  omega (arith, c.loop-seat.invariant.1, c.settle_upstream-event.ensures.count),
  c.settle_upstream-event.ensures.parts ∙ c.loop-seat.invariant.2,
  let session = c.loop-seat.upstream.session in
      omega (
        arith,
        c.loop-seat.invariant.3,
        c.settle_upstream-event.ensures.most,
        kept-parts g.S.Tally.kept g.met.S.Tally.kept_adds session.accepted,
        ap (λ (x : LiveSession). g.S.Tally.kept (entries_in x.accepted)) c.settle_upstream-event.ensures.settled,
      ),
  becomes-then c.args.page.now c.loop-seat.page c.settle_upstream-event.new.page (with c.args.taken (Some c.loop-seat.upstream.session)) (with c.args.taken (Some c.settle_upstream-event.new.upstream.session)) c.loop-seat.invariant.4
      (moves-with c.loop-seat.page c.settle_upstream-event.new.page c.args.taken c.loop-seat.upstream.session c.settle_upstream-event.new.upstream.session (ap (λ (k : WorkerKnown). k.has) c.loop-seat.invariant.4) c.settle_upstream-event.ensures.moves),
)

none-acked : (acks : List Accepted) → is_some (option_map (λ (a : Accepted). a.chunk) (first_in acks)) ≡ false → acks ≡ []
none-acked [] e = refl
none-acked (a ∷ acks) e = absurd cc

pub loop-seat-init : goal.loop-seat-init
loop-seat-init g c = (
  λ none. (none, refl),
  omega arith,
  refl,
  omega arith,
  becomes-none c.args.page.now (with c.args.taken (Some c.args.upstream.session)) c.requires,
)

pub settle_upstream-event-requires : goal.settle_upstream-event-requires
settle_upstream-event-requires g c = (c.args.taken, ap (λ (k : WorkerKnown). k.has) c.loop-seat.invariant.4)

pub give_back-requires : goal.give_back-requires
give_back-requires g c =
    let s = c.loop-seat.upstream.session in
    let l = c.leave_upstream-leaving.ensures in
    let left = c.leave_upstream-leaving.result in
    let none : s.accepted ≡ [] = none-acked s.accepted (sym c.is_acked.ensures ∙ c.loop-seat-test.false) in
    may-end c.loop-seat.page left.kind c.args.taken left.taken s left.loaded.items left.server (ap (λ (k : WorkerKnown). k.has) c.loop-seat.invariant.4) none l.taken l.loaded (l.server ∙ ap (λ k. lost_server lives k (Some s)) (sym l.kind))
