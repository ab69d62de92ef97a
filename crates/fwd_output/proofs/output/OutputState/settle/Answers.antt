use Rattle.std.proofs.Common.{◌≡◌, true, false, sym, ap, subst, ◌∙◌}
use Rattle.std.specs.Arc.{arc_value}
use Rattle.fwd_chunks.specs.Live.{IsCarried, live_settles}
use Rattle.fwd_session.specs.ServerAcks.{ServerAck}
use Rattle.fwd_book.specs.Live.{BookState}
use Rattle.fwd_output.specs.declared.output.OutputState.TheInside.{Inside}
use Rattle.fwd_failover.specs.Live.{live_settled}
use Rattle.fwd_model.specs.Outputs.{LiveOutput}
use Rattle.fwd_output.specs.Coupling.{IsCoupled}
use Rattle.fwd_output.specs.OutputEvents.{IsLiveOutput}
use Rattle.fwd_output.proofs.OutputLemmas.{Holds, settled}
use Rattle.fwd_output.proofs.CouplingLemmas.{acked-is-of, settles-coupled}
use Rattle.fwd_output.proofs.output.OutputState.settle.Goals as goal
use Rattle.fwd_output.proofs.output.OutputState.settle.Goals.{then-settle, else-settle}

pub settle-requires-then-settle-clause-own : goal.settle-requires-then-settle-clause-own
settle-requires-then-settle-clause-own c = λ i q at.
    let o = c.self.inside in
    acked-is-of o.buffer o.book.live c.args.carried (arc_value c.args.acked) i q c.is_sound.ensures (c.settle.ensures.had.0 c.if-settle.true) c.requires c.self.invariant.0 at

pub invariant_of-self : goal.invariant_of-self
invariant_of-self c =
    let o = c.self.inside in
    let own = c.self.invariant in
    let e = arc_value c.args.acked in
    let k = o.book.live in
    elim c.if-settle.branch [
      | then-settle w ↦
          let is : IsCarried o.buffer c.args.carried = c.settle.ensures.had.0 w.if-settle.true in
          let left = ap (λ (x : Inside). x.buffer) w.self-inside-is ∙ c.settle.ensures.here is in
          let told = ap (λ (x : Inside). x.book.live) w.self-inside-is ∙ ap (λ (x : BookState). x.live) w.settle-then-settle.ensures.settled in
          let lost = ap (λ (x : Inside). x.servers) w.self-inside-is ∙ w.settled.ensures.after ∙ ap (live_settled o.servers) (c.server-server.ensures ∙ ap (λ (x : ServerAck). x.server) c.deref.ensures) in (
            subst (λ b. IsCoupled b c.if-settle.self-inside.book.live) (sym left)
                (subst (IsCoupled (live_settles o.buffer c.args.carried.number)) (sym told)
                (settles-coupled o.buffer k e c.args.carried c.is_sound.ensures is c.requires.number own.0)),
            subst IsLiveOutput (sym (λ i. record { buffer = (left ∙ ap (live_settles o.buffer) (sym c.requires.number)) i; book = told i; servers = lost i }))
                (settled (record { buffer = o.buffer; book = k; servers = o.servers }) e c.args.carried own.1 is c.requires),
          )
      | else-settle w ↦
          let not_here : IsCarried o.buffer c.args.carried → ⊥ = λ is. false_is (sym w.if-settle.false ∙ c.settle.ensures.had.1 is) in
          let left = ap (λ (x : Inside). x.buffer) w.self-inside-is ∙ c.settle.ensures.elsewhere not_here in
          let same = ap (λ (x : Inside). x.book.live) w.self-inside-is in
          let lost = ap (λ (x : Inside). x.servers) w.self-inside-is in
          subst (λ (x : LiveOutput). Holds x.buffer x.book x.servers) (sym (λ i. record { buffer = left i; book = same i; servers = lost i })) own
    ]
  where
    false_is : false ≡ true → ⊥
    false_is h = absurd cc
