use Rattle.std.proofs.Common.{◌≡◌, None, map, refl, sym, ap, subst, ◌∙◌}
use Rattle.std.specs.Prelude.{IfSome}
use Rattle.fwd_chunks.specs.Live.{live_enters, live_refusal, live_spans}
use Rattle.fwd_chunks.specs.Spans.{AreCutBy, AreRising}
use Rattle.fwd_chunks.proofs.Holding.{spans-cut, spans-rise}
use Rattle.fwd_book.specs.History.{entered_as, are_fresh, request_at}
use Rattle.fwd_book.specs.Live as kept
use Rattle.fwd_book.specs.Live.{BookState, ready_enters}
use Rattle.fwd_model.specs.Outputs.{LiveOutput}
use Rattle.fwd_output.specs.Coupling.{IsCoupled}
use Rattle.fwd_output.specs.OutputEvents.{IsLiveOutput}
use Rattle.fwd_output.proofs.OutputLemmas.{entered, none_refused}
use Rattle.fwd_output.proofs.CouplingLemmas.{comes-fresh, enters-coupled}
use Rattle.fwd_output.proofs.output.OutputState.admit.Goals as goal

pub enter-slot-requires-clause-cut : goal.enter-slot-requires-clause-cut
enter-slot-requires-clause-cut c =
    let b = c.self.inside.buffer in
    let spans : c.in_ok-spans.spans ≡ live_spans b c.args.batch.now c.args.now = c.in_ok-spans.ensures.spans in
    subst (λ o. IfSome o (λ r. AreCutBy c.in_ok-spans.spans r.entries)) (sym (ap (λ (k : BookState). k.ready) c.in-Ok.ensures.ok))
    (subst (λ ss. AreCutBy ss c.args.batch.now.entries) (sym spans) (spans-cut b c.args.batch.now c.args.now c.is_sound.ensures))

pub enter-slot-requires-clause-rising : goal.enter-slot-requires-clause-rising
enter-slot-requires-clause-rising c =
    let b = c.self.inside.buffer in
    let spans : c.in_ok-spans.spans ≡ live_spans b c.args.batch.now c.args.now = c.in_ok-spans.ensures.spans in
    subst (λ ss. AreRising (map (λ s. s.number) ss)) (sym spans) (spans-rise b c.args.batch.now c.args.now c.is_sound.ensures)

pub enter-slot-requires-clause-fresh : goal.enter-slot-requires-clause-fresh
enter-slot-requires-clause-fresh c =
    let b = c.self.inside.buffer in
    let k = c.self.inside.book.live in
    let spans : c.in_ok-spans.spans ≡ live_spans b c.args.batch.now c.args.now = c.in_ok-spans.ensures.spans in
    (λ i. are_fresh (ap (λ (x : BookState). x.live.settled) c.in-Ok.ensures.ok i) (spans i))
    ∙ comes-fresh b k c.args.batch.now c.args.now c.is_sound.ensures c.self.invariant.0

pub invariant_of-self-2 : goal.invariant_of-self-2
invariant_of-self-2 c =
    let o = c.self.inside in
    let own = c.self.invariant in
    let b = o.buffer in
    let k = o.book.live in
    let r = c.args.batch.now in
    let origin = c.args.origin in
    let now = c.args.now in
    let spans : c.in_ok-spans.spans ≡ live_spans b r now = c.in_ok-spans.ensures.spans in
    let entering : c.enter-slot.new.self.live ≡ kept.live_enters k (entered_as r origin (live_spans b r now)) =
    ap (λ (x : BookState). x.live) (c.enter-slot.ensures ∙ (λ i. ready_enters (c.in-Ok.ensures.ok i) origin (spans i))) in
    let new : request_at k.requests origin ≡ None = ap (λ (x : LiveOutput). request_at x.book.requests origin) c.self.view_is ∙ c.requires in (
      subst (λ d. IsCoupled d c.enter-slot.new.self.live) (sym c.in_ok-spans.ensures.ok)
          (subst (IsCoupled (live_enters b r now)) (sym entering)
          (enters-coupled b k r origin now c.is_sound.ensures own.0)),
      subst IsLiveOutput (sym (λ i. record { buffer = c.in_ok-spans.ensures.ok i; book = entering i; servers = o.servers }))
          (entered (record { buffer = b; book = k; servers = o.servers }) origin r now own.1 new (none_refused (live_refusal b r now) refl c.in_ok-spans.ensures.refused)),
    )
