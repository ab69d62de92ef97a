use Rattle.std.proofs.Common.{◌≡◌, map, sym, ap, subst, ◌∙◌}
use Rattle.fwd_book.specs.History.{is_among}
use Rattle.fwd_book.specs.Receipts.{Receipt, receipts}
use Rattle.fwd_book.specs.Live.{BookState, live_leaves}
use Rattle.fwd_model.specs.Outputs.{LiveOutput}
use Rattle.fwd_output.specs.OutputEvents.{IsLiveOutput}
use Rattle.fwd_output.proofs.CouplingLemmas.{drops-coupled}
use Rattle.fwd_output.proofs.OutputLemmas.{Holds, told}
use Rattle.fwd_output.proofs.output.OutputState.collect.Goals as goal

pub invariant_of-self : goal.invariant_of-self
invariant_of-self c =
    let o = c.self.inside in
    let own = c.self.invariant in
    let k = o.book.live in
    let given : c.deref.result.now ≡ receipts k.settled k.requests c.args.origins.now = c.deref.ensures.value ∙ c.in_ok-given.ensures.given ∙ ap (λ (x : LiveOutput). receipts x.book.settled x.book.requests c.args.origins.now) (sym c.self.view_is) in
    let gone = map (λ (r : Receipt). r.origin) c.deref.result.now in
    subst (λ x. Holds o.buffer x o.servers) (sym (ap (λ (x : BookState). x.live) c.tell.ensures)) (
      drops-coupled o.buffer k (λ q. is_among gone q.origin) own.0,
      subst (λ rs. IsLiveOutput (record { buffer = o.buffer; book = live_leaves k (map (λ (r : Receipt). r.origin) rs); servers = o.servers })) (sym given)
          (told (record { buffer = o.buffer; book = k; servers = o.servers }) c.args.origins.now own.1 c.is_sound.ensures.sound.apart),
    )
