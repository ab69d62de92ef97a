use Rattle.std.proofs.Common.{◌≡◌, sym, ap, ◌∙◌}
use Rattle.fwd_modes.specs.Requests.{Request}
use Rattle.fwd_modes.specs.declared.origin.Origin.{Origin}
use Rattle.fwd_peers.specs.Peers.{PeerShown, Promises, first_route}
use Rattle.fwd_peers.proofs.Entering.{entered, err_holds, kept_out, ok_holds, some_holds}
use Rattle.fwd_peers.proofs.source_peer.SourcePeer.enter.Goals as goal

pub enter-requires : goal.enter-requires
enter-requires g c =
    let p : (asked : Origin × Request) × Promises c.args.self.now asked c.promise.new.self =
    some_holds c.promise.result c.if-is_none.ensures c.promise.ensures.promised in (
      c.requires.led.0,
      c.requires.led.1,
      ap (λ (s : PeerShown). first_route c.requires.led.0 s) (c.self.view_is ∙ p.1.3) ∙ c.requires.led.2,
    )

pub returns-clause-entered : goal.returns-clause-entered
returns-clause-entered g c =
    let p : (asked : Origin × Request) × Promises c.args.self.now asked c.promise.new.self =
    some_holds c.promise.result c.if-is_none.ensures c.promise.ensures.promised in
    ok_holds c.enter.result
    (λ ticket enters. entered c.args.self.now c.promise.new.self c.self.inside.source p.0 p.1
    (ap (λ (s : PeerShown). s.live) c.self.view_is) (ap (λ (s : PeerShown). s.refused) c.self.view_is)
    (sym (ap (λ (s : PeerShown). s.id) c.self.view_is) ∙ c.self.invariant)
    c.enter.new.self _ (ticket.origin, ticket.batch) (ap (λ (s : PeerShown). s.room) c.self.view_is)
    (λ i. record (c.self.view_is i) { live = c.enter.new.self.live; room = c.enter.new.self.room; refused = c.enter.new.self.refused }) enters)
    c.enter.ensures.entered

pub returns-clause-refused : goal.returns-clause-refused
returns-clause-refused g c =
    let p : (asked : Origin × Request) × Promises c.args.self.now asked c.promise.new.self =
    some_holds c.promise.result c.if-is_none.ensures c.promise.ensures.promised in
    err_holds c.enter.result
    (λ why out. kept_out c.args.self.now c.promise.new.self c.self.inside.source p.0 p.1
    (ap (λ (s : PeerShown). s.live) c.self.view_is) (ap (λ (s : PeerShown). s.refused) c.self.view_is)
    (sym (ap (λ (s : PeerShown). s.id) c.self.view_is) ∙ c.self.invariant)
    c.enter.new.self _ why (ap (λ (s : PeerShown). s.room) c.self.view_is)
    (λ i. record (c.self.view_is i) { live = c.enter.new.self.live; room = c.enter.new.self.room; refused = c.enter.new.self.refused }) out)
    c.enter.ensures.refused
