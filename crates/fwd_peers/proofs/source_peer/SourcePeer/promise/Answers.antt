use Rattle.std.proofs.Common.{rules, arith, ◌≡◌, ◌≤◌, ◌+◌, ◌∙◌, Some, ℕ, false, refl, sym, ap, subst}
use Rattle.fwd_source.specs.Live.{LiveSource, first_waiting}
use Rattle.fwd_output.specs.PagedSources.{SourceShown}
use Rattle.fwd_peers.specs.Costs.{bounded, upkeep}
use Rattle.fwd_peers.specs.Peers.{PeerShown, ack_size, first_asked, owed_with, promised_with}
use Rattle.fwd_peers.proofs.source_peer.SourcePeer.promise.Goals as goal

pub returns-clause-promised : goal.returns-clause-promised
returns-clause-promised g c =
    let first : first_asked c.args.self.now ≡ Some (c.in_ok-origin.origin, c.in_ok-origin.batch.now) = search rules in
    let promised : c.in_ok-promised.promised ≡ promised_with c.args.self.now c.in_ok-origin.batch.now = search rules in
    let owed : c.saturating_add-self-inside.result ≡ owed_with c.args.self.now c.in_ok-origin.batch.now = search rules in
    let room : promised_with c.args.self.now c.in_ok-origin.batch.now ≤ c.reserve.new.self.room = search rules in (
      (c.in_ok-origin.origin, c.in_ok-origin.batch.now),
      (
        search rules,
        first,
        room,
        λ i. record (c.self.view_is i) {
          live = (ap (λ (s : SourceShown). s.live) c.reserve.ensures.same ∙ ap (λ (p : PeerShown). p.live) c.self.view_is) i;
          refused = (ap (λ (s : SourceShown). s.refused) c.reserve.ensures.same ∙ ap (λ (p : PeerShown). p.refused) c.self.view_is) i;
          promised = promised i;
          room = c.reserve.new.self.room;
          given = c.in_ok-origin.origin.request;
          owed = owed i;
        },
      ),
    )
