use Rattle.std.proofs.Common.{◌≡◌, max, sym, ap, subst, ◌∙◌}
use Rattle.std.specs.Prelude.{map, option_to_list, ◌++◌}
use Rattle.fwd_chunks.specs.Live.{live_looks}
use Rattle.fwd_model.specs.Outputs.{LiveOutput, live_gets_back, live_loses, output_ends, returned}
use Rattle.fwd_output.specs.Coupling.{IsCoupled}
use Rattle.fwd_run.specs.Pages.{AreCarried}
use Rattle.fwd_output.specs.HandedBack.{IsHandedBack, kept_back, lost_back}
use Rattle.fwd_output.proofs.CouplingLemmas.{looks-coupled}
use Rattle.fwd_output.proofs.HandingBack.{handed-back}
use Rattle.fwd_output.specs.OutputEvents.{IsLiveOutput}
use Rattle.fwd_output.proofs.OutputLemmas.{ended}
use Rattle.fwd_output.proofs.output.OutputState.end.Goals as goal

pub invariant_of-self : goal.invariant_of-self
invariant_of-self c =
    let o = c.self.inside in
    let own = c.self.invariant in
    let now = c.args.now in
    let handed = map kept_back (option_to_list c.args.taken) ++ map lost_back c.args.loaded.items in
    let looked : IsCoupled c.look-moment.new.self o.book.live = subst (λ b. IsCoupled b o.book.live) (sym c.look-moment.ensures.looked) (looks-coupled o.buffer o.book.live now own.0) in
    let back : IsHandedBack (live_looks o.buffer now) handed now c.hand_back.new.buffer =
    subst (λ b. IsHandedBack b handed now c.hand_back.new.buffer) c.look-moment.ensures.looked c.hand_back.ensures.back in
    let servers : c.lose.new.servers ≡ live_loses o.servers c.args.server (max o.buffer.moment now) = c.lose.ensures ∙ ap (live_loses o.servers c.args.server) c.look-moment.ensures.greatest in (
      c.hand_back.ensures.coupled o.book.live looked,
      subst (λ s. IsLiveOutput (record { buffer = c.hand_back.new.buffer; book = o.book.live; servers = s })) (sym servers)
          (ended (record { buffer = o.buffer; book = o.book.live; servers = o.servers }) c.hand_back.new.buffer handed c.args.server now own.1 back),
    )

pub returns-clause-here : goal.returns-clause-here
returns-clause-here c = λ own.
    let o = c.self.inside in
    let now = c.args.now in
    let taken = c.args.taken in
    let loaded = c.args.loaded.items in
    let here : AreCarried o.buffer (option_to_list taken ++ loaded) = subst (λ (x : LiveOutput). AreCarried x.buffer (option_to_list taken ++ loaded)) (sym c.self.view_is) own in
    let back : IsHandedBack (live_looks o.buffer now) (map kept_back (option_to_list taken) ++ map lost_back loaded) now c.hand_back.new.buffer =
    subst (λ b. IsHandedBack b (map kept_back (option_to_list taken) ++ map lost_back loaded) now c.hand_back.new.buffer) c.look-moment.ensures.looked c.hand_back.ensures.back in
    let buffer : c.hand_back.new.buffer ≡ live_gets_back (live_looks o.buffer now) (returned taken loaded) now = handed-back loaded o.buffer taken now c.hand_back.new.buffer here back in
    let servers : c.lose.new.servers ≡ live_loses o.servers c.args.server (max o.buffer.moment now) = c.lose.ensures ∙ ap (live_loses o.servers c.args.server) c.look-moment.ensures.greatest in
    (λ i. record { buffer = buffer i; book = o.book.live; servers = servers i })
    ∙ ap (λ x. output_ends x (returned taken loaded) c.args.server now) c.self.view_is
